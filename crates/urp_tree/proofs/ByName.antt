-- WHO IS THE CHILD OF A NAME that has a part for the id: an entry that lost its own name, and whose id this is.
use Rattle.std.proofs.Common.{◌≡◌, ℕ, List, [], ◌∷◌, Bool, true, false, cond, not, Option, Some, None, refl, sym, ap, subst, ◌∙◌}
use Rattle.std.specs.Prelude.{◌&&◌, ◌||◌, find, codes, option_map, unwrap_or}
use Rattle.std.specs.List.{AllByRecursion, list_any}
use Rattle.std.specs.BTreeMap.{BTreeMap, IsOrdered as HasOrderedKeys}
use Rattle.repl_data.specs.declared.csn.Uid.{Uid}
use Rattle.repl_data.specs.declared.change.Ava.{Ava}
use Rattle.repl_data.specs.declared.change.Rdn.{Rdn}
use Rattle.repl_data.specs.Order.{uid_cmp, uid_eq, suffix_id, part_key, rdn_key, rdn_key_cmp, same_rdn}
use Rattle.repl_data.specs.Text.{uid_text, IsInRange}
use Rattle.repl_data.specs.Facts.{EntryFacts}
use Rattle.repl_data.specs.Presence.{is_child, present_of, is_among_entries}
use Rattle.repl_data.specs.Names.{is_id_part, has_id, has_name, with_id, shown_rdn}
use Rattle.repl_data.specs.View.{view_of_facts, child_of as shown_child}
use Rattle.repl_data.proofs.Orders.{rdn_key_exact}
use Rattle.repl_data.proofs.InOrder.{is_equal}
use Rattle.repl_data.proofs.Sound.{both_true, not_true}
use Rattle.urp_tree.specs.declared.row.Row.{Row}
use Rattle.urp_tree.specs.Rows.{row_at, facts_in}
use Rattle.urp_tree.specs.Known.{IsTree, IsPlain}
use Rattle.urp_tree.specs.Seen.{IsPresentRow, is_sought, present_entry}
use Rattle.urp_tree.proofs.Seen.{at_id, none_here, only_present}
use Rattle.urp_tree.proofs.Lost.{differs}
use Rattle.urp_tree.proofs.Holder.{searched}
use Rattle.urp_tree.proofs.IdNames.{is_id, any_part, find_part, some_found, with_id-find}
use Rattle.repl_data.proofs.Bools.{cases, never}
use Rattle.repl_data.proofs.Paths.{all_present}
use Rattle.repl_data.proofs.Known.{own_id}

-- SEARCHES
find_never : (p : EntryFacts → Bool) (es : List EntryFacts) → AllByRecursion (λ (e : EntryFacts). p e ≡ false) es → find p es ≡ None
find_never p [] h = refl
find_never p (e ∷ es) h = ap (λ b. cond b (Some e) (find p es)) h.0 ∙ find_never p es h.1

-- the only one that is sought
find_only : (p : EntryFacts → Bool) (u : Uid) (f : EntryFacts) (es : List EntryFacts) → AllByRecursion (λ (e : EntryFacts). p e ≡ true → e ≡ f) es → is_among_entries es u ≡ true → AllByRecursion (λ (e : EntryFacts). uid_eq e.id u ≡ true → e ≡ f) es → p f ≡ true → find p es ≡ Some f
find_only p u f [] h a o t = never false a refl
find_only p u f (e ∷ es) h a o t = by (p e) (uid_eq e.id u) refl refl a (λ k. find_only p u f es h.1 k o.1 t)
  where
    by : (b c : Bool) → p e ≡ b → uid_eq e.id u ≡ c → (c || is_among_entries es u) ≡ true → (is_among_entries es u ≡ true → find p es ≡ Some f) → cond b (Some e) (find p es) ≡ Some f
    by true c k i m more = ap Some (h.0 k)
    by false true k i m more = never (p f) t (ap p (sym (o.0 i)) ∙ k)
    by false false k i m more = more m

each : {P Q : EntryFacts → Type 0} → ((e : EntryFacts) → P e → Q e) → (es : List EntryFacts) → AllByRecursion P es → AllByRecursion Q es
each f [] h = tt
each f (e ∷ es) h = (f e h.0, each f es h.1)

both : (P Q : EntryFacts → Type 0) (es : List EntryFacts) → AllByRecursion P es → AllByRecursion Q es → AllByRecursion (λ (e : EntryFacts). P e × Q e) es
both P Q [] h g = tt
both P Q (e ∷ es) h g = ((h.0, g.0), both P Q es h.1 g.1)

-- ENTRIES THAT SHOW A NAME WITH A PART FOR THE ID
lost_one : (present : List EntryFacts) (parent : Uid) (rdn : Rdn) (e : EntryFacts) → has_id rdn ≡ true → IsPlain e → is_sought present parent rdn e ≡ true → find is_id_part (rdn_key rdn) ≡ Some (codes "nsuniqueid", uid_text e.id)
lost_one present parent rdn e has plain t =
    let parts = both_true (is_child parent e) (same_rdn (shown_rdn present e) rdn) t in
    let own : has_id e.rdn ≡ false = plain.child (not_true (uid_eq e.id suffix_id) (both_true (uid_eq e.parent parent) (not (uid_eq e.id suffix_id)) parts.0).1) in
    by own (has_name present e) parts.1
  where
    same : (a : Rdn) → same_rdn a rdn ≡ true → rdn_key rdn ≡ rdn_key a
    same a h = sym (rdn_key_exact (rdn_key a) (rdn_key rdn) (is_equal (rdn_key_cmp (rdn_key a) (rdn_key rdn)) h))

    by : has_id e.rdn ≡ false → (b : Bool) → same_rdn (cond b e.rdn (with_id e.id e.rdn)) rdn ≡ true → find is_id_part (rdn_key rdn) ≡ Some (codes "nsuniqueid", uid_text e.id)
    by own true h = never (has_id rdn) has (ap (list_any is_id_part) (same e.rdn h) ∙ own)
    by own false h = ap (find is_id_part) (same (with_id e.id e.rdn) h) ∙ with_id-find e.id e.rdn.avas own

pub sought_is : (present : List EntryFacts) (parent : Uid) (rdn : Rdn) (e : EntryFacts) → IsPlain e → has_id rdn ≡ true → (child lost joined : Bool) → child ≡ is_child parent e → lost ≡ not (has_name present e)
    → (has_id e.rdn ≡ false → joined ≡ same_rdn (with_id e.id e.rdn) rdn) → (child && (lost && joined)) ≡ is_sought present parent rdn e
sought_is present parent rdn e plain has child lost joined c l j = by child (sym c) lost l ∙ ap (λ b. b && same_rdn (shown_rdn present e) rdn) c
  where
    name : Bool → Rdn
    name b = cond b e.rdn (with_id e.id e.rdn)

    own : is_child parent e ≡ true → has_id e.rdn ≡ false
    own t = plain.child (not_true (uid_eq e.id suffix_id) (both_true (uid_eq e.parent parent) (not (uid_eq e.id suffix_id)) t).1)

    shows : is_child parent e ≡ true → (h : Bool) → has_name present e ≡ h → (not h && joined) ≡ same_rdn (shown_rdn present e) rdn
    shows t true h = sym (ap (λ b. same_rdn (name b) rdn) h ∙ differs e.rdn rdn (own t) has)
    shows t false h = j (own t) ∙ sym (ap (λ b. same_rdn (name b) rdn) h)

    by : (b : Bool) → is_child parent e ≡ b → (k : Bool) → k ≡ not (has_name present e) → (b && (k && joined)) ≡ (b && same_rdn (shown_rdn present e) rdn)
    by false t k m = refl
    by true t k m = ap (λ a. a && joined) m ∙ shows t (has_name present e) refl

module _ (rows : BTreeMap Uid (Option Row)) (tree : IsTree rows None []) (ordered : HasOrderedKeys uid_cmp rows) (suffix : List ℕ) (parent : Uid) (rdn : Rdn) (part : Ava) (is : find is_id rdn.avas ≡ Some part) where
  abbrev facts : List EntryFacts
  facts = facts_in rows.entries

  abbrev present : List EntryFacts
  present = present_of facts

  abbrev sought : EntryFacts → Bool
  sought e = is_sought present parent rdn e

  pub joined : has_id rdn ≡ true
  joined = any_part rdn.avas ∙ some_found rdn.avas part is

  -- whoever shows the name has the id that the part spells
  spells : (e : EntryFacts) → IsPlain e → sought e ≡ true → part.val.key ≡ uid_text e.id
  spells e plain t =
      let found : Some (part_key part) ≡ Some (codes "nsuniqueid", uid_text e.id) = sym (ap (option_map part_key) is) ∙ sym (find_part rdn.avas) ∙ lost_one present parent rdn e joined plain t in
      ap (λ (o : Option (List ℕ × List ℕ)). (unwrap_or o ([], [])).1) found

  abbrev IsRead : Option Uid → Type 0
  IsRead o = (v : Uid) → IsInRange v.csn → part.val.key ≡ uid_text v → o ≡ Some v

  plains : AllByRecursion IsPlain present
  plains = all_present IsPlain facts tree.plain

  reads : (o : Option Uid) → IsRead o → (e : EntryFacts) → IsPlain e → sought e ≡ true → o ≡ Some e.id
  reads o read e plain t = read e.id plain.range (spells e plain t)

  none : AllByRecursion (λ (e : EntryFacts). sought e ≡ false) present → None ≡ shown_child (view_of_facts suffix facts) parent rdn
  none h = sym (searched present parent rdn suffix facts refl ∙ ap (option_map (λ (e : EntryFacts). e.id)) (find_never sought present h))

  pub none_read : IsRead None → None ≡ shown_child (view_of_facts suffix facts) parent rdn
  none_read read = none (each (λ e plain. cases (sought e) (λ t. let f : ◌≡◌ {A = Option Uid} None (Some e.id) = reads None read e plain t in cc) (λ f. f)) present plains)

  -- the one with the id that was read
  sought_id : (u : Uid) → IsRead (Some u) → (e : EntryFacts) → IsPlain e → sought e ≡ true → uid_eq e.id u ≡ true
  sought_id u read e plain t = subst (λ (w : Uid). uid_eq e.id w ≡ true) (ap (λ (o : Option Uid). unwrap_or o u) (sym (reads (Some u) read e plain t))) (own_id e.id)

  pub none_other : (u : Uid) → IsRead (Some u) → IsPresentRow facts u None → None ≡ shown_child (view_of_facts suffix facts) parent rdn
  none_other u read row =
      none
      (each {P = λ (e : EntryFacts). IsPlain e × (uid_eq e.id u ≡ false)} (λ e h. cases (sought e) (λ t. never (uid_eq e.id u) (sought_id u read e h.0 t) h.1) (λ f. f)) present
      (both IsPlain (λ (e : EntryFacts). uid_eq e.id u ≡ false) present plains (none_here u facts row)))

  module _ (u : Uid) (read : IsRead (Some u)) (r : Row) (there : row_at rows u ≡ Some r) where
    abbrev only : AllByRecursion (λ (e : EntryFacts). uid_eq e.id u ≡ true → e ≡ r.entry) present
    only = only_present rows tree ordered u r there

    alone : AllByRecursion (λ (e : EntryFacts). sought e ≡ true → e ≡ r.entry) present
    alone = each {P = λ (e : EntryFacts). IsPlain e × (uid_eq e.id u ≡ true → e ≡ r.entry)} (λ e h t. h.1 (sought_id u read e h.0 t)) present (both IsPlain (λ (e : EntryFacts). uid_eq e.id u ≡ true → e ≡ r.entry) present plains only)

    pub none_sought : sought r.entry ≡ false → None ≡ shown_child (view_of_facts suffix facts) parent rdn
    none_sought n = none (each (λ e same. cases (sought e) (λ t. never (sought e) t (ap sought (same t) ∙ n)) (λ f. f)) present alone)

    pub the_sought : is_among_entries present u ≡ true → r.entry.id ≡ u → sought r.entry ≡ true → Some u ≡ shown_child (view_of_facts suffix facts) parent rdn
    the_sought here id t = sym (searched present parent rdn suffix facts refl ∙ ap (option_map (λ (e : EntryFacts). e.id)) (find_only sought u r.entry present alone here only t) ∙ ap Some id)

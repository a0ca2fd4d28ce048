-- WHO IS THE CHILD OF A NAME that has no part for the id: the holder among those who contend for it.
use Rattle.std.proofs.Common.{◌≡◌, ℕ, List, [], ◌∷◌, ◌++◌, map, filter, Bool, true, false, cond, not, Option, Some, None, refl, sym, ap, ◌∙◌}
use Rattle.std.specs.Prelude.{◌&&◌, ◌||◌, find, option_map}
use Rattle.std.specs.List.{AllByRecursion}
use Rattle.std.specs.BTreeMap.{BTreeMap, IsOrdered as HasOrderedKeys}
use Rattle.std.specs.Ordering.{is_eq, ordering_reverse}
use Rattle.std.specs.declared.cmp.Ordering.{Ordering}
use Rattle.std.specs.declared.cmp.Ordering.TheVariants.{Less, Equal, Greater}
use Rattle.repl_data.specs.declared.csn.Uid.{Uid}
use Rattle.repl_data.specs.declared.change.Rdn.{Rdn}
use Rattle.repl_data.specs.Order.{uid_cmp, uid_eq, suffix_id, rdn_key, rdn_key_cmp, same_rdn}
use Rattle.repl_data.specs.Facts.{EntryFacts}
use Rattle.repl_data.specs.Presence.{is_child, present_of}
use Rattle.repl_data.specs.Names.{has_name, has_id, with_id, shown_rdn}
use Rattle.repl_data.specs.View.{PresentEntry, view_of_facts, is_shown_below, child_of as shown_child}
use Rattle.repl_data.proofs.Orders.{uid_exact, rdn_key_total}
use Rattle.repl_data.proofs.InOrder.{is_equal}
use Rattle.repl_data.proofs.Sound.{both_true}
use Rattle.urp_names.specs.declared.contenders.Contender.{Contender}
use Rattle.urp_names.specs.Contending.{comes_before, id_of, least_of, holder_of}
use Rattle.urp_names.proofs.Least.{before_any, first_least}
use Rattle.urp_tree.specs.declared.child.Child.{Child}
use Rattle.urp_tree.specs.declared.row.Row.{Row}
use Rattle.urp_tree.specs.Index.{who_at, contender, stands_below, wants, wanting}
use Rattle.urp_tree.specs.Rows.{row_at, facts_in}
use Rattle.urp_tree.specs.Walk.{child_of, children_in}
use Rattle.urp_tree.specs.Known.{IsTree}
use Rattle.urp_tree.specs.Seen.{present_entry, is_sought}
use Rattle.urp_tree.proofs.Settled.{children_none, others_none}
use Rattle.urp_tree.proofs.Fits.{no_row}
use Rattle.urp_tree.proofs.Children.{wanting_same}
use Rattle.urp_tree.proofs.Lost.{lost_same, differs, has_with_id}
use Rattle.repl_data.proofs.Paths.{all_present}
use Rattle.urp_tree.proofs.Seen.{find_map}

-- SEARCHES
find_same : {X : Type 0} (p q : X → Bool) → ((x : X) → p x ≡ q x) → (xs : List X) → find p xs ≡ find q xs
find_same p q h [] = refl
find_same p q h (x ∷ xs) = λ i. cond (h x i) (Some x) (find_same p q h xs i)

find_filter : {X : Type 0} (p w : X → Bool) (xs : List X) → find p (filter w xs) ≡ find (λ x. w x && p x) xs
find_filter p w [] = refl
find_filter p w (x ∷ xs) = by (w x) (find_filter p w xs)
  where
    by : (b : Bool) → find p (filter w xs) ≡ find (λ x. w x && p x) xs → find p (cond b (x ∷ filter w xs) (filter w xs)) ≡ cond (b && p x) (Some x) (find (λ x. w x && p x) xs)
    by true h = ap (λ o. cond (p x) (Some x) o) h
    by false h = h

map_map : {X Y Z : Type 0} (g : Y → Z) (f : X → Y) (o : Option X) → option_map g (option_map f o) ≡ option_map (λ x. g (f x)) o
map_map g f None = refl
map_map g f (Some x) = refl

pub turned : (a b : Rdn) → same_rdn a b ≡ same_rdn b a
turned a b = sym (by (rdn_key_cmp (rdn_key a) (rdn_key b))) ∙ ap is_eq (sym (rdn_key_total.antisymm (rdn_key b) (rdn_key a)))
  where
    by : (o : Ordering) → is_eq (ordering_reverse o) ≡ is_eq o
    by Less = refl
    by Equal = refl
    by Greater = refl

-- the child of a name among the present entries
pub searched : (present : List EntryFacts) (parent : Uid) (rdn : Rdn) (suffix : List ℕ) (es : List EntryFacts) → present_of es ≡ present → shown_child (view_of_facts suffix es) parent rdn ≡ option_map (λ (e : EntryFacts). e.id) (find (is_sought present parent rdn) present)
searched present parent rdn suffix es is =
    ap (λ (ps : List EntryFacts). option_map (λ (e : PresentEntry). e.id) (find (λ (e : PresentEntry). same_rdn e.shown rdn) (filter (is_shown_below parent) (map (present_entry ps) ps)))) is
    ∙ ap (option_map (λ (e : PresentEntry). e.id))
    (find_filter (λ (e : PresentEntry). same_rdn e.shown rdn) (is_shown_below parent) (map (present_entry present) present)
    ∙ find_map (λ (e : PresentEntry). is_shown_below parent e && same_rdn e.shown rdn) (present_entry present) present)
    ∙ map_map (λ (e : PresentEntry). e.id) (present_entry present) (find (λ (e : EntryFacts). is_sought present parent rdn e) present)

module _ (present : List EntryFacts) (parent : Uid) (rdn : Rdn) (plain : has_id rdn ≡ false) where
  abbrev all : List Contender
  all = wanting parent rdn (map child_of present)

  abbrev first : EntryFacts → Bool
  first e = not (before_any (contender (child_of e)) all)

  abbrev shows : EntryFacts → Bool
  shows e = same_rdn (shown_rdn present e) rdn

  -- of a child with this name
  named : (e : EntryFacts) → is_child parent e ≡ true → same_rdn rdn e.rdn ≡ true → first e ≡ has_name present e
  named e below same =
      let up : parent ≡ e.parent = sym (uid_exact e.parent parent (is_equal (uid_cmp e.parent parent) (both_true _ _ below).0)) in
      ap (λ (who : List Contender). not (before_any (contender (child_of e)) who)) (ap (λ u. wanting u rdn (map child_of present)) up ∙ wanting_same e.parent rdn e.rdn (map child_of present) same)
      ∙ ap not (lost_same e present)
      ∙ twice (has_name present e)
    where
      twice : (a : Bool) → not (not a) ≡ a
      twice true = refl
      twice false = refl

  shown_if : (e : EntryFacts) (b : Bool) → has_name present e ≡ b → shows e ≡ (same_rdn rdn e.rdn && b)
  shown_if e true h = ap (λ b. same_rdn (cond b e.rdn (with_id e.id e.rdn)) rdn) h ∙ turned e.rdn rdn ∙ sym (all_true (same_rdn rdn e.rdn))
    where
      all_true : (a : Bool) → (a && true) ≡ a
      all_true true = refl
      all_true false = refl
  shown_if e false h = ap (λ b. same_rdn (cond b e.rdn (with_id e.id e.rdn)) rdn) h ∙ turned (with_id e.id e.rdn) rdn ∙ differs rdn (with_id e.id e.rdn) plain (has_with_id e.id e.rdn) ∙ sym (none_true (same_rdn rdn e.rdn))
    where
      none_true : (a : Bool) → (a && false) ≡ false
      none_true true = refl
      none_true false = refl

  each : (e : EntryFacts) → (wants parent rdn (child_of e) && first e) ≡ (is_child parent e && shows e)
  each e = by (is_child parent e) (same_rdn rdn e.rdn) refl refl
    where
      by : (b s : Bool) → is_child parent e ≡ b → same_rdn rdn e.rdn ≡ s → ((b && s) && first e) ≡ (b && shows e)
      by false s h g = refl
      by true false h g = sym (shown_if e (has_name present e) refl ∙ ap (λ a. a && has_name present e) g)
      by true true h g = named e h g ∙ sym (shown_if e (has_name present e) refl ∙ ap (λ a. a && has_name present e) g)

  pub holder_child : (suffix : List ℕ) (es : List EntryFacts) → present_of es ≡ present → holder_of all ≡ shown_child (view_of_facts suffix es) parent rdn
  holder_child suffix es is =
      ap (option_map id_of)
      (first_least all
      ∙ find_map (λ (c : Contender). not (before_any c all)) contender (filter (wants parent rdn) (map child_of present))
      ∙ ap (option_map contender)
      (find_filter (λ (c : Child). not (before_any (contender c) all)) (wants parent rdn) (map child_of present)
      ∙ find_map (λ (c : Child). wants parent rdn c && not (before_any (contender c) all)) child_of present))
      ∙ map_map id_of contender (option_map child_of (find (λ (e : EntryFacts). wants parent rdn (child_of e) && first e) present))
      ∙ map_map (λ (c : Child). c.id) child_of (find (λ (e : EntryFacts). wants parent rdn (child_of e) && first e) present)
      ∙ ap (option_map (λ (e : EntryFacts). e.id)) (find_same (λ (e : EntryFacts). wants parent rdn (child_of e) && first e) (λ (e : EntryFacts). is_child parent e && shows e) each present)
      ∙ sym (searched present parent rdn suffix es is)

-- below an entry that was never added stands nobody
module _ (rows : BTreeMap Uid (Option Row)) (tree : IsTree rows None []) (ordered : HasOrderedKeys uid_cmp rows) (suffix : List ℕ) (parent : Uid) (rdn : Rdn) (plain : has_id rdn ≡ false) where
  abbrev facts : List EntryFacts
  facts = facts_in rows.entries

  pub holder_row : (r : Row) → row_at rows parent ≡ Some r → holder_of (who_at r.names rdn) ≡ shown_child (view_of_facts suffix facts) parent rdn
  holder_row r there = ap holder_of ((tree.indexed parent r there).who rdn) ∙ holder_child (present_of facts) parent rdn plain suffix facts refl

  nobody : (cs : List Child) → AllByRecursion (λ (c : Child). stands_below parent c ≡ false) cs → wanting parent rdn cs ≡ []
  nobody [] h = refl
  nobody (c ∷ cs) h = ap (λ b. map contender (cond (b && same_rdn rdn c.rdn) (c ∷ filter (wants parent rdn) cs) (filter (wants parent rdn) cs))) h.0 ∙ nobody cs h.1

  pub holder_none : row_at rows parent ≡ None → None ≡ shown_child (view_of_facts suffix facts) parent rdn
  holder_none none =
      ap holder_of (sym (nobody (children_in rows) (children_none parent (present_of facts) (all_present (λ (x : EntryFacts). stands_below parent (child_of x) ≡ false) facts (others_none parent facts facts (no_row rows tree ordered parent none) tree.rooted)))))
      ∙ holder_child (present_of facts) parent rdn plain suffix facts refl

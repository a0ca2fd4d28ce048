-- WHAT A ROW SAYS of its entry's place in the view: it is present, or a tombstone.
use Rattle.std.proofs.Common.{◌≡◌, ℕ, zero, suc, ◌<◌, List, [], ◌∷◌, map, filter, Bool, true, false, cond, not, Option, Some, None, refl, sym, ap, ◌∙◌, inl, inr, arith}
use Rattle.std.specs.Prelude.{◌||◌, find, option_map}
use Rattle.std.specs.List.{AllByRecursion, list_any}
use Rattle.std.specs.BTreeMap.{BTreeMap, IsOrdered as HasOrderedKeys}
use Rattle.repl_data.specs.declared.csn.Uid.{Uid}
use Rattle.repl_data.specs.Order.{uid_cmp, uid_eq, suffix_id}
use Rattle.repl_data.specs.Facts.{EntryFacts}
use Rattle.repl_data.specs.Presence.{is_live, is_child, present_of, gone_of, is_among_entries, is_present_in}
use Rattle.repl_data.specs.View.{DirectoryView, PresentEntry, Tombstone, view_of_facts, present_at, gone_at, first_of_two, name_of, parent_of, user}
use Rattle.repl_data.specs.Lent.{own_of}
use Rattle.repl_data.proofs.PresenceLaws.{present_of-rule}
use Rattle.urp_tree.specs.declared.row.Row.{Row}
use Rattle.urp_tree.specs.Rows.{row_at, facts_in}
use Rattle.urp_tree.specs.Walk.{child_of, children_in}
use Rattle.urp_tree.specs.Known.{IsTree, IsPlain, IsLiveRoot}
use Rattle.urp_tree.specs.Climb.{Shows, Hides}
use Rattle.urp_tree.specs.Seen.{present_entry, tombstone, IsPresentRow, IsGoneRow, IsKept}
use Rattle.urp_tree.proofs.Stays.{any_below}
use Rattle.urp_tree.proofs.Levels.{StandsAt, the_one, id_at, all_at}
use Rattle.urp_tree.proofs.Ways.{zero_any, some_any}
use Rattle.urp_tree.proofs.Fits.{no_row, row_stands}
use Rattle.repl_data.proofs.Bools.{either_second, cases, never}
use Rattle.repl_data.proofs.Paths.{all_present}
use Rattle.repl_data.proofs.Known.{own_id}

pub any_child : (u : Uid) (es : List EntryFacts) → list_any (is_child u) es ≡ any_below u (map child_of es)
any_child u [] = refl
any_child u (e ∷ es) = ap (λ b. is_child u e || b) (any_child u es)

-- A SEARCH BY ID
abbrev pub at_id : Uid → List EntryFacts → Option EntryFacts
at_id u es = find (λ (e : EntryFacts). uid_eq e.id u) es

-- each entry with the id is this one
abbrev pub IsOnly : Uid → EntryFacts → List EntryFacts → Type 0
IsOnly u f es = AllByRecursion (λ (e : EntryFacts). uid_eq e.id u ≡ true → e ≡ f) es

pub found_only : (u : Uid) (f : EntryFacts) (es : List EntryFacts) → IsOnly u f es → is_among_entries es u ≡ true → at_id u es ≡ Some f
found_only u f [] a h = let e : false ≡ true = h in cc
found_only u f (d ∷ es) a h = by (uid_eq d.id u) a.0 h (found_only u f es a.1)
  where
    by : (b : Bool) → (b ≡ true → d ≡ f) → (b || is_among_entries es u) ≡ true → (is_among_entries es u ≡ true → at_id u es ≡ Some f) → cond b (Some d) (at_id u es) ≡ Some f
    by true own k more = ap Some (own refl)
    by false own k more = more k

pub found_none : (u : Uid) (es : List EntryFacts) → is_among_entries es u ≡ false → at_id u es ≡ None
found_none u [] h = refl
found_none u (d ∷ es) h = by (uid_eq d.id u) h (found_none u es)
  where
    by : (b : Bool) → (b || is_among_entries es u) ≡ false → (is_among_entries es u ≡ false → at_id u es ≡ None) → cond b (Some d) (at_id u es) ≡ None
    by true k more = let f : true ≡ false = k in cc
    by false k more = more k

pub find_map : {X Y : Type 0} (p : Y → Bool) (F : X → Y) (xs : List X) → find p (map F xs) ≡ option_map F (find (λ x. p (F x)) xs)
find_map p F [] = refl
find_map p F (x ∷ xs) = by (p (F x)) (find_map p F xs)
  where
    by : (b : Bool) → find p (map F xs) ≡ option_map F (find (λ x. p (F x)) xs) → cond b (Some (F x)) (find p (map F xs)) ≡ option_map F (cond b (Some x) (find (λ x. p (F x)) xs))
    by true h = refl
    by false h = h

-- of those that are chosen
pub only_filter : (p : EntryFacts → Bool) (u : Uid) (f : EntryFacts) (es : List EntryFacts) → IsOnly u f es → IsOnly u f (filter p es)
only_filter p u f [] a = tt
only_filter p u f (d ∷ es) a = by (p d) (only_filter p u f es a.1)
  where
    by : (b : Bool) → IsOnly u f (filter p es) → IsOnly u f (cond b (d ∷ filter p es) (filter p es))
    by true more = (a.0, more)
    by false more = more

chosen : (p : EntryFacts → Bool) (u : Uid) (f : EntryFacts) (es : List EntryFacts) → StandsAt u f es → uid_eq f.id u ≡ true → p f ≡ true → is_among_entries (filter p es) u ≡ true
chosen p u f [] h own t = elim h [ ]
chosen p u f (d ∷ es) (inl h) own t = ap (λ b. is_among_entries (cond b (d ∷ filter p es) (filter p es)) u) (ap p h.1 ∙ t) ∙ ap (λ b. b || is_among_entries (filter p es) u) (ap (λ (e : EntryFacts). uid_eq e.id u) h.1 ∙ own)
chosen p u f (d ∷ es) (inr h) own t = by (p d) (chosen p u f es h.1 own t)
  where
    by : (b : Bool) → is_among_entries (filter p es) u ≡ true → is_among_entries (cond b (d ∷ filter p es) (filter p es)) u ≡ true
    by true more = either_second (uid_eq d.id u) (is_among_entries (filter p es) u) more
    by false more = more

pub not_chosen : (p : EntryFacts → Bool) (u : Uid) (f : EntryFacts) (es : List EntryFacts) → IsOnly u f es → p f ≡ false → is_among_entries (filter p es) u ≡ false
not_chosen p u f [] a h = refl
not_chosen p u f (d ∷ es) a h = by (p d) (uid_eq d.id u) refl refl (not_chosen p u f es a.1 h)
  where
    by : (b c : Bool) → p d ≡ b → uid_eq d.id u ≡ c → is_among_entries (filter p es) u ≡ false → is_among_entries (cond b (d ∷ filter p es) (filter p es)) u ≡ false
    by false c k o more = more
    by true true k o more = never (p f) (ap p (sym (a.0 o)) ∙ k) h
    by true false k o more = ap (λ b. b || is_among_entries (filter p es) u) o ∙ more

pub fewer : (p : EntryFacts → Bool) (u : Uid) (es : List EntryFacts) → is_among_entries es u ≡ false → is_among_entries (filter p es) u ≡ false
fewer p u [] h = refl
fewer p u (d ∷ es) h = by (p d) (uid_eq d.id u) refl h (fewer p u es)
  where
    by : (b c : Bool) → uid_eq d.id u ≡ c → (c || is_among_entries es u) ≡ false → (is_among_entries es u ≡ false → is_among_entries (filter p es) u ≡ false) → is_among_entries (cond b (d ∷ filter p es) (filter p es)) u ≡ false
    by b true o k more = let f : true ≡ false = k in cc
    by false false o k more = more k
    by true false o k more = ap (λ b. b || is_among_entries (filter p es) u) o ∙ more k

pub fewer_present : (u : Uid) (es : List EntryFacts) → is_among_entries es u ≡ false → is_among_entries (present_of es) u ≡ false
fewer_present u [] h = refl
fewer_present u (d ∷ es) h = by (is_live d || list_any (is_child d.id) (present_of es)) (uid_eq d.id u) refl h (fewer_present u es)
  where
    by : (b c : Bool) → uid_eq d.id u ≡ c → (c || is_among_entries es u) ≡ false → (is_among_entries es u ≡ false → is_among_entries (present_of es) u ≡ false) → is_among_entries (cond b (d ∷ present_of es) (present_of es)) u ≡ false
    by b true o k more = let f : true ≡ false = k in cc
    by false false o k more = more k
    by true false o k more = ap (λ b. b || is_among_entries (present_of es) u) o ∙ more k

-- no present entry has the id
nowhere : (u : Uid) (es : List EntryFacts) → at_id u es ≡ None → AllByRecursion (λ (e : EntryFacts). uid_eq e.id u ≡ false) es
nowhere u [] h = tt
nowhere u (e ∷ es) h = by (uid_eq e.id u) refl h (nowhere u es)
  where
    by : (b : Bool) → uid_eq e.id u ≡ b → cond b (Some e) (at_id u es) ≡ None → (at_id u es ≡ None → AllByRecursion (λ (d : EntryFacts). uid_eq d.id u ≡ false) es) → AllByRecursion (λ (d : EntryFacts). uid_eq d.id u ≡ false) (e ∷ es)
    by true k o more = let f : ◌≡◌ {A = Option EntryFacts} (Some e) None = o in cc
    by false k o more = (k, more o)

pub none_here : (u : Uid) (es : List EntryFacts) → IsPresentRow es u None → AllByRecursion (λ (e : EntryFacts). uid_eq e.id u ≡ false) (present_of es)
none_here u es h = nowhere u (present_of es) (by (at_id u (present_of es)) (sym (find_map (λ (e : PresentEntry). uid_eq e.id u) (present_entry (present_of es)) (present_of es)) ∙ h []))
  where
    by : (o : Option EntryFacts) → option_map (present_entry (present_of es)) o ≡ None → o ≡ None
    by None k = refl
    by (Some e) k = let f : ◌≡◌ {A = Option PresentEntry} (Some (present_entry (present_of es) e)) None = k in cc

module _ (rows : BTreeMap Uid (Option Row)) (tree : IsTree rows None []) (ordered : HasOrderedKeys uid_cmp rows) where
  abbrev facts : List EntryFacts
  facts = facts_in rows.entries

  abbrev present : List EntryFacts
  present = present_of facts

  abbrev is_gone : EntryFacts → Bool
  is_gone e = not (is_among_entries present e.id)

  module _ (u : Uid) (r : Row) (there : row_at rows u ≡ Some r) where
    pub at : StandsAt u r.entry facts
    at = row_stands rows tree ordered u r there

    id : r.entry.id ≡ u
    id = id_at u r.entry facts at

    own : uid_eq r.entry.id u ≡ true
    own = ap (λ v. uid_eq v u) id ∙ own_id u

    pub only : IsOnly u r.entry facts
    only = the_one u r.entry facts tree.rises at

    pub only_present : IsOnly u r.entry present
    only_present = all_present (λ (e : EntryFacts). uid_eq e.id u ≡ true → e ≡ r.entry) facts only

    pub kept : IsKept facts r
    kept = record {
      shown = (tree.sound u r there).shown;
      parent = all_at (λ (e : EntryFacts). is_among_entries facts e.parent ≡ true) u r.entry facts at tree.rooted;
      plain = all_at IsPlain u r.entry facts at tree.plain;
      root = all_at IsLiveRoot u r.entry facts at tree.roots;
    }

    pub rule : is_among_entries present u ≡ (is_live r.entry || any_below u (children_in rows))
    rule =
        ap (is_among_entries present) (sym id)
        ∙ all_at (λ (e : EntryFacts). is_present_in facts e ≡ (is_live e || list_any (is_child e.id) present)) u r.entry facts at (present_of-rule facts tree.rises tree.below)
        ∙ ap (λ v. is_live r.entry || list_any (is_child v) present) id
        ∙ ap (λ b. is_live r.entry || b) (any_child u present)

    pub shows_among : Shows r.entry r.children → is_among_entries present u ≡ true
    shows_among (inl l) = rule ∙ ap (λ b. b || any_below u (children_in rows)) l
    shows_among (inr m) = rule ∙ either_second (is_live r.entry) (any_below u (children_in rows)) (some_any u (children_in rows) (λ z. let k : r.children ≡ 0 = (tree.indexed u r there).count ∙ z in omega (arith, k, m)))

    pub hides_among : Hides r.entry r.children → is_among_entries present u ≡ false
    hides_among h = rule ∙ ap (λ b. b || any_below u (children_in rows)) h.0 ∙ zero_any u (children_in rows) (sym (tree.indexed u r there).count ∙ h.1)

    pub gone_is : (b : Bool) → is_among_entries present u ≡ b → is_gone r.entry ≡ not b
    gone_is b h = ap (λ v. not (is_among_entries present v)) id ∙ ap not h

    pub present_shows : Shows r.entry r.children → IsPresentRow facts u (Some r)
    present_shows s suffix =
        find_map (λ (e : PresentEntry). uid_eq e.id u) (present_entry present) present
        ∙ ap (option_map (present_entry present)) (found_only u r.entry present (all_present (λ (e : EntryFacts). uid_eq e.id u ≡ true → e ≡ r.entry) facts only) (shows_among s))

    pub present_hides : Hides r.entry r.children → IsPresentRow facts u None
    present_hides h suffix =
        find_map (λ (e : PresentEntry). uid_eq e.id u) (present_entry present) present
        ∙ ap (option_map (present_entry present)) (found_none u present (hides_among h))

    pub gone_shows : Shows r.entry r.children → IsGoneRow facts u None
    gone_shows s suffix =
        find_map (λ (e : Tombstone). uid_eq e.id u) tombstone (gone_of facts)
        ∙ ap (option_map tombstone) (found_none u (gone_of facts) (not_chosen is_gone u r.entry facts only (gone_is true (shows_among s))))

    pub gone_hides : Hides r.entry r.children → IsGoneRow facts u (Some r)
    gone_hides h suffix =
        find_map (λ (e : Tombstone). uid_eq e.id u) tombstone (gone_of facts)
        ∙ ap (option_map tombstone)
        (found_only u r.entry (gone_of facts) (only_filter is_gone u r.entry facts only) (chosen is_gone u r.entry facts at own (gone_is false (hides_among h))))

  module _ (u : Uid) (none : row_at rows u ≡ None) where
    absent : is_among_entries facts u ≡ false
    absent = no_row rows tree ordered u none

    pub present_none : IsPresentRow facts u None
    present_none suffix =
        find_map (λ (e : PresentEntry). uid_eq e.id u) (present_entry present) present
        ∙ ap (option_map (present_entry present)) (found_none u present (fewer_present u facts absent))

    pub gone_none : IsGoneRow facts u None
    gone_none suffix =
        find_map (λ (e : Tombstone). uid_eq e.id u) tombstone (gone_of facts)
        ∙ ap (option_map tombstone) (found_none u (gone_of facts) (fewer is_gone u facts absent))

shows_or_hides : {G : Type 0} (e : EntryFacts) (n : ℕ) → (Shows e n → G) → (Hides e n → G) → G
shows_or_hides e n s h = cases (is_live e) (λ t. s (inl t)) (λ f. by n (λ m. s (inr m)) (λ z. h (f, z)))
  where
    by : {G : Type 0} (n : ℕ) → (0 < n → G) → (n ≡ 0 → G) → G
    by zero s h = h refl
    by (suc m) s h = s (let k : 0 < suc m = omega arith in k)

module _ (rows : BTreeMap Uid (Option Row)) (tree : IsTree rows None []) (ordered : HasOrderedKeys uid_cmp rows) (suffix : List ℕ) (u : Uid) where
  abbrev view : DirectoryView
  view = view_of_facts suffix (facts_in rows.entries)

  -- what is asked of an entry, present or a tombstone
  either_way : {A : Type 0} (f : PresentEntry → A) (g : Tombstone → A) (h : Row → A) → ((r : Row) → f (present_entry (present_of (facts_in rows.entries)) r.entry) ≡ h r) → ((r : Row) → g (tombstone r.entry) ≡ h r)
      → (o : Option Row) → row_at rows u ≡ o → first_of_two (option_map f (present_at view u)) (option_map g (gone_at view u)) ≡ option_map h o
  either_way f g h p q None e =
      (λ i. first_of_two (option_map f (present_none rows tree ordered u e suffix i)) (option_map g (gone_none rows tree ordered u e suffix i)))
  either_way f g h p q (Some r) e =
      shows_or_hides r.entry r.children
      (λ s. (λ i. first_of_two (option_map f (present_shows rows tree ordered u r e s suffix i)) (option_map g (gone_shows rows tree ordered u r e s suffix i))) ∙ ap Some (p r))
      (λ s. (λ i. first_of_two (option_map f (present_hides rows tree ordered u r e s suffix i)) (option_map g (gone_hides rows tree ordered u r e s suffix i))) ∙ ap Some (q r))

  pub name_row : (o : Option Row) → row_at rows u ≡ o → name_of view u ≡ option_map (λ (r : Row). r.entry.rdn) o
  name_row o e = either_way (λ (e : PresentEntry). e.name) (λ (e : Tombstone). e.name) (λ (r : Row). r.entry.rdn) (λ r. refl) (λ r. refl) o e

  pub parent_row : (o : Option Row) → uid_eq u suffix_id ≡ false → row_at rows u ≡ o → parent_of view u ≡ option_map (λ (r : Row). r.entry.parent) o
  parent_row o n e =
      ap (λ b. cond b None (first_of_two (option_map (λ (e : PresentEntry). e.parent) (present_at view u)) (option_map (λ (e : Tombstone). e.parent) (gone_at view u)))) n
      ∙ either_way (λ (e : PresentEntry). e.parent) (λ (e : Tombstone). e.parent) (λ (r : Row). r.entry.parent) (λ r. refl) (λ r. refl) o e

pub parent_root : (rows : BTreeMap Uid (Option Row)) (suffix : List ℕ) (u : Uid) → uid_eq u suffix_id ≡ true → parent_of (view_of_facts suffix (facts_in rows.entries)) u ≡ None
parent_root rows suffix u h = ap (λ b. cond b None (first_of_two (option_map (λ (e : PresentEntry). e.parent) (present_at (view_of_facts suffix (facts_in rows.entries)) u)) (option_map (λ (e : Tombstone). e.parent) (gone_at (view_of_facts suffix (facts_in rows.entries)) u)))) h

-- what is lent of a present entry
pub own_kept : (es : List EntryFacts) (u : Uid) (r : Row) → IsPresentRow es u (Some r) → IsKept es r → (suffix : List ℕ) → Some r.shown ≡ own_of (view_of_facts suffix es) u
own_kept es u r h k suffix = ap Some k.shown ∙ ap (option_map (λ (e : PresentEntry). map user e.attrs)) (sym (h suffix))

pub own_none : (es : List EntryFacts) (u : Uid) → IsPresentRow es u None → (suffix : List ℕ) → None ≡ own_of (view_of_facts suffix es) u
own_none es u h suffix = ap (option_map (λ (e : PresentEntry). map user e.attrs)) (sym (h suffix))

-- A PLAN FROM THE ROWS: what they say of the entries before, and what a sound change makes of its entry.
use Rattle.std.proofs.Common.{◌≡◌, ℕ, suc, List, [], ◌∷◌, ◌++◌, length, Bool, true, false, cond, not, Option, Some, None, refl, sym, ap, subst, ◌∙◌, inl, inr, arith}
use Rattle.std.specs.Prelude.{◌||◌, find, unwrap_or, Result, Ok, Err, IfOk}
use Rattle.std.specs.List.{AllByRecursion}
use Rattle.std.specs.Map.{lookup, keys_of}
use Rattle.std.specs.List.Sorted.{IsStrictlySortedBy}
use Rattle.std.proofs.lemmas.Map.Keys.{sorted_head, sorted_tail}
use Rattle.std.specs.BTreeMap.{BTreeMap, get, is_at, IsOrdered as HasOrderedKeys}
use Rattle.std.specs.Ordering.{is_eq, is_lt, ordering_reverse}
use Rattle.std.specs.declared.cmp.Ordering.{Ordering}
use Rattle.std.specs.declared.cmp.Ordering.TheVariants.{Less, Equal, Greater}
use Rattle.std.proofs.lemmas.Cmp.{tied_itself}
use Rattle.repl_data.specs.declared.csn.Csn.{Csn}
use Rattle.repl_data.specs.declared.csn.Uid.{Uid}
use Rattle.repl_data.specs.declared.change.Body.{Body}
use Rattle.repl_data.specs.declared.change.Body.TheVariants.{Add, Mod as Modify, Ren, Del}
use Rattle.repl_data.specs.declared.change.Change.{Change}
use Rattle.repl_data.specs.declared.change.Suffix.{Suffix}
use Rattle.repl_data.specs.Order.{csn_cmp, csn_lt, csn_eq, uid_cmp, uid_eq, suffix_id, zero_csn}
use Rattle.repl_data.specs.Check.{is_of_root, is_out_of_order}
use Rattle.repl_data.specs.Closed.{is_sound, needed}
use Rattle.repl_data.specs.Facts.{EntryFacts, own_facts}
use Rattle.repl_data.specs.Presence.{is_live, present_of, is_among_entries, HasParentBelow}
use Rattle.repl_data.proofs.Orders.{uid_total, uid_exact, csn_total, csn_exact, split}
use Rattle.repl_data.proofs.InOrder.{is_equal}
use Rattle.repl_data.proofs.ClosedLaws.{zero_least}
use Rattle.repl_data.proofs.Sound.{sound_order, neither, not_false, sound_root}
use Rattle.stamp_entry.specs.Raised.{facts_after, is_add, parent_after}
use Rattle.stamp_entry.proofs.Next.{own_facts-next}
use Rattle.urp_tree.specs.declared.child.Child.{Child}
use Rattle.urp_tree.specs.declared.row.Row.{Row}
use Rattle.urp_tree.specs.declared.step.Step.{Step}
use Rattle.urp_tree.specs.declared.step.Step.TheVariants.{Enter, Leave}
use Rattle.urp_tree.specs.Index.{stands_below}
use Rattle.urp_tree.specs.Rows.{row_at, taken, fact_of, facts_in, IsKeyed, AreKeyed}
use Rattle.urp_tree.specs.Walk.{child_of, children_of_facts, children_in}
use Rattle.urp_tree.specs.Known.{fact_at, entry_after, IsTree, IsLiveRoot}
use Rattle.urp_tree.specs.Climb.{count_below, IsFound, IsChain, IsWay, GoesBy, ComesBy, Shows, Hides, is_modify}
use Rattle.urp_tree.proofs.Settled.{row_fact, others_none, children_none, here_or_later, not_among, above, keys_above, all_above_fresh}
use Rattle.urp_tree.proofs.Ready.{parent_add, below_add, is_live_add}
use Rattle.urp_tree.proofs.Stays.{any_below}
use Rattle.urp_tree.proofs.Shield.{shown_by, shown_by_live}
use Rattle.urp_tree.proofs.Levels.{StandsAt, the_one, id_at, all_at, found_at}
use Rattle.urp_tree.proofs.Ways.{zero_any, some_any}
use Rattle.urp_tree.proofs.Cases.{IsDeadAt, same_way, rest_way, move_way, leave_way, enter_way}
use Rattle.repl_data.proofs.Bools.{cases, either_second, never, twice}
use Rattle.repl_data.proofs.Paths.{all_present}

abbrev pub no_suffix : Suffix
no_suffix = record { name = []; rdn = record { avas = [] } }

-- ROWS AND FACTS
in_seat : (o : Option (Option Row)) (r : Row) → taken o ≡ Some r → o ≡ Some (Some r)
in_seat None r h = let e : ◌≡◌ {A = Option Row} None (Some r) = h in cc
in_seat (Some o) r h = ap Some h

-- no row, no entry
other_first : (k u : Uid) (v : Option Row) (es : List (Uid × Option Row)) → uid_eq u k ≡ false → IsKeyed (u, v) → is_among_entries (facts_in es) k ≡ false → is_among_entries (fact_of v ++ facts_in es) k ≡ false
other_first k u None es n a more = more
other_first k u (Some r) es n a more = ap (λ w. uid_eq w k || is_among_entries (facts_in es) k) a ∙ ap (λ b. b || is_among_entries (facts_in es) k) n ∙ more

gone_seat : (k : Uid) (es : List (Uid × Option Row)) → IsStrictlySortedBy uid_cmp (keys_of es) → AreKeyed es → lookup (is_at (uid_cmp k)) es ≡ None → is_among_entries (facts_in es) k ≡ false
gone_seat k [] o a h = refl
gone_seat k ((u, v) ∷ es) o a h =
    split (uid_cmp k u)
    (λ e. other_first k u v es (ap is_eq (uid_total.antisymm u k ∙ ap ordering_reverse e)) a.0
    (all_above_fresh k (facts_in es) (above k es (keys_above k u (keys_of es) e (sorted_head uid_cmp u (keys_of es) o)) a.1)))
    (λ e. let f : ◌≡◌ {A = Option (Option Row)} (Some v) None = sym (here_or_later k u v es Equal e) ∙ h in cc)
    (λ e. other_first k u v es (ap is_eq (uid_total.antisymm u k ∙ ap ordering_reverse e)) a.0
    (gone_seat k es (sorted_tail uid_cmp u (keys_of es) o) a.1 (sym (here_or_later k u v es Greater e) ∙ h)))

module _ (rows : BTreeMap Uid (Option Row)) (tree : IsTree rows None []) (ordered : HasOrderedKeys uid_cmp rows) where
  abbrev facts : List EntryFacts
  facts = facts_in rows.entries

  pub no_row : (u : Uid) → row_at rows u ≡ None → is_among_entries facts u ≡ false
  no_row u h = by (get uid_cmp rows u) refl h
    where
      by : (o : Option (Option Row)) → get uid_cmp rows u ≡ o → taken o ≡ None → is_among_entries facts u ≡ false
      by None e t = gone_seat u rows.entries ordered tree.keyed e
      by (Some None) e t = not_among u rows.entries ordered tree.keyed e
      by (Some (Some r)) e t = let f : ◌≡◌ {A = Option Row} (Some r) None = t in cc

  pub row_found : (u : Uid) (r : Row) → row_at rows u ≡ Some r → IsFound facts u r.entry
  row_found u r h = row_fact u r rows.entries ordered tree.keyed (in_seat (get uid_cmp rows u) r h)

  pub row_stands : (u : Uid) (r : Row) → row_at rows u ≡ Some r → StandsAt u r.entry facts
  row_stands u r h = found_at u r.entry facts tree.rises (row_found u r h)

  pub row_id : (u : Uid) (r : Row) → row_at rows u ≡ Some r → r.entry.id ≡ u
  row_id u r h = id_at u r.entry facts (row_stands u r h)

  -- an entry that is there has its row
  pub row_there : (u : Uid) → is_among_entries facts u ≡ true → (r : Row) × (row_at rows u ≡ Some r)
  row_there u h = by (row_at rows u) refl
    where
      by : (o : Option Row) → row_at rows u ≡ o → (r : Row) × (row_at rows u ≡ Some r)
      by None e = never (is_among_entries facts u) h (no_row u e)
      by (Some r) e = (r, e)

  among_at : (u : Uid) (f : EntryFacts) (es : List EntryFacts) → StandsAt u f es → is_among_entries es u ≡ true
  among_at u f [] h = elim h [ ]
  among_at u f (d ∷ es) (inl h) = ap (λ b. b || is_among_entries es u) (ap (λ v. uid_eq v u) (sym (uid_exact u d.id h.0)) ∙ ap is_eq (tied_itself uid_total u))
  among_at u f (d ∷ es) (inr h) = either_second (uid_eq d.id u) (is_among_entries es u) (among_at u f es h.1)

  pub row_among : (u : Uid) (r : Row) → row_at rows u ≡ Some r → is_among_entries facts u ≡ true
  row_among u r h = among_at u r.entry facts (row_stands u r h)

  -- what is known of an entry
  pub fact_row : (suffix : Suffix) (u : Uid) (r : Row) → row_at rows u ≡ Some r → fact_at suffix facts u ≡ r.entry
  fact_row suffix u r h = ap (λ o. unwrap_or o (own_facts suffix u [])) (row_found u r h)

  not_found : (u : Uid) (es : List EntryFacts) → is_among_entries es u ≡ false → find (λ (x : EntryFacts). uid_eq u x.id) es ≡ None
  not_found u [] h = refl
  not_found u (d ∷ es) h = by (uid_eq d.id u) refl h (not_found u es)
    where
      turned : (a b : Uid) → uid_eq b a ≡ false → uid_eq a b ≡ false
      turned a b e = cases (uid_eq a b) (λ t. never (uid_eq b a) (ap is_eq (uid_total.antisymm b a ∙ ap ordering_reverse (is_equal (uid_cmp a b) t))) e) (λ f. f)

      by : (b : Bool) → uid_eq d.id u ≡ b → (b || is_among_entries es u) ≡ false → (is_among_entries es u ≡ false → find (λ (x : EntryFacts). uid_eq u x.id) es ≡ None)
          → cond (uid_eq u d.id) (Some d) (find (λ (x : EntryFacts). uid_eq u x.id) es) ≡ None
      by true e k more = let f : true ≡ false = k in cc
      by false e k more = ap (λ b. cond b (Some d) (find (λ (x : EntryFacts). uid_eq u x.id) es)) (turned u d.id e) ∙ more k

  pub fact_new : (suffix : Suffix) (u : Uid) → is_among_entries facts u ≡ false → fact_at suffix facts u ≡ own_facts suffix u []
  fact_new suffix u h = ap (λ o. unwrap_or o (own_facts suffix u [])) (not_found u facts h)

  -- THE WAY, where a row is there
  abbrev fs : List Child
  fs = shown_by is_live facts

  n : ℕ
  n = suc (length facts)

  as_here : children_of_facts facts ≡ fs
  as_here = sym (shown_by_live facts)

  module _ (r : Row) (e : EntryFacts) (there : row_at rows e.id ≡ Some r) where
    count : r.children ≡ count_below e.id fs
    count = (tree.indexed e.id r there).count ∙ ap (count_below e.id) as_here

    shows : (d : EntryFacts) → Shows d r.children → (is_live d || any_below e.id fs) ≡ true
    shows d (inl h) = ap (λ b. b || any_below e.id fs) h
    shows d (inr h) = either_second (is_live d) (any_below e.id fs) (some_any e.id fs (λ z. let k : r.children ≡ 0 = count ∙ z in omega (arith, k, h)))

    none : r.children ≡ 0 → any_below e.id fs ≡ false
    none h = zero_any e.id fs (sym count ∙ h)

    at : StandsAt e.id r.entry facts
    at = row_stands e.id r there

    dead_at : is_live r.entry ≡ false → IsDeadAt e.id facts
    dead_at h = by facts (the_one e.id r.entry facts tree.rises at)
      where
        by : (es : List EntryFacts) → AllByRecursion (λ (x : EntryFacts). uid_eq x.id e.id ≡ true → x ≡ r.entry) es → AllByRecursion (λ (x : EntryFacts). uid_eq x.id e.id ≡ true → is_live x ≡ false) es
        by [] g = tt
        by (x ∷ es) g = ((λ t. ap is_live (g.0 t) ∙ h), by es g.1)

    -- nothing but values
    pub way_same : HasParentBelow e → child_of e ≡ child_of r.entry → IsWay (suc (length facts)) facts e []
    way_same below same = same_way e facts tree.rises tree.below tree.roots below r.entry at same

    module _ (child : uid_eq e.id suffix_id ≡ false) (below : HasParentBelow e) (parent : e.parent ≡ r.entry.parent) where
      lower : uid_cmp e.parent e.id ≡ Less
      lower =
          elim below [
            | inl h ↦ never (uid_eq e.id suffix_id) h child
            | inr h ↦ h
          ]

      pub way_moves : Shows r.entry r.children → Shows e r.children → IsWay (suc (length facts)) facts e (Leave (child_of r.entry) ∷ Enter (child_of e) ∷ [])
      way_moves was now = move_way e facts tree.rises tree.below tree.roots below r.entry at parent (shows r.entry was) child (shows e now)

      pub way_goes : (ss : List Step) → Shows r.entry r.children → Hides e r.children → GoesBy facts (children_in rows) r.entry ss → IsWay (suc (length facts)) facts e ss
      way_goes ss was now by =
          subst (IsWay (suc (length facts)) facts e) (sym by.2)
          (leave_way e facts tree.rises tree.below tree.roots below r.entry at parent (shows r.entry was) child now.0 (none now.1) lower by.0
          (subst (λ p. IsChain 1 facts fs p by.0) (sym parent) (subst (λ cs. IsChain 1 facts cs r.entry.parent by.0) as_here by.1)))

      pub way_comes : (ss : List Step) → Hides r.entry r.children → Shows e r.children → ComesBy facts (children_in rows) e ss → IsWay (suc (length facts)) facts e ss
      way_comes ss was now by =
          subst (IsWay (suc (length facts)) facts e) (sym by.2)
          (enter_way e facts tree.rises tree.below tree.roots below (live now) (dead_at was.0) (none was.1) lower child by.0 (subst (λ cs. IsChain 0 facts cs e.parent by.0) as_here by.1))
        where
          live : Shows e r.children → is_live e ≡ true
          live (inl h) = h
          live (inr h) = let z : r.children ≡ 0 = was.1 in absurd (omega (arith, z, h))

      pub way_rests : Hides r.entry r.children → Hides e r.children → IsWay (suc (length facts)) facts e []
      way_rests was now = rest_way e facts tree.rises tree.below tree.roots below now.0 (dead_at was.0) (none was.1)

  -- where no row is there
  any_none : (u : Uid) (cs : List Child) → AllByRecursion (λ (c : Child). stands_below u c ≡ false) cs → any_below u cs ≡ false
  any_none u [] h = refl
  any_none u (c ∷ cs) h = ap (λ b. b || any_below u cs) h.0 ∙ any_none u cs h.1

  pub way_new : (e : EntryFacts) (ss : List Step) → row_at rows e.id ≡ None → uid_eq e.id suffix_id ≡ false → HasParentBelow e → is_live e ≡ true → ComesBy facts (children_in rows) e ss → IsWay (suc (length facts)) facts e ss
  way_new e ss new child below live by =
      let gone : is_among_entries facts e.id ≡ false = no_row e.id new in
      let none : any_below e.id fs ≡ false =
      ap (any_below e.id) (sym as_here)
      ∙ any_none e.id (children_of_facts facts) (children_none e.id (present_of facts) (all_present (λ (x : EntryFacts). stands_below e.id (child_of x) ≡ false) facts (others_none e.id facts facts gone tree.rooted))) in
      let lower : uid_cmp e.parent e.id ≡ Less = (elim below [ inl h ↦ never (uid_eq e.id suffix_id) h child | inr h ↦ h ]) in
      subst (IsWay (suc (length facts)) facts e) (sym by.2)
      (enter_way e facts tree.rises tree.below tree.roots below live (dead facts gone) none lower child by.0 (subst (λ cs. IsChain 0 facts cs e.parent by.0) as_here by.1))
    where
      dead : (es : List EntryFacts) → is_among_entries es e.id ≡ false → AllByRecursion (λ (x : EntryFacts). uid_eq x.id e.id ≡ true → is_live x ≡ false) es
      dead [] h = tt
      dead (x ∷ es) h = let both = neither (uid_eq x.id e.id) (is_among_entries es e.id) h in ((λ t. never (uid_eq x.id e.id) t both.0), dead es both.1)

-- A SOUND CHANGE

pub not_root_add : (c : Csn) (u : Uid) (b : Body) → is_out_of_order c u b ≡ false → is_add b ≡ true → uid_eq u suffix_id ≡ false
not_root_add c u (Add parent rdn attrs) o h = cases (uid_eq u suffix_id) is_root (λ f. f)
  where
    low : csn_cmp parent.csn c ≡ Less
    low = is_less (csn_cmp parent.csn c) (not_false (csn_lt parent.csn c) (neither (not (csn_eq u.csn c)) (not (csn_lt parent.csn c)) o).1)
      where
        is_less : (o : Ordering) → is_lt o ≡ true → o ≡ Less
        is_less Less e = refl
        is_less Equal e = let f : false ≡ true = e in cc
        is_less Greater e = let f : false ≡ true = e in cc

    is_root : uid_eq u suffix_id ≡ true → uid_eq u suffix_id ≡ false
    is_root t =
        let own : u.csn ≡ c = csn_exact u.csn c (is_equal (csn_cmp u.csn c) (not_false (csn_eq u.csn c) (neither (not (csn_eq u.csn c)) (not (csn_lt parent.csn c)) o).0)) in
        let zero_is : u.csn ≡ zero_csn = csn_exact u.csn zero_csn (is_equal (csn_cmp u.csn zero_csn) t) in
        let low' : csn_cmp parent.csn zero_csn ≡ Less = subst (λ w. csn_cmp parent.csn w ≡ Less) (sym own ∙ zero_is) low in
        elim (zero_least parent.csn) [
          | inl l ↦ let f : Less ≡ Greater = sym low' ∙ csn_total.antisymm parent.csn zero_csn ∙ ap ordering_reverse l in cc
          | inr z ↦ let f : Less ≡ Equal = sym low' ∙ ap (λ w. csn_cmp w zero_csn) (sym z) ∙ tied_itself csn_total zero_csn in cc
        ]
not_root_add c u (Modify mods) o h = let e : false ≡ true = h in cc
not_root_add c u (Ren rdn dropped) o h = let e : false ≡ true = h in cc
not_root_add c u Del o h = let e : false ≡ true = h in cc

not_root_other : (u : Uid) (b : Body) → is_of_root u b ≡ false → is_modify b ≡ false → is_add b ≡ false → uid_eq u suffix_id ≡ false
not_root_other u (Add parent rdn attrs) o m a = let e : true ≡ false = a in cc
not_root_other u (Modify mods) o m a = let e : true ≡ false = m in cc
not_root_other u (Ren rdn dropped) o m a = o
not_root_other u Del o m a = o

pub not_root : (c : Change) → is_sound c ≡ true → is_modify c.body ≡ false → uid_eq c.target suffix_id ≡ false
not_root c s m =
    cases (is_add c.body)
    (λ t. not_root_add c.csn c.target c.body (sound_order c s) t)
    (λ f. not_root_other c.target c.body (sound_root c s) m f)

-- the parent of an entry stays
same_parent_after : (b : Body) (p : Uid) → is_add b ≡ false → parent_after b p ≡ p
same_parent_after (Add parent rdn attrs) p h = let e : true ≡ false = h in cc
same_parent_after (Modify mods) p h = refl
same_parent_after (Ren rdn dropped) p h = refl
same_parent_after Del p h = refl

add_parent : (b : Body) (u p : Uid) → is_add b ≡ true → parent_after b p ≡ needed u b
add_parent (Add parent rdn attrs) u p h = refl
add_parent (Modify mods) u p h = let e : false ≡ true = h in cc
add_parent (Ren rdn dropped) u p h = let e : false ≡ true = h in cc
add_parent Del u p h = let e : false ≡ true = h in cc

needed_other : (b : Body) (u : Uid) → is_add b ≡ false → needed u b ≡ u
needed_other (Add parent rdn attrs) u h = let e : true ≡ false = h in cc
needed_other (Modify mods) u h = refl
needed_other (Ren rdn dropped) u h = refl
needed_other Del u h = refl

not_add : (b : Body) → is_modify b ≡ true → is_add b ≡ false
not_add (Add parent rdn attrs) h = let e : false ≡ true = h in cc
not_add (Modify mods) h = refl
not_add (Ren rdn dropped) h = let e : false ≡ true = h in cc
not_add Del h = let e : false ≡ true = h in cc

modified : (c : Csn) (u : Uid) (b : Body) (d : EntryFacts) → is_modify b ≡ true → child_of (facts_after (record { csn = c; target = u; body = b }) d) ≡ child_of d
modified c u (Add parent rdn attrs) d h = let e : false ≡ true = h in cc
modified c u (Modify mods) d h = refl
modified c u (Ren rdn dropped) d h = let e : false ≡ true = h in cc
modified c u Del d h = let e : false ≡ true = h in cc

same_below : (e d : EntryFacts) → e.id ≡ d.id → e.parent ≡ d.parent → HasParentBelow d → HasParentBelow e
same_below e d i p (inl h) = inl (ap (λ u. uid_eq u suffix_id) i ∙ h)
same_below e d i p (inr h) = inr ((λ j. uid_cmp (p j) (i j)) ∙ h)

module _ (rows : BTreeMap Uid (Option Row)) (tree : IsTree rows None []) (ordered : HasOrderedKeys uid_cmp rows) (c : Change) (sound : is_sound c ≡ true)
    (known : is_among_entries (facts_in rows.entries) (needed c.target c.body) ≡ true) (new : is_add c.body ≡ true → is_among_entries (facts_in rows.entries) c.target ≡ false) where
  -- an Add
  pub next_new : is_add c.body ≡ true → (suffix : Suffix) → entry_after suffix c (facts_in rows.entries) ≡ own_facts suffix c.target (c ∷ [])
  next_new add suffix =
      ap (facts_after c) (fact_new rows tree ordered suffix c.target (new add))
      ∙ own_facts-next suffix c.target [] c sound refl (record { sound = refl; target = refl; one = λ d m. absurd m })

  -- any other change
  pub target_row : is_add c.body ≡ false → (r : Row) × (row_at rows c.target ≡ Some r)
  target_row other = row_there rows tree ordered c.target (subst (λ u. is_among_entries (facts_in rows.entries) u ≡ true) (needed_other c.body c.target other) known)

  pub next_row_of : (suffix : Suffix) (r : Row) → row_at rows c.target ≡ Some r → entry_after suffix c (facts_in rows.entries) ≡ facts_after c r.entry
  next_row_of suffix r h = ap (facts_after c) (fact_row rows tree ordered suffix c.target r h)

  module _ (e : EntryFacts) (is : (suffix : Suffix) → e ≡ entry_after suffix c (facts_in rows.entries)) where
    added : is_add c.body ≡ true → e ≡ own_facts no_suffix c.target (c ∷ [])
    added add = is no_suffix ∙ next_new add no_suffix

    raised : (r : Row) → row_at rows c.target ≡ Some r → e ≡ facts_after c r.entry
    raised r h = is no_suffix ∙ next_row_of no_suffix r h

    pub own_id : e.id ≡ c.target
    own_id =
        cases (is_add c.body)
        (λ t. ap (λ (x : EntryFacts). x.id) (added t))
        (λ f. let r = target_row f in ap (λ (x : EntryFacts). x.id) (raised r.0 r.1) ∙ row_id rows tree ordered c.target r.0 r.1)

    add_root : is_add c.body ≡ true → uid_eq c.target suffix_id ≡ false
    add_root t = not_root_add c.csn c.target c.body (sound_order c sound) t

    kept_parent : is_add c.body ≡ false → (r : Row) → row_at rows c.target ≡ Some r → e.parent ≡ r.entry.parent
    kept_parent f r h = ap (λ (x : EntryFacts). x.parent) (raised r h) ∙ same_parent_after c.body r.entry.parent f

    kept_id : (r : Row) → row_at rows c.target ≡ Some r → e.id ≡ r.entry.id
    kept_id r h = ap (λ (x : EntryFacts). x.id) (raised r h)

    pub own_below : HasParentBelow e
    own_below =
        cases (is_add c.body)
        (λ t. subst HasParentBelow (sym (added t)) (below_add no_suffix c sound t (add_root t)))
        (λ f. let r = target_row f in
        same_below e r.0.entry (kept_id r.0 r.1) (kept_parent f r.0 r.1) (all_at HasParentBelow c.target r.0.entry (facts_in rows.entries) (row_stands rows tree ordered c.target r.0 r.1) tree.below))

    pub own_rooted : is_among_entries (facts_in rows.entries) e.parent ≡ true
    own_rooted =
        cases (is_add c.body)
        (λ t. ap (is_among_entries (facts_in rows.entries)) (ap (λ (x : EntryFacts). x.parent) (added t) ∙ parent_add no_suffix c sound t (add_root t) ∙ add_parent c.body c.target suffix_id t) ∙ known)
        (λ f. let r = target_row f in
        ap (is_among_entries (facts_in rows.entries)) (kept_parent f r.0 r.1)
        ∙ all_at (λ (x : EntryFacts). is_among_entries (facts_in rows.entries) x.parent ≡ true) c.target r.0.entry (facts_in rows.entries) (row_stands rows tree ordered c.target r.0 r.1) tree.rooted)

    -- a modify
    pub own_modified : is_modify c.body ≡ true → (r : Row) × (row_at rows e.id ≡ Some r) × (child_of e ≡ child_of r.entry)
    own_modified m =
        let r = target_row (not_add c.body m) in
        (r.0, ap (row_at rows) own_id ∙ r.1, ap child_of (raised r.0 r.1) ∙ modified c.csn c.target c.body r.0.entry m)

    pub own_child : is_modify c.body ≡ false → uid_eq e.id suffix_id ≡ false
    own_child m = ap (λ u. uid_eq u suffix_id) own_id ∙ not_root c sound m

    pub own_parent : (r : Row) → row_at rows e.id ≡ Some r → e.parent ≡ r.entry.parent
    own_parent r h =
        let h' : row_at rows c.target ≡ Some r = ap (row_at rows) (sym own_id) ∙ h in
        cases (is_add c.body)
        (λ t. never (is_among_entries (facts_in rows.entries) c.target) (row_among rows tree ordered c.target r h') (new t))
        (λ f. kept_parent f r h')

    pub own_live : row_at rows e.id ≡ None → is_live e ≡ true
    own_live h =
        cases (is_add c.body)
        (λ t. ap is_live (added t) ∙ is_live_add no_suffix c t)
        (λ f. let r = target_row f in let x : ◌≡◌ {A = Option Row} None (Some r.0) = sym h ∙ ap (row_at rows) own_id ∙ r.1 in cc)

    pub own_root : IsLiveRoot e
    own_root t =
        cases (is_modify c.body)
        (λ m. let r = own_modified m in
        let life : is_live e ≡ is_live r.0.entry = sym (twice (is_live e)) ∙ ap (λ (x : Child). not x.glue) r.2 ∙ twice (is_live r.0.entry) in
        life
        ∙ all_at IsLiveRoot e.id r.0.entry (facts_in rows.entries) (row_stands rows tree ordered e.id r.0 r.1) tree.roots
        (ap (λ (u : Uid). uid_eq u suffix_id) (row_id rows tree ordered e.id r.0 r.1) ∙ t))
        (λ f. never (uid_eq e.id suffix_id) t (own_child f))

pub on_each : {A E : Type 0} {P Q : A → Type 0} (r : Result A E) → ((x : A) → P x → Q x) → IfOk r P → IfOk r Q
on_each (Ok x) f h = f x h
on_each (Err x) f h = h

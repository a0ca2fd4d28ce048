-- WHAT A CHANGE CHANGES of a view, entry by entry.
use Rattle.std.proofs.Common.{◌≡◌, ℕ, List, [], ◌∷◌, ◌++◌, map, filter, Bool, true, false, cond, not, Option, Some, None, refl, sym, ap, subst, ◌∙◌, inl, inr}
use Rattle.std.specs.Prelude.{◌⊎◌, ◌↔◌, ◌&&◌, ◌||◌, find, flat_map, option_map, unwrap_or, is_some}
use Rattle.std.specs.List.{AllByRecursion, list_any}
use Rattle.std.specs.List.Sorted.{IsStrictlySortedBy}
use Rattle.std.specs.Map.{keys_of, lookup}
use Rattle.std.specs.BTreeMap.{BTreeMap, get, is_at, Updates, IsOrdered as HasOrderedKeys}
use Rattle.std.specs.Ordering.{is_eq, ordering_reverse}
use Rattle.std.specs.declared.cmp.Ordering.TheVariants.{Less, Equal, Greater}
use Rattle.std.proofs.lemmas.Map.Keys.{sorted_head, sorted_tail}
use Rattle.repl_data.specs.declared.csn.Uid.{Uid}
use Rattle.repl_data.specs.declared.change.Rdn.{Rdn}
use Rattle.repl_data.specs.declared.change.Attr.{Attr}
use Rattle.repl_data.specs.Order.{uid_cmp, uid_eq, suffix_id, same_rdn}
use Rattle.repl_data.specs.Facts.{EntryFacts, attrs_shown}
use Rattle.repl_data.specs.Presence.{is_live, is_child, present_of, gone_of, is_among_entries, is_present_in, HasParentBelow}
use Rattle.repl_data.specs.Names.{has_name, has_id, with_id, shown_rdn}
use Rattle.repl_data.specs.View.{DirectoryView, PresentEntry, Tombstone, view_of_facts, present_at, gone_at, first_of_two, name_of, user}
use Rattle.repl_data.proofs.Orders.{uid_exact, uid_total, split}
use Rattle.repl_data.proofs.InOrder.{put-Rises}
use Rattle.repl_data.proofs.PresenceLaws.{present_of-rule}
use Rattle.urp_tree.specs.declared.row.Row.{Row}
use Rattle.urp_tree.specs.declared.changed.Changed.{Changed}
use Rattle.urp_tree.specs.Rows.{row_at, taken, facts_in}
use Rattle.urp_tree.specs.declared.child.Child.{Child}
use Rattle.urp_tree.specs.declared.step.Step.{Step}
use Rattle.urp_tree.specs.Walk.{child_of, children_of_facts, children_in, stepped}
use Rattle.urp_tree.specs.Known.{IsTree, IsPlain, IsLiveRoot, HasRisingFacts, put_fact, fact_id}
use Rattle.urp_tree.specs.Planned.{IsFreshRow}
use Rattle.urp_tree.specs.Seen.{present_entry, tombstone}
use Rattle.urp_tree.specs.Placed.{at_child, loses_in, place_in, same_bool, same_place, ArePlaces, KeepsPlaces, LeavesRest}
use Rattle.urp_tree.specs.Changes.{shown_at, glue_at, parent_at, values_at, IsSame, Differs, IsTold, is_listed, HasRisingChanges, AreChanges, shown_with, before_of, changed_as, changes_in, changes_at, changes_of}
use Rattle.urp_tree.specs.Moves.{kept as kept_attr, told_present, told_gone, HasRisingPresent, HasRisingGone, StandsAs, StaysAs, IsViewMove, empty_view, told_seat}
use Rattle.urp_tree.proofs.Settled.{all_put, among_put, rising_children}
use Rattle.urp_tree.proofs.Levels.{the_one, self_put, StandsAt}
use Rattle.urp_tree.proofs.Fits.{no_row, row_id, row_among}
use Rattle.urp_tree.proofs.Seen.{IsOnly, at_id, find_map, found_only, found_none, only_filter, not_chosen, fewer, fewer_present, only, kept}
use Rattle.urp_tree.proofs.Lost.{root_has, has_with_id}
use Rattle.urp_tree.proofs.Placed.{place_present, place_absent, none_among}
use Rattle.repl_data.proofs.Bools.{cases, never}
use Rattle.repl_data.proofs.Known.{same_id, own_id}
use Rattle.repl_data.proofs.Paths.{all_present}

turned : {X : Type 0} (b : Bool) (x y : X) → cond b x y ≡ cond (not b) y x
turned true x y = refl
turned false x y = refl

chosen_only : (p : EntryFacts → Bool) (u : Uid) (f : EntryFacts) (es : List EntryFacts) → IsOnly u f es → p f ≡ true → is_among_entries es u ≡ true → is_among_entries (filter p es) u ≡ true
chosen_only p u f [] o t h = h
chosen_only p u f (d ∷ es) o t h = by (uid_eq d.id u) refl h (chosen_only p u f es o.1 t)
  where
    later : (a b : Bool) → b ≡ true → (a || b) ≡ true
    later true b k = refl
    later false b k = k

    more : (b : Bool) → is_among_entries (filter p es) u ≡ true → is_among_entries (cond b (d ∷ filter p es) (filter p es)) u ≡ true
    more true k = later (uid_eq d.id u) (is_among_entries (filter p es) u) k
    more false k = k

    by : (b : Bool) → uid_eq d.id u ≡ b → (b || is_among_entries es u) ≡ true → (is_among_entries es u ≡ true → is_among_entries (filter p es) u ≡ true) → is_among_entries (cond (p d) (d ∷ filter p es) (filter p es)) u ≡ true
    by true e k rest = ap (λ b. is_among_entries (cond b (d ∷ filter p es) (filter p es)) u) (ap p (o.0 e) ∙ t) ∙ ap (λ b. b || is_among_entries (filter p es) u) e
    by false e k rest = more (p d) (rest k)

at_only : (Q : EntryFacts → Type 0) (u : Uid) (f : EntryFacts) (es : List EntryFacts) → AllByRecursion Q es → IsOnly u f es → is_among_entries es u ≡ true → Q f
at_only Q u f [] q o h = let e : false ≡ true = h in cc
at_only Q u f (d ∷ es) q o h = by (uid_eq d.id u) refl h (at_only Q u f es q.1 o.1)
  where
    by : (b : Bool) → uid_eq d.id u ≡ b → (b || is_among_entries es u) ≡ true → (is_among_entries es u ≡ true → Q f) → Q f
    by true e k more = subst Q (o.0 e) q.0
    by false e k more = more k

among_at : (u : Uid) (f : EntryFacts) (es : List EntryFacts) → StandsAt u f es → is_among_entries es u ≡ true
among_at u f [] h = elim h [ ]
among_at u f (d ∷ es) (inl h) = ap (λ b. b || is_among_entries es u) (ap (λ v. uid_eq v u) (sym (uid_exact u d.id h.0)) ∙ own_id u)
among_at u f (d ∷ es) (inr h) = later (uid_eq d.id u) (is_among_entries es u) (among_at u f es h.1)
  where
    later : (a b : Bool) → b ≡ true → (a || b) ≡ true
    later true b k = refl
    later false b k = k

-- AN ENTRY IN A VIEW, by its facts and where it stands
module _ (es : List EntryFacts) (u : Uid) (f : EntryFacts) (o : IsOnly u f es) (there : is_among_entries es u ≡ true) (id : f.id ≡ u) (suffix : List ℕ) where
  abbrev seen : DirectoryView
  seen = view_of_facts suffix es

  abbrev here : List EntryFacts
  here = present_of es

  abbrev pub spot : Option Bool
  spot = place_in (children_of_facts es) u

  abbrev goes : EntryFacts → Bool
  goes e = not (is_among_entries here e.id)

  gone_f : (b : Bool) → is_among_entries here u ≡ b → goes f ≡ not b
  gone_f b h = ap (λ w. not (is_among_entries here w)) id ∙ ap not h

  is_present : (b : Bool) → is_among_entries here u ≡ b → present_at seen u ≡ cond b (Some (present_entry here f)) None
  is_present true h =
      find_map (λ (e : PresentEntry). uid_eq e.id u) (present_entry here) here
      ∙ ap (option_map (present_entry here)) (found_only u f here (all_present (λ (e : EntryFacts). uid_eq e.id u ≡ true → e ≡ f) es o) h)
  is_present false h = find_map (λ (e : PresentEntry). uid_eq e.id u) (present_entry here) here ∙ ap (option_map (present_entry here)) (found_none u here h)

  is_absent : (b : Bool) → is_among_entries here u ≡ b → gone_at seen u ≡ cond b None (Some (tombstone f))
  is_absent true h =
      find_map (λ (e : Tombstone). uid_eq e.id u) tombstone (gone_of es)
      ∙ ap (option_map tombstone) (found_none u (gone_of es) (not_chosen goes u f es o (gone_f true h)))
  is_absent false h =
      find_map (λ (e : Tombstone). uid_eq e.id u) tombstone (gone_of es)
      ∙ ap (option_map tombstone) (found_only u f (gone_of es) (only_filter goes u f es o) (chosen_only goes u f es o (gone_f false h) there))

  place_is : (b : Bool) → is_among_entries here u ≡ b → spot ≡ cond b (Some (not (has_name here f))) None
  place_is true h = place_present es u f o h
  place_is false h = place_absent es u h

  pub shown_is : shown_at seen u ≡ option_map (shown_with f) spot
  shown_is = by (is_among_entries here u) refl
    where
      by : (b : Bool) → is_among_entries here u ≡ b → shown_at seen u ≡ option_map (shown_with f) spot
      by true h =
          ap (option_map (λ (e : PresentEntry). e.shown)) (is_present true h) ∙ ap Some (turned (has_name here f) f.rdn (with_id f.id f.rdn))
          ∙ sym (ap (option_map (shown_with f)) (place_is true h))
      by false h = ap (option_map (λ (e : PresentEntry). e.shown)) (is_present false h) ∙ sym (ap (option_map (shown_with f)) (place_is false h))

  pub glue_is : glue_at seen u ≡ (is_some spot && not (is_live f))
  glue_is = by (is_among_entries here u) refl
    where
      by : (b : Bool) → is_among_entries here u ≡ b → glue_at seen u ≡ (is_some spot && not (is_live f))
      by true h = ap (λ x. unwrap_or (option_map (λ (e : PresentEntry). e.is_glue) x) false) (is_present true h) ∙ sym (ap (λ x. is_some x && not (is_live f)) (place_is true h))
      by false h = ap (λ x. unwrap_or (option_map (λ (e : PresentEntry). e.is_glue) x) false) (is_present false h) ∙ sym (ap (λ x. is_some x && not (is_live f)) (place_is false h))

  either_way : {A : Type 0} (F : PresentEntry → A) (G : Tombstone → A) (x : A) → F (present_entry here f) ≡ x → G (tombstone f) ≡ x → first_of_two (option_map F (present_at seen u)) (option_map G (gone_at seen u)) ≡ Some x
  either_way F G x p q = by (is_among_entries here u) refl
    where
      by : (b : Bool) → is_among_entries here u ≡ b → first_of_two (option_map F (present_at seen u)) (option_map G (gone_at seen u)) ≡ Some x
      by true h = (λ i. first_of_two (option_map F (is_present true h i)) (option_map G (is_absent true h i))) ∙ ap Some p
      by false h = (λ i. first_of_two (option_map F (is_present false h i)) (option_map G (is_absent false h i))) ∙ ap Some q

  pub parent_is : parent_at seen u ≡ Some f.parent
  parent_is = either_way (λ (e : PresentEntry). e.parent) (λ (e : Tombstone). e.parent) f.parent refl refl

  pub values_is : values_at seen u ≡ Some (attrs_shown f)
  values_is = either_way (λ (e : PresentEntry). e.attrs) (λ (e : Tombstone). e.attrs) (attrs_shown f) refl refl

  pub name_is : name_of seen u ≡ Some f.rdn
  name_is = either_way (λ (e : PresentEntry). e.name) (λ (e : Tombstone). e.name) f.rdn refl refl

  pub stands_present : present_at seen u ≡ option_map (λ lost. record { id = u; parent = f.parent; name = f.rdn; shown = shown_with f lost; is_glue = not (is_live f); attrs = attrs_shown f }) spot
  stands_present = by (is_among_entries here u) refl
    where
      by : (b : Bool) → is_among_entries here u ≡ b → present_at seen u ≡ option_map (λ lost. record { id = u; parent = f.parent; name = f.rdn; shown = shown_with f lost; is_glue = not (is_live f); attrs = attrs_shown f }) spot
      by true h =
          is_present true h
          ∙ (λ i. Some (record { id = id i; parent = f.parent; name = f.rdn; shown = turned (has_name here f) f.rdn (with_id f.id f.rdn) i; is_glue = not (is_live f); attrs = attrs_shown f }))
          ∙ sym (ap (option_map (λ lost. record { id = u; parent = f.parent; name = f.rdn; shown = shown_with f lost; is_glue = not (is_live f); attrs = attrs_shown f })) (place_is true h))
      by false h =
          is_present false h
          ∙ sym (ap (option_map (λ lost. record { id = u; parent = f.parent; name = f.rdn; shown = shown_with f lost; is_glue = not (is_live f); attrs = attrs_shown f })) (place_is false h))

  pub stands_gone : gone_at seen u ≡ cond (is_some spot) None (Some (record { id = u; parent = f.parent; name = f.rdn; attrs = attrs_shown f }))
  stands_gone = by (is_among_entries here u) refl
    where
      by : (b : Bool) → is_among_entries here u ≡ b → gone_at seen u ≡ cond (is_some spot) None (Some (record { id = u; parent = f.parent; name = f.rdn; attrs = attrs_shown f }))
      by true h = is_absent true h ∙ sym (ap (λ x. cond (is_some x) None (Some (record { id = u; parent = f.parent; name = f.rdn; attrs = attrs_shown f }))) (place_is true h))
      by false h =
          is_absent false h
          ∙ (λ i. Some (record { id = id i; parent = f.parent; name = f.rdn; attrs = attrs_shown f }))
          ∙ sym (ap (λ x. cond (is_some x) None (Some (record { id = u; parent = f.parent; name = f.rdn; attrs = attrs_shown f }))) (place_is false h))

-- attributes that are kept to be shown
kept_users : (attrs : List Attr) → map kept_attr (map user attrs) ≡ attrs
kept_users [] = refl
kept_users (a ∷ attrs) = ap (λ r. a ∷ r) (kept_users attrs)

-- an entry stands as its row tells it
pub row_stands_as : (rows : BTreeMap Uid (Option Row)) (es : List EntryFacts) (u : Uid) (r : Row) → IsOnly u r.entry es → is_among_entries es u ≡ true → r.entry.id ≡ u → r.shown ≡ map user (attrs_shown r.entry) → (suffix : List ℕ) (before place : Option Bool) → place ≡ place_in (children_of_facts es) u
    → StandsAs (view_of_facts suffix es) (changed_as rows r u before place)
row_stands_as rows es u r o there id shown suffix before place h = record {
  present = stands_present es u r.entry o there id suffix ∙ ap (option_map (λ lost. record { id = u; parent = r.entry.parent; name = r.entry.rdn; shown = shown_with r.entry lost; is_glue = not (is_live r.entry); attrs = attrs_shown r.entry })) (sym h) ∙ by place;
  gone = stands_gone es u r.entry o there id suffix ∙ ap (λ x. cond (is_some x) None (Some (record { id = u; parent = r.entry.parent; name = r.entry.rdn; attrs = attrs_shown r.entry }))) (sym h) ∙ gone_by place;
}
  where
    attrs : attrs_shown r.entry ≡ map kept_attr r.shown
    attrs = sym (ap (map kept_attr) shown ∙ kept_users (attrs_shown r.entry))

    by : (p : Option Bool) → option_map (λ lost. record { id = u; parent = r.entry.parent; name = r.entry.rdn; shown = shown_with r.entry lost; is_glue = not (is_live r.entry); attrs = attrs_shown r.entry }) p ≡ told_present (changed_as rows r u before p)
    by None = refl
    by (Some lost) = λ i. Some (record { id = u; parent = r.entry.parent; name = r.entry.rdn; shown = shown_with r.entry lost; is_glue = not (is_live r.entry); attrs = attrs i })

    gone_by : (p : Option Bool) → cond (is_some p) None (Some (record { id = u; parent = r.entry.parent; name = r.entry.rdn; attrs = attrs_shown r.entry })) ≡ told_gone (changed_as rows r u before p)
    gone_by None = λ i. Some (record { id = u; parent = r.entry.parent; name = r.entry.rdn; attrs = attrs i })
    gone_by (Some lost) = refl

-- ids rise in a view of facts whose ids do
module _ (suffix : List ℕ) where
  filtered : (p : EntryFacts → Bool) (k : Uid) (es : List EntryFacts) → AllByRecursion (λ (e : EntryFacts). uid_cmp k e.id ≡ Less) es → AllByRecursion (λ (e : EntryFacts). uid_cmp k e.id ≡ Less) (filter p es)
  filtered p k [] h = tt
  filtered p k (e ∷ es) h = by (p e) (filtered p k es h.1)
    where
      by : (b : Bool) → AllByRecursion (λ (e : EntryFacts). uid_cmp k e.id ≡ Less) (filter p es) → AllByRecursion (λ (e : EntryFacts). uid_cmp k e.id ≡ Less) (cond b (e ∷ filter p es) (filter p es))
      by true more = (h.0, more)
      by false more = more

  rising_filter : (p : EntryFacts → Bool) (es : List EntryFacts) → HasRisingFacts es → HasRisingFacts (filter p es)
  rising_filter p [] r = tt
  rising_filter p (e ∷ es) r = by (p e) (rising_filter p es r.1)
    where
      by : (b : Bool) → HasRisingFacts (filter p es) → HasRisingFacts (cond b (e ∷ filter p es) (filter p es))
      by true more = (filtered p e.id es r.0, more)
      by false more = more

  rising_of : (es : List EntryFacts) → HasRisingFacts es → HasRisingFacts (present_of es)
  rising_of [] r = tt
  rising_of (e ∷ es) r = by (is_live e || list_any (is_child e.id) (present_of es)) (rising_of es r.1)
    where
      by : (b : Bool) → HasRisingFacts (present_of es) → HasRisingFacts (cond b (e ∷ present_of es) (present_of es))
      by true more = (all_present (λ (f : EntryFacts). uid_cmp e.id f.id ≡ Less) es r.0, more)
      by false more = more

  all_map : {X : Type 0} (P : X → Type 0) (F : EntryFacts → X) (es : List EntryFacts) → AllByRecursion (λ e. P (F e)) es → AllByRecursion P (map F es)
  all_map P F [] h = tt
  all_map P F (e ∷ es) h = (h.0, all_map P F es h.1)

  rising_present_map : (here es : List EntryFacts) → HasRisingFacts es → HasRisingPresent (map (present_entry here) es)
  rising_present_map here [] r = tt
  rising_present_map here (e ∷ es) r = (all_map (λ (f : PresentEntry). uid_cmp e.id f.id ≡ Less) (present_entry here) es r.0, rising_present_map here es r.1)

  rising_gone_map : (es : List EntryFacts) → HasRisingFacts es → HasRisingGone (map tombstone es)
  rising_gone_map [] r = tt
  rising_gone_map (e ∷ es) r = (all_map (λ (f : Tombstone). uid_cmp e.id f.id ≡ Less) tombstone es r.0, rising_gone_map es r.1)

  pub view_present_rises : (es : List EntryFacts) → HasRisingFacts es → HasRisingPresent (view_of_facts suffix es).present
  view_present_rises es r = rising_present_map (present_of es) (present_of es) (rising_of es r)

  pub view_gone_rises : (es : List EntryFacts) → HasRisingFacts es → HasRisingGone (view_of_facts suffix es).gone
  view_gone_rises es r = rising_gone_map (gone_of es) (rising_filter (λ (e : EntryFacts). not (is_among_entries (present_of es) e.id)) es r)

-- the suffix entry has its name
pub root_place : (es : List EntryFacts) (u : Uid) (f : EntryFacts) → HasRisingFacts es → AllByRecursion HasParentBelow es → IsOnly u f es → is_among_entries es u ≡ true → f.id ≡ u → IsPlain f → IsLiveRoot f → uid_eq u suffix_id ≡ true → place_in (children_of_facts es) u ≡ Some false
root_place es u f rises below o there id plain live root =
    let own : uid_eq f.id suffix_id ≡ true = ap (λ w. uid_eq w suffix_id) id ∙ root in
    let rule : is_among_entries (present_of es) f.id ≡ (is_live f || list_any (is_child f.id) (present_of es)) =
    at_only (λ (e : EntryFacts). is_present_in es e ≡ (is_live e || list_any (is_child e.id) (present_of es))) u f es (present_of-rule es rises below) o there in
    let here : is_among_entries (present_of es) u ≡ true = ap (is_among_entries (present_of es)) (sym id) ∙ rule ∙ ap (λ b. b || list_any (is_child f.id) (present_of es)) (live own) in
    place_present es u f o here ∙ ap (λ b. Some (not b)) (root_has f (present_of es) plain live own)

-- an id that nobody has
no_entry : (es : List EntryFacts) (u : Uid) → is_among_entries es u ≡ false → (suffix : List ℕ) → (present_at (view_of_facts suffix es) u ≡ None) × (gone_at (view_of_facts suffix es) u ≡ None)
no_entry es u h suffix = (
  find_map (λ (e : PresentEntry). uid_eq e.id u) (present_entry (present_of es)) (present_of es) ∙ ap (option_map (present_entry (present_of es))) (found_none u (present_of es) (fewer_present u es h)),
  find_map (λ (e : Tombstone). uid_eq e.id u) tombstone (gone_of es)
      ∙ ap (option_map tombstone) (found_none u (gone_of es) (fewer (λ (e : EntryFacts). not (is_among_entries (present_of es) e.id)) u es h)),
)

among_none : (u : Uid) (xs : List EntryFacts) → is_among_entries xs u ≡ false → AllByRecursion (λ (x : EntryFacts). uid_eq x.id u ≡ false) xs
among_none u [] k = tt
among_none u (x ∷ xs) k = by (uid_eq x.id u) refl k (among_none u xs)
  where
    by : (b : Bool) → uid_eq x.id u ≡ b → (b || is_among_entries xs u) ≡ false → (is_among_entries xs u ≡ false → AllByRecursion (λ (y : EntryFacts). uid_eq y.id u ≡ false) xs) → AllByRecursion (λ (y : EntryFacts). uid_eq y.id u ≡ false) (x ∷ xs)
    by true e k more = let f : true ≡ false = k in cc
    by false e k more = (e, more k)

no_fact : (e : EntryFacts) (u : Uid) (es : List EntryFacts) → uid_eq e.id u ≡ false → is_among_entries es u ≡ false → is_among_entries (put_fact e es) u ≡ false
no_fact e u es n h = none_among u (put_fact e es) (all_put (λ (x : EntryFacts). uid_eq x.id u ≡ false) e es n (among_none u es h))

-- PLACES tell names apart
other_name : (f : EntryFacts) → has_id f.rdn ≡ false → (a b : Bool) → shown_with f a ≡ shown_with f b → a ≡ b
other_name f n true true h = refl
other_name f n false false h = refl
other_name f n true false h = never (has_id f.rdn) (ap has_id (sym h) ∙ has_with_id f.id f.rdn) n
other_name f n false true h = never (has_id f.rdn) (ap has_id h ∙ has_with_id f.id f.rdn) n

other_place : (f : EntryFacts) → has_id f.rdn ≡ false → (p q : Option Bool) → option_map (shown_with f) p ≡ option_map (shown_with f) q → p ≡ q
other_place f n None None h = refl
other_place f n None (Some b) h = let e : ◌≡◌ {A = Option Rdn} None (Some (shown_with f b)) = h in cc
other_place f n (Some a) None h = let e : ◌≡◌ {A = Option Rdn} (Some (shown_with f a)) None = h in cc
other_place f n (Some a) (Some b) h = ap Some (other_name f n a b (let e : Some (shown_with f a) ≡ Some (shown_with f b) = h in cc))

same_bools : (a b : Bool) → same_bool a b ≡ true → a ≡ b
same_bools true true h = refl
same_bools true false h = let e : false ≡ true = h in cc
same_bools false true h = let e : false ≡ true = h in cc
same_bools false false h = refl

same_places : (p q : Option Bool) → same_place p q ≡ true → p ≡ q
same_places None None h = refl
same_places None (Some b) h = let e : false ≡ true = h in cc
same_places (Some a) None h = let e : false ≡ true = h in cc
same_places (Some a) (Some b) h = ap Some (same_bools a b h)

itself : (p : Option Bool) → same_place p p ≡ true
itself None = refl
itself (Some true) = refl
itself (Some false) = refl

-- AMONG THE ENTRIES OF A MAP
listed_in : (u : Uid) (cs ds : List Changed) → is_listed u (cs ++ ds) ≡ (is_listed u cs || is_listed u ds)
listed_in u [] ds = refl
listed_in u (c ∷ cs) ds = ap (λ b. uid_eq c.id u || b) (listed_in u cs ds) ∙ sym (assoc (uid_eq c.id u) (is_listed u cs) (is_listed u ds))
  where
    assoc : (a b c : Bool) → ((a || b) || c) ≡ (a || (b || c))
    assoc true b c = refl
    assoc false b c = refl

none_later : (u : Uid) (es : List (Uid × Option Bool)) → AllByRecursion (λ (k : Uid). uid_cmp u k ≡ Less) (keys_of es) → lookup (is_at (uid_cmp u)) es ≡ None
none_later u [] h = refl
none_later u (e ∷ es) h = ap (λ o. cond (is_eq o) (Some e.1) (lookup (is_at (uid_cmp u)) es)) h.0 ∙ none_later u es h.1

in_later : (k u : Uid) (p q : Option Bool) (es : List (Uid × Option Bool)) → AllByRecursion (λ (v : Uid). uid_cmp k v ≡ Less) (keys_of es) → lookup (is_at (uid_cmp u)) es ≡ Some p → lookup (is_at (uid_cmp u)) ((k, q) ∷ es) ≡ Some p
in_later k u p q es above h =
    split (uid_cmp u k)
    (λ o. ap (λ x. cond (is_eq x) (Some q) (lookup (is_at (uid_cmp u)) es)) o ∙ h)
    (λ o. let f : ◌≡◌ {A = Option (Option Bool)} None (Some p) = sym (subst (λ v. lookup (is_at (uid_cmp v)) es ≡ None) (sym (uid_exact u k o)) (none_later k es above)) ∙ h in cc)
    (λ o. ap (λ x. cond (is_eq x) (Some q) (lookup (is_at (uid_cmp u)) es)) o ∙ h)

all_entries : (Q : Uid × Option Bool → Type 0) (es : List (Uid × Option Bool)) → IsStrictlySortedBy uid_cmp (keys_of es) → ((k : Uid) (p : Option Bool) → lookup (is_at (uid_cmp k)) es ≡ Some p → Q (k, p)) → AllByRecursion Q es
all_entries Q [] o f = tt
all_entries Q ((k, q) ∷ es) o f = (
  f k q (ap (λ b. cond b (Some q) (lookup (is_at (uid_cmp k)) es)) (own_id k)),
  all_entries Q es (sorted_tail uid_cmp k (keys_of es) o) (λ u p h. f u p (in_later k u p q es (sorted_head uid_cmp k (keys_of es) o) h)),
)

all_both : (T : Changed → Type 0) (cs ds : List Changed) → AllByRecursion T cs → AllByRecursion T ds → AllByRecursion T (cs ++ ds)
all_both T [] ds p q = q
all_both T (c ∷ cs) ds p q = (p.0, all_both T cs ds p.1 q)

all_flat : (T : Changed → Type 0) (F : Uid × Option Bool → List Changed) (es : List (Uid × Option Bool)) → AllByRecursion (λ e. AllByRecursion T (F e)) es → AllByRecursion T (flat_map F es)
all_flat T F [] h = tt
all_flat T F (e ∷ es) h = all_both T (F e) (flat_map F es) h.0 (all_flat T F es h.1)

-- A ROW PUT AMONG THE ROWS
module _ (rows : BTreeMap Uid (Option Row)) (tree : IsTree rows None []) (ordered : HasOrderedKeys uid_cmp rows) (new : Row) (fresh : IsFreshRow new) (below : HasParentBelow new.entry) (root : IsLiveRoot new.entry) (plain : IsPlain new.entry) where
  abbrev e : EntryFacts
  e = new.entry

  abbrev es : List EntryFacts
  es = facts_in rows.entries

  abbrev fs : List EntryFacts
  fs = put_fact e es

  rises : HasRisingFacts fs
  rises = put-Rises uid_cmp uid_total fact_id e es tree.rises

  lows : AllByRecursion HasParentBelow fs
  lows = all_put HasParentBelow e es below tree.below

  own_only : IsOnly e.id e fs
  own_only = the_one e.id e fs rises (self_put e es)

  own_among : is_among_entries fs e.id ≡ true
  own_among = among_at e.id e fs (self_put e es)

  other : (u : Uid) → uid_eq u e.id ≡ false → uid_eq e.id u ≡ false
  other u n = cases (uid_eq e.id u) (λ t. never (uid_eq u e.id) (ap (λ v. uid_eq v e.id) (sym (same_id e.id u t)) ∙ own_id e.id) n) (λ f. f)

  module _ (u : Uid) (r : Row) (there : row_at rows u ≡ Some r) (n : uid_eq u e.id ≡ false) where
    only_es : IsOnly u r.entry es
    only_es = only rows tree ordered u r there

    only_fs : IsOnly u r.entry fs
    only_fs = all_put (λ (x : EntryFacts). uid_eq x.id u ≡ true → x ≡ r.entry) e es (λ t. never (uid_eq e.id u) t (other u n)) only_es

    among_fs : is_among_entries fs u ≡ true
    among_fs = among_put e u es (row_among rows tree ordered u r there)

  module _ (suffix : List ℕ) where
    abbrev v : DirectoryView
    v = view_of_facts suffix es

    abbrev w : DirectoryView
    w = view_of_facts suffix fs

    abbrev before : Uid → Option Bool
    before u = place_in (children_in rows) u

    abbrev after : Uid → Option Bool
    after u = place_in (children_of_facts fs) u

    -- where the place is the same, all is
    same_of : (u : Uid) (r : Row) (there : row_at rows u ≡ Some r) (n : uid_eq u e.id ≡ false) → before u ≡ after u → IsSame v w u
    same_of u r there n h =
        let f : EntryFacts = r.entry in
        let id : f.id ≡ u = row_id rows tree ordered u r there in
        let here : is_among_entries es u ≡ true = row_among rows tree ordered u r there in
        record {
          shown = shown_is es u f (only_es u r there n) here id suffix ∙ ap (option_map (shown_with f)) h ∙ sym (shown_is fs u f (only_fs u r there n) (among_fs u r there n) id suffix);
          glue = glue_is es u f (only_es u r there n) here id suffix ∙ ap (λ p. is_some p && not (is_live f)) h ∙ sym (glue_is fs u f (only_fs u r there n) (among_fs u r there n) id suffix);
          values = values_is es u f (only_es u r there n) here id suffix ∙ sym (values_is fs u f (only_fs u r there n) (among_fs u r there n) id suffix);
        }

    root_same : (u : Uid) (r : Row) (there : row_at rows u ≡ Some r) (n : uid_eq u e.id ≡ false) → uid_eq u suffix_id ≡ true → before u ≡ after u
    root_same u r there n t =
        let k = kept rows tree ordered u r there in
        let id : r.entry.id ≡ u = row_id rows tree ordered u r there in
        root_place es u r.entry tree.rises tree.below (only_es u r there n) (row_among rows tree ordered u r there) id k.plain k.root t
        ∙ sym (root_place fs u r.entry rises lows (only_fs u r there n) (among_fs u r there n) id k.plain k.root t)

    place_of : (u : Uid) (r : Row) (there : row_at rows u ≡ Some r) (n : uid_eq u e.id ≡ false) → IsSame v w u → before u ≡ after u
    place_of u r there n s =
        let f : EntryFacts = r.entry in
        let id : f.id ≡ u = row_id rows tree ordered u r there in
        cases (uid_eq u suffix_id)
        (λ t. root_same u r there n t)
        (λ t. other_place f ((kept rows tree ordered u r there).plain.child (ap (λ x. uid_eq x suffix_id) id ∙ t)) (before u) (after u)
        (sym (shown_is es u f (only_es u r there n) (row_among rows tree ordered u r there) id suffix) ∙ s.shown ∙ shown_is fs u f (only_fs u r there n) (among_fs u r there n) id suffix))

    unknown : (u : Uid) → row_at rows u ≡ None → uid_eq u e.id ≡ false → IsSame v w u
    unknown u none n =
        let a = no_entry es u (no_row rows tree ordered u none) suffix in
        let b = no_entry fs u (no_fact e u es (other u n) (no_row rows tree ordered u none)) suffix in
        record {
          shown = ap (option_map (λ (x : PresentEntry). x.shown)) (a.0 ∙ sym b.0);
          glue = ap (λ o. unwrap_or (option_map (λ (x : PresentEntry). x.is_glue) o) false) (a.0 ∙ sym b.0);
          values = λ i. first_of_two (option_map (λ (x : PresentEntry). x.attrs) ((a.0 ∙ sym b.0) i)) (option_map (λ (x : Tombstone). x.attrs) ((a.1 ∙ sym b.1) i));
        }

    before_shown : (u : Uid) (o : Option Row) → row_at rows u ≡ o → before_of o (before u) ≡ shown_at v u
    before_shown u None h = sym (ap (option_map (λ (x : PresentEntry). x.shown)) (no_entry es u (no_row rows tree ordered u h) suffix).0)
    before_shown u (Some r) h = sym (shown_is es u r.entry (only rows tree ordered u r h) (row_among rows tree ordered u r h) (row_id rows tree ordered u r h) suffix)

    -- what is told of an entry
    telling : (u : Uid) (s : Row) → IsOnly u s.entry fs → is_among_entries fs u ≡ true → s.entry.id ≡ u → s.shown ≡ map user (attrs_shown s.entry) → (p : Option Bool) → p ≡ after u → IsTold v w (changed_as rows s u (before u) p)
    telling u s o here id shown p h = record {
      parent = sym (parent_is fs u s.entry o here id suffix);
      name = sym (name_is fs u s.entry o here id suffix);
      before = before_shown u (row_at rows u) refl;
      after = ap (option_map (shown_with s.entry)) h ∙ sym (shown_is fs u s.entry o here id suffix);
      glue = ap (λ q. is_some q && not (is_live s.entry)) h ∙ sym (glue_is fs u s.entry o here id suffix);
      attrs = ap Some shown ∙ sym (ap (option_map (map user)) (values_is fs u s.entry o here id suffix));
    }

    tells : (u : Uid) (p : Option Bool) → p ≡ after u → AllByRecursion (IsTold v w) (changes_of rows new (u, p))
    tells u p h = by (uid_eq u e.id) refl
      where
        deeper : uid_eq u e.id ≡ false → (o : Option Row) → row_at rows u ≡ o → AllByRecursion (IsTold v w) (changes_in rows o u (before u) p)
        deeper n None k = tt
        deeper n (Some r) k = (telling u r (only_fs u r k n) (among_fs u r k n) (row_id rows tree ordered u r k) (kept rows tree ordered u r k).shown p h, tt)

        second : uid_eq u e.id ≡ false → (b : Bool) → AllByRecursion (IsTold v w) (cond b [] (changes_in rows (row_at rows u) u (before u) p))
        second n true = tt
        second n false = deeper n (row_at rows u) refl

        by : (b : Bool) → uid_eq u e.id ≡ b → AllByRecursion (IsTold v w) (cond b (changed_as rows new u (before u) p ∷ []) (cond (same_place (before u) p) [] (changes_in rows (row_at rows u) u (before u) p)))
        by true k =
            let is : e.id ≡ u = sym (same_id u e.id k) in
            (telling u new (subst (λ x. IsOnly x e fs) is own_only) (subst (λ x. is_among_entries fs x ≡ true) is own_among) is fresh.shown p h, tt)
        by false k = second k (same_place (before u) p)

    -- and as it is told, it stands
    stand : (u : Uid) (p : Option Bool) → p ≡ after u → AllByRecursion (StandsAs w) (changes_of rows new (u, p))
    stand u p h = by (uid_eq u e.id) refl
      where
        deeper : uid_eq u e.id ≡ false → (o : Option Row) → row_at rows u ≡ o → AllByRecursion (StandsAs w) (changes_in rows o u (before u) p)
        deeper n None k = tt
        deeper n (Some r) k = (row_stands_as rows fs u r (only_fs u r k n) (among_fs u r k n) (row_id rows tree ordered u r k) (kept rows tree ordered u r k).shown suffix (before u) p h, tt)

        second : uid_eq u e.id ≡ false → (b : Bool) → AllByRecursion (StandsAs w) (cond b [] (changes_in rows (row_at rows u) u (before u) p))
        second n true = tt
        second n false = deeper n (row_at rows u) refl

        by : (b : Bool) → uid_eq u e.id ≡ b → AllByRecursion (StandsAs w) (cond b (changed_as rows new u (before u) p ∷ []) (cond (same_place (before u) p) [] (changes_in rows (row_at rows u) u (before u) p)))
        by true k =
            let is : e.id ≡ u = sym (same_id u e.id k) in
            (row_stands_as rows fs u new (subst (λ x. IsOnly x e fs) is own_only) (subst (λ x. is_among_entries fs x ≡ true) is own_among) is fresh.shown suffix (before u) p h, tt)
        by false k = second k (same_place (before u) p)

    -- who stays where it was, stays as it was
    stays_of : (u : Uid) (r : Row) (there : row_at rows u ≡ Some r) (n : uid_eq u e.id ≡ false) → before u ≡ after u → StaysAs v w u
    stays_of u r there n h =
        let f : EntryFacts = r.entry in
        let id : f.id ≡ u = row_id rows tree ordered u r there in
        let here : is_among_entries es u ≡ true = row_among rows tree ordered u r there in
        record {
          present =
              stands_present fs u f (only_fs u r there n) (among_fs u r there n) id suffix
              ∙ ap (option_map (λ lost. record { id = u; parent = f.parent; name = f.rdn; shown = shown_with f lost; is_glue = not (is_live f); attrs = attrs_shown f })) (sym h)
              ∙ sym (stands_present es u f (only_es u r there n) here id suffix);
          gone =
              stands_gone fs u f (only_fs u r there n) (among_fs u r there n) id suffix
              ∙ ap (λ x. cond (is_some x) None (Some (record { id = u; parent = f.parent; name = f.rdn; attrs = attrs_shown f }))) (sym h)
              ∙ sym (stands_gone es u f (only_es u r there n) here id suffix);
        }

    stays_away : (u : Uid) → row_at rows u ≡ None → uid_eq u e.id ≡ false → StaysAs v w u
    stays_away u none n =
        let a = no_entry es u (no_row rows tree ordered u none) suffix in
        let b = no_entry fs u (no_fact e u es (other u n) (no_row rows tree ordered u none)) suffix in
        record { present = b.0 ∙ sym a.0; gone = b.1 ∙ sym a.1 }

    -- at most one, of this id
    form : (X : List Changed → Type 0) (u : Uid) (p : Option Bool) → X [] → ((c : Changed) → c.id ≡ u → X (c ∷ [])) → X (changes_of rows new (u, p))
    form X u p none one = by (uid_eq u e.id)
      where
        deeper : (o : Option Row) → X (changes_in rows o u (before u) p)
        deeper None = none
        deeper (Some r) = one (changed_as rows r u (before u) p) refl

        second : (b : Bool) → X (cond b [] (changes_in rows (row_at rows u) u (before u) p))
        second true = none
        second false = deeper (row_at rows u)

        by : (b : Bool) → X (cond b (changed_as rows new u (before u) p ∷ []) (cond (same_place (before u) p) [] (changes_in rows (row_at rows u) u (before u) p)))
        by true = one (changed_as rows new u (before u) p) refl
        by false = second (same_place (before u) p)

    -- who is listed
    abbrev IsRight : Uid → List Changed → Type 0
    IsRight u cs = (is_listed u cs ≡ true) ↔ ((u ≡ e.id) ⊎ Differs v w u)

    not_it : {G : Type 0} (u : Uid) → uid_eq u e.id ≡ false → u ≡ e.id → G
    not_it u n h = never (uid_eq u e.id) (ap (λ x. uid_eq x e.id) h ∙ own_id e.id) n

    nothing : (u : Uid) → uid_eq u e.id ≡ false → IsSame v w u → IsRight u []
    nothing u n s = ((λ h. let f : false ≡ true = h in cc), to)
      where
        to : (u ≡ e.id) ⊎ Differs v w u → false ≡ true
        to (inl h) = not_it u n h
        to (inr d) = absurd (d s)

    right : (u : Uid) (p : Option Bool) → p ≡ after u → IsRight u (changes_of rows new (u, p))
    right u p h = by (uid_eq u e.id) refl
      where
        deeper : uid_eq u e.id ≡ false → same_place (before u) p ≡ false → (o : Option Row) → row_at rows u ≡ o → IsRight u (changes_in rows o u (before u) p)
        deeper n d None k = nothing u n (unknown u k n)
        deeper n d (Some r) k = (
          (λ y. inr (λ s. never (same_place (before u) p) (ap (same_place (before u)) (h ∙ sym (place_of u r k n s)) ∙ itself (before u)) d)),
          (λ y. ap (λ b. b || false) (own_id u)),
        )

        stays : uid_eq u e.id ≡ false → before u ≡ after u → (o : Option Row) → row_at rows u ≡ o → IsRight u []
        stays n s None k = nothing u n (unknown u k n)
        stays n s (Some r) k = nothing u n (same_of u r k n s)

        second : uid_eq u e.id ≡ false → (b : Bool) → same_place (before u) p ≡ b → IsRight u (cond b [] (changes_in rows (row_at rows u) u (before u) p))
        second n true k = stays n (same_places (before u) p k ∙ h) (row_at rows u) refl
        second n false k = deeper n k (row_at rows u) refl

        by : (b : Bool) → uid_eq u e.id ≡ b → IsRight u (cond b (changed_as rows new u (before u) p ∷ []) (cond (same_place (before u) p) [] (changes_in rows (row_at rows u) u (before u) p)))
        by true k = ((λ y. inl (same_id u e.id k)), (λ y. ap (λ b. b || false) (own_id u)))
        by false k = second k (same_place (before u) p) refl

    -- an id among changes of others
    none_of : (u k : Uid) (p : Option Bool) → uid_eq k u ≡ false → is_listed u (changes_of rows new (k, p)) ≡ false
    none_of u k p n = form (λ cs. is_listed u cs ≡ false) k p refl (λ c h. ap (λ x. uid_eq x u || false) h ∙ ap (λ b. b || false) n)

    abbrev changes_all : List (Uid × Option Bool) → List Changed
    changes_all xs = flat_map (changes_of rows new) xs

    none_above : (u : Uid) (xs : List (Uid × Option Bool)) → AllByRecursion (λ (k : Uid). uid_cmp u k ≡ Less) (keys_of xs) → is_listed u (changes_all xs) ≡ false
    none_above u [] h = refl
    none_above u ((k, p) ∷ xs) h =
        listed_in u (changes_of rows new (k, p)) (changes_all xs)
        ∙ ap (λ b. b || is_listed u (changes_all xs)) (none_of u k p (ap is_eq (uid_total.antisymm k u ∙ ap ordering_reverse h.0)))
        ∙ none_above u xs h.1

    abbrev picked : Uid → Option (Option Bool) → Bool
    picked u None = false
    picked u (Some p) = is_listed u (changes_of rows new (u, p))

    either_none : (a b : Bool) → b ≡ false → (a || b) ≡ a
    either_none true b h = refl
    either_none false b h = h

    listed_at : (u : Uid) (xs : List (Uid × Option Bool)) → IsStrictlySortedBy uid_cmp (keys_of xs) → is_listed u (changes_all xs) ≡ picked u (lookup (is_at (uid_cmp u)) xs)
    listed_at u [] o = refl
    listed_at u ((k, p) ∷ xs) o =
        listed_in u (changes_of rows new (k, p)) (changes_all xs)
        ∙ split (uid_cmp u k)
        (λ h. aside (listed_at u xs (sorted_tail uid_cmp k (keys_of xs) o)) (ap is_eq (uid_total.antisymm k u ∙ ap ordering_reverse h)) ∙ ap (λ x. picked u (cond (is_eq x) (Some p) (lookup (is_at (uid_cmp u)) xs))) (sym h))
        (λ h. either_none (is_listed u (changes_of rows new (k, p))) (is_listed u (changes_all xs)) (subst (λ x. is_listed x (changes_all xs) ≡ false) (sym (uid_exact u k h)) (none_above k xs (sorted_head uid_cmp k (keys_of xs) o)))
        ∙ ap (λ x. is_listed u (changes_of rows new (x, p))) (sym (uid_exact u k h))
        ∙ ap (λ x. picked u (cond (is_eq x) (Some p) (lookup (is_at (uid_cmp u)) xs))) (sym h))
        (λ h. aside (listed_at u xs (sorted_tail uid_cmp k (keys_of xs) o)) (ap is_eq (uid_total.antisymm k u ∙ ap ordering_reverse h)) ∙ ap (λ x. picked u (cond (is_eq x) (Some p) (lookup (is_at (uid_cmp u)) xs))) (sym h))
      where
        aside : is_listed u (changes_all xs) ≡ picked u (lookup (is_at (uid_cmp u)) xs) → uid_eq k u ≡ false → (is_listed u (changes_of rows new (k, p)) || is_listed u (changes_all xs)) ≡ picked u (lookup (is_at (uid_cmp u)) xs)
        aside more n = ap (λ b. b || is_listed u (changes_all xs)) (none_of u k p n) ∙ more

    above_all : (k : Uid) (xs : List (Uid × Option Bool)) → AllByRecursion (λ (u : Uid). uid_cmp k u ≡ Less) (keys_of xs) → AllByRecursion (λ (c : Changed). uid_cmp k c.id ≡ Less) (changes_all xs)
    above_all k [] h = tt
    above_all k ((u, p) ∷ xs) h =
        all_both (λ (c : Changed). uid_cmp k c.id ≡ Less) (changes_of rows new (u, p)) (changes_all xs)
        (form (AllByRecursion (λ (c : Changed). uid_cmp k c.id ≡ Less)) u p tt (λ c e. (ap (uid_cmp k) e ∙ h.0, tt)))
        (above_all k xs h.1)

    rising : (xs : List (Uid × Option Bool)) → IsStrictlySortedBy uid_cmp (keys_of xs) → HasRisingChanges (changes_all xs)
    rising [] o = tt
    rising ((k, p) ∷ xs) o =
        form (λ cs. HasRisingChanges (cs ++ changes_all xs)) k p
        (rising xs (sorted_tail uid_cmp k (keys_of xs) o))
        (λ c h. (
          subst (λ x. AllByRecursion (λ (d : Changed). uid_cmp x d.id ≡ Less) (changes_all xs)) (sym h) (above_all k xs (sorted_head uid_cmp k (keys_of xs) o)),
          rising xs (sorted_tail uid_cmp k (keys_of xs) o),
        ))

    -- THE LIST
    module _ (places : BTreeMap Uid (Option Bool)) (sorted : HasOrderedKeys uid_cmp places) (told : (u : Uid) (p : Option Bool) → get uid_cmp places u ≡ Some p → p ≡ after u)
        (rest : (u : Uid) → uid_eq u e.id ≡ false → uid_eq u suffix_id ≡ false → get uid_cmp places u ≡ None → before u ≡ after u) (own : is_some (get uid_cmp places e.id) ≡ true) where
      unlisted : (u : Uid) → get uid_cmp places u ≡ None → uid_eq u e.id ≡ false → (o : Option Row) → row_at rows u ≡ o → IsSame v w u
      unlisted u none n None h = unknown u h n
      unlisted u none n (Some r) h = same_of u r h n (cases (uid_eq u suffix_id) (λ t. root_same u r h n t) (λ f. rest u n f none))

      exact : (u : Uid) → IsRight u (changes_all places.entries)
      exact u = by (get uid_cmp places u) refl
        where
          said : (o : Option (Option Bool)) → get uid_cmp places u ≡ o → is_listed u (changes_all places.entries) ≡ picked u o
          said o h = listed_at u places.entries sorted ∙ ap (picked u) h

          by : (o : Option (Option Bool)) → get uid_cmp places u ≡ o → IsRight u (changes_all places.entries)
          by None h =
              cases (uid_eq u e.id)
              (λ t. never (is_some (get uid_cmp places u)) (subst (λ x. is_some (get uid_cmp places x) ≡ true) (sym (same_id u e.id t)) own) (ap is_some h))
              (λ n. let r = nothing u n (unlisted u h n (row_at rows u) refl) in
              ((λ y. r.0 (sym (said None h) ∙ y)), (λ y. said None h ∙ r.1 y)))
          by (Some p) h = let r = right u p (told u p h) in ((λ y. r.0 (sym (said (Some p) h) ∙ y)), (λ y. said (Some p) h ∙ r.1 y))

      pub are_changes : AreChanges v w e.id (changes_all places.entries)
      are_changes = record {
        exact = exact;
        rises = rising places.entries sorted;
        told =
            all_flat (IsTold v w) (changes_of rows new) places.entries
            (all_entries (λ x. AllByRecursion (IsTold v w) (changes_of rows new x)) places.entries sorted (λ k p h. tells k p (told k p h)));
      }

      others : (u : Uid) → is_listed u (changes_all places.entries) ≡ false → StaysAs v w u
      others u = by (get uid_cmp places u) refl
        where
          none : (u : Uid) → get uid_cmp places u ≡ None → uid_eq u e.id ≡ false → (o : Option Row) → row_at rows u ≡ o → StaysAs v w u
          none u h n None k = stays_away u k n
          none u h n (Some r) k = stays_of u r k n (cases (uid_eq u suffix_id) (λ t. root_same u r k n t) (λ f. rest u n f h))

          some : (p : Option Bool) → p ≡ after u → is_listed u (changes_of rows new (u, p)) ≡ false → StaysAs v w u
          some p h l = first (uid_eq u e.id) refl l
            where
              deeper : uid_eq u e.id ≡ false → (o : Option Row) → row_at rows u ≡ o → is_listed u (changes_in rows o u (before u) p) ≡ false → StaysAs v w u
              deeper n None k g = stays_away u k n
              deeper n (Some r) k g = never (is_listed u (changes_in rows (Some r) u (before u) p)) (ap (λ b. b || false) (own_id u)) g

              stay : uid_eq u e.id ≡ false → before u ≡ after u → (o : Option Row) → row_at rows u ≡ o → StaysAs v w u
              stay n s None k = stays_away u k n
              stay n s (Some r) k = stays_of u r k n s

              second : uid_eq u e.id ≡ false → (b : Bool) → same_place (before u) p ≡ b → is_listed u (cond b [] (changes_in rows (row_at rows u) u (before u) p)) ≡ false → StaysAs v w u
              second n true k g = stay n (same_places (before u) p k ∙ h) (row_at rows u) refl
              second n false k g = deeper n (row_at rows u) refl g

              first : (b : Bool) → uid_eq u e.id ≡ b → is_listed u (cond b (changed_as rows new u (before u) p ∷ []) (cond (same_place (before u) p) [] (changes_in rows (row_at rows u) u (before u) p))) ≡ false → StaysAs v w u
              first true k g = never (is_listed u (changed_as rows new u (before u) p ∷ [])) (ap (λ b. b || false) (own_id u)) g
              first false k g = second k (same_place (before u) p) refl g

          by : (o : Option (Option Bool)) → get uid_cmp places u ≡ o → is_listed u (changes_all places.entries) ≡ false → StaysAs v w u
          by None h l =
              cases (uid_eq u e.id)
              (λ t. never (is_some (get uid_cmp places u)) (subst (λ x. is_some (get uid_cmp places x) ≡ true) (sym (same_id u e.id t)) own) (ap is_some h))
              (λ n. none u h n (row_at rows u) refl)
          by (Some p) h l = some p (told u p h) (sym (listed_at u places.entries sorted ∙ ap (picked u) h) ∙ l)

      pub is_move : IsViewMove v w (changes_all places.entries)
      is_move = record {
        suffix = refl;
        present = view_present_rises suffix fs rises;
        gone = view_gone_rises suffix fs rises;
        told =
            all_flat (StandsAs w) (changes_of rows new) places.entries
            (all_entries (λ x. AllByRecursion (StandsAs w) (changes_of rows new x)) places.entries sorted (λ k p h. stand k p (told k p h)));
        others = others;
      }

  -- the places that steps lead to, with that of the target
  module _ (ss : List Step) (leads : stepped ss (children_in rows) ≡ children_of_facts fs) (child : (ss ≡ []) ⊎ (uid_eq e.id suffix_id ≡ false)) (found with_own : BTreeMap Uid (Option Bool)) (target : Uid) (is : target ≡ e.id)
      (placed : ArePlaces (stepped ss (children_in rows)) found) (rest : LeavesRest (children_in rows) (stepped ss (children_in rows)) found)
      (more : (ds : List Child) → (uid_eq target suffix_id ≡ true → place_in (children_in rows) target ≡ place_in ds target) → LeavesRest (children_in rows) ds found → ArePlaces ds found → ArePlaces ds with_own)
      (keeps : KeepsPlaces found with_own) (own : is_some (get uid_cmp with_own target) ≡ true) where
    root_stays : uid_eq target suffix_id ≡ true → place_in (children_in rows) target ≡ place_in (stepped ss (children_in rows)) target
    root_stays t = (elim child [
      | inl h ↦ ap (λ (ts : List Step). place_in (stepped ts (children_in rows)) target) (sym h)
      | inr f ↦ never (uid_eq target suffix_id) t (ap (λ u. uid_eq u suffix_id) is ∙ f)
    ])

    less_places : (u : Uid) → get uid_cmp with_own u ≡ None → get uid_cmp found u ≡ None
    less_places u h = by (get uid_cmp found u) refl
      where
        by : (o : Option (Option Bool)) → get uid_cmp found u ≡ o → o ≡ None
        by None k = refl
        by (Some p) k = never (is_some (get uid_cmp with_own u)) (keeps u (ap is_some k)) (ap is_some h)

    pub placed_changes : (suffix : List ℕ) → (sorted : HasOrderedKeys uid_cmp with_own) → AreChanges (view_of_facts suffix es) (view_of_facts suffix fs) e.id (flat_map (changes_of rows new) with_own.entries)
    placed_changes suffix sorted =
        are_changes suffix with_own sorted
        (λ u p h. more (stepped ss (children_in rows)) root_stays rest placed u p h ∙ ap (λ ds. place_in ds u) leads)
        (λ u n r none. rest u r (less_places u none) ∙ ap (λ ds. place_in ds u) leads)
        (subst (λ u. is_some (get uid_cmp with_own u) ≡ true) is own)

    pub placed_moves : (suffix : List ℕ) → (sorted : HasOrderedKeys uid_cmp with_own) → IsViewMove (view_of_facts suffix es) (view_of_facts suffix fs) (flat_map (changes_of rows new) with_own.entries)
    placed_moves suffix sorted =
        is_move suffix with_own sorted
        (λ u p h. more (stepped ss (children_in rows)) root_stays rest placed u p h ∙ ap (λ ds. place_in ds u) leads)
        (λ u n r none. rest u r (less_places u none) ∙ ap (λ ds. place_in ds u) leads)
        (subst (λ u. is_some (get uid_cmp with_own u) ≡ true) is own)

-- ALL ENTRIES, as their rows tell them
module _ (rows : BTreeMap Uid (Option Row)) (tree : IsTree rows None []) (ordered : HasOrderedKeys uid_cmp rows) (suffix : List ℕ) where
  abbrev whole : List EntryFacts
  whole = facts_in rows.entries

  seats_stand : (xs : List (Uid × Option Row)) → IsStrictlySortedBy uid_cmp (keys_of xs) → ((u : Uid) (o : Option Row) → lookup (is_at (uid_cmp u)) xs ≡ Some o → row_at rows u ≡ o) → AllByRecursion (StandsAs (view_of_facts suffix whole)) (flat_map (told_seat rows) xs)
  seats_stand [] o f = tt
  seats_stand ((k, seat) ∷ xs) o f =
      all_both (StandsAs (view_of_facts suffix whole)) (told_seat rows (k, seat)) (flat_map (told_seat rows) xs)
      (by seat (f k seat (ap (λ b. cond b (Some seat) (lookup (is_at (uid_cmp k)) xs)) (own_id k))))
      (seats_stand xs (sorted_tail uid_cmp k (keys_of xs) o) (λ u p h. f u p (seat_later u p h)))
    where
      by : (s : Option Row) → row_at rows k ≡ s → AllByRecursion (StandsAs (view_of_facts suffix whole)) (changes_in rows s k None (place_in (children_in rows) k))
      by None h = tt
      by (Some r) h = (row_stands_as rows whole k r (only rows tree ordered k r h) (row_among rows tree ordered k r h) (row_id rows tree ordered k r h) (kept rows tree ordered k r h).shown suffix None (place_in (children_in rows) k) refl, tt)

      no_later : (u : Uid) (ys : List (Uid × Option Row)) → AllByRecursion (λ (v : Uid). uid_cmp u v ≡ Less) (keys_of ys) → lookup (is_at (uid_cmp u)) ys ≡ None
      no_later u [] h = refl
      no_later u (y ∷ ys) h = ap (λ o. cond (is_eq o) (Some y.1) (lookup (is_at (uid_cmp u)) ys)) h.0 ∙ no_later u ys h.1

      seat_later : (u : Uid) (p : Option Row) → lookup (is_at (uid_cmp u)) xs ≡ Some p → lookup (is_at (uid_cmp u)) ((k, seat) ∷ xs) ≡ Some p
      seat_later u p h =
          split (uid_cmp u k)
          (λ c. ap (λ x. cond (is_eq x) (Some seat) (lookup (is_at (uid_cmp u)) xs)) c ∙ h)
          (λ c. let g : ◌≡◌ {A = Option (Option Row)} None (Some p) = sym (subst (λ v. lookup (is_at (uid_cmp v)) xs ≡ None) (sym (uid_exact u k c)) (no_later k xs (sorted_head uid_cmp k (keys_of xs) o))) ∙ h in cc)
          (λ c. ap (λ x. cond (is_eq x) (Some seat) (lookup (is_at (uid_cmp u)) xs)) c ∙ h)

  listed_seat : (u : Uid) (r : Row) (xs : List (Uid × Option Row)) → lookup (is_at (uid_cmp u)) xs ≡ Some (Some r) → is_listed u (flat_map (told_seat rows) xs) ≡ true
  listed_seat u r [] h = let e : ◌≡◌ {A = Option (Option Row)} None (Some (Some r)) = h in cc
  listed_seat u r ((k, seat) ∷ xs) h = listed_in u (told_seat rows (k, seat)) (flat_map (told_seat rows) xs) ∙ by (is_eq (uid_cmp u k)) refl h (listed_seat u r xs)
    where
      later : (a b : Bool) → b ≡ true → (a || b) ≡ true
      later true b e = refl
      later false b e = e

      here : (s : Option Row) → Some s ≡ Some (Some r) → u ≡ k → (is_listed u (changes_in rows s k None (place_in (children_in rows) k)) || is_listed u (flat_map (told_seat rows) xs)) ≡ true
      here None e is = let g : ◌≡◌ {A = Option Row} None (Some r) = (let q : Some None ≡ Some (Some r) = e in cc) in cc
      here (Some t) e is = ap (λ b. (b || false) || is_listed u (flat_map (told_seat rows) xs)) (ap (λ w. uid_eq w u) (sym is) ∙ own_id u)

      by : (b : Bool) → is_eq (uid_cmp u k) ≡ b → cond b (Some seat) (lookup (is_at (uid_cmp u)) xs) ≡ Some (Some r) → (lookup (is_at (uid_cmp u)) xs ≡ Some (Some r) → is_listed u (flat_map (told_seat rows) xs) ≡ true) → (is_listed u (told_seat rows (k, seat)) || is_listed u (flat_map (told_seat rows) xs)) ≡ true
      by true e g more = here seat g (same_id u k e)
      by false e g more = later (is_listed u (told_seat rows (k, seat))) (is_listed u (flat_map (told_seat rows) xs)) (more g)

  all_others : (u : Uid) → is_listed u (flat_map (told_seat rows) rows.entries) ≡ false → StaysAs (empty_view suffix) (view_of_facts suffix whole) u
  all_others u l = by (get uid_cmp rows u) refl
    where
      away : row_at rows u ≡ None → StaysAs (empty_view suffix) (view_of_facts suffix whole) u
      away h = let a = no_entry whole u (no_row rows tree ordered u h) suffix in record { present = a.0; gone = a.1 }

      by : (o : Option (Option Row)) → get uid_cmp rows u ≡ o → StaysAs (empty_view suffix) (view_of_facts suffix whole) u
      by None h = away (ap taken h)
      by (Some None) h = away (ap taken h)
      by (Some (Some r)) h = never (is_listed u (flat_map (told_seat rows) rows.entries)) (listed_seat u r rows.entries h) l

  pub all_told_move : IsViewMove (empty_view suffix) (view_of_facts suffix whole) (flat_map (told_seat rows) rows.entries)
  all_told_move = record {
    suffix = refl;
    present = view_present_rises suffix whole tree.rises;
    gone = view_gone_rises suffix whole tree.rises;
    told = seats_stand rows.entries ordered (λ u o h. ap taken h);
    others = all_others;
  }

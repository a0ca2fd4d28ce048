-- The view after an add is the plain effect on the view before.
use Rattle.std.proofs.Common.{◌≡◌, ◌<◌, Bool, true, false, ◌||◌, List, [], ◌∷◌, ◌++◌, map, refl, sym, ap, ◌∙◌, Option, Some, None}
use Rattle.std.specs.Prelude.{not, ◌&&◌, filter, is_some}
use Rattle.std.specs.List.{AllByRecursion, list_any, list_all}
use Rattle.std.specs.declared.cmp.Ordering.TheVariants.{Greater}
use Rattle.std.specs.Ordering.{is_eq}
use Rattle.std.proofs.lemmas.Cmp.{tied_itself}
use Rattle.repl_data.specs.declared.csn.Csn.{Csn}
use Rattle.repl_data.specs.declared.csn.Uid.{Uid}
use Rattle.repl_data.specs.declared.change.Attr.{Attr}
use Rattle.repl_data.specs.declared.change.Rdn.{Rdn}
use Rattle.repl_data.specs.declared.change.Suffix.{Suffix}
use Rattle.repl_data.specs.declared.change.Change.{Change}
use Rattle.repl_data.specs.Order.{csn_lt, uid_cmp, uid_eq, suffix_id, same_rdn, rdn_key, stamp}
use Rattle.repl_data.specs.Closed.{is_sound}
use Rattle.repl_data.specs.Facts.{EntryFacts, all_facts, attrs_shown}
use Rattle.repl_data.specs.Presence.{is_live, is_child, present_of, gone_of, is_among_entries}
use Rattle.repl_data.specs.Names.{contends_with, is_before, shown_rdn}
use Rattle.repl_data.specs.View.{PresentEntry, Tombstone, child_of, view_of, view_of_facts}
use Rattle.repl_data.specs.Plain.{plain_add}
use Rattle.repl_data.proofs.ClosedLaws.{all_facts-Rises}
use Rattle.repl_data.proofs.Orders.{csn_total, uid_exact, rdn_key_total}
use Rattle.repl_data.proofs.InOrder.{is_equal}
use Rattle.repl_data.proofs.Raised.{map-append}
use Rattle.repl_data.proofs.Sound.{not_both, both_true, neither}
use Rattle.ldap_rules.specs.Laws.{has_entry}
use Rattle.ldap_rules.specs.Ordered.{Rises, attr_name}
use Rattle.ldap_rules.proofs.Goods.{IsGood}
use Rattle.repl_data.proofs.Loops.{all_map, all_mono}
use Rattle.repl_data.proofs.Bools.{and_false}
use Rattle.repl_data.proofs.Paths.{all_present}
use Rattle.plain_effect.specs.Above.{IsAbove}
use Rattle.plain_effect.proofs.Shown.{HasFew, acts_show}
use Rattle.plain_effect.proofs.Present.{put_last, map_all, present_keeps, present_more, gone_more, name_stays, name_new}
use Rattle.plain_effect.proofs.Holder.{contends_for, contender_too, none_before_itself, entry_of_facts, nobody_contends}
use Rattle.plain_effect.proofs.Added.{greater, not_suffix, adding, new_facts, IsOlder, entries_after, entries_below, entries_older, parent_present}

abbrev gone_entry : EntryFacts → Tombstone
gone_entry e = record { id = e.id; parent = e.parent; name = e.rdn; attrs = attrs_shown e }

-- ---- the new entry does not change what the others show

-- an older entry that contends with the new one is a child that contends for its name, or is not behind it
older_stays : (c : Csn) (f e : EntryFacts) (p : Uid) (rdn : Rdn) → f.named ≡ c → f.parent ≡ p → f.rdn ≡ rdn → is_live f ≡ true → IsOlder c e → contends_for p rdn e ≡ false → (contends_with e f && is_before f e) ≡ false
older_stays c f e p rdn named parent rd live o none = by (contends_with e f) refl
  where
    key_of : same_rdn e.rdn f.rdn ≡ same_rdn e.rdn rdn
    key_of = ap (same_rdn e.rdn) rd

    root : uid_eq e.id suffix_id ≡ true → is_before f e ≡ false
    root r = (λ i. (live i && not (o.root r i)) || ((live i || not (o.root r i)) && csn_lt (named i) e.named)) ∙ o.named

    child : uid_eq e.id suffix_id ≡ false → contends_with e f ≡ true → ⊥
    child n k =
        let k' = both_true (is_child e.parent f) (same_rdn e.rdn f.rdn) k in
        let at : f.parent ≡ e.parent = uid_exact f.parent e.parent (is_equal _ (both_true (uid_eq f.parent e.parent) (not (uid_eq f.id suffix_id)) k'.0).0) in
        let same : uid_eq e.parent p ≡ true = ap (λ w. uid_eq w p) (sym at ∙ parent) ∙ itself p in
        not_both (contends_for p rdn e) ((λ i. (same i && not (n i)) && (sym key_of ∙ k'.1) i)) none
      where
        itself : (w : Uid) → uid_eq w w ≡ true
        itself w = ap is_eq (tied_itself csn_total w.csn)

    by : (b : Bool) → contends_with e f ≡ b → (contends_with e f && is_before f e) ≡ false
    by false k = ap (λ b. b && is_before f e) k
    by true k = ap (λ b. b && is_before f e) k ∙ at (uid_eq e.id suffix_id) refl
      where
        at : (b : Bool) → uid_eq e.id suffix_id ≡ b → is_before f e ≡ false
        at true r = root r
        at false n = absurd (child n k)

each_stays : (c : Csn) (f : EntryFacts) (p : Uid) (rdn : Rdn) (present es : List EntryFacts) → f.named ≡ c → f.parent ≡ p → f.rdn ≡ rdn → is_live f ≡ true → AllByRecursion (IsOlder c) es → list_any (contends_for p rdn) es ≡ false
    → AllByRecursion (λ e. entry_of_facts (present ++ f ∷ []) e ≡ entry_of_facts present e) es
each_stays c f p rdn present [] named parent rd live o none = tt
each_stays c f p rdn present (e ∷ es) named parent rd live o none =
    let none' = neither (contends_for p rdn e) (list_any (contends_for p rdn) es) none in (
      ap (λ r. record { id = e.id; parent = e.parent; name = e.rdn; shown = r; is_glue = not (is_live e); attrs = attrs_shown e }) (name_stays present f e (older_stays c f e p rdn named parent rd live o.0 none'.0)),
      each_stays c f p rdn present es named parent rd live o.1 none'.1,
    )

-- no present entry contends with the new one
none_contends : (f : EntryFacts) (p : Uid) (rdn : Rdn) (es : List EntryFacts) → contends_for p rdn f ≡ true → list_any (contends_for p rdn) es ≡ false → list_any (λ g. contends_with f g && is_before g f) es ≡ false
none_contends f p rdn [] h none = refl
none_contends f p rdn (g ∷ es) h none =
    let none' = neither (contends_for p rdn g) (list_any (contends_for p rdn) es) none in
    ap (λ b. (b && is_before g f) || list_any (λ x. contends_with f x && is_before x f) es) (by (contends_with f g) refl none'.0)
    ∙ none_contends f p rdn es h none'.1
  where
    by : (b : Bool) → contends_with f g ≡ b → contends_for p rdn g ≡ false → contends_with f g ≡ false
    by true k n = absurd (not_both (contends_for p rdn g) (contender_too p rdn f g h k) n)
    by false k n = k

none_is : (o : Option Uid) → is_some o ≡ false → o ≡ None
none_is None h = refl
none_is (Some u) h = absurd (not_both true refl h)

module _ (suffix : Suffix) (xs : List Change) (c : Csn) (u parent : Uid) (rdn : Rdn) (attrs : List Attr)
    (own : u.csn ≡ c) (r : 0 < c.rid) (s : list_all is_sound xs ≡ true) (a : IsAbove c xs)
    (there : has_entry (view_of suffix xs) parent ≡ true) (free : is_some (child_of (view_of suffix xs) parent rdn) ≡ false)
    (rises : Rises attr_name attrs) (good : AllByRecursion IsGood attrs) (few : AllByRecursion HasFew attrs) where
  abbrev es : List EntryFacts
  es = all_facts suffix xs

  abbrev f : EntryFacts
  f = new_facts c u parent rdn attrs

  abbrev present : List EntryFacts
  present = present_of es

  live : is_live f ≡ true
  live = ap is_eq (tied_itself csn_total f.dead)

  apart : uid_eq u suffix_id ≡ false
  apart = not_suffix c u own r

  after : all_facts suffix (xs ++ adding c u parent rdn attrs ∷ []) ≡ es ++ f ∷ []
  after = entries_after suffix xs c u parent rdn attrs own r s a

  present_after : present_of (es ++ f ∷ []) ≡ present ++ f ∷ []
  present_after = present_more es f live (present_keeps parent es (all_facts-Rises suffix xs) (parent_present suffix c xs parent s a there))

  nobody : list_any (contends_for parent rdn) present ≡ false
  nobody = nobody_contends parent rdn present (none_is (child_of (view_of suffix xs) parent rdn) free)

  shown_new : entry_of_facts (present ++ f ∷ []) f ≡ record { id = u; parent = parent; name = rdn; shown = rdn; is_glue = false; attrs = attrs }
  shown_new = λ i. record { id = u; parent = parent; name = rdn; shown = name i; is_glue = not (live i); attrs = acts_show (stamp c 0) rdn attrs rises good few i }
    where
      contends : contends_for parent rdn f ≡ true
      contends = (λ i. (own_parent i && not (apart i)) && own_name i)
        where
          own_parent : uid_eq parent parent ≡ true
          own_parent = ap is_eq (tied_itself csn_total parent.csn)

          own_name : same_rdn rdn rdn ≡ true
          own_name = ap is_eq (tied_itself rdn_key_total (rdn_key rdn))

      name : shown_rdn (present ++ f ∷ []) f ≡ rdn
      name = name_new present f (none_contends f parent rdn present contends nobody) (ap (λ b. contends_with f f && b) (none_before_itself f) ∙ and_false (contends_with f f))

  differ : AllByRecursion (λ e. uid_eq f.id e.id ≡ false) es
  differ = all_mono (λ (e : EntryFacts). csn_lt e.id.csn c ≡ true) (λ (e : EntryFacts). uid_eq u e.id ≡ false) (λ e l. ap is_eq (greater c u e.id own l)) es (entries_below suffix xs c r s a)

  greatest_id : AllByRecursion (λ (e : PresentEntry). uid_cmp u e.id ≡ Greater) (view_of suffix xs).present
  greatest_id =
      all_map (λ (e : PresentEntry). uid_cmp u e.id ≡ Greater) (entry_of_facts present) present
      (all_present (λ (e : EntryFacts). uid_cmp u e.id ≡ Greater) es
      (all_mono (λ (e : EntryFacts). csn_lt e.id.csn c ≡ true) (λ (e : EntryFacts). uid_cmp u e.id ≡ Greater) (λ e l. greater c u e.id own l) es (entries_below suffix xs c r s a)))

  shown_after : map (entry_of_facts (present ++ f ∷ [])) (present ++ f ∷ []) ≡ (view_of suffix xs).present ++ record { id = u; parent = parent; name = rdn; shown = rdn; is_glue = false; attrs = attrs } ∷ []
  shown_after =
      map-append (entry_of_facts (present ++ f ∷ [])) present (f ∷ [])
      ∙ (λ i. map_all (entry_of_facts (present ++ f ∷ [])) (entry_of_facts present) present
      (each_stays c f parent rdn present present refl refl refl live (all_present (IsOlder c) es (entries_older suffix c xs s a)) nobody) i
      ++ shown_new i ∷ [])

  added : plain_add (view_of suffix xs) u parent rdn attrs ≡ view_of suffix (xs ++ adding c u parent rdn attrs ∷ [])
  added =
      let one : PresentEntry = record { id = u; parent = parent; name = rdn; shown = rdn; is_glue = false; attrs = attrs } in
      (λ i. record { suffix = suffix.name; present = put_last (λ (e : PresentEntry). e.id) one (view_of suffix xs).present greatest_id i; gone = map gone_entry (gone_of es) })
      ∙ sym ((λ i. view_of_facts suffix.name (after i))
      ∙ (λ i. record {
        suffix = suffix.name;
        present = map (entry_of_facts (present_after i)) (present_after i);
        gone = map gone_entry (filter (λ (e : EntryFacts). not (is_among_entries (present_after i) e.id)) (es ++ f ∷ []));
      })
      ∙ (λ i. record { suffix = suffix.name; present = shown_after i; gone = map gone_entry (gone_more present es f differ i) }))

-- AN ADD ABOVE ALL CHANGES adds its entry to the view, and changes nothing else
pub add_effect : (suffix : Suffix) (xs : List Change) (c : Csn) (u parent : Uid) (rdn : Rdn) (attrs : List Attr)
    → u.csn ≡ c → 0 < c.rid → list_all is_sound xs ≡ true → IsAbove c xs
    → has_entry (view_of suffix xs) parent ≡ true → is_some (child_of (view_of suffix xs) parent rdn) ≡ false
    → Rises attr_name attrs → AllByRecursion IsGood attrs → AllByRecursion HasFew attrs
    → plain_add (view_of suffix xs) u parent rdn attrs ≡ view_of suffix (xs ++ adding c u parent rdn attrs ∷ [])
add_effect suffix xs c u parent rdn attrs own r s a there free rises good few = added suffix xs c u parent rdn attrs own r s a there free rises good few

-- What a modify changes of a view: the values of its entry, and nothing else.
use Rattle.std.proofs.Common.{◌≡◌, ◌≢◌, Bool, true, false, cond, not, ◌||◌, List, [], ◌∷◌, ◌++◌, map, refl, sym, ap, subst, ◌∙◌, append-nil}
use Rattle.std.specs.Prelude.{◌&&◌, filter, if◌then◌else◌}
use Rattle.std.specs.List.{AllByRecursion, list_any}
use Rattle.std.specs.declared.cmp.Ordering.TheVariants.{Less, Equal, Greater}
use Rattle.std.proofs.lemmas.Cmp.{tied_itself}
use Rattle.repl_data.specs.declared.csn.Csn.{Csn}
use Rattle.repl_data.specs.declared.csn.Uid.{Uid}
use Rattle.repl_data.specs.declared.change.Mod.{Mod}
use Rattle.repl_data.specs.declared.change.Body.TheVariants.{Mod as ModifyEntry}
use Rattle.repl_data.specs.declared.change.Change.{Change}
use Rattle.repl_data.specs.declared.change.Suffix.{Suffix}
use Rattle.repl_data.specs.Order.{uid_cmp, uid_eq, suffix_id, in_order}
use Rattle.repl_data.specs.Closed.{is_sound}
use Rattle.repl_data.specs.Stamps.{mods_acts, of_entry}
use Rattle.repl_data.specs.Facts.{AttrFacts, EntryFacts, own_facts, entry_facts, added_ids, ids_known, all_facts, attrs_shown}
use Rattle.repl_data.specs.Presence.{is_live, is_child, present_of, is_among_entries, gone_of}
use Rattle.repl_data.specs.Names.{contends_with, is_before, with_id, shown_rdn}
use Rattle.repl_data.specs.declared.change.Attr.{Attr}
use Rattle.repl_data.specs.View.{PresentEntry, Tombstone, view_of_facts, view_of}
use Rattle.repl_data.proofs.Known.{any_map, own_id}
use Rattle.repl_data.proofs.OneChange.{raised_by, own_facts-append}
use Rattle.repl_data.proofs.Orders.{uid_total, uid_exact, split}
use Rattle.repl_data.proofs.InOrder.{is_equal}
use Rattle.repl_data.proofs.SameView.{map_both}
use Rattle.repl_data.proofs.Sound.{not_both, not_true}
use Rattle.plain_effect.proofs.Holder.{entry_of_facts}
use Rattle.repl_data.proofs.Steps.{flat_map-append, not_equal, entry_facts-other, entry_facts-own}
use Rattle.repl_data.proofs.Raised.{map_through}

abbrev pub modifying : Csn → Uid → List Mod → Change
modifying c u mods = record { csn = c; target = u; body = ModifyEntry mods }

-- the values after the modifications
abbrev pub moved : Csn → List Mod → List AttrFacts → List AttrFacts
moved c mods attrs = raised_by attrs (mods_acts c 1 mods)

-- an entry with other values, if it is this one
abbrev touch : Uid → (List AttrFacts → List AttrFacts) → EntryFacts → EntryFacts
touch u f e = record e { attrs = if uid_eq e.id u then f e.attrs else e.attrs }

other_id : (u w : Uid) → uid_cmp u w ≢ Equal → uid_eq w u ≡ false
other_id u w n = not_equal (uid_cmp w u) (λ e. n (subst (λ x. uid_cmp u x ≡ Equal) (sym (uid_exact w u e)) (tied_itself uid_total u)))

-- ---- the entries

module _ (suffix : Suffix) (xs : List Change) (c : Csn) (u : Uid) (mods : List Mod) (sound : is_sound (modifying c u mods) ≡ true) where
  one_entry : (w : Uid) → entry_facts suffix (xs ++ modifying c u mods ∷ []) w ≡ touch u (moved c mods) (entry_facts suffix xs w)
  one_entry w = split (uid_cmp u w) (λ l. other (λ e. let n : Less ≡ Equal = sym l ∙ e in cc)) own (λ g. other (λ e. let n : Greater ≡ Equal = sym g ∙ e in cc))
    where
      before : EntryFacts
      before = entry_facts suffix xs w

      other : uid_cmp u w ≢ Equal → entry_facts suffix (xs ++ modifying c u mods ∷ []) w ≡ touch u (moved c mods) (entry_facts suffix xs w)
      other n =
          entry_facts-other suffix xs (modifying c u mods) w n
          ∙ ap (λ (b : Bool). record (entry_facts suffix xs w) { attrs = if b then moved c mods (entry_facts suffix xs w).attrs else (entry_facts suffix xs w).attrs }) (sym (other_id u w n))

      target : entry_facts suffix (xs ++ modifying c u mods ∷ []) u ≡ touch u (moved c mods) (entry_facts suffix xs u)
      target =
          entry_facts-own suffix xs (modifying c u mods)
          ∙ own_facts-append suffix u (of_entry xs u) (modifying c u mods) sound refl
          ∙ ap (λ (b : Bool). record (entry_facts suffix xs u) { attrs = if b then moved c mods (entry_facts suffix xs u).attrs else (entry_facts suffix xs u).attrs }) (sym (own_id u))

      own : uid_cmp u w ≡ Equal → entry_facts suffix (xs ++ modifying c u mods ∷ []) w ≡ touch u (moved c mods) (entry_facts suffix xs w)
      own e = subst (λ x. entry_facts suffix (xs ++ modifying c u mods ∷ []) x ≡ touch u (moved c mods) (entry_facts suffix xs x)) (uid_exact u w e) target

  entries_after : all_facts suffix (xs ++ modifying c u mods ∷ []) ≡ map (touch u (moved c mods)) (all_facts suffix xs)
  entries_after =
      let ids : added_ids (xs ++ modifying c u mods ∷ []) ≡ added_ids xs = flat_map-append _ xs (modifying c u mods ∷ []) ∙ append-nil (added_ids xs) in
      map_both (entry_facts suffix (xs ++ modifying c u mods ∷ [])) (λ w. touch u (moved c mods) (entry_facts suffix xs w)) (ids_known (xs ++ modifying c u mods ∷ [])) (ids_known xs) one_entry (ap (λ us. in_order uid_cmp (suffix_id ∷ us)) ids)
      ∙ map_through (λ w. touch u (moved c mods) (entry_facts suffix xs w)) (touch u (moved c mods)) (entry_facts suffix xs) (λ w. refl) (ids_known xs)

-- ---- who is present

module _ (u : Uid) (f : List AttrFacts → List AttrFacts) where
  abbrev t : EntryFacts → EntryFacts
  t = touch u f

  kept_if : (b : Bool) (e : EntryFacts) (p : List EntryFacts) → (if b then t e ∷ map t p else map t p) ≡ map t (if b then e ∷ p else p)
  kept_if true e p = refl
  kept_if false e p = refl

  present_touched : (es : List EntryFacts) → present_of (map t es) ≡ map t (present_of es)
  present_touched [] = refl
  present_touched (e ∷ es) =
      (λ i. if is_live e || list_any (is_child e.id) (present_touched es i) then t e ∷ present_touched es i else present_touched es i)
      ∙ ap (λ (b : Bool). if is_live e || b then t e ∷ map t (present_of es) else map t (present_of es)) (any_map (is_child e.id) t (present_of es))
      ∙ kept_if (is_live e || list_any (is_child e.id) (present_of es)) e (present_of es)

  among_touched : (p : List EntryFacts) (w : Uid) → is_among_entries (map t p) w ≡ is_among_entries p w
  among_touched p w = any_map (λ (e : EntryFacts). uid_eq e.id w) t p

  filter_touched : (p q : List EntryFacts) → ((w : Uid) → is_among_entries q w ≡ is_among_entries p w) → (es : List EntryFacts) → filter (λ (e : EntryFacts). not (is_among_entries q e.id)) (map t es) ≡ map t (filter (λ (e : EntryFacts). not (is_among_entries p e.id)) es)
  filter_touched p q h [] = refl
  filter_touched p q h (e ∷ es) =
      (λ i. cond (not (h e.id i)) (t e ∷ filter_touched p q h es i) (filter_touched p q h es i))
      ∙ kept_if (not (is_among_entries p e.id)) e (filter (λ (e : EntryFacts). not (is_among_entries p e.id)) es)

  gone_touched : (es : List EntryFacts) → gone_of (map t es) ≡ map t (gone_of es)
  gone_touched es = filter_touched (present_of es) (present_of (map t es)) (λ w. ap (λ p. is_among_entries p w) (present_touched es) ∙ among_touched (present_of es) w) es

  name_touched : (p : List EntryFacts) (e : EntryFacts) → shown_rdn (map t p) (t e) ≡ shown_rdn p e
  name_touched p e = ap (λ (b : Bool). if not b then e.rdn else with_id e.id e.rdn) (any_map (λ (x : EntryFacts). contends_with (t e) x && is_before x (t e)) t p)

  -- the values that its entry shows after it are g of those before
  module _ (g : List Attr → List Attr) where
    abbrev pub ShowsSo : EntryFacts → Type 0
    ShowsSo e = uid_eq e.id u ≡ true → attrs_shown (record e { attrs = f e.attrs }) ≡ g (attrs_shown e)

    abbrev pub change : PresentEntry → PresentEntry
    change e = if uid_eq e.id u then record e { attrs = g e.attrs } else e

    one_shown : (p : List EntryFacts) (e : EntryFacts) → ShowsSo e → entry_of_facts (map t p) (t e) ≡ change (entry_of_facts p e)
    one_shown p e h = by (uid_eq e.id u) h
      where
        by : (b : Bool) → (b ≡ true → attrs_shown (record e { attrs = f e.attrs }) ≡ g (attrs_shown e))
            → ◌≡◌ {A = PresentEntry} (record { id = e.id; parent = e.parent; name = e.rdn; shown = shown_rdn (map t p) (t e); is_glue = not (is_live e); attrs = attrs_shown (record e { attrs = if b then f e.attrs else e.attrs }) })
            (if b then record (entry_of_facts p e) { attrs = g (attrs_shown e) } else entry_of_facts p e)
        by true k = λ i. record { id = e.id; parent = e.parent; name = e.rdn; shown = name_touched p e i; is_glue = not (is_live e); attrs = k refl i }
        by false k = λ i. record { id = e.id; parent = e.parent; name = e.rdn; shown = name_touched p e i; is_glue = not (is_live e); attrs = attrs_shown e }

    all_shown : (p es : List EntryFacts) → AllByRecursion ShowsSo es → map (entry_of_facts (map t p)) (map t es) ≡ map change (map (entry_of_facts p) es)
    all_shown p [] h = refl
    all_shown p (e ∷ es) h = λ i. one_shown p e h.0 i ∷ all_shown p es h.1 i

abbrev gone_entry : EntryFacts → Tombstone
gone_entry e = record { id = e.id; parent = e.parent; name = e.rdn; attrs = attrs_shown e }

gone_stays : (u : Uid) (f : List AttrFacts → List AttrFacts) (es : List EntryFacts) → AllByRecursion (λ (e : EntryFacts). uid_eq e.id u ≡ false) es → map gone_entry (map (touch u f) es) ≡ map gone_entry es
gone_stays u f [] h = refl
gone_stays u f (e ∷ es) h =
    λ i. gone_entry (record e { attrs = if h.0 i then f e.attrs else e.attrs }) ∷ gone_stays u f es h.1 i

others_gone : (u : Uid) (p es : List EntryFacts) → is_among_entries p u ≡ true → AllByRecursion (λ (e : EntryFacts). uid_eq e.id u ≡ false) (filter (λ (e : EntryFacts). not (is_among_entries p e.id)) es)
others_gone u p [] h = tt
others_gone u p (e ∷ es) h = by (is_among_entries p e.id) refl (others_gone u p es h)
  where
    apart : is_among_entries p e.id ≡ false → uid_eq e.id u ≡ false
    apart n = same (uid_eq e.id u) refl
      where
        same : (b : Bool) → uid_eq e.id u ≡ b → uid_eq e.id u ≡ false
        same true k = absurd (not_both (is_among_entries p e.id) (subst (λ w. is_among_entries p w ≡ true) (sym (uid_exact e.id u (is_equal (uid_cmp e.id u) k))) h) n)
        same false k = k

    by : (b : Bool) → is_among_entries p e.id ≡ b → AllByRecursion (λ (x : EntryFacts). uid_eq x.id u ≡ false) (filter (λ (x : EntryFacts). not (is_among_entries p x.id)) es)
        → AllByRecursion (λ (x : EntryFacts). uid_eq x.id u ≡ false) (cond (not b) (e ∷ filter (λ (x : EntryFacts). not (is_among_entries p x.id)) es) (filter (λ (x : EntryFacts). not (is_among_entries p x.id)) es))
    by true n g = g
    by false n g = (apart n, g)

-- ---- the view

module _ (suffix : Suffix) (xs : List Change) (c : Csn) (u : Uid) (mods : List Mod) (sound : is_sound (modifying c u mods) ≡ true) (there : is_among_entries (present_of (all_facts suffix xs)) u ≡ true) where
  abbrev f : List AttrFacts → List AttrFacts
  f = moved c mods

  -- where the values that its entry shows are those of a function of those before
  pub changed : (g : List Attr → List Attr) → AllByRecursion (ShowsSo u f g) (present_of (all_facts suffix xs))
      → record (view_of suffix xs) { present = map (change u f g) (view_of suffix xs).present } ≡ view_of suffix (xs ++ modifying c u mods ∷ [])
  changed g shows =
      let es : List EntryFacts = all_facts suffix xs in
      let p : List EntryFacts = present_of es in
      let present = present_touched u f es in
      sym (ap (view_of_facts suffix.name) (entries_after suffix xs c u mods sound)
      ∙ (λ i. record {
        suffix = suffix.name;
        present = ((λ j. map (entry_of_facts (present j)) (present j)) ∙ all_shown u f g p p shows) i;
        gone = (ap (map gone_entry) (gone_touched u f es) ∙ gone_stays u f (gone_of es) (others_gone u p es there)) i;
      }))

  -- an entry is what the changes say of its id
  abbrev pub IsOfId : EntryFacts → Type 0
  IsOfId e = e ≡ entry_facts suffix xs e.id

  pub of_ids : (us : List Uid) → AllByRecursion IsOfId (map (entry_facts suffix xs) us)
  of_ids [] = tt
  of_ids (w ∷ us) = (refl, of_ids us)

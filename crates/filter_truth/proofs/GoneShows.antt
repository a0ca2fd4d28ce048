-- What a tombstone shows is what it has of its own, and what the view derives: looked up without making it.
use Rattle.std.proofs.Common.{◌≡◌, ℕ, Bool, true, false, ◌||◌, cond, List, [], ◌∷◌, ◌++◌, Option, Some, None, refl, sym, ap, subst, ◌∙◌}
use Rattle.std.specs.Prelude.{map, find, codes, option_map}
use Rattle.std.specs.List.{list_any}
use Rattle.repl_data.specs.declared.csn.Uid.{Uid}
use Rattle.repl_data.specs.declared.change.Attr.{Attr}
use Rattle.repl_data.specs.declared.change.Val.{Val}
use Rattle.repl_data.specs.declared.change.Shown.{Shown}
use Rattle.repl_data.specs.Order.{bytes_eq}
use Rattle.repl_data.specs.Ordered.{Rises}
use Rattle.repl_data.specs.Text.{uid_text}
use Rattle.repl_data.specs.View.{DirectoryView, Tombstone, gone_at, tombstone_shown, user, operational, with_operational, id_val, tombstone_class, with_class, key_named}
use Rattle.repl_data.specs.Lent.{tombstone_own_of, tombstone_parent_of}
use Rattle.repl_data.proofs.KeyPlaces.{is_same}
use Rattle.repl_data.proofs.Bools.{or_false}
use Rattle.filter_truth.specs.Truth.{shows, vals_of, name_of}
use Rattle.filter_truth.specs.Lent.{attrs_of, gone_shown_at, id_passes}
use Rattle.filter_truth.proofs.LentShows.{find_in_order, attr_name, shows_class, rises_from, found_id, nothing_is}

-- ---- what is derived beside the own attributes

abbrev by_key : Uid → Uid → (List ℕ → Bool) → Bool → Bool → Bool → Bool
by_key id parent test is_id is_parent other = cond is_id (test (uid_text id)) (cond is_parent (test (uid_text parent)) other)

derived_shows : (id parent : Uid) (attrs : List Attr) (k : List ℕ) (test : List ℕ → Bool)
    → shows (with_operational (operational (codes "nsuniqueid") (id_val id ∷ []) ++ operational (codes "nsparentuniqueid") (id_val parent ∷ [])) attrs) k test
    ≡ by_key id parent test (bytes_eq k (codes "nsuniqueid")) (bytes_eq k (codes "nsparentuniqueid")) (shows (map user attrs) k test)
derived_shows id parent attrs k test =
    ap (λ o. list_any (λ (v : Val). test v.key) (vals_of o)) (find_in_order name_of k (operational (codes "nsuniqueid") (id_val id ∷ []) ++ (operational (codes "nsparentuniqueid") (id_val parent ∷ []) ++ map user attrs)))
    ∙ by (bytes_eq k (codes "nsuniqueid")) (bytes_eq k (codes "nsparentuniqueid"))
  where
    by : (b c : Bool) → list_any (λ (v : Val). test v.key) (vals_of (cond b (Some (record { attr = key_named (codes "nsuniqueid"); vals = id_val id ∷ []; operational = true }))
        (cond c (Some (record { attr = key_named (codes "nsparentuniqueid"); vals = id_val parent ∷ []; operational = true })) (find (λ (s : Shown). bytes_eq k s.attr.name) (map user attrs)))))
        ≡ by_key id parent test b c (shows (map user attrs) k test)
    by true c = or_false (test (uid_text id))
    by false true = or_false (test (uid_text parent))
    by false false = refl

-- ---- a tombstone, by what its view lends

record Lends (v : DirectoryView) (u : Uid) (own : List Shown) (e : Tombstone) : Type 0 where
  there : gone_at v u ≡ Some e
  same : e.id ≡ u
  kept : map user e.attrs ≡ own

lends : (v : DirectoryView) (u : Uid) (own : List Shown) → tombstone_own_of v u ≡ Some own → (e : Tombstone) × Lends v u own e
lends v u own h = by (gone_at v u) refl h
  where
    by : (o : Option Tombstone) → gone_at v u ≡ o → option_map (λ (e : Tombstone). map user e.attrs) o ≡ Some own → (e : Tombstone) × Lends v u own e
    by None k g = absurd (nothing_is own g)
    by (Some e) k g = (e, record { there = k; same = found_id (λ (d : Tombstone). d.id) u e v.gone k; kept = cc })

module _ (v : DirectoryView) (u : Uid) (own : List Shown) (rises : Rises name_of own) (lent : tombstone_own_of v u ≡ Some own) where
  e : Tombstone
  e = (lends v u own lent).0

  seen : Lends v u own e
  unfolding e lends
  seen = (lends v u own lent).1

  rise : Rises attr_name e.attrs
  rise = rises_from e.attrs (subst (Rises name_of) (sym seen.kept) rises)

  abbrev classed : List Shown
  classed = map user (with_class tombstone_class e.attrs)

  classed_shows : (k : List ℕ) (test : List ℕ → Bool) → shows classed k test ≡ cond (bytes_eq k (codes "objectclass")) (test (codes "nstombstone") || shows own k test) (shows own k test)
  classed_shows k test =
      shows_class tombstone_class e.attrs rise k test
      ∙ ap (λ (o : List Shown). cond (bytes_eq k (codes "objectclass")) (test (codes "nstombstone") || shows o k test) (shows o k test)) seen.kept

  parent_there : tombstone_parent_of v u ≡ Some e.parent
  parent_there = ap (option_map (λ (d : Tombstone). d.parent)) seen.there

  shown_by : (k : List ℕ) (test : List ℕ → Bool) → gone_shown_at v u k test ≡ by_key u e.parent test (bytes_eq k (codes "nsuniqueid")) (bytes_eq k (codes "nsparentuniqueid")) (shows classed k test)
  shown_by k test =
      ap (λ (o : Option Tombstone). shows (attrs_of (option_map (tombstone_shown v) o)) k test) seen.there
      ∙ derived_shows e.id e.parent (with_class tombstone_class e.attrs) k test
      ∙ ap (λ (w : Uid). by_key w e.parent test (bytes_eq k (codes "nsuniqueid")) (bytes_eq k (codes "nsparentuniqueid")) (shows classed k test)) seen.same

  -- ---- case by case

  module _ (k : List ℕ) (test : List ℕ → Bool) where
    pub gone_id_seen : bytes_eq k (codes "nsuniqueid") ≡ true → gone_shown_at v u k test ≡ test (uid_text u)
    gone_id_seen h =
        shown_by k test
        ∙ ap (λ (b : Bool). by_key u e.parent test b (bytes_eq k (codes "nsparentuniqueid")) (shows classed k test)) h

    pub gone_parent_seen : bytes_eq k (codes "nsparentuniqueid") ≡ true → gone_shown_at v u k test ≡ id_passes test (tombstone_parent_of v u)
    gone_parent_seen p =
        let same : k ≡ codes "nsparentuniqueid" = is_same k (codes "nsparentuniqueid") p in
        shown_by k test
        ∙ (λ x. by_key u e.parent test (bytes_eq (same x) (codes "nsuniqueid")) (p x) (shows classed k test))
        ∙ ap (id_passes test) (sym parent_there)

    pub gone_class_seen : bytes_eq k (codes "objectclass") ≡ true → gone_shown_at v u k test ≡ (test (codes "nstombstone") || shows own k test)
    gone_class_seen o =
        let same : k ≡ codes "objectclass" = is_same k (codes "objectclass") o in
        shown_by k test
        ∙ (λ x. by_key u e.parent test (bytes_eq (same x) (codes "nsuniqueid")) (bytes_eq (same x) (codes "nsparentuniqueid")) (shows classed k test))
        ∙ classed_shows k test
        ∙ ap (λ (b : Bool). cond b (test (codes "nstombstone") || shows own k test) (shows own k test)) o

    pub gone_other_seen : bytes_eq k (codes "nsuniqueid") ≡ false → bytes_eq k (codes "nsparentuniqueid") ≡ false → bytes_eq k (codes "objectclass") ≡ false → gone_shown_at v u k test ≡ shows own k test
    gone_other_seen i p o =
        shown_by k test
        ∙ (λ x. by_key u e.parent test (i x) (p x) (shows classed k test))
        ∙ classed_shows k test
        ∙ ap (λ (b : Bool). cond b (test (codes "nstombstone") || shows own k test) (shows own k test)) o

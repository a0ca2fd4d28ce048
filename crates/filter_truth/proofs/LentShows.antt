-- What a present entry shows is what it has of its own, and what the view derives: looked up without making it.
use Rattle.std.proofs.Common.{◌≡◌, ℕ, Bool, true, false, ◌||◌, ◌&&◌, cond, List, [], ◌∷◌, ◌++◌, Option, Some, None, refl, sym, ap, subst, ◌∙◌, append-nil}
use Rattle.std.specs.Prelude.{if◌then◌else◌}
use Rattle.std.specs.Prelude.{map, find, flat_map, codes}
use Rattle.std.specs.List.{AllByRecursion, list_any}
use Rattle.std.specs.Option.{option_map}
use Rattle.std.specs.declared.cmp.Ordering.{Ordering}
use Rattle.std.specs.declared.cmp.Ordering.TheVariants.{Less, Equal, Greater}
use Rattle.std.specs.Ordering.{is_eq, ordering_reverse}
use Rattle.std.proofs.lemmas.Cmp.{tied_itself}
use Rattle.repl_data.specs.declared.csn.Uid.{Uid}
use Rattle.repl_data.specs.declared.change.Attr.{Attr}
use Rattle.repl_data.specs.declared.change.Val.{Val}
use Rattle.repl_data.specs.declared.change.Shown.{Shown}
use Rattle.repl_data.specs.declared.view.Standing.{Standing}
use Rattle.repl_data.specs.Order.{bytes_cmp, bytes_eq, uid_cmp, uid_eq, put_by, by_order, in_order_by}
use Rattle.repl_data.specs.Ordered.{Rises}
use Rattle.repl_data.specs.Text.{uid_text}
use Rattle.repl_data.specs.View.{DirectoryView, PresentEntry, present_at, present_shown, user, operational, with_operational, id_val, conflicts, naming_conflict, glue_class, put_val, put_attr, vals_at, with_class, lost_dn, dn_below, path_of, key_named}
use Rattle.repl_data.specs.Lent.{own_of, standing, standing_of}
use Rattle.repl_data.proofs.InOrder.{is_equal}
use Rattle.repl_data.proofs.Orders.{bytes_total, bytes_exact, uid_exact}
use Rattle.repl_data.proofs.KeyPlaces.{is_same, same_turned}
use Rattle.repl_data.proofs.Bools.{or_false, either_again, either_turned}
use Rattle.filter_truth.specs.declared.test.Test.{Test}
use Rattle.filter_truth.specs.declared.test.Test.TheVariants.{Any, Compares, Pieces}
use Rattle.filter_truth.specs.declared.test.Assertion.{Assertion}
use Rattle.filter_truth.specs.Prepared.{passes}
use Rattle.filter_truth.specs.Truth.{shows, vals_of, name_of}
use Rattle.filter_truth.specs.Lent.{attrs_of, shown_at, lost_of, looks, looks_at_names, IsUntold}

-- ---- texts

equal_from : (a b : List ℕ) → a ≡ b → bytes_cmp a b ≡ Equal
equal_from a b e = ap (λ x. bytes_cmp x b) e ∙ tied_itself bytes_total b

is_eq-reverse : (o : Ordering) → is_eq (ordering_reverse o) ≡ is_eq o
is_eq-reverse Less = refl
is_eq-reverse Equal = refl
is_eq-reverse Greater = refl

-- ---- lists in order of a key

module _ {X : Type 0} (key : X → List ℕ) where
  abbrev has : List ℕ → X → Bool
  has k x = bytes_eq k (key x)

  -- what is put is found by its key, and all others as before
  find_put : (k : List ℕ) (x : X) (ys : List X) → find (has k) (put_by key bytes_cmp x ys) ≡ cond (has k x) (Some x) (find (has k) ys)
  find_put k x [] = refl
  find_put k x (y ∷ ys) = by (bytes_cmp (key x) (key y)) refl (find_put k x ys)
    where
      replaced : (b c : Bool) → c ≡ b → cond b (Some x) (find (has k) ys) ≡ cond b (Some x) (cond c (Some y) (find (has k) ys))
      replaced true c e = refl
      replaced false c e = ap (λ d. cond d (Some y) (find (has k) ys)) (sym e)

      passed : (b c : Bool) → (b ≡ true → c ≡ true → ⊥) → cond c (Some y) (cond b (Some x) (find (has k) ys)) ≡ cond b (Some x) (cond c (Some y) (find (has k) ys))
      passed true true n = absurd (n refl refl)
      passed true false n = refl
      passed false c n = refl

      both_ways : bytes_cmp (key x) (key y) ≡ Greater → has k x ≡ true → has k y ≡ true → ⊥
      both_ways g p q =
          let e : Equal ≡ Greater = sym (equal_from (key x) (key y) (sym (is_same k (key x) p) ∙ is_same k (key y) q)) ∙ g in
          absurd (differ e)
        where
          differ : Equal ≡ Greater → ⊥
          differ e = let f : true ≡ false = ap is_eq e in absurd cc

      by : (o : Ordering) → bytes_cmp (key x) (key y) ≡ o → find (has k) (put_by key bytes_cmp x ys) ≡ cond (has k x) (Some x) (find (has k) ys)
          → find (has k) (by_order o (x ∷ y ∷ ys) (x ∷ ys) (y ∷ put_by key bytes_cmp x ys)) ≡ cond (has k x) (Some x) (find (has k) (y ∷ ys))
      by Less e more = refl
      by Equal e more = replaced (has k x) (has k y) (ap (bytes_eq k) (sym (bytes_exact (key x) (key y) e)))
      by Greater e more = ap (λ r. cond (has k y) (Some y) r) more ∙ passed (has k x) (has k y) (both_ways e)

  -- the first one of a key is found among all in order
  pub find_in_order : (k : List ℕ) (xs : List X) → find (has k) (in_order_by key bytes_cmp xs) ≡ find (has k) xs
  find_in_order k [] = refl
  find_in_order k (x ∷ xs) = find_put k x (in_order_by key bytes_cmp xs) ∙ ap (λ r. cond (has k x) (Some x) r) (find_in_order k xs)

  -- keys among which one is put
  any_put : (test : List ℕ → Bool) (x : X) (ys : List X) → list_any (λ y. test (key y)) (put_by key bytes_cmp x ys) ≡ (test (key x) || list_any (λ y. test (key y)) ys)
  any_put test x [] = refl
  any_put test x (y ∷ ys) = by (bytes_cmp (key x) (key y)) refl (any_put test x ys)
    where
      rest : Bool
      rest = list_any (λ z. test (key z)) ys

      by : (o : Ordering) → bytes_cmp (key x) (key y) ≡ o → list_any (λ z. test (key z)) (put_by key bytes_cmp x ys) ≡ (test (key x) || list_any (λ z. test (key z)) ys)
          → list_any (λ z. test (key z)) (by_order o (x ∷ y ∷ ys) (x ∷ ys) (y ∷ put_by key bytes_cmp x ys)) ≡ (test (key x) || (test (key y) || list_any (λ z. test (key z)) ys))
      by Less e more = refl
      by Equal e more =
          either_again (test (key x)) (list_any (λ z. test (key z)) ys)
          ∙ ap (λ k. test (key x) || (test k || list_any (λ z. test (key z)) ys)) (bytes_exact (key x) (key y) e)
      by Greater e more = ap (λ r. test (key y) || r) more ∙ either_turned (test (key x)) (test (key y)) (list_any (λ z. test (key z)) ys)

-- ---- attributes

abbrev pub attr_name : Attr → List ℕ
attr_name a = a.attr.name

abbrev own_vals : Option Attr → List Val
own_vals None = []
own_vals (Some a) = a.vals

find_user : (k : List ℕ) (attrs : List Attr) → find (λ (s : Shown). bytes_eq k s.attr.name) (map user attrs) ≡ option_map user (find (λ (a : Attr). bytes_eq k a.attr.name) attrs)
find_user k [] = refl
find_user k (a ∷ attrs) = by (bytes_eq k a.attr.name) (find_user k attrs)
  where
    by : (b : Bool) → find (λ (s : Shown). bytes_eq k s.attr.name) (map user attrs) ≡ option_map user (find (λ (c : Attr). bytes_eq k c.attr.name) attrs)
        → cond b (Some (user a)) (find (λ (s : Shown). bytes_eq k s.attr.name) (map user attrs)) ≡ option_map user (cond b (Some a) (find (λ (c : Attr). bytes_eq k c.attr.name) attrs))
    by true more = refl
    by false more = more

vals_user : (o : Option Attr) → vals_of (option_map user o) ≡ own_vals o
vals_user None = refl
vals_user (Some a) = refl

none_later : (k : List ℕ) (a : Attr) (attrs : List Attr) → bytes_eq k a.attr.name ≡ true → AllByRecursion (λ (b : Attr). bytes_cmp a.attr.name b.attr.name ≡ Less) attrs → vals_at k attrs ≡ []
none_later k a [] e h = refl
none_later k a (b ∷ attrs) e h =
    ap (λ c. cond c b.vals [] ++ vals_at k attrs) (same_turned b.attr.name k ∙ ap (λ (n : List ℕ). bytes_eq n b.attr.name) (is_same k a.attr.name e) ∙ ap is_eq h.0)
    ∙ none_later k a attrs e h.1

-- attributes that rise have one of a name at most
one_at : (k : List ℕ) (attrs : List Attr) → Rises attr_name attrs → vals_at k attrs ≡ own_vals (find (λ (a : Attr). bytes_eq k a.attr.name) attrs)
one_at k [] r = refl
one_at k (a ∷ attrs) r = ap (λ c. cond c a.vals [] ++ vals_at k attrs) (same_turned a.attr.name k) ∙ by (bytes_eq k a.attr.name) refl (one_at k attrs r.1)
  where
    by : (b : Bool) → bytes_eq k a.attr.name ≡ b → vals_at k attrs ≡ own_vals (find (λ (c : Attr). bytes_eq k c.attr.name) attrs)
        → cond b a.vals [] ++ vals_at k attrs ≡ own_vals (cond b (Some a) (find (λ (c : Attr). bytes_eq k c.attr.name) attrs))
    by true e more = ap (λ vs. a.vals ++ vs) (none_later k a attrs e r.0) ∙ append-nil a.vals
    by false e more = more

shows_own : (attrs : List Attr) (k : List ℕ) (test : List ℕ → Bool) → shows (map user attrs) k test ≡ list_any (λ (v : Val). test v.key) (own_vals (find (λ (a : Attr). bytes_eq k a.attr.name) attrs))
shows_own attrs k test = ap (λ o. list_any (λ (v : Val). test v.key) (vals_of o)) (find_user k attrs) ∙ ap (list_any (λ (v : Val). test v.key)) (vals_user (find (λ (a : Attr). bytes_eq k a.attr.name) attrs))

-- one class more
pub shows_class : (class : Val) (attrs : List Attr) → Rises attr_name attrs → (k : List ℕ) (test : List ℕ → Bool) → shows (map user (with_class class attrs)) k test
    ≡ cond (bytes_eq k (codes "objectclass")) (test class.key || shows (map user attrs) k test) (shows (map user attrs) k test)
shows_class class attrs r k test =
    shows_own (with_class class attrs) k test
    ∙ ap (λ o. list_any (λ (v : Val). test v.key) (own_vals o)) (find_put attr_name k (record { attr = key_named (codes "objectclass"); vals = put_val class (vals_at (codes "objectclass") attrs) }) attrs)
    ∙ by (bytes_eq k (codes "objectclass")) refl
  where
    by : (b : Bool) → bytes_eq k (codes "objectclass") ≡ b
        → list_any (λ (v : Val). test v.key) (own_vals (cond b (Some (record { attr = key_named (codes "objectclass"); vals = put_val class (vals_at (codes "objectclass") attrs) })) (find (λ (a : Attr). bytes_eq k a.attr.name) attrs)))
        ≡ cond b (test class.key || shows (map user attrs) k test) (shows (map user attrs) k test)
    by true e =
        any_put (λ (v : Val). v.key) test class (vals_at (codes "objectclass") attrs)
        ∙ ap (λ vs. test class.key || list_any (λ (v : Val). test v.key) vs)
        (ap (λ (n : List ℕ). vals_at n attrs) (sym (is_same k (codes "objectclass") e)) ∙ one_at k attrs r)
        ∙ ap (λ b. test class.key || b) (sym (shows_own attrs k test))
    by false e = sym (shows_own attrs k test)

-- ---- what is derived beside the own attributes

-- what the values of a conflict tell, where there are some
abbrev told_by : List Val → (List ℕ → Bool) → Bool → Bool
told_by [] test other = other
told_by (v ∷ vs) test other = list_any (λ (w : Val). test w.key) (v ∷ vs)

abbrev derived : Uid → List Val → List Shown
derived id vals = operational (codes "nsuniqueid") (id_val id ∷ []) ++ operational (codes "nsds5replconflict") vals

abbrev by_key : Uid → List Val → (List ℕ → Bool) → Bool → Bool → Bool → Bool
by_key id vals test is_id is_conflict other = cond is_id (test (uid_text id)) (cond is_conflict (told_by vals test other) other)

derived_shows : (id : Uid) (vals : List Val) (attrs : List Attr) (k : List ℕ) (test : List ℕ → Bool)
    → shows (with_operational (derived id vals) attrs) k test ≡ by_key id vals test (bytes_eq k (codes "nsuniqueid")) (bytes_eq k (codes "nsds5replconflict")) (shows (map user attrs) k test)
derived_shows id [] attrs k test =
    ap (λ o. list_any (λ (v : Val). test v.key) (vals_of o)) (find_in_order name_of k (operational (codes "nsuniqueid") (id_val id ∷ []) ++ map user attrs))
    ∙ by (bytes_eq k (codes "nsuniqueid")) (bytes_eq k (codes "nsds5replconflict"))
  where
    by : (b c : Bool) → list_any (λ (v : Val). test v.key) (vals_of (cond b (Some (record { attr = key_named (codes "nsuniqueid"); vals = id_val id ∷ []; operational = true })) (find (λ (s : Shown). bytes_eq k s.attr.name) (map user attrs))))
        ≡ by_key id [] test b c (shows (map user attrs) k test)
    by true c = or_false (test (uid_text id))
    by false true = refl
    by false false = refl
derived_shows id (w ∷ ws) attrs k test =
    ap (λ o. list_any (λ (v : Val). test v.key) (vals_of o)) (find_in_order name_of k (operational (codes "nsuniqueid") (id_val id ∷ []) ++ (operational (codes "nsds5replconflict") (w ∷ ws) ++ map user attrs)))
    ∙ by (bytes_eq k (codes "nsuniqueid")) (bytes_eq k (codes "nsds5replconflict"))
  where
    by : (b c : Bool) → list_any (λ (v : Val). test v.key) (vals_of (cond b (Some (record { attr = key_named (codes "nsuniqueid"); vals = id_val id ∷ []; operational = true }))
        (cond c (Some (record { attr = key_named (codes "nsds5replconflict"); vals = w ∷ ws; operational = true })) (find (λ (s : Shown). bytes_eq k s.attr.name) (map user attrs)))))
        ≡ by_key id (w ∷ ws) test b c (shows (map user attrs) k test)
    by true c = or_false (test (uid_text id))
    by false true = refl
    by false false = refl

pub rises_from : (attrs : List Attr) → Rises name_of (map user attrs) → Rises attr_name attrs
rises_from [] r = tt
rises_from (a ∷ attrs) r = (all_from attrs r.0, rises_from attrs r.1)
  where
    all_from : (bs : List Attr) → AllByRecursion (λ (s : Shown). bytes_cmp a.attr.name s.attr.name ≡ Less) (map user bs) → AllByRecursion (λ (b : Attr). bytes_cmp a.attr.name b.attr.name ≡ Less) bs
    all_from [] h = tt
    all_from (b ∷ bs) h = (h.0, all_from bs h.1)

-- what is found by its id has that id
module _ {X : Type 0} (id : X → Uid) where
  pub found_id : (u : Uid) (e : X) (es : List X) → find (λ (d : X). uid_eq (id d) u) es ≡ Some e → id e ≡ u
  found_id u e [] h = let g : ◌≡◌ {A = Option X} None (Some e) = h in absurd cc
  found_id u e (d ∷ es) h = by (uid_eq (id d) u) refl (found_id u e es) h
    where
      by : (b : Bool) → uid_eq (id d) u ≡ b → (find (λ (d : X). uid_eq (id d) u) es ≡ Some e → id e ≡ u) → cond b (Some d) (find (λ (d : X). uid_eq (id d) u) es) ≡ Some e → id e ≡ u
      by true k more g =
          let same : d ≡ e = cc in
          ap id (sym same) ∙ uid_exact (id d) u (is_equal (uid_cmp (id d) u) k)
      by false k more g = more g

-- ---- a present entry, by what its view lends

record Lends (v : DirectoryView) (u : Uid) (own : List Shown) (e : PresentEntry) : Type 0 where
  there : present_at v u ≡ Some e
  same : e.id ≡ u
  kept : map user e.attrs ≡ own

pub nothing_is : {X : Type 0} (x : X) → ◌≡◌ {A = Option X} None (Some x) → ⊥
nothing_is x e = absurd cc

lends : (v : DirectoryView) (u : Uid) (own : List Shown) → own_of v u ≡ Some own → (e : PresentEntry) × Lends v u own e
lends v u own h = by (present_at v u) refl h
  where
    by : (o : Option PresentEntry) → present_at v u ≡ o → option_map (λ (e : PresentEntry). map user e.attrs) o ≡ Some own → (e : PresentEntry) × Lends v u own e
    by None k g = absurd (nothing_is own g)
    by (Some e) k g = (e, record { there = k; same = found_id (λ (d : PresentEntry). d.id) u e v.present k; kept = cc })

abbrev classed : Bool → List Attr → List Attr
classed glue attrs = if glue then with_class glue_class attrs else attrs

module _ (v : DirectoryView) (u : Uid) (own : List Shown) (rises : Rises name_of own) (lent : own_of v u ≡ Some own) where
  e : PresentEntry
  e = (lends v u own lent).0

  seen : Lends v u own e
  unfolding e lends
  seen = (lends v u own lent).1

  rise : Rises attr_name e.attrs
  rise = rises_from e.attrs (subst (Rises name_of) (sym seen.kept) rises)

  abbrev vals : List Val
  vals = conflicts e.is_glue (lost_dn v e)

  shown_by : (k : List ℕ) (test : List ℕ → Bool) → shown_at v u k test ≡ by_key u vals test (bytes_eq k (codes "nsuniqueid")) (bytes_eq k (codes "nsds5replconflict")) (shows (map user (classed e.is_glue e.attrs)) k test)
  shown_by k test =
      ap (λ (o : Option PresentEntry). shows (attrs_of (option_map (present_shown v) o)) k test) seen.there
      ∙ derived_shows e.id vals (classed e.is_glue e.attrs) k test
      ∙ ap (λ (w : Uid). by_key w vals test (bytes_eq k (codes "nsuniqueid")) (bytes_eq k (codes "nsds5replconflict")) (shows (map user (classed e.is_glue e.attrs)) k test)) seen.same

  own_shows : (k : List ℕ) (test : List ℕ → Bool) → shows (map user e.attrs) k test ≡ shows own k test
  own_shows k test = ap (λ (o : List Shown). shows o k test) seen.kept

  -- glue has a class more
  classed_shows : (g : Bool) (k : List ℕ) (test : List ℕ → Bool) → shows (map user (classed g e.attrs)) k test
      ≡ cond (bytes_eq k (codes "objectclass")) ((g && test (codes "glue")) || shows own k test) (shows own k test)
  classed_shows true k test =
      shows_class glue_class e.attrs rise k test
      ∙ ap (λ (s : Bool). cond (bytes_eq k (codes "objectclass")) (test (codes "glue") || s) s) (own_shows k test)
  classed_shows false k test = own_shows k test ∙ by (bytes_eq k (codes "objectclass"))
    where
      by : (b : Bool) → shows own k test ≡ cond b (shows own k test) (shows own k test)
      by true = refl
      by false = refl

  standing_there : standing_of v u ≡ Some (standing e)
  standing_there = ap (option_map standing) seen.there

  pub never_none : standing_of v u ≡ None → ⊥
  never_none h = nothing_is (standing e) (sym h ∙ standing_there)

  standing_is : (s : Standing) → standing_of v u ≡ Some s → standing e ≡ s
  standing_is s h = let g : Some (standing e) ≡ Some s = sym standing_there ∙ h in cc

  -- ---- case by case

  module _ (k : List ℕ) (test : List ℕ → Bool) where
    pub id_seen : bytes_eq k (codes "nsuniqueid") ≡ true → shown_at v u k test ≡ test (uid_text u)
    id_seen h =
        shown_by k test
        ∙ ap (λ (b : Bool). by_key u vals test b (bytes_eq k (codes "nsds5replconflict")) (shows (map user (classed e.is_glue e.attrs)) k test)) h

    pub other_seen : bytes_eq k (codes "nsuniqueid") ≡ false → bytes_eq k (codes "nsds5replconflict") ≡ false → bytes_eq k (codes "objectclass") ≡ false → shown_at v u k test ≡ shows own k test
    other_seen i c o =
        shown_by k test
        ∙ (λ x. by_key u vals test (i x) (c x) (shows (map user (classed e.is_glue e.attrs)) k test))
        ∙ classed_shows e.is_glue k test
        ∙ ap (λ (b : Bool). cond b ((e.is_glue && test (codes "glue")) || shows own k test) (shows own k test)) o

    class_by : bytes_eq k (codes "objectclass") ≡ true → shown_at v u k test ≡ ((e.is_glue && test (codes "glue")) || shows own k test)
    class_by o =
        let same : k ≡ codes "objectclass" = is_same k (codes "objectclass") o in
        shown_by k test
        ∙ (λ x. by_key u vals test (bytes_eq (same x) (codes "nsuniqueid")) (bytes_eq (same x) (codes "nsds5replconflict")) (shows (map user (classed e.is_glue e.attrs)) k test))
        ∙ classed_shows e.is_glue k test
        ∙ ap (λ (b : Bool). cond b ((e.is_glue && test (codes "glue")) || shows own k test) (shows own k test)) o

    pub class_own : bytes_eq k (codes "objectclass") ≡ true → shows own k test ≡ true → shown_at v u k test ≡ true
    class_own o h = class_by o ∙ ap (λ (b : Bool). (e.is_glue && test (codes "glue")) || b) h ∙ by (e.is_glue && test (codes "glue"))
      where
        by : (b : Bool) → (b || true) ≡ true
        by true = refl
        by false = refl

    pub class_none : bytes_eq k (codes "objectclass") ≡ true → shows own k test ≡ false → test (codes "glue") ≡ false → shown_at v u k test ≡ false
    class_none o h t = class_by o ∙ (λ x. (e.is_glue && t x) || h x) ∙ by e.is_glue
      where
        by : (b : Bool) → ((b && false) || false) ≡ false
        by true = refl
        by false = refl

    pub class_glue : (s : Standing) → standing_of v u ≡ Some s → bytes_eq k (codes "objectclass") ≡ true → shows own k test ≡ false → test (codes "glue") ≡ true → shown_at v u k test ≡ s.glue
    class_glue s g o h t = class_by o ∙ (λ x. (e.is_glue && t x) || h x) ∙ by e.is_glue ∙ ap (λ (x : Standing). x.glue) (standing_is s g)
      where
        by : (b : Bool) → ((b && true) || false) ≡ b
        by true = refl
        by false = refl

    conflict_by : bytes_eq k (codes "nsds5replconflict") ≡ true → shown_at v u k test ≡ told_by vals test (shows (map user (classed e.is_glue e.attrs)) k test)
    conflict_by c =
        let same : k ≡ codes "nsds5replconflict" = is_same k (codes "nsds5replconflict") c in
        shown_by k test
        ∙ (λ x. by_key u vals test (bytes_eq (same x) (codes "nsuniqueid")) (c x) (shows (map user (classed e.is_glue e.attrs)) k test))

    abbrev tells : Bool → Bool → Bool
    tells glue lost = told_by (conflicts glue (if lost then Some (dn_below v (e.name ∷ path_of v e.parent)) else None)) test (shows (map user (classed glue e.attrs)) k test)

    conflict_tells : (s : Standing) → standing_of v u ≡ Some s → bytes_eq k (codes "nsds5replconflict") ≡ true → shown_at v u k test ≡ tells s.glue s.lost
    conflict_tells s g c = conflict_by c ∙ (λ x. tells (standing_is s g x).glue (standing_is s g x).lost)

    pub lost_seen : (s : Standing) → standing_of v u ≡ Some s → bytes_eq k (codes "nsds5replconflict") ≡ true → s.lost ≡ true → ((value : List ℕ) → test value ≡ true) → shown_at v u k test ≡ true
    lost_seen s g c l all = conflict_tells s g c ∙ ap (tells s.glue) l ∙ by s.glue
      where
        first : (b c : Bool) → b ≡ true → (b || c) ≡ true
        first true c h = refl
        first false c h = absurd cc

        by : (b : Bool) → tells b true ≡ true
        by true = first (test (codes "deletedentryhaschildren")) _ (all (codes "deletedentryhaschildren"))
        by false = first (test (naming_conflict (dn_below v (e.name ∷ path_of v e.parent))).key) false (all (naming_conflict (dn_below v (e.name ∷ path_of v e.parent))).key)

    pub glue_seen : (s : Standing) → standing_of v u ≡ Some s → bytes_eq k (codes "nsds5replconflict") ≡ true → s.lost ≡ false → s.glue ≡ true → shown_at v u k test ≡ test (codes "deletedentryhaschildren")
    glue_seen s g c l h = conflict_tells s g c ∙ (λ x. tells (h x) (l x)) ∙ or_false (test (codes "deletedentryhaschildren"))

    pub plain_seen : (s : Standing) → standing_of v u ≡ Some s → bytes_eq k (codes "nsds5replconflict") ≡ true → s.lost ≡ false → s.glue ≡ false → shown_at v u k test ≡ shows own k test
    plain_seen s g c l h = conflict_tells s g c ∙ (λ x. tells (h x) (l x)) ∙ own_shows k test

-- a name that is one is no other one
pub untold : (v : DirectoryView) (u : Uid) (s : Standing) (a : Assertion) → standing_of v u ≡ Some s → s.lost ≡ true → bytes_eq a.attr.name (codes "nsds5replconflict") ≡ true → looks a.test ≡ true → IsUntold v u (looks_at_names a)
untold v u s a g l n t = record { lost = ap lost_of g ∙ l; asked = λ x. n x && t x }

-- a test that looks at no value holds of each
pub unseen : (t : Test) (key : List ℕ) → looks t ≡ false → (value : List ℕ) → passes key t value ≡ true
unseen Any key h value = refl
unseen (Compares how k) key h value = absurd cc
unseen (Pieces first middle last) key h value = absurd cc

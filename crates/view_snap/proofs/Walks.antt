-- ROWS FROM A PLACE ON: those below an entry, and the first one that shows a name.
use Rattle.std.proofs.Common.{◌≡◌, ℕ, List, [], ◌∷◌, ◌++◌, map, filter, Bool, true, false, not, cond, Option, Some, None, refl, sym, ap, subst, ◌∙◌}
use Rattle.std.specs.Prelude.{◌&&◌, option_map, find}
use Rattle.std.specs.List.{AllByRecursion}
use Rattle.std.specs.List.Sorted.{IsStrictlySortedBy}
use Rattle.std.specs.Map.{keys_of}
use Rattle.std.specs.Cmp.{IsTotalOrder}
use Rattle.std.specs.Ordering.{is_eq, is_le, ordering_then, ordering_reverse}
use Rattle.std.specs.declared.cmp.Ordering.{Ordering}
use Rattle.std.specs.declared.cmp.Ordering.TheVariants.{Less, Equal, Greater}
use Rattle.std.proofs.lemmas.Map.Keys.{sorted_head, sorted_tail}
use Rattle.std.proofs.lemmas.Cmp.{tied_itself, on_total, then_total}
use Rattle.repl_data.specs.declared.csn.Uid.{Uid}
use Rattle.repl_data.specs.declared.change.Rdn.{Rdn}
use Rattle.repl_data.specs.Order.{uid_cmp, uid_eq, same_rdn, rdn_key, rdn_key_cmp}
use Rattle.repl_data.proofs.Orders.{uid_total, uid_exact, rdn_key_total, rdn_key_exact, split}
use Rattle.repl_data.proofs.InOrder.{is_equal}
use Rattle.cow_map.specs.Rows.{IsRising}
use Rattle.cow_map.specs.Places.{IsUpward}
use Rattle.view_snap.specs.declared.spot.Spot.{Spot}
use Rattle.view_snap.specs.Maps.{spot_cmp}
use Rattle.view_snap.specs.Listed.{is_below, is_named, first_named}
use Rattle.view_snap.proofs.Spots.{first_equal, last_equal}
use Rattle.repl_data.proofs.Bools.{cases, never}

abbrev pub Row : Type 0
Row = Spot × Unit {0}

module _ {K : Type 0} {R : K → K → Ordering} (total : IsTotalOrder R) where
  le_trans : (x y z : K) → is_le (R x y) ≡ true → is_le (R y z) ≡ true → is_le (R x z) ≡ true
  le_trans x y z h k =
      split (R x y)
      (λ l. split (R y z)
      (λ n. ap is_le (total.trans x y z l n))
      (λ n. ap is_le (total.antisymm x z ∙ ap ordering_reverse (sym (total.congr y z x n)) ∙ sym (total.antisymm x y) ∙ l))
      (λ n. let f : false ≡ true = sym (ap is_le n) ∙ k in cc))
      (λ l. ap is_le (total.congr x y z l) ∙ k)
      (λ l. let f : false ≡ true = sym (ap is_le l) ∙ h in cc)

  le_both : (x y : K) → is_le (R x y) ≡ true → is_le (R y x) ≡ true → R x y ≡ Equal
  le_both x y h k =
      split (R x y)
      (λ l. let f : false ≡ true = sym (ap is_le (total.antisymm y x ∙ ap ordering_reverse l)) ∙ k in cc)
      (λ l. l)
      (λ l. let f : false ≡ true = sym (ap is_le l) ∙ h in cc)

first_le : (a b : Ordering) → ordering_then a b ≡ Less → is_le a ≡ true
first_le Less b h = refl
first_le Equal b h = refl
first_le Greater b h = let f : Greater ≡ Less = h in cc

front_le : (a b c : Ordering) → ordering_then a (ordering_then b c) ≡ Less → is_le (ordering_then a b) ≡ true
front_le Less b c h = refl
front_le Equal b c h = first_le b c h
front_le Greater b c h = let f : Greater ≡ Less = h in cc

-- by parent and name
abbrev Pair : Type 0
Pair = Uid × List (List ℕ × List ℕ)

abbrev pair_cmp : Pair → Pair → Ordering
pair_cmp a b = ordering_then (uid_cmp a.0 b.0) (rdn_key_cmp a.1 b.1)

pair_total : IsTotalOrder pair_cmp
pair_total = then_total (on_total (λ (p : Pair). p.0) uid_total) (on_total (λ (p : Pair). p.1) rdn_key_total)

abbrev pair : Spot → Pair
pair k = (k.parent, rdn_key k.shown)

-- rows that are kept
module _ (from : Spot → Bool) where
  abbrev from_rows : List Row → List Row
  from_rows rows = filter (λ (r : Row). from r.0) rows

  from_keys : (rows : List Row) → keys_of (from_rows rows) ≡ filter from (keys_of rows)
  from_keys [] = refl
  from_keys (r ∷ rows) = by (from r.0) (from_keys rows)
    where
      by : (b : Bool) → keys_of (from_rows rows) ≡ filter from (keys_of rows) → keys_of (cond b (r ∷ from_rows rows) (from_rows rows)) ≡ cond b (r.0 ∷ filter from (keys_of rows)) (filter from (keys_of rows))
      by true h = ap (λ z. r.0 ∷ z) h
      by false h = h

  pub from_all : (rows : List Row) → AllByRecursion (λ (k : Spot). from k ≡ true) (keys_of (from_rows rows))
  from_all [] = tt
  from_all (r ∷ rows) = by (from r.0) refl (from_all rows)
    where
      by : (b : Bool) → from r.0 ≡ b → AllByRecursion (λ (k : Spot). from k ≡ true) (keys_of (from_rows rows)) → AllByRecursion (λ (k : Spot). from k ≡ true) (keys_of (cond b (r ∷ from_rows rows) (from_rows rows)))
      by true e h = (e, h)
      by false e h = h

  all_kept : (P : Spot → Type 0) (rows : List Row) → AllByRecursion P (keys_of rows) → AllByRecursion P (keys_of (from_rows rows))
  all_kept P [] h = tt
  all_kept P (r ∷ rows) h = by (from r.0) (all_kept P rows h.1)
    where
      by : (b : Bool) → AllByRecursion P (keys_of (from_rows rows)) → AllByRecursion P (keys_of (cond b (r ∷ from_rows rows) (from_rows rows)))
      by true k = (h.0, k)
      by false k = k

  pub from_rising : (rows : List Row) → IsRising spot_cmp rows → IsRising spot_cmp (from_rows rows)
  unfolding IsStrictlySortedBy
  from_rising [] h = tt
  from_rising (r ∷ rows) h = by (from r.0) (from_rising rows h.1)
    where
      by : (b : Bool) → IsStrictlySortedBy spot_cmp (keys_of (from_rows rows)) → IsStrictlySortedBy spot_cmp (keys_of (cond b (r ∷ from_rows rows) (from_rows rows)))
      by true k = (all_kept (λ (k : Spot). spot_cmp r.0 k ≡ Less) rows h.0, k)
      by false k = k

  -- a test that only those pass
  module _ (p : Spot → Bool) (only : (k : Spot) → p k ≡ true → from k ≡ true) where
    filter_from : (xs : List Spot) → filter p (filter from xs) ≡ filter p xs
    filter_from [] = refl
    filter_from (x ∷ xs) = by (from x) (p x) refl refl (filter_from xs)
      where
        by : (b c : Bool) → from x ≡ b → p x ≡ c → filter p (filter from xs) ≡ filter p xs → filter p (cond b (x ∷ filter from xs) (filter from xs)) ≡ cond c (x ∷ filter p xs) (filter p xs)
        by true true e f h = ap (λ d. cond d (x ∷ filter p (filter from xs)) (filter p (filter from xs))) f ∙ ap (λ z. x ∷ z) h
        by true false e f h = ap (λ d. cond d (x ∷ filter p (filter from xs)) (filter p (filter from xs))) f ∙ h
        by false true e f h = never (from x) (only x f) e
        by false false e f h = h

    pub kept_from : (rows : List Row) → filter p (keys_of (from_rows rows)) ≡ filter p (keys_of rows)
    kept_from rows = ap (filter p) (from_keys rows) ∙ filter_from (keys_of rows)

    find_from : (xs : List Spot) → find p (filter from xs) ≡ find p xs
    find_from [] = refl
    find_from (x ∷ xs) = by (from x) (p x) refl refl (find_from xs)
      where
        by : (b c : Bool) → from x ≡ b → p x ≡ c → find p (filter from xs) ≡ find p xs → find p (cond b (x ∷ filter from xs) (filter from xs)) ≡ cond c (Some x) (find p xs)
        by true true e f h = ap (λ d. cond d (Some x) (find p (filter from xs))) f
        by true false e f h = ap (λ d. cond d (Some x) (find p (filter from xs))) f ∙ h
        by false true e f h = never (from x) (only x f) e
        by false false e f h = h

    pub found_from : (rows : List Row) → find p (keys_of rows) ≡ find p (keys_of (from_rows rows))
    found_from rows = sym (find_from (keys_of rows)) ∙ ap (find p) (sym (from_keys rows))

-- THOSE BELOW AN ENTRY
abbrev pub is_from_below : Uid → Spot → Bool
is_from_below parent k = is_le (uid_cmp parent k.parent)

turned : (u v : Uid) → uid_eq u v ≡ true → is_le (uid_cmp v u) ≡ true
turned u v h = ap (λ w. is_le (uid_cmp v w)) (uid_exact u v (is_equal (uid_cmp u v) h)) ∙ ap is_le (tied_itself uid_total v)

pub below_upward : (parent : Uid) → IsUpward spot_cmp (is_from_below parent)
below_upward parent a b h k = le_trans uid_total parent a.parent b.parent k (first_le _ _ h)

pub below_first : (parent : Uid) (rows : List Row) → filter (is_below parent) (keys_of (from_rows (is_from_below parent) rows)) ≡ filter (is_below parent) (keys_of rows)
below_first parent rows = kept_from (is_from_below parent) (is_below parent) (λ k h. turned k.parent parent h) rows

-- behind one that is not below it, nobody is
pub below_last : (parent : Uid) (r : Row) (rows : List Row) → IsRising spot_cmp (r ∷ rows) → is_from_below parent r.0 ≡ true → is_below parent r.0 ≡ false → filter (is_below parent) (keys_of (r ∷ rows)) ≡ []
below_last parent r rows s f n = ap (λ b. cond b (r.0 ∷ filter (is_below parent) (keys_of rows)) (filter (is_below parent) (keys_of rows))) n ∙ nobody (keys_of rows) (sorted_head spot_cmp r.0 (keys_of rows) s)
  where
    past : (k : Spot) → spot_cmp r.0 k ≡ Less → is_below parent k ≡ false
    past k h =
        cases (is_below parent k)
        (λ t. let is : k.parent ≡ parent = uid_exact k.parent parent (is_equal (uid_cmp k.parent parent) t) in
        let low : is_le (uid_cmp r.0.parent parent) ≡ true = subst (λ w. is_le (uid_cmp r.0.parent w) ≡ true) is (first_le _ _ h) in
        never (is_below parent r.0) (ap is_eq (le_both uid_total r.0.parent parent low f)) n)
        (λ e. e)

    nobody : (ks : List Spot) → AllByRecursion (λ k. spot_cmp r.0 k ≡ Less) ks → filter (is_below parent) ks ≡ []
    nobody [] h = refl
    nobody (k ∷ ks) h = ap (λ b. cond b (k ∷ filter (is_below parent) ks) (filter (is_below parent) ks)) (past k h.0) ∙ nobody ks h.1

-- THE FIRST THAT SHOWS A NAME
abbrev pub is_from_named : Uid → Rdn → Spot → Bool
is_from_named parent rdn k = is_le (ordering_then (uid_cmp parent k.parent) (rdn_key_cmp (rdn_key rdn) (rdn_key k.shown)))

pub named_upward : (parent : Uid) (rdn : Rdn) → IsUpward spot_cmp (is_from_named parent rdn)
named_upward parent rdn a b h k = le_trans pair_total (parent, rdn_key rdn) (pair a) (pair b) k (front_le (uid_cmp a.parent b.parent) (rdn_key_cmp (rdn_key a.shown) (rdn_key b.shown)) (uid_cmp a.id b.id) h)

module _ (parent : Uid) (rdn : Rdn) where
  both : (a b : Bool) → (a && b) ≡ true → (a ≡ true) × (b ≡ true)
  both true b h = (refl, h)
  both false b h = let e : false ≡ true = h in cc

  named_pair : (k : Spot) → is_named parent rdn k ≡ true → pair k ≡ (parent, rdn_key rdn)
  named_pair k h =
      let f = both (uid_eq k.parent parent) (same_rdn k.shown rdn) h in
      λ i. (uid_exact k.parent parent (is_equal (uid_cmp k.parent parent) f.0) i, rdn_key_exact (rdn_key k.shown) (rdn_key rdn) (is_equal (rdn_key_cmp (rdn_key k.shown) (rdn_key rdn)) f.1) i)

  named_from : (k : Spot) → is_named parent rdn k ≡ true → is_from_named parent rdn k ≡ true
  named_from k h = ap (λ p. is_le (pair_cmp (parent, rdn_key rdn) p)) (named_pair k h) ∙ ap is_le (tied_itself pair_total (parent, rdn_key rdn))

  pub named_none : (rows : List Row) → [] ≡ from_rows (is_from_named parent rdn) rows → None ≡ first_named parent rdn (keys_of rows)
  named_none rows h = sym (ap (option_map (λ (k : Spot). k.id)) (found_from (is_from_named parent rdn) (is_named parent rdn) named_from rows ∙ ap (λ z. find (is_named parent rdn) (keys_of z)) (sym h)))

  -- behind a row that is at the place or behind it and does not show the name, nobody does
  nobody : (k : Spot) → is_from_named parent rdn k ≡ true → is_named parent rdn k ≡ false → (ks : List Spot) → AllByRecursion (λ j. spot_cmp k j ≡ Less) ks → find (is_named parent rdn) ks ≡ None
  nobody k f n [] h = refl
  nobody k f n (j ∷ ks) h = ap (λ b. cond b (Some j) (find (is_named parent rdn) ks)) (cases (is_named parent rdn j) past (λ e. e)) ∙ nobody k f n ks h.1
    where
      past : is_named parent rdn j ≡ true → is_named parent rdn j ≡ false
      past t =
          let low : is_le (pair_cmp (pair k) (parent, rdn_key rdn)) ≡ true = subst (λ p. is_le (pair_cmp (pair k) p) ≡ true) (named_pair j t) (front_le (uid_cmp k.parent j.parent) (rdn_key_cmp (rdn_key k.shown) (rdn_key j.shown)) (uid_cmp k.id j.id) h.0) in
          let same : pair_cmp (pair k) (parent, rdn_key rdn) ≡ Equal = le_both pair_total (pair k) (parent, rdn_key rdn) low f in
          never (is_named parent rdn k) (λ i. is_eq (first_equal (uid_cmp k.parent parent) (rdn_key_cmp (rdn_key k.shown) (rdn_key rdn)) same i) && is_eq (last_equal (uid_cmp k.parent parent) (rdn_key_cmp (rdn_key k.shown) (rdn_key rdn)) same i)) n

  pub named_first : (rows : List Row) (r : Row) (rest : List Row) → IsRising spot_cmp rows → r ∷ rest ≡ from_rows (is_from_named parent rdn) rows → first_named parent rdn (keys_of rows) ≡ cond (is_named parent rdn r.0) (Some r.0.id) None
  named_first rows r rest s h =
      ap (option_map (λ (k : Spot). k.id)) (found_from (is_from_named parent rdn) (is_named parent rdn) named_from rows ∙ ap (λ z. find (is_named parent rdn) (keys_of z)) (sym h))
      ∙ cases (is_named parent rdn r.0)
      (λ t. ap (λ b. option_map (λ (k : Spot). k.id) (cond b (Some r.0) (find (is_named parent rdn) (keys_of rest)))) t ∙ ap (λ b. cond b (Some r.0.id) None) (sym t))
      (λ n. ap (λ b. option_map (λ (k : Spot). k.id) (cond b (Some r.0) (find (is_named parent rdn) (keys_of rest)))) n
      ∙ ap (option_map (λ (k : Spot). k.id)) (nobody r.0 here n (keys_of rest) above)
      ∙ ap (λ b. cond b (Some r.0.id) None) (sym n))
    where
      whole : IsRising spot_cmp (r ∷ rest)
      whole = subst (IsRising spot_cmp) (sym h) (from_rising (is_from_named parent rdn) rows s)

      above : AllByRecursion (λ j. spot_cmp r.0 j ≡ Less) (keys_of rest)
      above = sorted_head spot_cmp r.0 (keys_of rest) whole

      here : is_from_named parent rdn r.0 ≡ true
      here = (subst (λ z. AllByRecursion (λ (k : Spot). is_from_named parent rdn k ≡ true) (keys_of z)) (sym h) (from_all (is_from_named parent rdn) rows)).0

-- The rows of pages.
use Rattle.std.proofs.Common.{◌≡◌, ℕ, ◌+◌, ◌<◌, suc, true, false, List, [], ◌∷◌, ◌++◌, Ordering, length, take, drop, get_or, refl, sym, ap, ◌∙◌, subst, arith, add-one}
use Rattle.std.specs.Cmp.{IsTotalOrder}
use Rattle.std.specs.Ordering.{is_lt}
use Rattle.std.specs.declared.cmp.Ordering.TheVariants.{Less, Equal, Greater}
use Rattle.std.proofs.lemmas.List.{take-append-drop}
use Rattle.std.proofs.lemmas.List.Concat.{flat_map-append}
use Rattle.cow_map.specs.Rows.{IsRising, all_rows}
use Rattle.cow_map.specs.Places.{AreBelow, AreAbove, starts_above}
use Rattle.cow_map.proofs.Rising.{parted_at, drop_at, rising_back, rising_front, below_from_seam, above_from_first}

module _ {K V : Type 0} where
  pub all_rows-append : (xs ys : List (List (K × V))) → all_rows (xs ++ ys) ≡ all_rows xs ++ all_rows ys
  all_rows-append xs ys = flat_map-append (λ page. page) xs ys

  -- the pages around a place, and the one at it
  pub all_rows-parted : (pages : List (List (K × V))) (at : ℕ) (page : List (K × V)) → at < length pages → page ≡ get_or pages at page → all_rows pages ≡ all_rows (take at pages) ++ (page ++ all_rows (drop (at + 1) pages))
  all_rows-parted pages at page l e =
      rw add-one (ap all_rows (parted_at pages at page l e) ∙ all_rows-append (take at pages) (page ∷ drop (suc at) pages))

  -- pages in the place of one
  pub all_rows-replaced : (front changed back : List (List (K × V))) → all_rows (front ++ (changed ++ back)) ≡ all_rows front ++ (all_rows changed ++ all_rows back)
  all_rows-replaced front changed back = all_rows-append front (changed ++ back) ∙ ap (λ z. all_rows front ++ z) (all_rows-append changed back)

  -- the rows of one page rise
  pub rising_page : (cmp : K → K → Ordering) (xs ys zs : List (K × V)) → IsRising cmp (xs ++ (ys ++ zs)) → IsRising cmp ys
  rising_page cmp xs ys zs h = rising_front cmp ys zs (rising_back cmp xs (ys ++ zs) h)

  pub starts_at : (cmp : K → K → Ordering) (page : List (K × V)) (row : K × V) (key : K) → 0 < length page → row ≡ get_or page 0 row → starts_above cmp page key ≡ is_lt (cmp key row.0)
  starts_at cmp [] row key l e = absurd (omega arith)
  starts_at cmp (r ∷ rows) row key l e = ap (λ (z : K × V). is_lt (cmp key z.0)) (sym e)

less_from : (a : Ordering) → is_lt a ≡ true → a ≡ Less
less_from Less h = refl
less_from Equal h = absurd cc
less_from Greater h = absurd cc

module _ {K V : Type 0} (cmp : K → K → Ordering) (o : IsTotalOrder cmp) where
  -- a page that begins above the key, and those behind it, are above it
  pub page_above : (pages : List (List (K × V))) (key : K) (at : ℕ) (page : List (K × V)) → IsRising cmp (all_rows pages) → at < length pages → page ≡ get_or pages at page → 0 < length page → starts_above cmp page key ≡ true → AreAbove cmp (all_rows (drop at pages)) key
  page_above pages key at [] h l e s t = absurd (omega arith)
  page_above pages key at (r ∷ rows) h l e s t =
      let here = ap all_rows (drop_at pages at (r ∷ rows) l e) in
      let whole = ap all_rows (sym (take-append-drop at pages)) ∙ all_rows-append (take at pages) (drop at pages) in
      let rising : IsRising cmp (all_rows (drop at pages)) = rising_back cmp (all_rows (take at pages)) (all_rows (drop at pages)) (subst (λ z. IsRising cmp z) whole h) in
      subst (λ z. AreAbove cmp z key) (sym here) (above_from_first cmp o key r (rows ++ all_rows (drop (suc at) pages)) (subst (λ z. IsRising cmp z) here rising) (less_from (cmp key r.0) t))

  -- those in front of a page that begins at the key or below are below it
  pub page_below : (pages : List (List (K × V))) (key : K) (at : ℕ) (page : List (K × V)) → IsRising cmp (all_rows pages) → at < length pages → page ≡ get_or pages at page → 0 < length page → starts_above cmp page key ≡ false → AreBelow cmp (all_rows (take at pages)) key
  page_below pages key at [] h l e s t = absurd (omega arith)
  page_below pages key at (r ∷ rows) h l e s t =
      below_from_seam cmp o key (all_rows (take at pages)) r (rows ++ all_rows (drop (at + 1) pages)) (subst (λ z. IsRising cmp z) (all_rows-parted pages at (r ∷ rows) l e) h) t

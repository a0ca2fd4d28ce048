-- The rows from a place on.
use Rattle.std.proofs.Common.{◌≡◌, ℕ, ◌+◌, ◌<◌, suc, true, false, Bool, cond, List, [], ◌∷◌, ◌++◌, Ordering, length, take, drop, get_or, refl, sym, ap, ◌∙◌, subst, arith, add-one}
use Rattle.std.specs.Prelude.{filter}
use Rattle.std.specs.List.{AllByRecursion}
use Rattle.std.specs.Map.{keys_of}
use Rattle.std.specs.declared.cmp.Ordering.TheVariants.{Less}
use Rattle.std.proofs.lemmas.List.{take-append-drop}
use Rattle.cow_map.specs.Rows.{IsRising, all_rows}
use Rattle.cow_map.specs.Places.{IsUpward, AreBefore, AreFrom, begins_from}
use Rattle.cow_map.proofs.Rising.{all_map, all_both, drop_at, parted_at, take_at, rising_back, below_seam, above_first}
use Rattle.cow_map.proofs.PageRows.{all_rows-append, all_rows-parted}

decide : {G : Type 0} (b : Bool) → (b ≡ true → G) → (b ≡ false → G) → G
decide true f g = f refl
decide false f g = g refl

module _ {K V : Type 0} (from : K → Bool) where
  pub kept_behind : (xs ys : List (K × V)) → AreBefore from xs → filter (λ row. from row.0) (xs ++ ys) ≡ filter (λ row. from row.0) ys
  kept_behind [] ys h = refl
  kept_behind (x ∷ xs) ys h = ap (λ b. cond b (x ∷ filter (λ row. from row.0) (xs ++ ys)) (filter (λ row. from row.0) (xs ++ ys))) h.0 ∙ kept_behind xs ys h.1

  pub kept_all : (ys : List (K × V)) → AreFrom from ys → filter (λ row. from row.0) ys ≡ ys
  kept_all [] h = refl
  kept_all (y ∷ ys) h = ap (λ b. cond b (y ∷ filter (λ row. from row.0) ys) (filter (λ row. from row.0) ys)) h.0 ∙ ap (λ z. y ∷ z) (kept_all ys h.1)

  -- rows before the place, and then rows from it on
  pub kept_parted : (xs ys : List (K × V)) → AreBefore from xs → AreFrom from ys → filter (λ row. from row.0) (xs ++ ys) ≡ ys
  kept_parted xs ys h i = kept_behind xs ys h ∙ kept_all ys i

  pub from_both : (xs ys : List (K × V)) → AreFrom from xs → AreFrom from ys → AreFrom from (xs ++ ys)
  from_both xs ys h i = all_both (λ k. from k ≡ true) xs ys h i

  -- the rows of a page, those before it and those behind
  pub kept_between : (front rows back : List (K × V)) (at : ℕ) → AreBefore from front → AreFrom from back → AreBefore from (take at rows) → AreFrom from (drop at rows) → drop at rows ++ back ≡ filter (λ row. from row.0) (front ++ (rows ++ back))
  kept_between front rows back at f b p q =
      sym
      (kept_behind front (rows ++ back) f
      ∙ ap (λ z. filter (λ row. from row.0) (z ++ back)) (sym (take-append-drop at rows))
      ∙ ap (filter (λ row. from row.0)) (assoc (take at rows) (drop at rows))
      ∙ kept_parted (take at rows) (drop at rows ++ back) p (from_both (drop at rows) back q b))
    where
      assoc : (xs ys : List (K × V)) → (xs ++ ys) ++ back ≡ xs ++ (ys ++ back)
      assoc [] ys = refl
      assoc (x ∷ xs) ys = ap (λ z. x ∷ z) (assoc xs ys)

module _ {K V : Type 0} (cmp : K → K → Ordering) (from : K → Bool) (up : IsUpward cmp from) where
  from_first : (y : K × V) (ys : List (K × V)) → IsRising cmp (y ∷ ys) → from y.0 ≡ true → AreFrom from (y ∷ ys)
  from_first y ys h t = (t, all_map (λ k. from k ≡ true) (λ k. cmp y.0 k ≡ Less) (λ k l. up y.0 k l t) (keys_of ys) (above_first cmp y ys h))

  before_seam : (xs : List (K × V)) (y : K × V) (ys : List (K × V)) → IsRising cmp (xs ++ (y ∷ ys)) → from y.0 ≡ false → AreBefore from xs
  before_seam xs y ys h f = below_seam cmp (λ k. from k ≡ false) xs y ys h (λ k l. decide (from k) (λ t. let no : true ≡ false = sym (up k y.0 l t) ∙ f in absurd cc) (λ n. n))

  -- a step of a search by halves among pages
  pub page_from : (pages : List (List (K × V))) (at : ℕ) (page : List (K × V)) → IsRising cmp (all_rows pages) → at < length pages → page ≡ get_or pages at page → 0 < length page → begins_from from page ≡ true → AreFrom from (all_rows (drop at pages))
  page_from pages at [] h l e s t = absurd (omega arith)
  page_from pages at (r ∷ rows) h l e s t =
      let here = ap all_rows (drop_at pages at (r ∷ rows) l e) in
      let whole = ap all_rows (sym (take-append-drop at pages)) ∙ all_rows-append (take at pages) (drop at pages) in
      let rising : IsRising cmp (all_rows (drop at pages)) = rising_back cmp (all_rows (take at pages)) (all_rows (drop at pages)) (subst (λ z. IsRising cmp z) whole h) in
      subst (λ z. AreFrom from z) (sym here) (from_first r (rows ++ all_rows (drop (suc at) pages)) (subst (λ z. IsRising cmp z) here rising) t)

  pub page_before : (pages : List (List (K × V))) (at : ℕ) (page : List (K × V)) → IsRising cmp (all_rows pages) → at < length pages → page ≡ get_or pages at page → 0 < length page → begins_from from page ≡ false → AreBefore from (all_rows (take at pages))
  page_before pages at [] h l e s t = absurd (omega arith)
  page_before pages at (r ∷ rows) h l e s t =
      before_seam (all_rows (take at pages)) r (rows ++ all_rows (drop (at + 1) pages)) (subst (λ z. IsRising cmp z) (all_rows-parted pages at (r ∷ rows) l e) h) t

  -- and among rows
  pub row_from : (rows : List (K × V)) (m : ℕ) (row : K × V) → IsRising cmp rows → m < length rows → row ≡ get_or rows m row → from row.0 ≡ true → AreFrom from (drop m rows)
  row_from rows m row h l e t =
      let rising : IsRising cmp (drop m rows) = rising_back cmp (take m rows) (drop m rows) (subst (λ z. IsRising cmp z) (sym (take-append-drop m rows)) h) in
      let at = drop_at rows m row l e in
      subst (λ z. AreFrom from z) (sym at) (from_first row (drop (suc m) rows) (subst (λ z. IsRising cmp z) at rising) t)

  pub row_before : (rows : List (K × V)) (m : ℕ) (row : K × V) → IsRising cmp rows → m < length rows → row ≡ get_or rows m row → from row.0 ≡ false → AreBefore from (take (m + 1) rows)
  row_before rows m row h l e t =
      let front = before_seam (take m rows) row (drop (suc m) rows) (subst (λ z. IsRising cmp z) (parted_at rows m row l e) h) t in
      let both : AreBefore from (take m rows ++ (row ∷ [])) = all_both (λ k. from k ≡ false) (take m rows) (row ∷ []) front (t, tt) in
      rw (add-one, take_at rows m row l e) both

-- The top of a stack, of which the last item is the next one.
use Rattle.std.proofs.Common.{◌≡◌, ℕ, ◌+◌, ◌-◌, ◌<◌, List, [], ◌∷◌, length, drop, get_or, refl, sym, ap, ◌∙◌, arith}
use Rattle.std.specs.Prelude.{reverse}
use Rattle.std.proofs.lemmas.List.{length-reverse, get_or-reverse}

module _ {X : Type 0} where
  -- the top
  pub top : (xs : List X) (n : ℕ) (u : X) → n + 1 ≡ length xs → u ≡ get_or xs n u → reverse xs ≡ u ∷ drop 1 (reverse xs)
  top xs n u l is = by (reverse xs) refl
    where
      by : (ys : List X) → reverse xs ≡ ys → reverse xs ≡ u ∷ drop 1 (reverse xs)
      by [] h =
          let a : length (reverse xs) ≡ length xs = length-reverse xs in
          let b : length (reverse xs) ≡ 0 = ap length h in
          absurd (omega arith)
      by (w ∷ rs) h =
          let some : 0 < length xs = omega arith in
          let at : length xs - 1 - 0 ≡ n = omega arith in
          let first : w ≡ u = sym (ap (λ (ys : List X). get_or ys 0 u) h) ∙ get_or-reverse xs 0 u some ∙ ap (λ k. get_or xs k u) at ∙ sym is in
          h ∙ (λ i. first i ∷ drop 1 (sym h i))

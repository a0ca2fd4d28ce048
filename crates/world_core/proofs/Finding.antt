-- What a search for the first element that passes a test finds.
use Rattle.std.proofs.Common.{◌≡◌, ℕ, zero, suc, ◌+◌, ◌<◌, ◌≤◌, inl, inr, Bool, true, false, not, cond, List, [], ◌∷◌, length, get_or, position, Option, Some, None, refl, sym, ap, ◌∙◌, arith, nat_lt, ltb-true, ltb-false}
use Rattle.std.specs.Prelude.{slice_get, find, MatchOption}
use Rattle.std.specs.List.{position_or_len}
use Rattle.std.proofs.lemmas.Bool.{cases_Bool}
use Rattle.std.proofs.lemmas.List.Folds.{find_at}
use Rattle.std.proofs.lemmas.List.Sums.{prefix_len-le-length}
use Rattle.std.proofs.lemmas.Option.{slice_get-get_or}
use Rattle.vector_core.proofs.Lists.{if_true, if_false}
use Rattle.node_core.proofs.Draws.{Some-same, None-Some}

pub position_some : {X : Type 0} (p : X → Bool) (xs : List X) (at : ℕ) → position p xs ≡ Some at → (position_or_len p xs ≡ at) × (at < length xs)
position_some p xs at e =
    elim (cases_Bool (nat_lt (position_or_len p xs) (length xs))) [
      | inl t ↦
          (let same : position_or_len p xs ≡ at = Some-same (sym (if_true (Some (position_or_len p xs)) None t) ∙ e) in
          let low : position_or_len p xs < length xs = ltb-true (position_or_len p xs) (length xs) t in
          (same, omega arith))
      | inr f ↦ absurd (None-Some (sym (if_false (Some (position_or_len p xs)) None f) ∙ e))
    ]

-- the first element fails, or passes
pub place-skip : {X : Type 0} (p : X → Bool) (x : X) (xs : List X) → p x ≡ false → position_or_len p (x ∷ xs) ≡ suc (position_or_len p xs)
place-skip p x xs e = ap (λ b. cond (not b) (1 + position_or_len p xs) 0) e ∙ one_more (position_or_len p xs)
  where
    one_more : (n : ℕ) → 1 + n ≡ suc n
    one_more n = omega arith

pub place-stop : {X : Type 0} (p : X → Bool) (x : X) (xs : List X) → p x ≡ true → position_or_len p (x ∷ xs) ≡ zero
place-stop p x xs e = ap (λ b. cond (not b) (1 + position_or_len p xs) 0) e

pub position_or_len-le : {X : Type 0} (p : X → Bool) (xs : List X) → position_or_len p xs ≤ length xs
position_or_len-le p xs = prefix_len-le-length (λ x. not (p x)) xs

pub position_none : {X : Type 0} (p : X → Bool) (xs : List X) → position p xs ≡ None → position_or_len p xs ≡ length xs
position_none p xs e =
    elim (cases_Bool (nat_lt (position_or_len p xs) (length xs))) [
      | inl t ↦ absurd (None-Some (sym e ∙ if_true (Some (position_or_len p xs)) None t))
      | inr f ↦
          (let low : position_or_len p xs ≤ length xs = position_or_len-le p xs in
          let high : length xs ≤ position_or_len p xs = ltb-false (position_or_len p xs) (length xs) f in
          omega arith)
    ]

pub find_some : {X : Type 0} (p : X → Bool) (xs : List X) (at : ℕ) → position p xs ≡ Some at → (d : X) → find p xs ≡ Some (get_or xs at d)
find_some p xs at e d =
    let q = position_some p xs at e in
    find_at p xs ∙ ap (λ z. slice_get xs z) q.0 ∙ slice_get-get_or xs at d q.1

pub find_none : {X : Type 0} (p : X → Bool) (xs : List X) → position p xs ≡ None → find p xs ≡ None
find_none p xs e =
    find_at p xs ∙ ap (λ z. slice_get xs z) (position_none p xs e) ∙ past xs
  where
    past : {X : Type 0} (ys : List X) → slice_get ys (length ys) ≡ None
    past [] = refl
    past (y ∷ ys) = past ys

-- the answer of a search, with what is found
abbrev pub Finds : {X : Type 0} → (X → Bool) → List X → Option ℕ → Type 0
Finds {X} p xs o = MatchOption o (find p xs ≡ None) (λ at. (at < length xs) × ((d : X) → find p xs ≡ Some (get_or xs at d)))

pub finds : {X : Type 0} (p : X → Bool) (xs : List X) (o : Option ℕ) → o ≡ position p xs → Finds p xs o
finds p xs None e = find_none p xs (sym e)
finds p xs (Some at) e = ((position_some p xs at (sym e)).1, find_some p xs at (sym e))

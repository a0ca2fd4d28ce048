-- What can't be told of one filter can't be told of those that have it inside.
use Rattle.std.proofs.Common.{◌≡◌, ℕ, ◌+◌, ◌<◌, Bool, true, false, ◌||◌, List, [], ◌∷◌, Option, Some, None, zero, suc, length, get_or, refl, sym, ap, subst, ◌∙◌, arith}
use Rattle.std.specs.Prelude.{IfSome}
use Rattle.std.specs.List.{list_any}
use Rattle.repl_data.specs.declared.csn.Uid.{Uid}
use Rattle.repl_data.specs.View.{DirectoryView}
use Rattle.filter_truth.specs.Lent.{IsUntold}

-- one of which it is true
pub any_at : {X : Type 0} (p : X → Bool) (xs : List X) (i : ℕ) (d : X) → i < length xs → p (get_or xs i d) ≡ true → list_any p xs ≡ true
any_at p [] i d l h = absurd (omega arith)
any_at p (x ∷ xs) zero d l h = ap (λ b. b || list_any p xs) h
any_at p (x ∷ xs) (suc i) d l h = back (p x) (any_at p xs i d (omega arith) h)
  where
    back : (b : Bool) {c : Bool} → c ≡ true → (b || c) ≡ true
    back true e = refl
    back false e = e

pub told_as : {X : Type 0} (o : Option X) (x y : X) → x ≡ y → IfSome o (λ z. z ≡ x) → IfSome o (λ z. z ≡ y)
told_as (Some z) x y e h = h ∙ e
told_as None x y e h = tt

pub untold_as : (v : DirectoryView) (u : Uid) (a b : Bool) → a ≡ b → IsUntold v u a → IsUntold v u b
untold_as v u a b e h = record { lost = h.lost; asked = sym e ∙ h.asked }

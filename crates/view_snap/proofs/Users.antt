-- ATTRIBUTES that are kept to be shown.
use Rattle.std.proofs.Common.{◌≡◌, List, [], ◌∷◌, map, refl, sym, ap, ◌∙◌}
use Rattle.repl_data.specs.declared.change.Shown.{Shown}
use Rattle.repl_data.specs.View.{user}
use Rattle.urp_tree.specs.Moves.{kept}

abbrev pub as_users : List Shown → List Shown
as_users xs = map (λ (s : Shown). user (kept s)) xs

again : (xs : List Shown) → map user (map kept (as_users xs)) ≡ as_users xs
again [] = refl
again (x ∷ xs) = ap (λ r. user (kept x) ∷ r) (again xs)

same : (xs : List Shown) → map kept (as_users xs) ≡ map kept xs
same [] = refl
same (x ∷ xs) = ap (λ r. kept x ∷ r) (same xs)

pub users_again : (xs us : List Shown) → us ≡ as_users xs → us ≡ map user (map kept us)
users_again xs us h = h ∙ sym (again xs) ∙ ap (λ (z : List Shown). map user (map kept z)) (sym h)

pub users_same : (xs us : List Shown) → us ≡ as_users xs → map kept us ≡ map kept xs
users_same xs us h = ap (map kept) h ∙ same xs

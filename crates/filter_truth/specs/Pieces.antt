-- PIECES OF A TEXT: which texts have them, in their order and apart from each other (RFC 4511, section 4.5.1.7.2).
use Rattle.std.specs.Prelude.{ℕ, Bool, ◌&&◌, List, [], ◌∷◌, length, drop, nat_eq}
use Rattle.std.specs.List.{list_any, starts_with, ends_with}

-- the text from each of its places on, and from its end
abbrev pub tails : List ℕ → List (List ℕ)
tails [] = [] ∷ []
tails (x ∷ xs) = (x ∷ xs) ∷ tails xs

abbrev pub begins : List ℕ → List ℕ → Bool
begins text piece = starts_with nat_eq text piece

-- the text ends with the last piece, and before it has the others in their order: somewhere the first of them, and
-- behind it the rest
abbrev pub in_order : List (List ℕ) → List ℕ → List ℕ → Bool
in_order [] last text = ends_with nat_eq text last
in_order (piece ∷ pieces) last text = list_any (λ rest. begins rest piece && in_order pieces last (drop (length piece) rest)) (tails text)

-- the text begins with the first piece, and behind it has the middle ones and the last
abbrev pub has_pieces : List ℕ → List (List ℕ) → List ℕ → List ℕ → Bool
has_pieces first middle last text = begins text first && in_order middle last (drop (length first) text)

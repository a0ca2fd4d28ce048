-- Elements as they are appended.
use Rattle.std.proofs.Common.{◌≡◌, ℕ, ◌+◌, ◌<◌, List, [], ◌∷◌, ◌++◌, length, take, get_or, set, refl, ap, sym, ◌∙◌, arith, length-append}
use Rattle.std.specs.List.{flat_map}
use Rattle.std.proofs.lemmas.List.{set_at, flat_map_more, take_more}
use Rattle.ber_core.specs.Element.{shortest_length, element}

-- another tag in place of the one that was appended
pub retagged : (front : List ℕ) (tag kind : ℕ) (body : List ℕ) → set (front ++ element tag body) (length front) kind ≡ front ++ element kind body
unfolding element
retagged front tag kind body = set_at front tag (shortest_length (length body) ++ body) kind (length front) refl

pub some_appended : (front : List ℕ) (tag : ℕ) (body : List ℕ) → length front < length (front ++ element tag body)
unfolding element
some_appended front tag body = omega (arith, length-append front ((tag ∷ shortest_length (length body)) ++ body), length-append (tag ∷ shortest_length (length body)) body)

-- one element more of a list of them
pub one_more : {A : Type 0} (f : A → List ℕ) (xs : List A) (i : ℕ) (x : A) → i < length xs → x ≡ get_or xs i x → flat_map f (take i xs) ++ f x ≡ flat_map f (take (i + 1) xs)
one_more f xs i x lt is =
    flat_map_more f [] (take i xs) x ∙ ap (λ (ys : List _). flat_map f ys) (ap (λ (y : _). take i xs ++ y ∷ []) is ∙ sym (take_more xs i x lt))

-- How names are printed, one piece after the other.
use Rattle.std.proofs.Common.{◌≡◌, ℕ, ◌+◌, ◌<◌, Bool, true, false, List, [], ◌∷◌, ◌++◌, map, length, get_or, drop, add-one, refl, ap, sym, ◌∙◌, append_assoc, arith, length-drop, append-nil}
use Rattle.std.specs.Prelude.{flat_map, ◌&&◌, ◌==◌}
use Rattle.std.proofs.lemmas.Bool.Decides.{nat_tests}
use Rattle.std.proofs.Math.Seq.{drop-cons}
use Rattle.repl_data.specs.Text.{joined, escaped, escaped_rest}

-- the first piece, and each further one behind a separator
pub joined_first : {X : Type 0} (sep : List ℕ) (text : X → List ℕ) (x : X) (xs : List X) → joined sep (map text (x ∷ xs)) ≡ text x ++ flat_map (λ a. sep ++ text a) xs
joined_first sep text x [] = sym (append-nil (text x))
joined_first sep text x (y ∷ ys) =
    ap (λ r. (text x ++ sep) ++ r) (joined_first sep text y ys)
    ∙ append_assoc (text x) sep (text y ++ flat_map (λ a. sep ++ text a) ys)
    ∙ ap (λ r. text x ++ r) (sym (append_assoc sep (text y) (flat_map (λ a. sep ++ text a) ys)))

-- each piece with a separator, and then the last one
pub joined_last : {X : Type 0} (sep : List ℕ) (text : X → List ℕ) (xs : List X) (s : List ℕ) → joined sep (map text xs ++ s ∷ []) ≡ flat_map (λ a. text a ++ sep) xs ++ s
joined_last sep text [] s = refl
joined_last sep text (x ∷ []) s = ap (λ r. r ++ s) (sym (append-nil (text x ++ sep)))
joined_last sep text (x ∷ y ∷ ys) s =
    ap (λ r. (text x ++ sep) ++ r) (joined_last sep text (y ∷ ys) s)
    ∙ sym (append_assoc (text x ++ sep) (flat_map (λ a. text a ++ sep) (y ∷ ys)) s)

-- a byte after the first one
module _ (b : ℕ) where
  last_byte : (rest : List ℕ) (t : Bool) → t ≡ true → length rest ≡ 0 → escaped_rest (b ∷ rest) ≡ escaped (t && (b == 32)) b ++ escaped_rest rest
  last_byte [] t e l = ap (λ v. escaped (v && (b == 32)) b) (sym e) ∙ sym (append-nil (escaped (t && (b == 32)) b))
  last_byte (c ∷ cs) t e l = absurd (omega arith)

  inner_byte : (rest : List ℕ) (t : Bool) → t ≡ false → 0 < length rest → escaped_rest (b ∷ rest) ≡ escaped (t && (b == 32)) b ++ escaped_rest rest
  inner_byte [] t e l = absurd (omega arith)
  inner_byte (c ∷ cs) t e l = ap (λ v. escaped (v && (b == 32)) b ++ escaped_rest (c ∷ cs)) (sym e)

pub escaped_rest_more : (xs : List ℕ) (i : ℕ) → i < length xs → escaped_rest (drop i xs) ≡ escaped ((i + 1 == length xs) && (get_or xs i 0 == 32)) (get_or xs i 0) ++ escaped_rest (drop (i + 1) xs)
escaped_rest_more xs i l =
    ap escaped_rest (drop-cons xs i 0 l ∙ ap (λ n. get_or xs i 0 ∷ drop n xs) (sym (add-one i))) ∙ by (i + 1 == length xs) refl
  where
    by : (t : Bool) → (i + 1 == length xs) ≡ t → escaped_rest (get_or xs i 0 ∷ drop (i + 1) xs) ≡ escaped ((i + 1 == length xs) && (get_or xs i 0 == 32)) (get_or xs i 0) ++ escaped_rest (drop (i + 1) xs)
    by true e = let k = length-drop (i + 1) xs in let z : length (drop (i + 1) xs) ≡ 0 = grind (arith, nat_tests) in last_byte (get_or xs i 0) (drop (i + 1) xs) (i + 1 == length xs) e z
    by false e = let k = length-drop (i + 1) xs in let z : 0 < length (drop (i + 1) xs) = grind (arith, nat_tests) in inner_byte (get_or xs i 0) (drop (i + 1) xs) (i + 1 == length xs) e z

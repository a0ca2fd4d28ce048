-- Names that are the same by their keys.
use Rattle.std.proofs.Common.{◌≡◌, ◌≢◌, ℕ, suc, ◌+◌, ◌<◌, ◌≤◌, Bool, true, false, List, [], ◌∷◌, length, get_or, drop, refl, sym, ap, ap₂, ◌∙◌, arith}
use Rattle.std.specs.Prelude.{◌&&◌}
use Rattle.std.proofs.lemmas.List.{drop_more, drop_all}
use Rattle.repl_data.specs.declared.change.Ava.{Ava}
use Rattle.repl_data.specs.declared.change.Rdn.{Rdn}
use Rattle.repl_data.proofs.Bools.{and_false}
use Rattle.dn_text.specs.Below.{is_same_part, are_same_parts, are_same_rdns}

-- ---- parts

parts-at : (at : ℕ) (a b : List Ava) (x y : Ava) → at < length a → length a ≡ length b → x ≡ get_or a at x → y ≡ get_or b at y → are_same_parts (drop at a) (drop at b) ≡ (is_same_part x y && are_same_parts (drop (at + 1) a) (drop (at + 1) b))
unfolding are_same_parts
parts-at at a b x y h k p q =
    let lt : at < length b = omega arith in
    ap₂ are_same_parts (drop_more a at x h) (drop_more b at y lt)
    ∙ ap₂ (λ (v w : Ava). is_same_part v w && are_same_parts (drop (at + 1) a) (drop (at + 1) b)) (sym p) (sym q)

pub parts-differ : (at : ℕ) (a b : List Ava) (x y : Ava) → at < length a → length a ≡ length b → x ≡ get_or a at x → y ≡ get_or b at y → is_same_part x y ≡ false → are_same_parts (drop at a) (drop at b) ≡ false
parts-differ at a b x y h k p q e =
    parts-at at a b x y h k p q ∙ ap (λ (t : Bool). t && are_same_parts (drop (at + 1) a) (drop (at + 1) b)) e

pub parts-agree : (at : ℕ) (a b : List Ava) (x y : Ava) → at < length a → length a ≡ length b → x ≡ get_or a at x → y ≡ get_or b at y → is_same_part x y ≡ true → are_same_parts (drop at a) (drop at b) ≡ are_same_parts (drop (at + 1) a) (drop (at + 1) b)
parts-agree at a b x y h k p q e =
    parts-at at a b x y h k p q ∙ ap (λ (t : Bool). t && are_same_parts (drop (at + 1) a) (drop (at + 1) b)) e

pub parts-end : (at : ℕ) (a b : List Ava) → length a ≤ at → length a ≡ length b → are_same_parts (drop at a) (drop at b) ≡ true
unfolding are_same_parts
parts-end at a b h k = let le : length b ≤ at = omega arith in ap₂ are_same_parts (drop_all at a h) (drop_all at b le)

longer : {m n : ℕ} → m ≡ n → suc m ≡ suc n
longer e = ap suc e

pub parts-lengths : (a b : List Ava) → length a ≢ length b → are_same_parts a b ≡ false
unfolding are_same_parts
parts-lengths [] [] h = absurd (h refl)
parts-lengths [] (y ∷ ys) h = refl
parts-lengths (x ∷ xs) [] h = refl
parts-lengths (x ∷ xs) (y ∷ ys) h =
    let never : length xs ≢ length ys = λ e. h (longer e) in
    ap (λ (t : Bool). is_same_part x y && t) (parts-lengths xs ys never) ∙ and_false (is_same_part x y)

-- ---- RDNs

rdns-at : (at : ℕ) (a b : List Rdn) (x y : Rdn) → at < length a → length a ≡ length b → x ≡ get_or a at x → y ≡ get_or b at y → are_same_rdns (drop at a) (drop at b) ≡ (are_same_parts x.avas y.avas && are_same_rdns (drop (at + 1) a) (drop (at + 1) b))
unfolding are_same_rdns
rdns-at at a b x y h k p q =
    let lt : at < length b = omega arith in
    ap₂ are_same_rdns (drop_more a at x h) (drop_more b at y lt)
    ∙ ap₂ (λ (v w : Rdn). are_same_parts v.avas w.avas && are_same_rdns (drop (at + 1) a) (drop (at + 1) b)) (sym p) (sym q)

pub rdns-differ : (at : ℕ) (a b : List Rdn) (x y : Rdn) → at < length a → length a ≡ length b → x ≡ get_or a at x → y ≡ get_or b at y → are_same_parts x.avas y.avas ≡ false → are_same_rdns (drop at a) (drop at b) ≡ false
rdns-differ at a b x y h k p q e =
    rdns-at at a b x y h k p q ∙ ap (λ (t : Bool). t && are_same_rdns (drop (at + 1) a) (drop (at + 1) b)) e

pub rdns-agree : (at : ℕ) (a b : List Rdn) (x y : Rdn) → at < length a → length a ≡ length b → x ≡ get_or a at x → y ≡ get_or b at y → are_same_parts x.avas y.avas ≡ true → are_same_rdns (drop at a) (drop at b) ≡ are_same_rdns (drop (at + 1) a) (drop (at + 1) b)
rdns-agree at a b x y h k p q e =
    rdns-at at a b x y h k p q ∙ ap (λ (t : Bool). t && are_same_rdns (drop (at + 1) a) (drop (at + 1) b)) e

pub rdns-end : (at : ℕ) (a b : List Rdn) → length a ≤ at → length a ≡ length b → are_same_rdns (drop at a) (drop at b) ≡ true
unfolding are_same_rdns
rdns-end at a b h k = let le : length b ≤ at = omega arith in ap₂ are_same_rdns (drop_all at a h) (drop_all at b le)

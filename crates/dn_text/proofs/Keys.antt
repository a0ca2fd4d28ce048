-- The tests for the same parts and the same RDNs compare their keys.
use Rattle.std.proofs.Common.{◌≡◌, ℕ, zero, suc, ◌+◌, ◌-◌, ◌≤◌, Bool, true, false, List, [], ◌∷◌, length, map, take, drop, bytes_eq, refl, sym, ap, ap₂, ◌∙◌, arith}
use Rattle.std.specs.Prelude.{◌&&◌}
use Rattle.std.proofs.lemmas.Bool.{false≢true}
use Rattle.std.proofs.lemmas.List.{take_rest}
use Rattle.std.specs.Cmp.Lexicographic.{bytes_decides}
use Rattle.repl_data.specs.declared.change.Ava.{Ava}
use Rattle.repl_data.specs.declared.change.Rdn.{Rdn}
use Rattle.repl_data.specs.Order.{rdn_key}
use Rattle.dn_text.specs.declared.name.Dn.{Dn}
use Rattle.dn_text.specs.Below.{StandsAbove, keys_of, is_same_part, are_same_parts, are_same_rdns}
use Rattle.repl_data.proofs.Bools.{and-left, and-right, and-both}

abbrev part_key : Ava → List ℕ × List ℕ
part_key a = (a.attr.name, a.val.key)

part-same : (a b : Ava) → is_same_part a b ≡ true → part_key a ≡ part_key b
part-same a b h =
    ap₂ (λ (n k : List ℕ). (n, k))
    ((bytes_decides a.attr.name b.attr.name).0 (and-left _ (bytes_eq a.val.key b.val.key) h))
    ((bytes_decides a.val.key b.val.key).0 (and-right (bytes_eq a.attr.name b.attr.name) _ h))

part-test : (a b : Ava) → part_key a ≡ part_key b → is_same_part a b ≡ true
part-test a b h =
    and-both _ _
    ((bytes_decides a.attr.name b.attr.name).1 (ap (λ (p : List ℕ × List ℕ). p.0) h))
    ((bytes_decides a.val.key b.val.key).1 (ap (λ (p : List ℕ × List ℕ). p.1) h))

parts-same : (a b : List Ava) → are_same_parts a b ≡ true → map part_key a ≡ map part_key b
unfolding are_same_parts
parts-same [] [] h = refl
parts-same [] (y ∷ ys) h = absurd (false≢true h)
parts-same (x ∷ xs) [] h = absurd (false≢true h)
parts-same (x ∷ xs) (y ∷ ys) h =
    ap₂ (λ (p : List ℕ × List ℕ) (ps : List (List ℕ × List ℕ)). p ∷ ps) (part-same x y (and-left _ (are_same_parts xs ys) h)) (parts-same xs ys (and-right (is_same_part x y) _ h))

parts-test : (a b : List Ava) → map part_key a ≡ map part_key b → are_same_parts a b ≡ true
unfolding are_same_parts
parts-test [] [] h = refl
parts-test [] (y ∷ ys) h = cc
parts-test (x ∷ xs) [] h = cc
parts-test (x ∷ xs) (y ∷ ys) h =
    let first : part_key x ≡ part_key y = cc in
    let rest : map part_key xs ≡ map part_key ys = cc in
    and-both _ _ (part-test x y first) (parts-test xs ys rest)

rdns-same : (a b : List Rdn) → are_same_rdns a b ≡ true → keys_of a ≡ keys_of b
unfolding are_same_rdns
rdns-same [] [] h = refl
rdns-same [] (y ∷ ys) h = absurd (false≢true h)
rdns-same (x ∷ xs) [] h = absurd (false≢true h)
rdns-same (x ∷ xs) (y ∷ ys) h =
    ap₂ (λ (p : List (List ℕ × List ℕ)) (ps : List (List (List ℕ × List ℕ))). p ∷ ps) (parts-same x.avas y.avas (and-left _ (are_same_rdns xs ys) h)) (rdns-same xs ys (and-right (are_same_parts x.avas y.avas) _ h))

rdns-test : (a b : List Rdn) → keys_of a ≡ keys_of b → are_same_rdns a b ≡ true
unfolding are_same_rdns
rdns-test [] [] h = refl
rdns-test [] (y ∷ ys) h = cc
rdns-test (x ∷ xs) [] h = cc
rdns-test (x ∷ xs) (y ∷ ys) h =
    let first : rdn_key x ≡ rdn_key y = cc in
    let rest : keys_of xs ≡ keys_of ys = cc in
    and-both _ _ (parts-test x.avas y.avas first) (rdns-test xs ys rest)

pub above-found : (name suffix : Dn) (rs ss : List Rdn) → rs ≡ name.rdns → ss ≡ suffix.rdns → length ss ≤ length rs → true ≡ are_same_rdns (take (length rs - (length rs - length ss)) (drop (length rs - length ss) rs)) ss → StandsAbove name suffix (length rs - length ss)
above-found name suffix rs ss p q le e =
    let n : ℕ = length rs - length ss in
    let test : are_same_rdns (drop n rs) ss ≡ true = ap (λ (xs : List Rdn). are_same_rdns xs ss) (sym (take_rest rs n)) ∙ sym e in
    let lengths_p : length rs ≡ length name.rdns = ap length p in
    let lengths_q : length ss ≡ length suffix.rdns = ap length q in
    record {
      lengths = omega arith;
      same = ap (λ (xs : List Rdn). keys_of (drop n xs)) (sym p) ∙ rdns-same (drop n rs) ss test ∙ ap keys_of q;
    }

pub above-none : (name suffix : Dn) (rs ss : List Rdn) → rs ≡ name.rdns → ss ≡ suffix.rdns → length ss ≤ length rs → false ≡ are_same_rdns (take (length rs - (length rs - length ss)) (drop (length rs - length ss) rs)) ss → (count : ℕ) → StandsAbove name suffix count → ⊥
above-none name suffix rs ss p q le e count s =
    let n : ℕ = length rs - length ss in
    let lengths_p : length rs ≡ length name.rdns = ap length p in
    let lengths_q : length ss ≡ length suffix.rdns = ap length q in
    let sum : count + length suffix.rdns ≡ length name.rdns = s.lengths in
    let k : n ≡ count = omega arith in
    let keys : keys_of (drop n rs) ≡ keys_of ss = ap₂ (λ (i : ℕ) (xs : List Rdn). keys_of (drop i xs)) k p ∙ s.same ∙ ap keys_of (sym q) in
    let test : are_same_rdns (take (length rs - n) (drop n rs)) ss ≡ true = ap (λ (xs : List Rdn). are_same_rdns xs ss) (take_rest rs n) ∙ rdns-test (drop n rs) ss keys in
    false≢true (e ∙ test)

-- ---- names of the same keys

map-drop : (n : ℕ) (rs : List Rdn) → keys_of (drop n rs) ≡ drop n (keys_of rs)
map-drop zero rs = refl
map-drop (suc n) [] = refl
map-drop (suc n) (r ∷ rs) = map-drop n rs

length-keys : (rs : List Rdn) → length (keys_of rs) ≡ length rs
length-keys [] = refl
length-keys (r ∷ rs) = ap suc (length-keys rs)

pub same-above : (a b suffix : Dn) (count : ℕ) → keys_of a.rdns ≡ keys_of b.rdns → StandsAbove a suffix count → StandsAbove b suffix count
same-above a b suffix count e s = record {
  lengths = s.lengths ∙ sym (length-keys a.rdns) ∙ ap length e ∙ length-keys b.rdns;
  same = map-drop count b.rdns ∙ ap (drop count) (sym e) ∙ sym (map-drop count a.rdns) ∙ s.same;
}

-- A text that is not empty is read as a name that is not.
use Rattle.std.proofs.Common.{◌≡◌, ℕ, suc, ◌+◌, ◌==◌, Bool, true, false, cond, List, [], ◌∷◌, length, Result, Ok, Err, refl, subst, arith}
use Rattle.std.proofs.lemmas.Bool.Decides.{nat_tests}
use Rattle.repl_data.specs.declared.change.Rdn.{Rdn}
use Rattle.repl_data.specs.Check.{is_empty}
use Rattle.dn_text.specs.declared.name.Dn.{Dn}
use Rattle.dn_text.specs.declared.fault.DnFault.{DnFault}
use Rattle.dn_text.specs.Split.{Span, is_bare, escapes_next, put_front, pieces_from, pieces}
use Rattle.dn_text.specs.Reading.{rdn_in, rdns_in, dn_in}
use Rattle.dn_text.specs.Fault.{◌>>=◌}

abbrev pub has_one : {X : Type 0} → List X → Type 0
has_one xs = is_empty xs ≡ false

front_some : (at c : ℕ) (spans : List Span) → has_one spans → has_one (put_front at c spans)
front_some at c [] h = h
front_some at c (s ∷ ss) h = refl

pieces_some : (by : ℕ) (escaped : Bool) (at : ℕ) (text : List ℕ) → has_one (pieces_from by escaped at text)
unfolding pieces_from
pieces_some by escaped at [] = refl
pieces_some by escaped at (c ∷ cs) =
    choose (is_bare escaped by c) (record { start = at; text = [] } ∷ pieces_from by false (at + 1) cs) (put_front at c (pieces_from by (escapes_next escaped c) (at + 1) cs))
    refl (front_some at c (pieces_from by (escapes_next escaped c) (at + 1) cs) (pieces_some by (escapes_next escaped c) (at + 1) cs))
  where
    choose : (b : Bool) (x y : List Span) → has_one x → has_one y → has_one (cond b x y)
    choose true x y h k = h
    choose false x y h k = k

rdns_some : (spans : List Span) (rdns : List Rdn) → has_one spans → rdns_in spans ≡ Ok rdns → has_one rdns
unfolding rdns_in
rdns_some [] rdns h e = let f : true ≡ false = h in absurd cc
rdns_some (s ∷ ss) rdns h e = by (rdn_in s) e
  where
    later : (rdn : Rdn) (r : Result (List Rdn) DnFault) → (r >>= λ rs. Ok (rdn ∷ rs)) ≡ Ok rdns → has_one rdns
    later rdn (Ok rs) k = let same : rdn ∷ rs ≡ rdns = cc in subst (λ (x : List Rdn). has_one x) same refl
    later rdn (Err x) k = let f : ◌≡◌ {A = Result (List Rdn) DnFault} (Err x) (Ok rdns) = k in absurd cc

    by : (r : Result Rdn DnFault) → (r >>= λ rdn. rdns_in ss >>= λ rs. Ok (rdn ∷ rs)) ≡ Ok rdns → has_one rdns
    by (Ok rdn) k = later rdn (rdns_in ss) k
    by (Err x) k = let f : ◌≡◌ {A = Result (List Rdn) DnFault} (Err x) (Ok rdns) = k in absurd cc

not_zero : (n : ℕ) → (suc n == 0) ≡ false
not_zero n = grind (arith, nat_tests)

pub name_some : (text : List ℕ) (dn : Dn) → is_empty text ≡ false → dn_in text ≡ Ok dn → has_one dn.rdns
unfolding dn_in
name_some [] dn h e = let f : true ≡ false = h in absurd cc
name_some (c ∷ cs) dn h e =
    by (length (c ∷ cs) == 0) (not_zero (length cs)) (rdns_in (pieces 44 0 (c ∷ cs))) refl e
  where
    by : (b : Bool) → b ≡ false → (r : Result (List Rdn) DnFault) → rdns_in (pieces 44 0 (c ∷ cs)) ≡ r → cond b (Ok (record { rdns = [] })) (r >>= λ rs. Ok (record { rdns = rs })) ≡ Ok dn → has_one dn.rdns
    by true f r g k = let f' : true ≡ false = f in absurd cc
    by false f (Ok rs) g k =
        let same : ◌≡◌ {A = Dn} (record { rdns = rs }) dn = cc in
        subst (λ (x : Dn). has_one x.rdns) same (rdns_some (pieces 44 0 (c ∷ cs)) rs (pieces_some 44 false 0 (c ∷ cs)) g)
    by false f (Err x) g k = let f' : ◌≡◌ {A = Result Dn DnFault} (Err x) (Ok dn) = k in absurd cc

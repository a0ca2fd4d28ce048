use Rattle.std.proofs.Common.{◌≡◌, ℕ, ◌≤◌, Bool, true, false, cond, ltb, length, take, Some, None, refl, ap, sym, arith}
use Rattle.std.proofs.lemmas.List.{take_all}
use Rattle.std.proofs.lemmas.Bool.Decides.{nat_tests}
use Rattle.std.specs.List.{position_or_len}
use Rattle.std.specs.Prelude.{◌==◌}
use Rattle.repl_data.proofs.types.base_name.Goals as goal

some_is : (n at : ℕ) (b : Bool) → cond b (Some n) None ≡ Some at → at ≡ n
some_is n at true e = cc
some_is n at false e = cc

whole_from_none : (n l : ℕ) (b : Bool) → ltb n l ≡ b → cond b (Some n) None ≡ None → l ≤ n
whole_from_none n l true e h = cc
whole_from_none n l false e h = grind (arith, nat_tests)

pub returns-in-Some : goal.returns-in-Some
returns-in-Some c =
    let xs = c.args.name.now in
    let n : ℕ = position_or_len (λ b. b == 59) xs in
    ap (λ k. take k xs) (some_is n c.in-Some.at (ltb n (length xs)) (sym c.in-Some.ensures))

pub returns-in-None : goal.returns-in-None
returns-in-None c =
    let xs = c.args.name.now in
    let n : ℕ = position_or_len (λ b. b == 59) xs in
    sym (take_all n xs (whole_from_none n (length xs) (ltb n (length xs)) refl (sym c.in-None.ensures)))

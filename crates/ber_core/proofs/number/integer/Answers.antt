use Rattle.std.proofs.Common.{◌≡◌, ℕ, ◌-◌, List, ◌++◌, length, replicate, ap, ◌∙◌, arith, rules}
use Rattle.std.specs.Prelude.{FitsSigned}
use Rattle.std.specs.Int.{w64, from_be_bytes, cast_signed}
use Rattle.std.proofs.lemmas.Int.{to_z-of_z}
use Rattle.std.proofs.lemmas.List.{append-nil}
use Rattle.ber_core.specs.Number.{sign_byte}
use Rattle.ber_core.proofs.Digits.{integer-padded}
use Rattle.ber_core.proofs.number.integer.Goals as goal

pub returns : goal.returns
returns c =
    let bytes = c.args.bytes.now in
    let fits : FitsSigned w64 c.from_be_bytes.result = search rules in
    let none : length bytes - length bytes ≡ 0 = omega arith in
    let all : c.padded.result ≡ replicate (8 - length bytes) (sign_byte bytes) ++ bytes =
    c.padded.ensures ∙ rw (none, c.sign_byte.ensures) (append-nil _) in
    to_z-of_z w64 c.from_be_bytes.result fits ∙ c.from_be_bytes.ensures ∙ ap (λ (xs : List ℕ). cast_signed w64 (from_be_bytes w64 xs)) all
    ∙ integer-padded bytes (λ i. omega (arith, c.type_inv.bytes i)) c.requires.some c.requires.up_to_eight

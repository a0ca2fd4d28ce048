use Rattle.std.proofs.Common.{◌≤◌, length, take, ap, ◌∙◌, arith}
use Rattle.std.proofs.lemmas.List.{length-take}
use Rattle.std.specs.Int.{w64, from_be_bytes}
use Rattle.ber_core.proofs.Digits.{least_number-padded}
use Rattle.ber_core.proofs.number.least_number.Goals as goal

pub returns : goal.returns
returns c =
    let few : length (take c.args.count c.args.digits.now) ≤ c.args.count = omega (arith, length-take c.args.count c.args.digits.now) in
    c.from_be_bytes.ensures ∙ ap (from_be_bytes w64) c.padded.ensures
    ∙ rw c.up_to.ensures (least_number-padded c.args.count (take c.args.count c.args.digits.now) few c.requires)

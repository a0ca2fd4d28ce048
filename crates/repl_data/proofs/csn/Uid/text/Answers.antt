use Rattle.std.proofs.Common.{refl}
use Rattle.hex.specs.Hex.{encode_with}
use Rattle.repl_data.proofs.csn.Uid.text.Goals as goal

pub returns : goal.returns
unfolding encode_with
returns c = rw c.text.ensures refl

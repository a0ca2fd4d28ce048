use Rattle.std.proofs.Common.{◌++◌}
use Rattle.request_wait.proofs.Steps.{some_goes}
use Rattle.request_wait.proofs.next.some.Goals as goal

pub returns : goal.returns
returns c = λ more. some_goes c.args.next c.args.place (c.args.bytes.now ++ more) c.if-place.false

use Rattle.std.proofs.Common.{◌≡◌, map}
use Rattle.conn_core.specs.Serving.{raw_attr}
use Rattle.conn_core.proofs.answer.raw_attrs.Given as goal

abbrev pub invariant-loop-shown : goal.invariant-loop-shown
invariant-loop-shown l = l.raws ≡ map (raw_attr) l.yielded

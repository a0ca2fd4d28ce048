use Rattle.std.proofs.Common.{◌≡◌, map}
use Rattle.repl_data.specs.declared.change.Val.{Val}
use Rattle.conn_core.proofs.answer.raw_vals.Given as goal

abbrev pub invariant-loop-val : goal.invariant-loop-val
invariant-loop-val l = l.raws ≡ map (λ (v : Val). v.spelled) l.yielded

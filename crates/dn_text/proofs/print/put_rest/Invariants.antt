use Rattle.std.proofs.Common.{◌≡◌, ◌++◌, drop}
use Rattle.repl_data.specs.Text.{escaped_rest}
use Rattle.dn_text.proofs.print.put_rest.Given as goal

abbrev pub invariant-loop-at : goal.invariant-loop-at
invariant-loop-at l = l.initial.out ++ escaped_rest l.rest ≡ l.out ++ escaped_rest (drop l.at l.rest)

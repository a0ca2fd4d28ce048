use Rattle.std.proofs.Common.{◌≡◌, ◌++◌, drop}
use Rattle.repl_data.specs.Text.{escaped_rest}
use Rattle.shown_entry.proofs.text.put_rest.Given as goal

abbrev pub invariant-loop-i : goal.invariant-loop-i
invariant-loop-i l = l.out ++ escaped_rest (drop l.i l.rest) ≡ l.initial.out ++ escaped_rest l.rest

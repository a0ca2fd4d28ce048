use Rattle.std.proofs.Common.{◌≡◌, ◌++◌, drop}
use Rattle.repl_data.specs.Key.{squeezed}
use Rattle.attr_keys.proofs.text.squeezed.Given as goal

abbrev pub invariant-loop-b : goal.invariant-loop-b
invariant-loop-b l = squeezed l.fn.after l.text ≡ l.out ++ squeezed l.space (drop l.b-index l.text)

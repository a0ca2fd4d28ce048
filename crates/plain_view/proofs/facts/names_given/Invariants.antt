use Rattle.std.proofs.Common.{◌≡◌, take}
use Rattle.std.specs.Prelude.{flat_map}
use Rattle.repl_data.specs.Facts.{names_given}
use Rattle.repl_data.specs.declared.change.Change.{Change}
use Rattle.plain_view.proofs.facts.names_given.Given as goal

abbrev pub invariant-loop-c : goal.invariant-loop-c
invariant-loop-c l = l.given ≡ flat_map (λ (c : Change). names_given c.csn c.body) (take l.c-index l.own)

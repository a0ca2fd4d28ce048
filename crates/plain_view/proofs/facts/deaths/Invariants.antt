use Rattle.std.proofs.Common.{◌≡◌, take}
use Rattle.std.specs.Prelude.{flat_map}
use Rattle.repl_data.specs.Facts.{deaths}
use Rattle.repl_data.specs.declared.change.Change.{Change}
use Rattle.plain_view.proofs.facts.deaths.Given as goal

abbrev pub invariant-loop-c : goal.invariant-loop-c
invariant-loop-c l = l.stamps ≡ flat_map (λ (c : Change). deaths c.csn c.body) (take l.c-index l.own)

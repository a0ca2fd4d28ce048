use Rattle.std.proofs.Common.{◌≡◌, ◌++◌, map, take}
use Rattle.std.specs.Prelude.{flat_map}
use Rattle.repl_data.specs.declared.change.Change.{Change}
use Rattle.repl_data.specs.Stamps.{body_acts}
use Rattle.plain_view.specs.Seen.{act_of}
use Rattle.plain_view.proofs.acts.acts_on.Given as goal

abbrev pub invariant-loop-c : goal.invariant-loop-c
invariant-loop-c l = map act_of l.acts ≡ map act_of l.initial.acts ++ flat_map (λ (c : Change). body_acts c.csn c.body) (take l.c-index l.own)

use Rattle.std.proofs.Common.{◌≡◌, map, take}
use Rattle.std.specs.Prelude.{filter}
use Rattle.repl_data.specs.Facts.{is_act_on}
use Rattle.plain_view.specs.Seen.{act_of}
use Rattle.plain_view.proofs.facts.acts_of_attr.Given as goal

abbrev pub invariant-loop-act : goal.invariant-loop-act
invariant-loop-act l = map act_of l.own ≡ filter (is_act_on l.attr) (map act_of (take l.act-index l.acts))

use Rattle.std.proofs.Common.{◌≡◌, map, take}
use Rattle.std.specs.Prelude.{flat_map}
use Rattle.repl_data.specs.Facts.{additions}
use Rattle.plain_view.specs.Seen.{act_of}
use Rattle.plain_view.proofs.facts.additions.Given as goal

abbrev pub invariant-loop-act : goal.invariant-loop-act
invariant-loop-act l = l.given ≡ flat_map (additions l.key) (map act_of (take l.act-index l.acts))

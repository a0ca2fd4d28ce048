use Rattle.std.proofs.Common.{◌≡◌, map, take}
use Rattle.repl_data.specs.Facts.{attr_of}
use Rattle.plain_view.specs.Seen.{act_of}
use Rattle.plain_view.proofs.facts.attrs_of.Given as goal

abbrev pub invariant-loop-act : goal.invariant-loop-act
invariant-loop-act l = l.attrs ≡ map attr_of (map act_of (take l.act-index l.acts))

use Rattle.std.proofs.Common.{◌≡◌, map, take}
use Rattle.std.specs.Prelude.{flat_map}
use Rattle.repl_data.specs.Facts.{keys_named}
use Rattle.plain_view.specs.Seen.{act_of}
use Rattle.plain_view.proofs.facts.keys_named.Given as goal

abbrev pub invariant-loop-act : goal.invariant-loop-act
invariant-loop-act l = l.keys ≡ flat_map keys_named (map act_of (take l.act-index l.acts))

use Rattle.std.proofs.Common.{◌≡◌, map, take}
use Rattle.repl_data.specs.Facts.{val_facts}
use Rattle.plain_view.specs.Seen.{act_of}
use Rattle.plain_view.proofs.facts.vals_facts.Given as goal

abbrev pub invariant-loop-key : goal.invariant-loop-key
invariant-loop-key l = l.vals ≡ map (val_facts (map act_of l.acts)) (take l.key-index l.keys)

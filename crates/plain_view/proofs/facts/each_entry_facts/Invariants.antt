use Rattle.std.proofs.Common.{◌≡◌, map, take}
use Rattle.repl_data.specs.Facts.{entry_facts}
use Rattle.plain_view.proofs.facts.each_entry_facts.Given as goal

abbrev pub invariant-loop-id : goal.invariant-loop-id
invariant-loop-id l = l.facts ≡ map (entry_facts l.suffix l.changes) (take l.id-index l.ids)

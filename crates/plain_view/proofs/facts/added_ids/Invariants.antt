use Rattle.std.proofs.Common.{◌≡◌, take}
use Rattle.repl_data.specs.Facts.{added_ids}
use Rattle.plain_view.proofs.facts.added_ids.Given as goal

abbrev pub invariant-loop-c : goal.invariant-loop-c
invariant-loop-c l = l.ids ≡ added_ids (take l.c-index l.changes)

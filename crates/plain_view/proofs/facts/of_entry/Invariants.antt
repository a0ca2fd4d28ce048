use Rattle.std.proofs.Common.{◌≡◌, take}
use Rattle.repl_data.specs.Stamps.{of_entry}
use Rattle.plain_view.proofs.facts.of_entry.Given as goal

abbrev pub invariant-loop-c : goal.invariant-loop-c
invariant-loop-c l = l.own ≡ of_entry (take l.c-index l.changes) l.id

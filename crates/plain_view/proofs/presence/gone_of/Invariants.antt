use Rattle.std.proofs.Common.{◌≡◌, take}
use Rattle.std.specs.Prelude.{filter}
use Rattle.repl_data.specs.Presence.{is_among_entries}
use Rattle.repl_data.specs.Facts.{EntryFacts}
use Rattle.std.specs.Prelude.{not}
use Rattle.plain_view.proofs.presence.gone_of.Given as goal

abbrev pub invariant-loop-e : goal.invariant-loop-e
invariant-loop-e l = l.gone ≡ filter (λ (e : EntryFacts). not (is_among_entries l.present e.id)) (take l.e-index l.entries)

use Rattle.std.proofs.Common.{◌≡◌, map, take}
use Rattle.std.specs.Prelude.{flat_map}
use Rattle.repl_data.specs.Facts.{AttrFacts, with_values, vals_shown}
use Rattle.repl_data.specs.View.{user}
use Rattle.plain_view.proofs.values.each_shown.Given as goal

abbrev pub invariant-loop-a : goal.invariant-loop-a
invariant-loop-a l = l.users ≡ map user (flat_map (λ (a : AttrFacts). with_values a.attr (vals_shown l.rdn a)) (take l.a-index l.facts))

use Rattle.std.proofs.Common.{◌≡◌, take}
use Rattle.std.specs.Prelude.{flat_map}
use Rattle.repl_data.specs.Facts.{AttrFacts, with_values, vals_shown}
use Rattle.stamp_entry.proofs.shown.each_shown.Given as goal

abbrev pub invariant-loop-a : goal.invariant-loop-a
invariant-loop-a l = l.attrs ≡ flat_map (λ (a : AttrFacts). with_values a.attr (vals_shown l.rdn a)) (take l.a-index l.facts)

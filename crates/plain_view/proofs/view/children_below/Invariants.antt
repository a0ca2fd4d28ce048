use Rattle.std.proofs.Common.{◌≡◌, map, take}
use Rattle.std.specs.Prelude.{filter}
use Rattle.repl_data.specs.View.{is_shown_below}
use Rattle.plain_view.specs.Listing.{child}
use Rattle.plain_view.proofs.view.children_below.Given as goal

abbrev pub invariant-loop-e : goal.invariant-loop-e
invariant-loop-e l = l.children ≡ map child (filter (is_shown_below l.parent) (take l.e-index l.present))

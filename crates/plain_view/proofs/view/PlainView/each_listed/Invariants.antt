use Rattle.std.proofs.Common.{◌≡◌, map, take}
use Rattle.plain_view.specs.Listing.{listed}
use Rattle.plain_view.proofs.view.PlainView.each_listed.Given as goal

abbrev pub invariant-loop-e : goal.invariant-loop-e
invariant-loop-e l = l.all ≡ map (listed l.self) (take l.e-index l.present)

use Rattle.view_snap.proofs.Spots.{respot_same, respot_moved}
use Rattle.view_snap.proofs.maps.respotted.Goals as goal

pub returns-then-same_spot-clause-spots : goal.returns-then-same_spot-clause-spots
returns-then-same_spot-clause-spots g c = respot_same c.args.below.now c.args.old c.args.new c.requires.there (c.same_spot.ensures c.if-same_spot.true) c.shared.result c.shared.ensures

pub returns-clause-spots : goal.returns-clause-spots
returns-clause-spots g c = respot_moved c.args.below.now c.in_ok-without.without c.args.old c.args.new c.in_ok-without.ensures.spots c.entered.result c.entered.ensures.spots

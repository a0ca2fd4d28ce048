use Rattle.std.proofs.Common.{subst}
use Rattle.urp_names.specs.Contending.{Contending, HasRisingIds}
use Rattle.urp_names.proofs.Ranks.{room_after, fresh_after, put_after}
use Rattle.urp_names.proofs.contenders.Contenders.put.Goals as goal

pub add-requires-clause-fresh : goal.add-requires-clause-fresh
add-requires-clause-fresh c = fresh_after c.args.id c.make_place.new.self c.take.new.self c.take.ensures

pub add-requires-clause-room : goal.add-requires-clause-room
add-requires-clause-room c = room_after c.args.id c.args.self.now c.make_place.new.self c.take.new.self c.in_ok-make_place.ensures.ok c.take.ensures

pub returns-clause-ok : goal.returns-clause-ok
returns-clause-ok c =
    put_after (record { id = c.args.id; glue = c.args.glue; named = c.args.named }) c.args.self.now c.make_place.new.self c.take.new.self c.add.new.self
    (subst (λ (s : Contending). HasRisingIds s.who) c.self.view_is c.self.invariant.1) c.in_ok-make_place.ensures.ok c.take.ensures c.add.ensures.who c.add.ensures.spare

use Rattle.std.specs.Option.{option_copied}
use Rattle.urp_tree.proofs.Fronts.{front_init, front_more}
use Rattle.urp_tree.proofs.places.put_front.Goals as goal

pub loop-c-init : goal.loop-c-init
loop-c-init c = front_init c.args.front.now c.args.id (option_copied c.args.entered) c.args.places.now

pub loop-c-preserved : goal.loop-c-preserved
loop-c-preserved c =
    front_more c.args.front.now c.args.id (option_copied c.args.entered) c.loop-c.c-index _ c.args.places.now c.loop-c.places c.put_stayer.new.places c.loop-c-test.true
    c.in_ok-put_stayer.ensures.places c.in_ok-put_stayer.ensures.keeps c.in_ok-put_stayer.ensures.there c.loop-c.invariant

use Rattle.ber_core.proofs.Padded.{so_far-zero, so_far-set}
use Rattle.ber_core.proofs.number.padded.Goals as goal

pub loop-i-init : goal.loop-i-init
loop-i-init c = so_far-zero c.args.pad c.args.count c.args.bytes.now c.requires.count

pub loop-i-preserved : goal.loop-i-preserved
loop-i-preserved c = rw c.loop-i.invariant (so_far-set c.args.pad c.args.count c.args.bytes.now c.loop-i.i c.loop-i-test.true c.requires.fits)

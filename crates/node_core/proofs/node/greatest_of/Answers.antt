use Rattle.std.proofs.Common.{refl, sym, ap, ◌∙◌, arith, get_or}
use Rattle.repl_data.specs.Order.{zero_csn}
use Rattle.vector_core.specs.Greatest.{greatest, later_of}
use Rattle.node_core.proofs.Keeping.{greatest-more}
use Rattle.node_core.proofs.node.greatest_of.Goals as goal

pub loop-csn-init : goal.loop-csn-init
unfolding greatest
loop-csn-init c = refl

pub loop-csn-preserved : goal.loop-csn-preserved
loop-csn-preserved c =
    c.later-most.ensures
    ∙ ap (λ z. later_of z (get_or c.args.entries.now c.loop-csn.csn-index zero_csn)) c.loop-csn.invariant
    ∙ sym (greatest-more c.args.entries.now c.loop-csn.csn-index (omega arith))

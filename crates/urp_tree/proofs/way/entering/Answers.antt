use Rattle.std.proofs.Common.{◌++◌, ap, ◌∙◌}
use Rattle.urp_tree.specs.Climb.{enters}
use Rattle.urp_tree.proofs.Chains.{enter_next}
use Rattle.urp_tree.proofs.way.entering.Goals as goal

pub loop-child-preserved : goal.loop-child-preserved
loop-child-preserved c =
    ap (λ ss. ss ++ enters c.pop.new.self.items) c.in_ok-push.ensures.ok
    ∙ enter_next c.loop-child.steps c.loop-child.rest.items c.pop.new.self.items c.in-Some.child c.in-Some.ensures.items
    ∙ c.loop-child.invariant

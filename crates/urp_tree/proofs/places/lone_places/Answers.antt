use Rattle.urp_tree.specs.Rows.{facts_in}
use Rattle.urp_tree.specs.Walk.{children_in}
use Rattle.urp_tree.proofs.Settled.{rising_children}
use Rattle.urp_tree.proofs.Fits.{on_each}
use Rattle.urp_tree.proofs.Placed.{stays}
use Rattle.urp_tree.proofs.places.lone_places.Goals as goal

pub returns-clause-rest : goal.returns-clause-rest
returns-clause-rest c =
    on_each c.step_places.result
    (λ places covers. stays c.requires.trues.0 c.args.steps.now (children_in c.args.rows.now) (rising_children (facts_in c.args.rows.now.entries) c.requires.tree.rises) c.requires.trues.1 places covers)
    c.step_places.ensures.covers

use Rattle.std.proofs.Common.{List, OnOk, sym, subst}
use Rattle.urp_tree.specs.declared.child.Child.{Child}
use Rattle.urp_tree.specs.declared.step.Step.{Step}
use Rattle.urp_tree.specs.Index.{HasRisingIds}
use Rattle.urp_tree.specs.Walk.{children_in}
use Rattle.urp_tree.specs.Placed.{ArePlaces, IsTurned}
use Rattle.urp_tree.proofs.places.put_step.Goals as goal

pub returns-in-Leave-clause-places : goal.returns-in-Leave-clause-places
returns-in-Leave-clause-places c =
    subst
    (λ (s : Step).
    OnOk c.put_left.result ((ds : List Child) → HasRisingIds ds → IsTurned (children_in c.args.rows.now) ds s → ArePlaces ds c.args.places.now → ArePlaces ds c.put_left.new.places))
    (sym c.in-Leave.is) c.put_left.ensures.places

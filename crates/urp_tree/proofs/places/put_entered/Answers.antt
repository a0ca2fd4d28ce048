use Rattle.std.proofs.Common.{◌≡◌, ◌+◌, List, [], ◌∷◌, ◌++◌, Option, None, Some, true, false, take, slice_get, sym, ap, subst, ◌∙◌}
use Rattle.urp_tree.specs.Walk.{children_in}
use Rattle.urp_tree.proofs.Placed.{on_ok, name_kept}
use Rattle.urp_tree.proofs.Fronts.{came_placed, on_both}
use Rattle.urp_tree.proofs.places.put_entered.Goals as goal

pub returns-clause-places : goal.returns-clause-places
returns-clause-places c =
    on_ok c.put_place.result
    (λ h ds rises turns are. h ds (ap Some c.loses_after-lost.ensures ∙ came_placed c.args.child.now (children_in c.args.rows.now) ds rises turns) (c.in_ok-put_name.ensures.places ds rises turns are))
    c.put_place.ensures.places

pub returns-clause-keeps : goal.returns-clause-keeps
returns-clause-keeps c = on_ok c.put_place.result (λ h u k. h u (c.in_ok-put_name.ensures.keeps u k)) c.put_place.ensures.keeps

pub returns-clause-covers : goal.returns-clause-covers
returns-clause-covers c =
    on_both c.put_place.result
    (λ keeps there ds turns.
    record {
      own = there;
      name = name_kept (children_in c.args.rows.now) ds c.put_name.new.places c.put_place.new.places c.args.child.now.parent c.args.child.now.rdn c.args.child.now.id keeps (c.in_ok-put_name.ensures.covers ds turns);
    })
    c.put_place.ensures.keeps c.put_place.ensures.there

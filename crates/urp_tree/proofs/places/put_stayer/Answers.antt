use Rattle.std.proofs.Common.{◌≡◌, ◌+◌, List, [], ◌∷◌, ◌++◌, Option, None, Some, true, false, take, slice_get, sym, ap, subst, ◌∙◌}
use Rattle.urp_tree.proofs.Placed.{one_place, keeps_one, has_one}
use Rattle.urp_tree.proofs.places.put_stayer.Goals as goal

pub returns-clause-places : goal.returns-clause-places
returns-clause-places c = λ ds so are.
    one_place c.args.places.now c.insert.new.self c.args.c.now.id (Some c.beats.result) c.in_ok-insert.ensures.updates ds
    (ap Some c.beats.ensures ∙ so (sym c.same_id.ensures ∙ c.if-same_id.false)) are

pub returns-clause-keeps : goal.returns-clause-keeps
returns-clause-keeps c = keeps_one c.args.places.now c.insert.new.self c.args.c.now.id (Some c.beats.result) c.in_ok-insert.ensures.updates

pub returns-clause-there : goal.returns-clause-there
returns-clause-there c = λ n. has_one c.args.places.now c.insert.new.self c.args.c.now.id (Some c.beats.result) c.in_ok-insert.ensures.updates

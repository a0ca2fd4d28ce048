use Rattle.std.proofs.Common.{◌≡◌, ◌+◌, List, [], ◌∷◌, ◌++◌, Option, None, Some, true, false, take, slice_get, sym, ap, subst, ◌∙◌}
use Rattle.urp_tree.proofs.Placed.{one_place, keeps_one, has_one}
use Rattle.urp_tree.proofs.places.put_place.Goals as goal

pub returns-clause-places : goal.returns-clause-places
returns-clause-places c = λ ds so are. one_place c.args.places.now c.insert.new.self c.args.id c.args.place c.in_ok-insert.ensures.updates ds so are

pub returns-clause-keeps : goal.returns-clause-keeps
returns-clause-keeps c = keeps_one c.args.places.now c.insert.new.self c.args.id c.args.place c.in_ok-insert.ensures.updates

pub returns-clause-there : goal.returns-clause-there
returns-clause-there c = has_one c.args.places.now c.insert.new.self c.args.id c.args.place c.in_ok-insert.ensures.updates

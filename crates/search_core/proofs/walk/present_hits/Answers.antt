use Rattle.std.proofs.Common.{ap}
use Rattle.repl_data.specs.View.{children_of}
use Rattle.view_walk.specs.Walk.{subtree}
use Rattle.search_core.specs.Scope.{in_scope}
use Rattle.search_core.proofs.Lists.{scope_told}
use Rattle.search_core.proofs.walk.present_hits.Goals as goal

pub returns-in-Children : goal.returns-in-Children
returns-in-Children g c =
    scope_told (g.V.View.view c.args.view.now) c.args.query.now c.args.scope c.args.base (children_of (g.V.View.view c.args.view.now) c.args.base) c.visit_children.result (ap (λ s. in_scope (g.V.View.view c.args.view.now) s c.args.base) c.in-Children.is) c.visit_children.ensures

pub returns-in-Subtree : goal.returns-in-Subtree
returns-in-Subtree g c =
    scope_told (g.V.View.view c.args.view.now) c.args.query.now c.args.scope c.args.base (subtree (g.V.View.view c.args.view.now) c.args.base) c.visit_subtree.result (ap (λ s. in_scope (g.V.View.view c.args.view.now) s c.args.base) c.in-Subtree.is) c.visit_subtree.ensures

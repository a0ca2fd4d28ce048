use Rattle.std.proofs.Common.{length}
use Rattle.std.specs.Prelude.{flat_map}
use Rattle.ldap_types.specs.declared.request.SearchRequest.{SearchRequest}
use Rattle.view_walk.specs.Walk.{left, subtree, ArePresent}
use Rattle.search_core.specs.Query.{Asks, gives}
use Rattle.search_core.proofs.Sofar.{Sofar}
use Rattle.search_core.proofs.walk.visit_subtree.Given as goal

abbrev pub invariant-loop-walk : goal.invariant-loop-walk
invariant-loop-walk g l = record {
  present : ArePresent (g.V.View.view l.view) l.walk;
  found : (r : SearchRequest) → Asks l.query r → Sofar r (gives (g.V.View.view l.view) r.filter) (flat_map (gives (g.V.View.view l.view) r.filter) (subtree (g.V.View.view l.view) l.fn.base)) (left (g.V.View.view l.view) l.walk) l.hits;
}

abbrev pub decreases-loop-walk : goal.decreases-loop-walk
decreases-loop-walk g l = length (left (g.V.View.view l.view) l.walk)

use Rattle.std.proofs.Common.{◌≡◌, take}
use Rattle.std.specs.Prelude.{flat_map}
use Rattle.ldap_types.specs.declared.request.SearchRequest.{SearchRequest}
use Rattle.search_core.specs.Search.{told}
use Rattle.search_core.specs.Query.{Asks, gives}
use Rattle.search_core.proofs.walk.visit_each.Given as goal

abbrev pub invariant-loop-id : goal.invariant-loop-id
invariant-loop-id g l = (r : SearchRequest) → Asks l.query r → l.hits ≡ told r (flat_map (gives (g.V.View.view l.view) r.filter) (take l.id-index l.ids))

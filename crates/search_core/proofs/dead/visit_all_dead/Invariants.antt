use Rattle.std.proofs.Common.{◌≡◌, take}
use Rattle.std.specs.Prelude.{flat_map}
use Rattle.ldap_types.specs.declared.request.SearchRequest.{SearchRequest}
use Rattle.search_core.specs.Tombstones.{is_wanted}
use Rattle.search_core.specs.Search.{told}
use Rattle.search_core.specs.Query.{Asks}
use Rattle.search_core.specs.Dead.{gives_dead}
use Rattle.search_core.proofs.dead.visit_all_dead.Given as goal

abbrev pub invariant-loop-id : goal.invariant-loop-id
invariant-loop-id g l = (r : SearchRequest) → Asks l.query r → l.hits ≡ told r (flat_map (gives_dead (g.V.View.view l.view) r.filter (is_wanted l.everything l.rdns)) (take l.id-index l.ids))

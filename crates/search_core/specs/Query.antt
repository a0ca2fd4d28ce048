-- A SEARCH THAT WAS READ, and the request that it was read of.
use Rattle.std.specs.Prelude.{◌≡◌, ◌⊎◌, true, List, [], if◌then◌else◌}
use Rattle.std.specs.Option.{option_to_list}
use Rattle.repl_data.specs.declared.csn.Uid.{Uid}
use Rattle.repl_data.specs.declared.change.ShownEntry.{ShownEntry}
use Rattle.repl_data.specs.View.{DirectoryView, entry_of, tombstone_of}
use Rattle.ldap_types.specs.declared.request.SearchRequest.{SearchRequest}
use Rattle.ldap_types.specs.declared.request.Filter.{Filter}
use Rattle.filter_truth.specs.Prepared.{StandsFor}
use Rattle.filter_truth.specs.Lent.{asks_names, IsUntold}
use Rattle.search_core.specs.declared.query.Query.{Query}
use Rattle.search_core.specs.Selected.{Chooses}
use Rattle.search_core.specs.Hits.{is_match, is_gone_match}

pub record Asks (q : Query) (r : SearchRequest) : Type 0 where
  pub filter : StandsFor q.filter r.filter
  pub selection : Chooses q.selection r.attrs r.types_only
  pub limit : q.limit ≡ r.size_limit

-- what one entry gives
abbrev pub gives : DirectoryView → Filter → Uid → List ShownEntry
gives v f u = if is_match v f u then option_to_list (entry_of v u) else []

-- and one tombstone
abbrev pub gives_tombstone : DirectoryView → Filter → Uid → List ShownEntry
gives_tombstone v f u = if is_gone_match v f u then option_to_list (tombstone_of v u) else []

-- of which entries memory is taken: of those of which the filter says Yes, and of one that lost its name where the
-- filter looks at the values that tell of it
abbrev pub MayTake : DirectoryView → Query → Uid → Type 0
MayTake v q u = (f : Filter) → StandsFor q.filter f → (is_match v f u ≡ true) ⊎ IsUntold v u (asks_names q.filter)

-- and of which tombstones: of those of which the filter says Yes
abbrev pub MayTakeTombstone : DirectoryView → Query → Uid → Type 0
MayTakeTombstone v q u = (f : Filter) → StandsFor q.filter f → is_gone_match v f u ≡ true

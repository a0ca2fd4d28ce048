-- WHAT A SEARCH OF A NODE SHOWS, and how it is answered.
use Rattle.std.specs.Prelude.{List, map}
use Rattle.repl_data.specs.declared.csn.Csn.{Csn}
use Rattle.repl_data.specs.declared.change.Change.{Change}
use Rattle.repl_data.specs.declared.change.Suffix.{Suffix}
use Rattle.repl_data.specs.View.{view_of}
use Rattle.ldap_types.specs.declared.request.SearchRequest.{SearchRequest}
use Rattle.vector_core.specs.Text.{entry_text}
use Rattle.search_core.specs.declared.found.Found.{Found}
use Rattle.search_core.specs.Search.{search}
use Rattle.node_core.specs.Node.{Node, vector_of}

-- the changes of which a view is, and an update vector
pub record Sight : Type 0 where
  pub suffix : Suffix
  pub taken : List Change
  pub vector : List Csn

-- those of a node
abbrev pub sight_of : Node → Sight
sight_of n = record { suffix = n.suffix; taken = n.taken; vector = vector_of n }

-- THE ANSWER TO A SEARCH: that of the view, with the texts of the vector
abbrev pub searched : Sight → SearchRequest → Found
searched s request = search (view_of s.suffix s.taken) (map entry_text s.vector) request

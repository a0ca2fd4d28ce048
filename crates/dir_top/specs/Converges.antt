-- What holds of the world before and after each line of a script.
use Rattle.std.specs.Prelude.{◌≡◌, ◌≢◌, ℕ, List, [], length, Option, Some, None, Ok}
use Rattle.ldap_types.specs.declared.request.Request.{Request}
use Rattle.ldap_types.specs.declared.request.SearchRequest.{SearchRequest}
use Rattle.ldap_types.specs.declared.request.Op.TheVariants.{Search}
use Rattle.node_core.specs.Node.{vector_of}
use Rattle.world_core.specs.World.{World, node_in}
use Rattle.world_core.specs.Laws.{IsNode, OwnEntriesExact, HoldsPrefix, AllAgree, ShowTheSame}
use Rattle.conn_core.specs.Stream.{first_request}
use Rattle.conn_core.specs.Serving.{replies_to}
use Rattle.script_text.specs.declared.line.Line.TheVariants.{Input}
use Rattle.dir_top.specs.declared.state.Connection.TheVariants.{Open}
use Rattle.dir_top.specs.declared.state.State.{State}
use Rattle.dir_top.specs.Client.{Client}
use Rattle.dir_top.specs.State.{connection_in}
use Rattle.dir_top.specs.Serving.{search_answer}
use Rattle.dir_top.specs.Report.{reply_lines}
use Rattle.dir_top.specs.Output.{AllStates, lines_of}
use Rattle.dir_top.specs.Script.{carried, script_line}

-- ---- searches

-- the bytes are one message, which has this request
abbrev pub Spells : List ℕ → Request → Type 0
Spells bytes request = first_request bytes ≡ Ok (request, length bytes)

-- a connection to node r that holds no part of a message
pub record IsFree (s : State) (c r : ℕ) : Type 0 where
  pub instance : ℕ
  pub client : Client
  pub open_to : connection_in s c ≡ Open r instance client
  pub empty : client.held ≡ []

-- what is printed of bytes that come on a connection
abbrev pub printed : State → ℕ → List ℕ → List ℕ
printed s c bytes = (carried s (Input c bytes)).1

-- the replies to a search of node r: by the search definition, on the view of what the node has taken and its vector
abbrev pub search_replies : World → ℕ → Request → SearchRequest → List (List ℕ)
search_replies w r request search = replies_to request.id request.op (search_answer w r request.controls search)

-- nothing is pending at either node, and their vectors are equal
pub record AreEven (w : World) (r t : ℕ) : Type 0 where
  pub first : IsNode w.nodes r
  pub second : IsNode w.nodes t
  pub none_here : (node_in w r).pending ≡ []
  pub none_there : (node_in w t).pending ≡ []
  pub vectors : vector_of (node_in w r) ≡ vector_of (node_in w t)

-- ONE SEARCH, whatever bytes spell it, is answered by two such nodes with the same bytes, which are those of the search
-- definition on the view of that one set and that vector.
abbrev pub AnswersAlike : State → Type 0
AnswersAlike s =
    (r t c d : ℕ) → AreEven s.world r t → IsFree s c r → IsFree s d t →
    (request : Request) (search : SearchRequest) → request.op ≡ Search search → (bytes others : List ℕ) → Spells bytes request → Spells others request →
    (printed s c bytes ≡ reply_lines c (search_replies s.world r request search)) × (printed s d others ≡ reply_lines d (search_replies s.world r request search))

-- ---- the world

pub record Converges (w : World) : Type 0 where
  -- a node's own entry is its greatest committed change with none pending at or below it
  pub own_entries : OwnEntriesExact w
  -- each other node holds a prefix, in order of CSN, of each originator's committed changes
  pub prefixes : (r o : ℕ) → IsNode w.nodes r → o ≢ r → HoldsPrefix (node_in w r) (node_in w o) o
  -- nodes with equal vectors and nothing pending have taken the same changes
  pub sets : AllAgree w
  -- and show the same entries
  pub views : ShowTheSame w

-- the world converges, and such nodes answer every search alike
abbrev pub ConvergesIn : Option State → Type 0
ConvergesIn None = Unit {0}
ConvergesIn (Some s) = Converges s.world × AnswersAlike s

-- at each line of the script
abbrev pub ConvergesThroughout : List ℕ → Type 0
ConvergesThroughout script = AllStates script_line ConvergesIn None 1 (lines_of script)

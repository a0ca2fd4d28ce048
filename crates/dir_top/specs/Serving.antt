-- What bytes on a connection come to: the requests that they make whole, each on the world that the one before left.
use Rattle.std.specs.Prelude.{ℕ, if◌then◌else◌, List, [], ◌∷◌, ◌++◌}
use Rattle.ldap_types.specs.declared.request.Request.{Request}
use Rattle.ldap_types.specs.declared.request.Op.{Op}
use Rattle.ldap_types.specs.declared.request.Op.TheVariants.{Bind, Search, Compare}
use Rattle.ldap_types.specs.declared.request.Control.{Control}
use Rattle.ldap_types.specs.declared.request.SearchRequest.{SearchRequest}
use Rattle.ldap_types.specs.declared.reply.Identity.{Identity}
use Rattle.ldap_types.specs.declared.reply.LdapResult.{LdapResult}
use Rattle.ldap_rules.specs.Bind.{bind_verdict}
use Rattle.ldap_rules.specs.Case.{result_of}
use Rattle.search_core.specs.declared.found.Found.{Found}
use Rattle.node_core.specs.Searches.{sight_of, searched}
use Rattle.node_core.specs.Steps.{judge_view}
use Rattle.node_core.specs.Calls.{is_client_write}
use Rattle.world_core.specs.World.{World, node_in}
use Rattle.world_core.specs.Write.{write_in}
use Rattle.io_edge.specs.declared.machine.Fed.{Fed}
use Rattle.io_edge.specs.declared.machine.Fed.TheVariants.{Running}
use Rattle.conn_core.specs.Serving.{only, replies_to, has_critical, compare_on, plain_code}
use Rattle.conn_core.specs.Whole.{Stream, stream_of}
use Rattle.conn_core.specs.Feeding.{notice_of, is_end}
use Rattle.dir_top.specs.declared.state.Connection.{Connection}
use Rattle.dir_top.specs.declared.state.Connection.TheVariants.{Closed, Open}
use Rattle.dir_top.specs.declared.state.State.{State}
use Rattle.dir_top.specs.Client.{Client, with_bytes}
use Rattle.dir_top.specs.State.{with_connection}
use Rattle.dir_top.specs.Report.{reply_lines, closed_line}

-- ---- requests

-- a world, and a connection to one of its nodes, as a request finds them
pub record Served : Type 0 where
  pub world : World
  -- whom the connection speaks for
  pub bound : Identity
  -- the replies so far
  pub replies : List (List ℕ)

-- the replies to a request with this answer
abbrev pub replied : Served → Request → Found → Served
replied s r answer = record s { replies = s.replies ++ replies_to r.id r.op answer }

-- a bind, by whom it names
abbrev pub after_bind : Served → Request → Identity × LdapResult → Served
after_bind s r verdict = replied (record s { bound = verdict.0 }) r (only verdict.1)

-- a write, by what it leaves
abbrev pub after_write : Served → Request → World × LdapResult → Served
after_write s r written = replied (record s { world = written.0 }) r (only written.1)

-- an answer that touches neither node nor connection, by its code
abbrev pub after_plain : Served → Request → ℕ → Served
after_plain s r code = replied s r (only (result_of code))

-- a search of node n: by the view of what it has taken, and its vector
abbrev pub search_answer : World → ℕ → List Control → SearchRequest → Found
search_answer w n controls request = if has_critical controls then only (result_of 12) else searched (sight_of (node_in w n)) request

-- a compare at node n: by a search of its object
abbrev pub compare_answer : World → ℕ → List Control → List ℕ → List ℕ → List ℕ → LdapResult
compare_answer w n controls object name value = compare_on (searched (sight_of (node_in w n))) controls object name value

abbrev pub serve_op : ℕ → Served → Request → Op → Served
serve_op n s r (Bind bind) = after_bind s r (bind_verdict bind)
serve_op n s r (Search request) = replied s r (search_answer s.world n r.controls request)
serve_op n s r (Compare object name value) = replied s r (only (compare_answer s.world n r.controls object name value))
serve_op n s r op = if is_client_write r then after_write s r (write_in judge_view s.world n r s.bound) else after_plain s r (plain_code r.op)

-- ONE REQUEST at node n
abbrev pub serve : ℕ → Served → Request → Served
serve n s r = serve_op n s r r.op

-- one after the other
abbrev pub serve_all : ℕ → Served → List Request → Served
serve_all n s [] = s
serve_all n s (r ∷ rs) = serve_all n (serve n s r) rs

-- ---- bytes

-- the connection keeps what is left, or has ended
abbrev pub connection_after : Fed → ℕ → ℕ → Client → Connection
connection_after Running node instance client = Open node instance client
connection_after _ node instance client = Closed

-- the replies, the notice of disconnection behind them, and that the connection has ended
abbrev pub text_after : ℕ → Fed → List (List ℕ) → List ℕ
text_after c fed replies = reply_lines c (replies ++ notice_of fed) ++ (if is_end fed then closed_line c else [])

-- what a line leaves and prints, by its stream and what came of its requests
abbrev pub fed_to : State → ℕ → ℕ → ℕ → Stream → Served → State × List ℕ
fed_to s c node instance stream served = (
  record (with_connection s c (connection_after stream.fed node instance (record { held = stream.left; bound = served.bound }))) { world = served.world },
  text_after c stream.fed served.replies,
)

-- as the first request of a line finds them
abbrev pub found : State → Client → Served
found s client = record { world = s.world; bound = client.bound; replies = [] }

-- the stream of what a client has sent
abbrev pub fed_by : State → ℕ → ℕ → ℕ → Client → Stream → State × List ℕ
fed_by s c node instance client stream = fed_to s c node instance stream (serve_all node (found s client) stream.requests)

-- THE BYTES OF A LINE, on a connection
abbrev pub fed : State → ℕ → List ℕ → Connection → State × List ℕ
fed s c bytes Closed = (s, [])
fed s c bytes (Open node instance client) = fed_by s c node instance (with_bytes client bytes) (stream_of (with_bytes client bytes).held)

-- Nodes with equal vectors and nothing pending answer a search with the same bytes.
use Rattle.std.proofs.Common.{◌≡◌, ℕ, if◌then◌else◌, List, [], ◌∷◌, ◌++◌, map, refl, sym, ap, ◌∙◌, append-nil}
use Rattle.ldap_types.specs.declared.request.Request.{Request}
use Rattle.ldap_types.specs.declared.request.SearchRequest.{SearchRequest}
use Rattle.ldap_types.specs.declared.request.Op.{Op}
use Rattle.ldap_types.specs.declared.request.Op.TheVariants.{Search}
use Rattle.repl_data.specs.declared.csn.Csn.{Csn}
use Rattle.repl_data.specs.View.{DirectoryView, view_of}
use Rattle.vector_core.specs.Text.{entry_text}
use Rattle.search_core.specs.declared.found.Found.{Found}
use Rattle.search_core.specs.Search.{search}
use Rattle.node_core.specs.Node.{vector_of}
use Rattle.world_core.specs.World.{World, node_in}
use Rattle.world_core.specs.Laws.{ShowTheSame}
use Rattle.io_edge.specs.declared.machine.Fed.TheVariants.{Running}
use Rattle.conn_core.specs.Stream.{is_unbind}
use Rattle.conn_core.specs.Whole.{Stream, stream_of}
use Rattle.conn_core.specs.Serving.{has_critical, only, replies_to}
use Rattle.conn_core.proofs.Streams.{none_in_nothing}
use Rattle.conn_core.proofs.Cuts.{has_one_stream}
use Rattle.ldap_rules.specs.Case.{result_of}
use Rattle.dir_top.specs.declared.state.Connection.{Connection}
use Rattle.dir_top.specs.declared.state.State.{State}
use Rattle.dir_top.specs.Client.{Client, with_bytes}
use Rattle.dir_top.specs.Serving.{serve_op, found, fed_by, fed}
use Rattle.dir_top.specs.Report.{reply_lines}
use Rattle.dir_top.specs.Converges.{Spells, IsFree, printed, search_replies, AreEven, AnswersAlike}

-- ---- the stream of one message

abbrev alone : Request → Stream
alone request = record { requests = request ∷ []; left = []; fed = Running }

one_stream : (bytes : List ℕ) (request : Request) (q : SearchRequest) → request.op ≡ Search q → Spells bytes request → stream_of bytes ≡ alone request
one_stream bytes request q is spelled =
    has_one_stream.only bytes (request ∷ []) [] Running
    (record { begins = (bytes, [], sym (append-nil bytes), spelled, ap (λ (o : Op). is_unbind o) is, refl); ends = none_in_nothing })

-- ---- what is printed

module _ (s : State) (r c : ℕ) (request : Request) (q : SearchRequest) (is : request.op ≡ Search q) where
  text_alone : (instance : ℕ) (client : Client) → (fed_by s c r instance client (alone request)).1 ≡ reply_lines c (search_replies s.world r request q)
  text_alone instance client =
      ap (λ (o : Op). reply_lines c ((serve_op r (found s client) request o).replies ++ []) ++ []) is
      ∙ append-nil (reply_lines c (search_replies s.world r request q ++ []))
      ∙ ap (λ rs. reply_lines c rs) (append-nil (search_replies s.world r request q))

  printed_is : (bytes : List ℕ) → Spells bytes request → IsFree s c r → printed s c bytes ≡ reply_lines c (search_replies s.world r request q)
  printed_is bytes spelled f =
      ap (λ (x : Connection). (fed s c bytes x).1) f.open_to
      ∙ ap (λ (held : List ℕ). (fed_by s c r f.instance (with_bytes f.client bytes) (stream_of (held ++ bytes))).1) f.empty
      ∙ ap (λ (x : Stream). (fed_by s c r f.instance (with_bytes f.client bytes) x).1) (one_stream bytes request q is spelled)
      ∙ text_alone f.instance (with_bytes f.client bytes)

-- ---- two nodes

-- the answer on this view with this vector
abbrev answer : Request → SearchRequest → DirectoryView → List Csn → Found
answer request q v x = if has_critical request.controls then only (result_of 12) else search v (map entry_text x) q

same_answer : (w : World) (r t : ℕ) (request : Request) (q : SearchRequest) → ShowTheSame w → AreEven w r t → search_replies w t request q ≡ search_replies w r request q
same_answer w r t request q shows e =
    let views = shows r t e.first e.second e.none_here e.none_there e.vectors in
    ap (λ (v : DirectoryView). replies_to request.id request.op (answer request q v (vector_of (node_in w t)))) (sym views)
    ∙ ap (λ (x : List Csn). replies_to request.id request.op (answer request q (view_of (node_in w r).suffix (node_in w r).taken) x)) (sym e.vectors)

pub answers_alike : (s : State) → ShowTheSame s.world → AnswersAlike s
answers_alike s shows = λ r t c d e free also request q is bytes others spelled spells. (
  printed_is s r c request q is bytes spelled free,
  printed_is s t d request q is others spells also ∙ ap (λ rs. reply_lines d rs) (same_answer s.world r t request q shows e),
)

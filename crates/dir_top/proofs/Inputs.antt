-- What a line of bytes means, by the connection that it names.
use Rattle.std.proofs.Common.{◌≡◌, ℕ, Bool, ◌-◌, true, false, not, List, [], ◌∷◌, Option, Some, None, sym, ap, ◌∙◌, if◌then◌else◌}
use Rattle.std.proofs.lemmas.List.{set-set}
use Rattle.vector_core.proofs.Lists.{if_true, if_false}
use Rattle.world_core.specs.World.{is_node}
use Rattle.conn_core.specs.Whole.{stream_of}
use Rattle.script_text.specs.declared.line.Line.TheVariants.{Input}
use Rattle.dir_top.specs.declared.why.LineWhy.TheVariants as why
use Rattle.dir_top.specs.declared.state.Connection.{Connection}
use Rattle.dir_top.specs.declared.state.Connection.TheVariants.{Closed, Open}
use Rattle.dir_top.specs.declared.state.State.{State}
use Rattle.dir_top.specs.Client.{Client, with_bytes, has_built}
use Rattle.dir_top.specs.State.{connection_in, with_connection, is_open}
use Rattle.dir_top.specs.Serving.{fed, fed_by}
use Rattle.dir_top.specs.Output.{LineStep, GoesOn, Refuses, NotBuilt}
use Rattle.dir_top.specs.Script.{makes_built, why_if, why_at, first_why, unless_refused, line_step}

-- by the connection that is looked at first
abbrev input_step : State → ℕ → List ℕ → Connection → LineStep (Option State)
input_step s c bytes x = if makes_built bytes x then unless_refused (Some s) (Input c bytes) (first_why (None ∷ why_if (not (is_open x)) (why.Conn c) ∷ why_at s x ∷ [])) else NotBuilt

-- there is no such connection
pub input-refused : (s : State) (c : ℕ) (bytes : List ℕ) → Closed ≡ connection_in s c → line_step (Some s) (Input c bytes) ≡ Refuses (why.Conn c)
input-refused s c bytes e = ap (λ x. input_step s c bytes x) (sym e)

module _ (s : State) (c : ℕ) (bytes : List ℕ) (node instance : ℕ) (client : Client) (e : Open node instance client ≡ connection_in s c) where
  pub input-not_built : has_built (with_bytes client bytes) ≡ false → line_step (Some s) (Input c bytes) ≡ NotBuilt
  input-not_built f = ap (λ x. input_step s c bytes x) (sym e) ∙ if_false _ _ f

  -- the reasons, by whether there is the node
  abbrev at_node : Bool → LineStep (Option State)
  at_node there = unless_refused (Some s) (Input c bytes) (first_why (None ∷ None ∷ why_if (not there) (why.Node node) ∷ []))

  input-asked : has_built (with_bytes client bytes) ≡ true → (there : Bool) → is_node s.world node ≡ there → line_step (Some s) (Input c bytes) ≡ at_node there
  input-asked t there n = ap (λ x. input_step s c bytes x) (sym e) ∙ if_true _ _ t ∙ ap at_node n

  pub input-nowhere : has_built (with_bytes client bytes) ≡ true → is_node s.world node ≡ false → line_step (Some s) (Input c bytes) ≡ Refuses (why.Node node)
  input-nowhere t n = input-asked t false n

  pub input-goes : (next : State) (text : List ℕ) → has_built (with_bytes client bytes) ≡ true → is_node s.world node ≡ true → ◌≡◌ {A = State × List ℕ} (fed s c bytes (Open node instance client)) (next, text) → line_step (Some s) (Input c bytes) ≡ GoesOn (Some next) text
  input-goes next text t n h =
      input-asked t true n
      ∙ ap (λ x. let r = fed s c bytes x in GoesOn (Some r.0) r.1) (sym e)
      ∙ ap (λ (r : State × List ℕ). GoesOn (Some r.0) r.1) h

-- a connection that was taken out, and is put back
put-back : (s t : State) (c node instance : ℕ) (client : Client) → t ≡ with_connection s c Closed → fed_by t c node instance client (stream_of client.held) ≡ fed_by s c node instance client (stream_of client.held)
put-back s t c node instance client e =
    ap (λ (x : State). fed_by x c node instance client (stream_of client.held)) e
    ∙ ap (λ list. (record (fed_by s c node instance client (stream_of client.held)).0 { connections = list }, (fed_by s c node instance client (stream_of client.held)).1)) (set-set s.connections (c - 1) Closed _)

pub fed-there : (s t : State) (c : ℕ) (bytes : List ℕ) (node instance : ℕ) (client held : Client) (next : State) (text : List ℕ) → t ≡ with_connection s c Closed → held ≡ with_bytes client bytes → (next, text) ≡ fed_by t c node instance held (stream_of held.held) → fed s c bytes (Open node instance client) ≡ (next, text)
fed-there s t c bytes node instance client held next text e h f =
    ap (λ (x : Client). fed_by s c node instance x (stream_of x.held)) (sym h)
    ∙ sym (put-back s t c node instance held e)
    ∙ sym f

-- A COMMIT of an add or a modify, and its plain effect.
use Rattle.std.specs.Prelude.{◌≡◌, ℕ, Bool, true, false, [], ◌∷◌, ◌++◌, Some, Ok}
use Rattle.repl_data.specs.declared.change.Change.{Change}
use Rattle.repl_data.specs.Closed.{IsArrival}
use Rattle.repl_data.specs.Plain.{plain_effect}
use Rattle.repl_data.specs.View.{view_of}
use Rattle.ldap_types.specs.declared.request.Request.{Request}
use Rattle.ldap_types.specs.declared.request.Op.{Op}
use Rattle.ldap_types.specs.declared.request.Op.TheVariants.{Add, Modify}
use Rattle.ldap_types.specs.declared.reply.Identity.{Identity}
use Rattle.node_core.specs.declared.ticket.Ticket.{Ticket}
use Rattle.node_core.specs.declared.ticket.Receipt.{Receipt}
use Rattle.node_core.specs.Node.{Node}
use Rattle.node_core.specs.Sound.{IsSoundNode, IsOpen}
use Rattle.node_core.specs.Steps.{judge_view}
use Rattle.node_core.specs.Calls.{Commits}
use Rattle.plain_effect.specs.Above.{IsAbove}

-- an add or a modify
abbrev pub is_plain : Op → Bool
is_plain (Add object given) = true
is_plain (Modify object mods) = true
is_plain _ = false

-- one change more is taken, and the view after is its plain effect on the view before
pub record HasPlainEffect (before after : Node) : Type 0 where
  pub change : Change
  pub taken : after.taken ≡ before.taken ++ change ∷ []
  pub view : plain_effect (view_of before.suffix before.taken) change ≡ Some (view_of after.suffix after.taken)

-- a commit of such a request that is carried out, where its CSN is above all that the node has taken
abbrev pub CommitsPlainly : Type 0
CommitsPlainly =
    (before : Node) (ticket : Ticket) (request : Request) (bound : Identity) (now : ℕ) (receipt : Receipt) (after : Node) →
    IsSoundNode before → IsArrival before.taken → (ticket.life ≡ before.life → IsOpen before ticket.csn) → is_plain request.op ≡ true →
    Commits judge_view before ticket request bound now (Ok receipt) after → IsAbove receipt.csn before.taken → HasPlainEffect before after

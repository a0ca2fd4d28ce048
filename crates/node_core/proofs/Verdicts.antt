-- What a commit answers under each kind of verdict.
use Rattle.std.proofs.Common.{◌≡◌, ◌≢◌, ℕ, Bool, true, false, not, ◌&&◌, refl, sym, ap, ◌∙◌, Contains, eq-eqb, ne_eqb}
use Rattle.std.specs.Prelude.{Err}
use Rattle.std.specs.List.{list_any}
use Rattle.std.proofs.lemmas.Bool.{and_parts, not-true}
use Rattle.ldap_types.specs.declared.request.Request.{Request}
use Rattle.ldap_types.specs.declared.reply.Identity.{Identity}
use Rattle.ldap_types.specs.declared.reply.Identity.TheVariants.{Supplier}
use Rattle.repl_data.specs.declared.csn.Csn.{Csn}
use Rattle.ldap_types.specs.declared.reply.LdapResult.{LdapResult}
use Rattle.ldap_rules.specs.Verdict.{Verdict, Refuses, Answers, is_change, is_supplier, is_update, is_update_control}
use Rattle.vector_core.proofs.Lists.{if_true, if_false}
use Rattle.change_log.specs.Log.{csns_of}
use Rattle.node_core.specs.declared.fault.CommitFault.TheVariants as commit
use Rattle.node_core.specs.declared.ticket.Ticket.{Ticket}
use Rattle.node_core.specs.Node.{Node}
use Rattle.node_core.specs.Steps.{judged, commit_answer}
use Rattle.node_core.specs.Sound.{IsSoundNode, IsOpen}
use Rattle.node_core.specs.Calls.{CommitsUnder, IsPendingTaken, IsWrite, is_client_write}
use Rattle.node_core.proofs.Orders.{plain_same}
use Rattle.node_core.proofs.Fronts.{csns-in}
use Rattle.std.proofs.Common.{subst}

pub open-from : (n : Node) (csn : Csn) → IsSoundNode n → Contains n.pending csn → (IsPendingTaken n csn → ⊥) → IsOpen n csn
open-from n csn s held new = record {
  is_pending = held;
  not_taken = λ c h e.
      new (record {
        is_pending = held;
        is_taken = subst (λ z. Contains (csns_of n.taken) z) (plain_same c.csn csn (s.taken_plain c h) (s.pending_plain csn held) e) (csns-in n.taken c h);
      });
}

-- a write of a client is one that a commit takes, whoever asks
no_update : (a b : Bool) → b ≡ false → (a && b) ≡ false
no_update true b e = e
no_update false b e = refl

-- from the tests of the code
pub client_parts : (request : Request) (bound : Identity) (built update : Bool) → built ≡ is_change request.op → built ≡ true → update ≡ is_update request Supplier → not update ≡ true → IsWrite request bound
client_parts request bound built update eb tb eu nu = record {
  writes = sym eb ∙ tb;
  no_update = no_update (is_supplier bound) (list_any is_update_control request.controls) (sym eu ∙ not-true update nu);
}

pub client_write : (request : Request) (bound : Identity) → is_client_write request ≡ true → IsWrite request bound
client_write request bound e =
    let parts = and_parts (is_change request.op) (not (list_any is_update_control request.controls)) e in
    record { writes = parts.0; no_update = no_update (is_supplier bound) (list_any is_update_control request.controls) (not-true _ parts.1) }

pub stale-step : (n : Node) (ticket : Ticket) (v : Verdict) (now : ℕ) → ticket.life ≢ n.life → CommitsUnder n ticket v now (Err (ticket, commit.Stale ticket.life n.life)) n
stale-step n ticket v now d = ((if_false _ _ (ne_eqb ticket.life n.life d), refl), refl, refl)

answer_of : (n : Node) (ticket : Ticket) (v w : Verdict) (now : ℕ) → ticket.life ≡ n.life → v ≡ w → commit_answer n ticket.life ticket.csn v now false ≡ judged n ticket.csn w now false
answer_of n ticket v w now e same = if_true _ _ (eq-eqb ticket.life n.life e) ∙ ap (λ z. judged n ticket.csn z now false) same

pub refused-step : (n : Node) (ticket : Ticket) (v : Verdict) (result : LdapResult) (now : ℕ) → ticket.life ≡ n.life → v ≡ Refuses result → CommitsUnder n ticket v now (Err (ticket, commit.Refused result)) n
refused-step n ticket v result now e same = ((answer_of n ticket v (Refuses result) now e same, refl), refl)

pub answered-step : (n : Node) (ticket : Ticket) (v : Verdict) (result : LdapResult) (now : ℕ) → ticket.life ≡ n.life → v ≡ Answers result → CommitsUnder n ticket v now (Err (ticket, commit.Refused result)) n
answered-step n ticket v result now e same = ((answer_of n ticket v (Answers result) now e same, refl), refl)

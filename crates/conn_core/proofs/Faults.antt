-- The count of the keeper's faults does not fall while requests are carried out.
use Rattle.std.proofs.Common.{◌≡◌, ℕ, ◌≤◌, List, [], ◌∷◌, ap, arith, inl, inr}
use Rattle.ldap_types.specs.declared.request.Request.{Request}
use Rattle.ldap_types.specs.declared.request.Control.{Control}
use Rattle.ldap_types.specs.declared.request.SearchRequest.{SearchRequest}
use Rattle.ldap_types.specs.declared.request.Op.{Op}
use Rattle.ldap_types.specs.declared.request.Op.TheVariants as op
use Rattle.ldap_types.specs.declared.reply.Identity.{Identity}
use Rattle.ldap_types.specs.declared.reply.LdapResult.{LdapResult}
use Rattle.io_edge.specs.declared.machine.Fed.{Fed}
use Rattle.conn_core.specs.declared.conn.Conn.{Conn}
use Rattle.search_core.specs.declared.found.Found.{Found}
use Rattle.conn_core.specs.Serving.{Reach, Session, IsWritten, not_begun, settled, aborted, Searches, search_refused, search_answered, Compares, compare_refused, compare_nothing, compare_unasked, compare_asked, ServesOther, Serves, AreServed}
use Rattle.conn_core.specs.Feeding.{Feeds, CarriesPart, none_missing, some_missing}

pub same_count : {N : Type 0} (c : Reach N) (old new : N) → new ≡ old → c.faults old ≤ c.faults new
same_count c old new e = let h = ap (λ (x : _). c.faults x) e in omega (arith, h)

written_count : {N : Type 0} (c : Reach N) (now : ℕ) (bound : Identity) (request : Request) (old new : N) (result : LdapResult) → IsWritten c now bound request old new result → c.faults old ≤ c.faults new
written_count c now bound request old new _ (not_begun fault b) = b.call.count
written_count c now bound request old new _ (settled ticket receipt begun committed b k e) =
    let one = b.call.count in let two = k.call.count in let three = e.call.count in omega (arith, one, two, three)
written_count c now bound request old new _ (aborted ticket back fault result begun committed b k is e) =
    let one = b.call.count in let two = k.call.count in let three = e.call.count in omega (arith, one, two, three)

searches_count : {N : Type 0} (c : Reach N) (controls : List Control) (q : SearchRequest) (old new : N) (answer : Found) → Searches c controls q old new answer → c.faults old ≤ c.faults new
searches_count c controls q old new _ (search_refused critical e) = same_count c old new e
searches_count c controls q old new _ (search_answered answer free s) = s.call.count

compares_count : {N : Type 0} (c : Reach N) (controls : List Control) (object name value : List ℕ) (old new : N) (result : LdapResult) → Compares c controls object name value old new result → c.faults old ≤ c.faults new
compares_count c controls object name value old new _ (compare_refused critical e) = same_count c old new e
compares_count c controls object name value old new _ (compare_nothing free none e) = same_count c old new e
compares_count c controls object name value old new _ (compare_unasked e) = same_count c old new e
compares_count c controls object name value old new _ (compare_asked answer result free some s told) = s.call.count

others_count : {N : Type 0} (c : Reach N) (now : ℕ) (bound : Identity) (request : Request) (old new : N) (result : LdapResult) → ServesOther c now bound request old new result → c.faults old ≤ c.faults new
others_count c now bound request old new result h =
    elim h [ inl w ↦ written_count c now bound request old new result w.1 | inr s ↦ same_count c old new s.1 ]

serves_count : {N : Type 0} (c : Reach N) (now : ℕ) (bound : Identity) (request : Request) (old new : N) (after : Identity) (answer : Found) (o : Op) → Serves c now bound request old new after answer o → c.faults old ≤ c.faults new
serves_count c now bound request old new after answer (op.Bind b) h = same_count c old new h.0
serves_count c now bound request old new after answer (op.Search q) h = searches_count c request.controls q old new answer h.1
serves_count c now bound request old new after answer (op.Compare object name value) h = compares_count c request.controls object name value old new answer.result h.1
serves_count c now bound request old new after answer other h = others_count c now bound request old new answer.result h.1

served_count : {N : Type 0} (c : Reach N) (now : ℕ) (requests : List Request) (old new : Session N) → AreServed c now requests old new → c.faults old.node ≤ c.faults new.node
served_count c now [] old new e = same_count c old.node new.node (ap (λ (x : Session _). x.node) e)
served_count c now (r ∷ rs) old new h =
    let one = serves_count c now old.bound r old.node h.0.node h.0.bound h.1.answer r.op h.1.served in
    let others = served_count c now rs h.0 new h.2 in
    omega (arith, one, others)

pub feeds_count : {N : Type 0} (c : Reach N) (now : ℕ) (piece : List ℕ) (old : Conn) (node : N) (fed : Fed) (new : Conn) (after : N) → Feeds c now piece old node fed new after → c.faults node ≤ c.faults after
feeds_count c now piece old node fed new after f =
    let served = served_count c now f.carried.requests _ f.last f.carried.served in
    let same = same_count c f.last.node after (ap (λ (x : Session _). x.node) f.state) in
    omega (arith, served, same)

pub part_count : {N : Type 0} (c : Reach N) (now : ℕ) (bytes : List ℕ) (old new : Session N) → CarriesPart c now bytes old new → c.faults old.node ≤ c.faults new.node
part_count c now bytes old new (none_missing left k) = served_count c now k.requests old new k.served
part_count c now bytes old new (some_missing rest left r before last k begins s cut) =
    let first = served_count c now k.requests old before k.served in
    let one = serves_count c now before.bound r before.node last.node last.bound s.answer r.op s.served in
    let same = same_count c last.node new.node cut.same_node in
    omega (arith, first, one, same)

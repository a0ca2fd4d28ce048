-- An update of which nothing is lacking at a node is welcome there.
use Rattle.std.proofs.Common.{◌≡◌, ℕ, ◌+◌, ◌<◌, ◌≤◌, ◌≢◌, Bool, true, false, not, ◌&&◌, sym, subst, ◌∙◌, arith, None, ◌==◌, eqb-true, ltb-true}
use Rattle.std.specs.Prelude.{Result, Ok, Err}
use Rattle.std.proofs.lemmas.Bool.{and_parts, not-true, not-false, true≢false}
use Rattle.repl_data.specs.declared.change.Update.{Update}
use Rattle.repl_data.specs.Order.{csn_lt, csn_eq, number_of}
use Rattle.repl_data.specs.Closed.{needed, is_known}
use Rattle.repl_data.proofs.CsnTests.{csn_eq-same}
use Rattle.vector_core.specs.declared.answers.Applied.{Applied}
use Rattle.vector_core.specs.declared.answers.Applied.TheVariants.{Taken, Duplicate}
use Rattle.vector_core.specs.declared.answers.ApplyFault.{ApplyFault}
use Rattle.vector_core.specs.declared.answers.ApplyFault.TheVariants as apply
use Rattle.node_core.specs.Node.{Node, front}
use Rattle.node_core.specs.Steps.{is_held_by, form_fault, is_too_late, taken_answer, formed_answer, apply_answer}
use Rattle.node_core.specs.Sound.{IsPlain, IsSoundNode}
use Rattle.node_core.proofs.Orders.{lt_number}
use Rattle.node_core.proofs.Fronts.{front_plain}
use Rattle.world_core.specs.Sessions.{IsWelcome, IsOk}
use Rattle.world_core.proofs.Events.{if_cases}

-- nothing that the update needs is lacking
pub record IsComplete (n : Node) (u : Update) : Type 0 where
  pub sound : IsSoundNode n
  pub plain : IsPlain u.change.csn
  pub formed : form_fault u ≡ None
  pub not_own : number_of (front n u.change.csn.rid) < number_of u.change.csn → u.change.csn.rid ≢ n.rid
  pub no_gap : number_of (front n u.change.csn.rid) < number_of u.change.csn → u.prev ≡ front n u.change.csn.rid
  pub known : is_known n.taken (needed u.change.target u.change.body) ≡ true

above : (n : Node) (u : Update) → IsComplete n u → csn_lt (front n u.change.csn.rid) u.change.csn ≡ true → number_of (front n u.change.csn.rid) < number_of u.change.csn
above n u k e = lt_number (front n u.change.csn.rid) u.change.csn (front_plain n u.change.csn.rid k.sound) k.plain e

-- a fact of each answer that can come
by_answer : (P : Result Applied ApplyFault → Type 0) (n : Node) (u : Update) (now : ℕ) (fails : Bool) → IsComplete n u → P (Ok Duplicate) → (is_too_late now u.change.csn.time ≡ true → P (Err (apply.Skew u.change.csn now))) → (fails ≡ true → P (Err apply.KeeperFault)) → P (Ok Taken) → P (taken_answer n u now fails)
by_answer P n u now fails k duplicate late keeper taken =
    let c = u.change in
    let have = front n u.change.csn.rid in
    if_cases P ((c.csn.rid == n.rid) && csn_lt have c.csn) _ _
    (λ q. (let p = and_parts (c.csn.rid == n.rid) (csn_lt have c.csn) q in absurd (k.not_own (above n u k p.1) (eqb-true c.csn.rid n.rid p.0))))
    (λ f3. if_cases P (not (csn_lt have c.csn)) _ _ (λ q. duplicate)
    (λ f4. if_cases P (is_too_late now c.csn.time) _ _ late
    (λ f5. if_cases P (not (csn_eq u.prev have)) _ _
    (λ q.
    (let same : u.prev ≡ have = k.no_gap (above n u k (not-false (csn_lt have c.csn) f4)) in
    absurd (true≢false (sym (subst (λ z. csn_eq z have ≡ true) (sym same) (csn_eq-same have)) ∙ not-true (csn_eq u.prev have) q))))
    (λ f6. if_cases P (not (is_known n.taken (needed c.target c.body))) _ _
    (λ q. absurd (true≢false (sym k.known ∙ not-true (is_known n.taken (needed c.target c.body)) q)))
    (λ f7. if_cases P fails _ _ keeper (λ f8. taken))))))

at_form : (P : Result Applied ApplyFault → Type 0) (n : Node) (u : Update) (now : ℕ) (fails : Bool) → form_fault u ≡ None → P (taken_answer n u now fails) → P (formed_answer n u now fails (form_fault u))
at_form P n u now fails e p = subst (λ o. P (formed_answer n u now fails o)) (sym e) p

pub welcome : (n : Node) (u : Update) (from now : ℕ) (fails : Bool) → IsComplete n u → IsWelcome (apply_answer n from u now fails)
welcome n u from now fails k =
    if_cases IsWelcome (is_held_by n.holder from) _ _
    (λ held. at_form IsWelcome n u now fails k.formed (by_answer IsWelcome n u now fails k tt (λ q. tt) (λ q. tt) tt))
    (λ f. tt)

-- where its deliverer holds the node, the time is not too late and the keeper does not fail, the answer is Ok
pub fine : (n : Node) (u : Update) (from now : ℕ) → IsComplete n u → is_held_by n.holder from ≡ true → u.change.csn.time ≤ now + 86400 → IsOk (apply_answer n from u now false)
fine n u from now k held in_time =
    if_cases IsOk (is_held_by n.holder from) _ _
    (λ t.
    at_form IsOk n u now false k.formed
    (by_answer IsOk n u now false k tt
    (λ q. (let late : now + 86400 < u.change.csn.time = ltb-true (now + 86400) u.change.csn.time q in absurd (omega arith)))
    (λ q. absurd (true≢false (sym q))) tt))
    (λ f. absurd (true≢false (sym held ∙ f)))

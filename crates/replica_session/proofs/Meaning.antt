-- What a reply means, by the message that has no answer yet.
use Rattle.std.proofs.Common.{◌≡◌, ℕ, ◌==◌, Bool, true, false, List, Option, Some, None, Result, Ok, Err, refl, sym, ap, ◌∙◌, inl, inr, eqb-true, if◌then◌else◌}
use Rattle.repl_data.specs.declared.csn.Csn.{Csn}
use Rattle.ldap_types.specs.declared.reply.Reply.{Reply}
use Rattle.ldap_types.specs.declared.reply.LdapResult.{LdapResult}
use Rattle.repl_wire.specs.declared.fault.WireFault.{WireFault}
use Rattle.repl_wire.specs.Reading.{started_of}
use Rattle.replica_session.specs.declared.supplier.SessionEnd.TheVariants.{Refused}
use Rattle.replica_session.specs.declared.supplier.Kind.{Kind}
use Rattle.replica_session.specs.declared.supplier.Awaited.{Awaited}
use Rattle.replica_session.specs.declared.supplier.Awaited.TheVariants as awaited
use Rattle.replica_session.specs.declared.supplier.Heard.{Heard}
use Rattle.replica_session.specs.declared.supplier.Heard.TheVariants.{Over, Bound, Started, Taken}
use Rattle.replica_session.specs.Messages.{next_id}
use Rattle.replica_session.specs.Supplier.{fitting, accepted, started_with, heard_with, heard}
use Rattle.replica_session.specs.Laws.{IsAccepted, EndsSo}

abbrev pub Means : Awaited → ℕ → Reply → Heard → Type 0
Means w n r (Over end) = EndsSo w n r end
Means w n r Bound = (w ≡ awaited.Bind) × IsAccepted w r
Means w n r (Started vector) = (w ≡ awaited.Start) × IsAccepted w r × (started_of r ≡ Ok vector)
Means w n r (Taken next) = (id : ℕ) × (k : Kind) × (w ≡ awaited.Update id k) × IsAccepted w r × (next ≡ next_id id)

none_fits : (b : Bool) (x : Option LdapResult) → x ≡ None → (if b then x else None) ≡ None
none_fits true x e = e
none_fits false x e = refl

start_means : (n : ℕ) (r : Reply) (x : Result (List Csn) WireFault) → started_of r ≡ x → IsAccepted awaited.Start r → Means awaited.Start n r (started_with x)
start_means n r (Ok vector) e took = (refl, took, e)
start_means n r (Err fault) e took = inr (refl, took, (fault, e))

accepted_means : (w : Awaited) (n : ℕ) (r : Reply) → IsAccepted w r → Means w n r (accepted w n r)
accepted_means awaited.Nothing n r took = inl (none_fits (r.id == 0) None refl)
accepted_means awaited.Bind n r took = (refl, took)
accepted_means awaited.Start n r took = start_means n r (started_of r) refl took
accepted_means (awaited.Update id k) n r took = (id, k, refl, took, refl)
accepted_means (awaited.End id) n r took = (id, refl, took, refl)

code_means : (w : Awaited) (n : ℕ) (r : Reply) (answer : LdapResult) (b : Bool) → fitting w r ≡ Some answer → (answer.code.number == 0) ≡ b
    → Means w n r (if b then accepted w n r else Over (Refused answer n))
code_means w n r answer true fits e = accepted_means w n r (answer, fits, eqb-true answer.code.number 0 e)
code_means w n r answer false fits e = ((fits, λ z. not_zero z), refl)
  where
    not_zero : answer.code.number ≡ 0 → ⊥
    not_zero z = let f : false ≡ true = sym e ∙ ap (λ (k : ℕ). k == 0) z in absurd cc

fit_means : (w : Awaited) (n : ℕ) (r : Reply) (x : Option LdapResult) → fitting w r ≡ x → Means w n r (heard_with w n r x)
fit_means w n r (Some answer) e = code_means w n r answer (answer.code.number == 0) e refl
fit_means w n r None e = inl e

pub means : (w : Awaited) (n : ℕ) (r : Reply) → Means w n r (heard w n r)
means w n r = fit_means w n r (fitting w r) refl

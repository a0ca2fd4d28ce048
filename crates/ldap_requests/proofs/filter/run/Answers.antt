use Rattle.std.proofs.Common.{◌≡◌, ℕ, List, Option, Some, None, Result, Ok, ap, ◌∙◌}
use Rattle.std.proofs.lemmas.Result.{err_from_is_err_and}
use Rattle.ber_core.specs.Cursor.{window}
use Rattle.ber_core.specs.Window.{Stop, Window, octets, optional, run_from}
use Rattle.ber_core.proofs.Loops.{run_goes_on, run_stops, run_fails, run_done}
use Rattle.ldap_requests.proofs.filter.run.Goals as goal

abbrev read : Option (List ℕ) → Window → Result (Option (List ℕ) × Window) Stop
read o w = Ok (o, w)

pub returns-in_err-one : goal.returns-in_err-one
returns-in_err-one c =
    let p = err_from_is_err_and c.from_residual.result c.from_residual.ensures.1 in
    rw (p.1, p.2) (run_fails c.in_err-one.field-0.0 c.args.tag octets c.loop.all (run_from c.args.tag octets c.args.w.left (window c.args.w)) c.args.w.left c.loop.counter (window c.loop.here) c.loop-test.true c.in_err-one.ensures c.loop.invariant)

pub returns-in-None : goal.returns-in-None
returns-in-None c =
    let h : optional c.args.tag octets (window c.loop.here) ≡ read None (window c.in_ok-one.rest) = c.in_ok-one.ensures ∙ ap (λ (o : Option (List ℕ)). read o (window c.in_ok-one.rest)) c.in-None.is in
    run_stops c.args.tag octets c.loop.all (run_from c.args.tag octets c.args.w.left (window c.args.w)) c.args.w.left c.loop.counter (window c.loop.here) (window c.in_ok-one.rest) c.loop-test.true h c.loop.invariant

pub loop-preserved : goal.loop-preserved
loop-preserved c =
    let h : optional c.args.tag octets (window c.loop.here) ≡ read (Some c.in-Some.bytes) (window c.in_ok-one.rest) = c.in_ok-one.ensures ∙ ap (λ (o : Option (List ℕ)). read o (window c.in_ok-one.rest)) c.in-Some.is in
    rw c.in_ok-push-in-Some.ensures.ok (run_goes_on c.args.tag octets c.loop.all (run_from c.args.tag octets c.args.w.left (window c.args.w)) c.args.w.left c.loop.counter (window c.loop.here) (window c.in_ok-one.rest) c.in-Some.bytes c.loop-test.true h c.loop.invariant)

pub returns : goal.returns
returns c = run_done c.args.tag octets c.loop.all (run_from c.args.tag octets c.args.w.left (window c.args.w)) c.args.w.left c.loop.counter (window c.loop.here) c.loop-test.false c.loop.invariant

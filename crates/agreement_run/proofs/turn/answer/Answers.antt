use Rattle.std.proofs.Common.{refl}
use Rattle.agreement_run.proofs.turn.answer.Goals as goal

pub returns-in_default-clause-answers : goal.returns-in_default-clause-answers
returns-in_default-clause-answers g c = (c.in_default.ensures.asked, refl)

pub returns-in-Ended-clause-answers : goal.returns-in-Ended-clause-answers
returns-in-Ended-clause-answers g c = (rw c.in-Ended.is at c.in-Ok.ensures.ok, refl)

pub returns-in_default-write_side-clause-answers : goal.returns-in_default-write_side-clause-answers
returns-in_default-write_side-clause-answers g c =
    let w = c.in_default-write_side.ensures in
    (c.in-Send.message, rw c.in-Send.is at c.in-Ok.ensures.ok, rw c.as_slice.ensures at w.err, w.cause.failed)

pub returns-clause-answers : goal.returns-clause-answers
returns-clause-answers g c =
    (c.in-Send.message, rw c.in-Send.is at c.in-Ok.ensures.ok, rw c.as_slice.ensures at c.in-Ok-write_side.ensures.ok)

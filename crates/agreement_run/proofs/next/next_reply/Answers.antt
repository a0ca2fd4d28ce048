use Rattle.std.proofs.Common.{arith, ◌∙◌, inl, inr}
use Rattle.agreement_run.proofs.Pieces.{came_more, meets_none}
use Rattle.agreement_run.proofs.next.next_reply.Goals as goal

pub returns-in_default-clause-meets : goal.returns-in_default-clause-meets
returns-in_default-clause-meets g c = record { all = c.receive.new.self; comes = came_more _ _ _ _ _ _ c.loop.invariant.2 c.receive.ensures.comes; meets = tt }

pub returns-in-End : goal.returns-in-End
returns-in-End g c =
    let i = c.loop.invariant in
    let r = c.receive.ensures in
    let more = rw c.in-Err-More.field-0-is at c.in-Err-More.ensures.exact in
    let arrived = rw c.in-End.is at c.in-Ok-receive.ensures.arrives in
    record {
      meets = meets_none _ _ _ _ _ _ _ _ _ _ i.2 r.comes c.bytes.ensures more arrived.0 i.3 (inr arrived.1);
      later = omega (arith, i.3, r.later);
      contents = r.contents ∙ i.4;
      faults = r.faults ∙ i.5;
    }

pub returns-in-Fault : goal.returns-in-Fault
returns-in-Fault g c =
    let i = c.loop.invariant in
    let r = c.receive.ensures in
    let more = rw c.in-Err-More.field-0-is at c.in-Err-More.ensures.exact in
    let arrived = rw c.in-Fault.is at c.in-Ok-receive.ensures.arrives in
    record {
      meets = meets_none _ _ _ _ _ _ _ _ _ _ i.2 r.comes c.bytes.ensures more arrived.0 i.3 (inl arrived.1);
      later = omega (arith, i.3, r.later);
      contents = r.contents ∙ i.4;
      faults = r.faults ∙ i.5;
    }

use Rattle.agreement_run.proofs.Turned.{turned_short, turned_no_reply, turned_unanswered, turned_heard}
use Rattle.agreement_run.proofs.turn.take_turn.Goals as goal

pub returns-in_default : goal.returns-in_default
returns-in_default g c =
    let n = c.next_reply.ensures in
    turned_short g.S.Supply.supplying _ _ _ _ _ _ _ _ _ _ _ _ _ _ c.in_default.ensures.meets n.later n.contents n.faults

pub returns-in-Heard : goal.returns-in-Heard
returns-in-Heard g c =
    let n = c.next_reply.ensures in
    let a = c.answer.ensures in
    turned_heard g.S.Supply.supplying _ _ _ _ _ _ _ _ _ _ _ _ _ _ _ _ _ _ _ _ (rw c.in-Heard.is at c.in-Ok.ensures.meets) n.later n.contents n.faults a.answers a.later a.left a.faults

pub returns-in-NoReply : goal.returns-in-NoReply
returns-in-NoReply g c =
    let n = c.next_reply.ensures in
    turned_no_reply g.S.Supply.supplying _ _ _ _ _ _ _ _ _ _ _ _ (rw c.in-NoReply.is at c.in-Ok.ensures.meets) n.later n.contents n.faults

pub returns-in-Unanswered : goal.returns-in-Unanswered
returns-in-Unanswered g c =
    let n = c.next_reply.ensures in
    turned_unanswered g.S.Supply.supplying _ _ _ _ _ _ _ _ _ _ _ _ (rw c.in-Unanswered.is at c.in-Ok.ensures.meets) n.later n.contents n.faults

use Rattle.std.proofs.Common.{arith, ◌∙◌}
use Rattle.agreement_run.proofs.Going.{begins}
use Rattle.agreement_run.proofs.Turned.{joins_sent, joins_ended, joins_no_reply, joins_unanswered, joins_unwritten, joins_short, runs_nothing, runs_unbound}
use Rattle.agreement_run.proofs.session.run.Goals as goal

pub returns-in_default : goal.returns-in_default
returns-in_default g c = runs_nothing g.S.Supply.supplying _ _ _ _

pub returns-in_default-write_side : goal.returns-in_default-write_side
returns-in_default-write_side g c =
    let w = c.in_default-write_side.ensures in
    runs_unbound g.S.Supply.supplying _ _ _ _ _ _ _ _ (c.as_slice.ensures ∙ c.in-Ok.ensures.ok.0) w.err c.write_side.ensures.left w.cause.failed

pub loop-init : goal.loop-init
loop-init g c =
    let w = c.write_side.ensures in (
      tt,
      tt,
      begins g.S.Supply.supplying _ _ _ _ _ _ _ _ c.in-Ok.ensures.ok.1 (c.as_slice.ensures ∙ c.in-Ok.ensures.ok.0) c.requires w.left c.in-Ok-write_side.ensures.ok,
      omega (arith, w.faults),
      w.cause.later,
    )

pub returns-in_default-take_turn : goal.returns-in_default-take_turn
returns-in_default-take_turn g c =
    let i = c.loop.invariant in
    joins_short g.S.Supply.supplying _ _ _ _ _ _ _ _ _ _ _ _ _ _ _ _ _ _ _ i.2 c.in_default-take_turn.ensures

pub returns-in-Ended : goal.returns-in-Ended
returns-in-Ended g c =
    let i = c.loop.invariant in
    joins_ended g.S.Supply.supplying _ _ _ _ _ _ _ _ _ _ _ _ _ _ _ _ _ _ i.2 (rw c.in-Ended.is at c.in-Ok-take_turn.ensures)

pub returns-in-NoReply : goal.returns-in-NoReply
returns-in-NoReply g c =
    let i = c.loop.invariant in
    joins_no_reply g.S.Supply.supplying _ _ _ _ _ _ _ _ _ _ _ _ _ _ _ _ _ i.2 (rw c.in-NoReply.is at c.in-Ok-take_turn.ensures)

pub returns-in-Unanswered : goal.returns-in-Unanswered
returns-in-Unanswered g c =
    let i = c.loop.invariant in
    joins_unanswered g.S.Supply.supplying _ _ _ _ _ _ _ _ _ _ _ _ _ _ _ _ _ i.2 i.3 (rw c.in-Unanswered.is at c.in-Ok-take_turn.ensures)

pub returns-in-Unwritten : goal.returns-in-Unwritten
returns-in-Unwritten g c =
    let i = c.loop.invariant in
    joins_unwritten g.S.Supply.supplying _ _ _ _ _ _ _ _ _ _ _ _ _ _ _ _ _ i.2 i.4 (rw c.in-Unwritten.is at c.in-Ok-take_turn.ensures)

pub loop-preserved : goal.loop-preserved
loop-preserved g c =
    let i = c.loop.invariant in
    let t = c.take_turn.ensures in (
      tt,
      tt,
      joins_sent g.S.Supply.supplying _ _ _ _ _ _ _ _ _ _ _ _ _ _ _ _ _ i.2 (rw c.in-Sent.is at c.in-Ok-take_turn.ensures),
      omega (arith, i.3, t.reads),
      omega (arith, i.4, t.writes),
    )

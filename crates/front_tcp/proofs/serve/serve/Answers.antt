use Rattle.std.proofs.Common.{rules, arith, ap, refl, ◌∙◌}
use Rattle.front_tcp.proofs.Going.{begins, turned, turn_more, turn_unbound, turn_bad, turn_front, turn_short, serves_none_front}
use Rattle.front_tcp.proofs.serve.serve.Goals as goal

pub returns-in_default-clause-serves : goal.returns-in_default-clause-serves
returns-in_default-clause-serves g c =
    serves_none_front g.M.Machine.adds _ _ _ _ _ _ _ c.send.ensures.state c.send.ensures.left c.in_default.ensures.front

pub loop-init : goal.loop-init
loop-init g c =
    let s = c.send.ensures in (
      tt,
      tt,
      c.in-Ok.ensures.empty,
      ap g.M.Machine.is_ended s.state ∙ c.requires.open,
      c.requires.input,
      omega (arith, s.room, c.requires.output),
      begins g.M.Machine.adds _ _ _ _ _ _ _ s.state s.left c.in-Ok.ensures.all,
      omega (arith, s.faults),
      s.cause.later,
    )

pub returns-in_default-feed-clause-serves : goal.returns-in_default-feed-clause-serves
returns-in_default-feed-clause-serves g c =
    let i = c.loop.invariant in
    turn_short g.M.Machine.adds _ _ _ _ _ _ _ _ _ (turned g.M.Machine.adds _ _ _ _ _ _ _ _ _ _ _ _ _ _ _ _ i.6 c.read_side.ensures.contents c.in-Ok-read_side.ensures.bytes.0 i.2 c.in_default-feed.ensures.added refl refl)

pub returns-in_default-send-clause-serves : goal.returns-in_default-send-clause-serves
returns-in_default-send-clause-serves g c =
    let i = c.loop.invariant in
    let s = c.send-in-loop.ensures in
    turn_front g.M.Machine.adds _ _ _ _ _ _ _ _ _ _ (turned g.M.Machine.adds _ _ _ _ _ _ _ _ _ _ _ _ _ _ _ _ i.6 c.read_side.ensures.contents c.in-Ok-read_side.ensures.bytes.0 i.2 c.in-Ok-feed.ensures.added s.state s.left) c.in_default-send.ensures.front

pub loop-preserved : goal.loop-preserved
loop-preserved g c =
    let i = c.loop.invariant in
    let s = c.send-in-loop.ensures in (
      tt,
      tt,
      c.in-Ok-send.ensures.empty,
      ap g.M.Machine.is_ended s.state ∙ search rules,
      search rules,
      omega (arith, s.room, i.5),
      turn_more g.M.Machine.adds _ _ _ _ _ _ _ _ _ (turned g.M.Machine.adds _ _ _ _ _ _ _ _ _ _ _ _ _ _ _ _ i.6 c.read_side.ensures.contents c.in-Ok-read_side.ensures.bytes.0 i.2 (search rules) s.state s.left) c.in-Ok-send.ensures.all,
      omega (arith, s.faults, i.7, c.read_side.ensures.cause.later),
      omega (arith, c.read_side.ensures.faults, i.8, s.cause.later),
    )

pub returns-in-Unbound-clause-serves : goal.returns-in-Unbound-clause-serves
returns-in-Unbound-clause-serves g c =
    let i = c.loop.invariant in
    let s = c.send-in-loop.ensures in
    let feeds = c.in-Ok-feed.ensures.added in
    turn_unbound g.M.Machine.adds _ _ _ _ _ _ _ _ _ (turned g.M.Machine.adds _ _ _ _ _ _ _ _ _ _ _ _ _ _ _ _ i.6 c.read_side.ensures.contents c.in-Ok-read_side.ensures.bytes.0 i.2 (search rules) s.state s.left) c.in-Ok-send.ensures.all

pub returns-in-BadBytes-clause-serves : goal.returns-in-BadBytes-clause-serves
returns-in-BadBytes-clause-serves g c =
    let i = c.loop.invariant in
    let s = c.send-in-loop.ensures in
    let feeds = c.in-Ok-feed.ensures.added in
    turn_bad g.M.Machine.adds _ _ _ _ _ _ _ _ _ _ (turned g.M.Machine.adds _ _ _ _ _ _ _ _ _ _ _ _ _ _ _ _ i.6 c.read_side.ensures.contents c.in-Ok-read_side.ensures.bytes.0 i.2 (search rules) s.state s.left) c.in-Ok-send.ensures.all

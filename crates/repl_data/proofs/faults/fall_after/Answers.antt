use Rattle.std.proofs.Common.{◌+◌, sym, ap, ◌∙◌}
use Rattle.std.proofs.lemmas.List.{drop_all}
use Rattle.std.specs.List.{position_from}
use Rattle.repl_data.specs.Check.{falls_after}
use Rattle.repl_data.proofs.CheckLaws.{falls_here, falls_on}
use Rattle.repl_data.proofs.faults.fall_after.Goals as goal

pub returns-then-not-is_below : goal.returns-then-not-is_below
returns-then-not-is_below g c =
    sym (c.loop-i.invariant
    ∙ falls_here g.T.Keyed.key_of (c.loop-i.i + 1) c.loop-i.before.now c.args.rest.now c.loop-i.i c.index-rest-i.result c.loop-i-test.true c.index-rest-i.is
    c.key.result.now c.key-in-loop-i.result.now c.is_below.result c.key.ensures c.key-in-loop-i.ensures c.is_below.ensures c.if-not-is_below.true)

pub loop-i-preserved : goal.loop-i-preserved
loop-i-preserved g c =
    c.loop-i.invariant
    ∙ falls_on g.T.Keyed.key_of (c.loop-i.i + 1) c.loop-i.before.now c.args.rest.now c.loop-i.i c.index-rest-i.result c.loop-i-test.true c.index-rest-i.is
    c.key.result.now c.key-in-loop-i.result.now c.is_below.result c.key.ensures c.key-in-loop-i.ensures c.is_below.ensures c.if-not-is_below.false

pub returns : goal.returns
returns g c =
    sym (c.loop-i.invariant
    ∙ ap (λ ys. position_from (λ b. b) (c.loop-i.i + 1) (falls_after g.T.Keyed.key_of c.loop-i.before.now ys)) (drop_all c.loop-i.i c.args.rest.now c.loop-i-test.false))

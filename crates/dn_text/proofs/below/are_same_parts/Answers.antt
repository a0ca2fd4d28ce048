use Rattle.std.proofs.Common.{sym, ◌∙◌, arith}
use Rattle.dn_text.proofs.Same.{parts-differ, parts-agree, parts-end, parts-lengths}
use Rattle.dn_text.proofs.below.are_same_parts.Goals as goal

pub returns-then-a-b : goal.returns-then-a-b
returns-then-a-b c = sym (parts-lengths c.args.a.now c.args.b.now c.if-a-b.true)

pub returns-then-not-is_same_part : goal.returns-then-not-is_same_part
returns-then-not-is_same_part c =
    sym (c.loop-at.invariant ∙ parts-differ c.loop-at.at c.args.a.now c.args.b.now c.index-a-at.result c.index-b-at.result (omega arith) (omega arith) c.index-a-at.is c.index-b-at.is (sym c.if-not-is_same_part.ensures))

pub loop-at-preserved : goal.loop-at-preserved
loop-at-preserved c =
    c.loop-at.invariant ∙ parts-agree c.loop-at.at c.args.a.now c.args.b.now c.index-a-at.result c.index-b-at.result (omega arith) (omega arith) c.index-a-at.is c.index-b-at.is (sym c.if-not-is_same_part.ensures)

pub returns : goal.returns
returns c = sym (c.loop-at.invariant ∙ parts-end c.loop-at.at c.args.a.now c.args.b.now (omega arith) (omega arith))

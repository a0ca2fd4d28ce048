use Rattle.std.proofs.Common.{sym, ap, ap₂, ◌∙◌, arith}
use Rattle.repl_data.specs.declared.change.Rdn.{Rdn}
use Rattle.dn_text.specs.Below.{are_same_parts}
use Rattle.dn_text.proofs.Same.{rdns-differ, rdns-agree, rdns-end}
use Rattle.dn_text.proofs.below.are_same_rdns.Goals as goal

pub returns-then-not-are_same_parts : goal.returns-then-not-are_same_parts
returns-then-not-are_same_parts c =
    sym (c.loop-at.invariant ∙ rdns-differ c.loop-at.at c.args.a.now c.args.b.now c.index-a-at.result c.index-b-at.result (omega arith) (omega arith) c.index-a-at.is c.index-b-at.is (ap₂ are_same_parts (sym c.as_slice.ensures) (ap (λ (r : Rdn). r.avas) c.index-b-at.is ∙ sym c.as_slice-in-loop-at.ensures) ∙ sym c.if-not-are_same_parts.ensures))

pub loop-at-preserved : goal.loop-at-preserved
loop-at-preserved c =
    c.loop-at.invariant ∙ rdns-agree c.loop-at.at c.args.a.now c.args.b.now c.index-a-at.result c.index-b-at.result (omega arith) (omega arith) c.index-a-at.is c.index-b-at.is (ap₂ are_same_parts (sym c.as_slice.ensures) (ap (λ (r : Rdn). r.avas) c.index-b-at.is ∙ sym c.as_slice-in-loop-at.ensures) ∙ sym c.if-not-are_same_parts.ensures)

pub returns : goal.returns
returns c = sym (c.loop-at.invariant ∙ rdns-end c.loop-at.at c.args.a.now c.args.b.now (omega arith) (omega arith))

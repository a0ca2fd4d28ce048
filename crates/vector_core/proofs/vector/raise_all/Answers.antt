use Rattle.std.proofs.Common.{sym, subst, arith, take}
use Rattle.std.proofs.lemmas.List.{take_more}
use Rattle.vector_core.specs.Vector.{IsMerged}
use Rattle.vector_core.proofs.Entries.{merged_none, merged_more}
use Rattle.vector_core.proofs.vector.raise_all.Goals as goal

pub loop-csn-init : goal.loop-csn-init
loop-csn-init c = record { vector = c.requires.vector; merged = merged_none c.args.list.now.items; room = omega (arith, c.requires.room) }

pub loop-csn-preserved : goal.loop-csn-preserved
loop-csn-preserved c = record {
  vector = c.raise_in.ensures.vector;
  merged =
      let raised = rw c.unwrap.ensures at c.raise_in.ensures.ok in
      let more = merged_more c.args.list.now.items c.loop-csn.list.items c.raise_in.new.list.items (take c.loop-csn.csn-index c.args.more.now) _ c.loop-csn.invariant.merged raised in
      subst (λ xs. IsMerged c.args.list.now.items xs c.raise_in.new.list.items) (sym (take_more c.args.more.now c.loop-csn.csn-index _ c.loop-csn-test.true)) more;
  room = let a = c.raise_in.ensures.capacity in let b = c.raise_in.ensures.len in let r = c.loop-csn.invariant.room in omega arith;
}

use Rattle.std.proofs.Common.{rules, arith, nat_lt, ltb-true, ltb-false, get_or}
use Rattle.std.proofs.lemmas.List.Sorted.{IsPartitionPoint-from_clause}
use Rattle.repl_data.specs.declared.csn.Csn.{Csn}
use Rattle.repl_data.specs.Order.{zero_csn}
use Rattle.vector_core.proofs.Entries.{IsVector-parted}
use Rattle.vector_core.proofs.vector.place_of.Goals as goal

pub returns-clause-below : goal.returns-clause-below
returns-clause-below c = λ k h.
    let point = IsPartitionPoint-from_clause (λ (x : Csn). nat_lt x.rid c.args.rid) c.args.list.now c.partition_point.result c.partition_point.ensures.partitioned (IsVector-parted c.args.list.now c.args.rid c.requires) (λ a r q k. search rules) in
    ltb-true (get_or c.args.list.now k zero_csn).rid c.args.rid (point.0 k zero_csn (omega arith) h)

pub returns-clause-above : goal.returns-clause-above
returns-clause-above c = λ k h l.
    let point = IsPartitionPoint-from_clause (λ (x : Csn). nat_lt x.rid c.args.rid) c.args.list.now c.partition_point.result c.partition_point.ensures.partitioned (IsVector-parted c.args.list.now c.args.rid c.requires) (λ a r q k. search rules) in
    ltb-false (get_or c.args.list.now k zero_csn).rid c.args.rid (point.1 k zero_csn h l)

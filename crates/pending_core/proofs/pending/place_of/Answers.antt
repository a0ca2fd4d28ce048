use Rattle.std.proofs.Common.{rules, arith}
use Rattle.std.proofs.lemmas.List.Sorted.{IsPartitionPoint-from_clause}
use Rattle.repl_data.specs.declared.csn.Csn.{Csn}
use Rattle.repl_data.specs.Order.{csn_lt, zero_csn}
use Rattle.pending_core.proofs.Rising.{IsRising-parted, found_at}
use Rattle.pending_core.proofs.pending.place_of.Goals as goal

pub returns-clause-below : goal.returns-clause-below
returns-clause-below c = λ k h.
    (IsPartitionPoint-from_clause (λ (x : Csn). csn_lt x c.args.csn) c.args.held.now c.partition_point.result c.partition_point.ensures.partitioned (IsRising-parted c.args.held.now c.args.csn c.requires) (λ a r q k. search rules)).0 k zero_csn (omega arith) h

pub returns-clause-above : goal.returns-clause-above
returns-clause-above c = λ k h l.
    (IsPartitionPoint-from_clause (λ (x : Csn). csn_lt x c.args.csn) c.args.held.now c.partition_point.result c.partition_point.ensures.partitioned (IsRising-parted c.args.held.now c.args.csn c.requires) (λ a r q k. search rules)).1 k zero_csn h l

pub returns-clause-found : goal.returns-clause-found
returns-clause-found c = λ h.
    let point = IsPartitionPoint-from_clause (λ (x : Csn). csn_lt x c.args.csn) c.args.held.now c.partition_point.result c.partition_point.ensures.partitioned (IsRising-parted c.args.held.now c.args.csn c.requires) (λ a r q k. search rules) in
    found_at c.args.held.now c.args.csn c.partition_point.result c.requires h (λ k l. point.0 k zero_csn (omega arith) l) (λ k l m. point.1 k zero_csn l m)

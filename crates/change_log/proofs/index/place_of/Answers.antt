use Rattle.std.proofs.Common.{rules, arith}
use Rattle.std.proofs.lemmas.List.Sorted.{IsPartitionPoint-from_clause}
use Rattle.change_log.specs.declared.index.Place.{Place}
use Rattle.change_log.specs.Index.{place_lt, no_place}
use Rattle.change_log.proofs.Places.{IsRising-parted}
use Rattle.change_log.proofs.index.place_of.Goals as goal

pub returns-clause-below : goal.returns-clause-below
returns-clause-below c = λ k h.
    (IsPartitionPoint-from_clause (λ (x : Place). place_lt x.csn c.args.csn) c.args.index.now c.partition_point.result c.partition_point.ensures.partitioned (IsRising-parted c.args.index.now c.args.csn c.requires) (λ a r q k. search rules)).0 k no_place (omega arith) h

pub returns-clause-above : goal.returns-clause-above
returns-clause-above c = λ k h l.
    (IsPartitionPoint-from_clause (λ (x : Place). place_lt x.csn c.args.csn) c.args.index.now c.partition_point.result c.partition_point.ensures.partitioned (IsRising-parted c.args.index.now c.args.csn c.requires) (λ a r q k. search rules)).1 k no_place h l

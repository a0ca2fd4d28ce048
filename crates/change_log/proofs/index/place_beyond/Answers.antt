use Rattle.std.proofs.Common.{rules, arith}
use Rattle.std.proofs.lemmas.List.Sorted.{IsPartitionPoint-from_clause}
use Rattle.change_log.specs.declared.index.Place.{Place}
use Rattle.change_log.specs.Index.{is_upto, no_place}
use Rattle.change_log.proofs.Places.{IsRising-parted_above}
use Rattle.change_log.proofs.index.place_beyond.Goals as goal

pub returns-clause-below : goal.returns-clause-below
returns-clause-below c = λ k h.
    ((IsPartitionPoint-from_clause (λ (x : Place). is_upto c.args.rid c.args.beyond x.csn) c.args.index.now c.partition_point.result c.partition_point.ensures.partitioned (IsRising-parted_above c.args.index.now c.args.rid c.args.beyond c.requires) (λ a r q k. search rules)).0 k no_place (omega arith) h)

pub returns-clause-above : goal.returns-clause-above
returns-clause-above c = λ k h l.
    ((IsPartitionPoint-from_clause (λ (x : Place). is_upto c.args.rid c.args.beyond x.csn) c.args.index.now c.partition_point.result c.partition_point.ensures.partitioned (IsRising-parted_above c.args.index.now c.args.rid c.args.beyond c.requires) (λ a r q k. search rules)).1 k no_place h l)

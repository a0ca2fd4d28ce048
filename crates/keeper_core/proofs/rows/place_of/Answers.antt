use Rattle.std.proofs.Common.{rules}
use Rattle.std.proofs.lemmas.List.Sorted.{IsPartitionPoint-from_clause}
use Rattle.std.specs.Ordering.{is_lt}
use Rattle.keeper_core.specs.declared.row.Row.{Row}
use Rattle.keeper_core.specs.Rows.{key_cmp}
use Rattle.keeper_core.proofs.Placed.{IsRising-parted}
use Rattle.keeper_core.proofs.rows.place_of.Goals as goal

pub returns-clause-below : goal.returns-clause-below
returns-clause-below c =
    (IsPartitionPoint-from_clause (λ (r : Row). is_lt (key_cmp r.key c.args.key)) c.args.rows.now c.partition_point.result c.partition_point.ensures.partitioned (IsRising-parted c.args.rows.now c.args.key c.requires) (λ a r q k. search rules)).0

pub returns-clause-above : goal.returns-clause-above
returns-clause-above c =
    (IsPartitionPoint-from_clause (λ (r : Row). is_lt (key_cmp r.key c.args.key)) c.args.rows.now c.partition_point.result c.partition_point.ensures.partitioned (IsRising-parted c.args.rows.now c.args.key c.requires) (λ a r q k. search rules)).1

use Rattle.std.proofs.Common.{rules}
use Rattle.std.specs.Ordering.{is_lt}
use Rattle.std.proofs.lemmas.List.Sorted.{IsPartitionPoint-from_clause}
use Rattle.repl_data.specs.Order.{uid_cmp}
use Rattle.repl_data.specs.View.{PresentEntry}
use Rattle.plain_view.proofs.Places.{ids_parted}
use Rattle.plain_view.proofs.grow.count_below.Goals as goal

pub returns-clause-parted : goal.returns-clause-parted
returns-clause-parted c = λ r.
    IsPartitionPoint-from_clause (λ (e : PresentEntry). is_lt (uid_cmp e.id c.args.id)) c.args.present.now c.partition_point.result c.partition_point.ensures.partitioned (ids_parted c.args.id c.args.present.now r) (λ a r q k. search rules)

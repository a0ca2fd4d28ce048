use Rattle.std.proofs.Common.{rules}
use Rattle.std.specs.Ordering.{is_lt}
use Rattle.std.proofs.lemmas.List.Sorted.{IsPartitionPoint-from_clause}
use Rattle.repl_data.specs.Order.{bytes_cmp}
use Rattle.repl_data.proofs.KeyPlaces.{Rises-parted}
use Rattle.repl_data.proofs.sorted.count_below.Goals as goal

pub returns-clause-parted : goal.returns-clause-parted
returns-clause-parted g c =
    IsPartitionPoint-from_clause (λ x. is_lt (bytes_cmp (g.T.Keyed.key_of x) c.args.key.now)) c.args.items.now c.partition_point.result c.partition_point.ensures.partitioned (Rises-parted g.T.Keyed.key_of c.args.key.now c.args.items.now c.requires) (λ a r q k. search rules)

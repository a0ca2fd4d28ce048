use Rattle.std.proofs.Common.{◌≡◌, not, rules, arith}
use Rattle.std.specs.Ordering.{is_lt}
use Rattle.std.specs.declared.cmp.Ordering.TheVariants.{Less}
use Rattle.std.proofs.lemmas.List.Sorted.{IsPartitionPoint-from_clause}
use Rattle.repl_data.specs.Order.{uid_cmp}
use Rattle.urp_names.specs.declared.contenders.Contender.{Contender}
use Rattle.urp_names.specs.Contending.{rank_cmp, comes_before}
use Rattle.urp_names.proofs.Cuts.{cut_from, parted}
use Rattle.urp_names.proofs.Ranks.{lower_first, rank_first, front_first, in_ranks}
use Rattle.urp_names.proofs.contenders.count_lower.Goals as goal

pub returns-clause-cut : goal.returns-clause-cut
returns-clause-cut c =
    let point = IsPartitionPoint-from_clause (λ (x : Contender). is_lt (rank_cmp x c.args.cell.now)) c.args.ranked.now c.partition_point.result c.partition_point.ensures.partitioned (parted (λ (x y : Contender). rank_cmp x y ≡ Less) (λ (x : Contender). is_lt (rank_cmp x c.args.cell.now)) (λ x y h k. rank_first c.args.cell.now x y h k) c.args.ranked.now (in_ranks c.args.ranked.now c.requires.0 c.requires.1)) (λ a r q k. search rules) in
    cut_from (λ (x : Contender). is_lt (rank_cmp x c.args.cell.now)) c.args.ranked.now c.partition_point.result (λ i d m. point.0 i d (omega arith) m) c.partition_point.ensures.bound (λ i d m l. point.1 i d m l)

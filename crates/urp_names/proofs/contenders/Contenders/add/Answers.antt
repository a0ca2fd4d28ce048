use Rattle.std.proofs.Common.{◌≡◌, ◌<◌, List, false, sym, ap, subst, ◌∙◌, arith}
use Rattle.std.specs.Ordering.{is_lt}
use Rattle.repl_data.specs.Order.{uid_cmp}
use Rattle.urp_names.specs.declared.contenders.Contender.{Contender}
use Rattle.urp_names.specs.Contending.{Contending, IsCut, HasRisingIds, id_of, contends, put_one, rank_cmp, by_rank}
use Rattle.urp_names.proofs.Cuts.{IsFresh, put_fresh}
use Rattle.urp_names.proofs.Ranks.{lower, same, rank_total, put_rank, put_rises, fresh_id, fresh_rank, rank_put}
use Rattle.repl_data.proofs.Orders.{uid_total}
use Rattle.urp_names.proofs.contenders.Contenders.add.Goals as goal

pub invariant_of-self : goal.invariant_of-self
invariant_of-self c =
    let cs : List Contender = c.self.inside.cells.items in
    let fresh : contends c.args.cell.id cs ≡ false = ap (λ (s : Contending). contends c.args.cell.id s.who) c.self.view_is ∙ c.requires.fresh in
    let cut = subst (λ (xs : List Contender). IsCut (lower c.args.cell.id) xs c.count_below-at.result) c.as_slice.ensures.value c.count_below-at.ensures.cut in
    let low = subst (λ (xs : List Contender). IsCut (λ (x : Contender). is_lt (rank_cmp x c.args.cell)) xs c.count_lower-place.result) c.as_slice-2.ensures.value c.count_lower-place.ensures.cut in
    let items = rw c.unwrap.ensures at c.insert.ensures.items in
    let ranks = rw c.unwrap-2.ensures at c.insert-2.ensures.items in
    let long = rw c.unwrap.ensures at c.insert.ensures.len in
    let longer = rw c.unwrap-2.ensures at c.insert-2.ensures.len in
    let put : c.insert.new.self.items ≡ put_one c.args.cell cs = items ∙ sym (put_fresh uid_cmp uid_total id_of c.args.cell cs c.count_below-at.result (fresh_id c.args.cell cs fresh) cut) in
    let ranked : c.insert-2.new.self.items ≡ put_rank c.args.cell c.self.inside.ranked.items =
    ranks ∙ sym (put_fresh rank_cmp rank_total same c.args.cell c.self.inside.ranked.items c.count_lower-place.result (subst (IsFresh rank_cmp rank_total same c.args.cell) (sym c.self.invariant.0) (fresh_rank c.args.cell cs fresh)) low) in
    let room : 0 < c.self.inside.spare = subst (λ (s : Contending). 0 < s.spare) (sym c.self.view_is) c.requires.room in (
      ranked ∙ ap (put_rank c.args.cell) c.self.invariant.0 ∙ sym (rank_put c.args.cell cs fresh) ∙ ap by_rank (sym put),
      subst HasRisingIds (sym put) (put_rises c.args.cell cs c.self.invariant.1),
      omega (arith, long, c.insert.ensures.capacity, c.self.invariant.2, room),
      omega (arith, longer, c.insert-2.ensures.capacity, c.self.invariant.3, room),
    )

pub returns-clause-who : goal.returns-clause-who
returns-clause-who c =
    let cs : List Contender = c.self.inside.cells.items in
    let fresh : contends c.args.cell.id cs ≡ false = ap (λ (s : Contending). contends c.args.cell.id s.who) c.self.view_is ∙ c.requires.fresh in
    let cut = subst (λ (xs : List Contender). IsCut (lower c.args.cell.id) xs c.count_below-at.result) c.as_slice.ensures.value c.count_below-at.ensures.cut in
    let items = rw c.unwrap.ensures at c.insert.ensures.items in
    items ∙ sym (put_fresh uid_cmp uid_total id_of c.args.cell cs c.count_below-at.result (fresh_id c.args.cell cs fresh) cut)
    ∙ ap (λ (s : Contending). put_one c.args.cell s.who) c.self.view_is

use Rattle.std.proofs.Common.{◌≡◌, ◌+◌, ◌++◌, take, drop, sym, ap, ◌∙◌, subst}
use Rattle.std.specs.Prelude.{filter}
use Rattle.cow_map.specs.Rows.{IsRising, all_rows}
use Rattle.cow_map.proofs.PageRows.{rising_page}
use Rattle.cow_map.proofs.Starts.{kept_between}
use Rattle.cow_map.proofs.start.walk_among.Goals as goal

pub row_from-from-requires-clause-rising : goal.row_from-from-requires-clause-rising
row_from-from-requires-clause-rising g c =
    rising_page g.K.Ord.cmp (all_rows (take c.page_from-at.result c.args.pages.now)) c.rows_at-rows.result.now (all_rows (drop (c.page_from-at.result + 1) c.args.pages.now)) (subst (λ z. IsRising g.K.Ord.cmp z) c.rows_at-rows.ensures.rows c.requires.rising)

pub returns : goal.returns
returns g c =
    let front = all_rows (take c.page_from-at.result c.args.pages.now) in
    let back = all_rows (drop (c.page_from-at.result + 1) c.args.pages.now) in
    c.new.ensures
    ∙ (λ i. c.rest.ensures i ++ all_rows (c.behind.ensures i))
    ∙ kept_between (g.S.Start.from c.args.start.now) front c.rows_at-rows.result.now back c.row_from-from.result c.page_from-at.ensures.before c.page_from-at.ensures.behind c.row_from-from.ensures.before c.row_from-from.ensures.behind
    ∙ ap (filter (λ row. g.S.Start.from c.args.start.now row.0)) (sym c.rows_at-rows.ensures.rows)

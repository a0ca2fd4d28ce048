use Rattle.std.proofs.Common.{arith, ◌+◌, ◌++◌, take, drop, sym, ap, ◌∙◌}
use Rattle.cow_map.specs.Rows.{all_rows}
use Rattle.cow_map.proofs.PageRows.{all_rows-parted}
use Rattle.cow_map.proofs.pages.rows_at.Goals as goal

pub returns-then-at-pages-clause-rows : goal.returns-then-at-pages-clause-rows
returns-then-at-pages-clause-rows g c =
    all_rows-parted c.args.pages.now c.args.at c.index-pages-at.result (omega arith) c.index-pages-at.is
    ∙ ap (λ rows. all_rows (take c.args.at c.args.pages.now) ++ (rows ++ all_rows (drop (c.args.at + 1) c.args.pages.now))) (sym c.rows.ensures.value)

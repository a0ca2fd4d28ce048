use Rattle.std.proofs.Common.{◌+◌, take, drop, sym, ap, ◌∙◌, subst}
use Rattle.cow_map.specs.Rows.{IsRising, all_rows, value_at}
use Rattle.cow_map.proofs.PageRows.{rising_page}
use Rattle.cow_map.proofs.Entries.{lookup_between}
use Rattle.cow_map.proofs.pages.value_among.Goals as goal

pub value_in-requires : goal.value_in-requires
value_in-requires g c =
    rising_page g.K.Ord.cmp (all_rows (take c.page_of-at.result c.args.pages.now)) c.rows_at.result.now (all_rows (drop (c.page_of-at.result + 1) c.args.pages.now)) (subst (λ z. IsRising g.K.Ord.cmp z) c.rows_at.ensures.rows c.requires)

pub returns : goal.returns
returns g c =
    c.value_in.ensures ∙ sym (ap (λ z. value_at g.K.Ord.cmp z c.args.key.now) c.rows_at.ensures.rows
    ∙ lookup_between g.K.Ord.cmp c.args.key.now (all_rows (take c.page_of-at.result c.args.pages.now)) c.rows_at.result.now (all_rows (drop (c.page_of-at.result + 1) c.args.pages.now)) c.page_of-at.ensures.before c.page_of-at.ensures.behind)

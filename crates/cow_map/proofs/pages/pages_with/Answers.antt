use Rattle.std.proofs.Common.{◌≡◌, ◌+◌, ◌++◌, take, drop, sym, ap, ◌∙◌, subst}
use Rattle.std.specs.Arc.{arc_value}
use Rattle.std.specs.BTreeMap.{insert_entry}
use Rattle.std.proofs.lemmas.Result.{IfOk-weaker}
use Rattle.cow_map.specs.Rows.{IsRising, all_rows}
use Rattle.cow_map.proofs.PageRows.{rising_page, all_rows-replaced}
use Rattle.cow_map.proofs.Entries.{insert_between}
use Rattle.cow_map.proofs.pages.pages_with.Goals as goal

pub rows_with-requires-clause-rising : goal.rows_with-requires-clause-rising
rows_with-requires-clause-rising g c =
    rising_page g.K.Ord.cmp (all_rows (take c.page_of-at.result c.args.pages.now)) c.rows_at-rows.result.now (all_rows (drop (c.page_of-at.result + 1) c.args.pages.now)) (subst (λ z. IsRising g.K.Ord.cmp z) c.rows_at-rows.ensures.rows c.requires.rising)

pub returns : goal.returns
returns g c =
    let front = all_rows (take c.page_of-at.result c.args.pages.now) in
    let back = all_rows (drop (c.page_of-at.result + 1) c.args.pages.now) in
    let rows = c.rows_at-rows.result.now in
    let page : all_rows c.in_ok-paged.field-0.items ≡ insert_entry g.K.Ord.cmp rows c.args.key (arc_value c.args.value) = c.in_ok-paged.ensures ∙ c.in_ok-changed.ensures.rows in
    let parted : insert_entry g.K.Ord.cmp (all_rows c.args.pages.now) c.args.key (arc_value c.args.value) ≡ front ++ (insert_entry g.K.Ord.cmp rows c.args.key (arc_value c.args.value) ++ back) =
    ap (λ z. insert_entry g.K.Ord.cmp z c.args.key (arc_value c.args.value)) c.rows_at-rows.ensures.rows ∙ insert_between g.K.Ord.cmp c.args.key (arc_value c.args.value) front rows back c.page_of-at.ensures.before c.page_of-at.ensures.behind in
    IfOk-weaker c.replaced.result _ _ (λ all h.
    ap all_rows h ∙ all_rows-replaced (take c.page_of-at.result c.args.pages.now) c.in_ok-paged.field-0.items (drop (c.page_of-at.result + 1) c.args.pages.now)
    ∙ ap (λ z. front ++ (z ++ back)) page ∙ sym parted) c.replaced.ensures

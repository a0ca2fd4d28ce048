use Rattle.std.proofs.Common.{◌≡◌, ◌+◌, ◌++◌, take, drop, sym, ap, ◌∙◌, subst}
use Rattle.std.specs.BTreeMap.{is_at}
use Rattle.std.specs.Map.{remove_entry}
use Rattle.cow_map.specs.Rows.{IsRising, all_rows}
use Rattle.cow_map.proofs.PageRows.{rising_page, all_rows-replaced}
use Rattle.cow_map.proofs.Entries.{remove_between, remove_at_place, remove_at_gap}
use Rattle.cow_map.proofs.pages.pages_without.Goals as goal

pub place_of-requires : goal.place_of-requires
place_of-requires g c =
    rising_page g.K.Ord.cmp (all_rows (take c.page_of-at.result c.args.pages.now)) c.rows_at-rows.result.now (all_rows (drop (c.page_of-at.result + 1) c.args.pages.now)) (subst (λ z. IsRising g.K.Ord.cmp z) c.rows_at-rows.ensures.rows c.requires.rising)

pub returns-in_default-clause-none : goal.returns-in_default-clause-none
returns-in_default-clause-none g c =
    let front = all_rows (take c.page_of-at.result c.args.pages.now) in
    let back = all_rows (drop (c.page_of-at.result + 1) c.args.pages.now) in
    let rows = c.rows_at-rows.result.now in
    ap (λ z. remove_entry (is_at (g.K.Ord.cmp c.args.key.now)) z) c.rows_at-rows.ensures.rows
    ∙ remove_between g.K.Ord.cmp c.args.key.now front rows back c.page_of-at.ensures.before c.page_of-at.ensures.behind
    ∙ ap (λ z. front ++ (z ++ back)) (remove_at_gap g.K.Ord.cmp c.args.key.now rows c.in_default.field-0 c.in_default.ensures)
    ∙ sym c.rows_at-rows.ensures.rows

pub returns-clause-some : goal.returns-clause-some
returns-clause-some g c =
    let front = all_rows (take c.page_of-at.result c.args.pages.now) in
    let back = all_rows (drop (c.page_of-at.result + 1) c.args.pages.now) in
    let rows = c.rows_at-rows.result.now in
    let parted : remove_entry (is_at (g.K.Ord.cmp c.args.key.now)) (all_rows c.args.pages.now) ≡ front ++ (remove_entry (is_at (g.K.Ord.cmp c.args.key.now)) rows ++ back) =
    ap (λ z. remove_entry (is_at (g.K.Ord.cmp c.args.key.now)) z) c.rows_at-rows.ensures.rows
    ∙ remove_between g.K.Ord.cmp c.args.key.now front rows back c.page_of-at.ensures.before c.page_of-at.ensures.behind in
    let page : all_rows c.in_ok-paged.field-0.items ≡ remove_entry (is_at (g.K.Ord.cmp c.args.key.now)) rows =
    c.in_ok-paged.ensures ∙ (c.in_ok-kept.ensures.rows ∙ sym (remove_at_place g.K.Ord.cmp c.args.key.now rows c.in-Ok.place c.in-Ok.ensures)) in
    ap all_rows c.in_ok-replaced.ensures ∙ all_rows-replaced (take c.page_of-at.result c.args.pages.now) c.in_ok-paged.field-0.items (drop (c.page_of-at.result + 1) c.args.pages.now)
    ∙ ap (λ z. front ++ (z ++ back)) page ∙ sym parted

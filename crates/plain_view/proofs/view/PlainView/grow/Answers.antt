use Rattle.std.proofs.Common.{◌≡◌, ℕ, ◌≤◌, List, true, false, length, map, subst, sym, ap, ◌∙◌}
use Rattle.std.specs.Prelude.{filter}
use Rattle.std.specs.List.Sorted.{IsPartitionPoint}
use Rattle.std.specs.Ordering.{is_lt}
use Rattle.repl_data.specs.Order.{uid_cmp}
use Rattle.repl_data.specs.Facts.{EntryFacts}
use Rattle.repl_data.specs.View.{DirectoryView, PresentEntry}
use Rattle.plain_view.specs.Growth.{joined_name, yields, renamed, placed, grown, HasRisingIds, is_among_present}
use Rattle.plain_view.proofs.Grown.{self_yields, placed_is}
use Rattle.plain_view.proofs.Places.{filter_insert}
use Rattle.plain_view.proofs.view.PlainView.grow.Goals as goal

pub renamed-requires : goal.renamed-requires
renamed-requires c =
    let f = c.args.new.now in
    c.in_ok-names.ensures ∙ ap (λ ps. map joined_name (filter (yields f) ps)) c.as_slice-2.ensures
    ∙ sym (ap (λ ps. map joined_name (filter (yields f) ps)) (c.replace-present.ensures.value ∙ c.in_ok-insert.ensures.ok)
    ∙ ap (map joined_name) (filter_insert (yields f) c.self.inside.present c.count_below-at.result c.in_ok-entry.entry (ap (yields f) c.in_ok-entry.ensures ∙ self_yields f _)))

pub returns-clause-ok : goal.returns-clause-ok
returns-clause-ok c = λ r out.
    let f = c.args.new.now in
    let ps = c.self.inside.present in
    let rises : HasRisingIds ps = subst (λ (v : DirectoryView). HasRisingIds v.present) (sym c.self.view_is) r in
    let unknown = ap (λ (v : DirectoryView). is_among_present v.present f.id) c.self.view_is ∙ out in
    let slice = c.as_slice-3.ensures in
    let n : ℕ = c.count_below-at.result in
    let within : n ≤ length ps = subst (λ (xs : List PresentEntry). n ≤ length xs) slice c.count_below-at.ensures.within in
    let parted =
    subst (λ (xs : List PresentEntry). IsPartitionPoint (λ (d : PresentEntry). is_lt (uid_cmp d.id c.new.inside.id) ≡ true) (λ (d : PresentEntry). is_lt (uid_cmp d.id c.new.inside.id) ≡ false) xs n) slice
    (c.count_below-at.ensures.parted (subst HasRisingIds (sym slice) rises)) in
    let at = placed_is f ps c.count_below-at.result c.in_ok-entry.entry c.new.inside.id (c.in_ok-entry.ensures ∙ ap (placed f) c.as_slice.ensures) (ap (λ (e : EntryFacts). e.id) c.new.view_is) rises within parted unknown in
    let present = c.renamed.ensures ∙ ap (map (renamed f)) (c.replace-present.ensures.value ∙ c.in_ok-insert.ensures.ok ∙ at) in
    (λ i. record { suffix = c.self.inside.suffix; present = present i; gone = c.self.inside.gone }) ∙ ap (grown f) c.self.view_is

use Rattle.std.proofs.Common.{subst, sym, ap, ◌∙◌}
use Rattle.repl_data.specs.Facts.{EntryFacts}
use Rattle.plain_view.specs.Growth.{grown, is_among_present}
use Rattle.plain_view.proofs.Added.{Grows, grows, on_ok}
use Rattle.plain_view.proofs.view.PlainView.add.Goals as goal

pub returns-clause-ok : goal.returns-clause-ok
returns-clause-ok c =
    let v = c.args.self.now in
    let d = c.args.change.now in
    let same = c.in_ok-new.ensures in
    on_ok c.grow.result
    (λ h suffix taken is adds arrival.
    let g = subst (Grows suffix taken d) (sym is) (grows suffix taken d adds arrival) in
    h g.rises (ap (λ (f : EntryFacts). is_among_present v.present f.id) same ∙ g.unknown) ∙ ap (λ f. grown f v) same ∙ g.new)
    c.grow.ensures.ok

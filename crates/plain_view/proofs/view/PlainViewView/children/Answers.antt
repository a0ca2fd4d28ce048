use Rattle.std.proofs.Common.{map, ap, ◌∙◌}
use Rattle.std.specs.Prelude.{filter}
use Rattle.repl_data.specs.Order.{in_order}
use Rattle.repl_data.specs.View.{is_shown_below}
use Rattle.plain_view.specs.declared.view.Child.{Child}
use Rattle.plain_view.specs.Listing.{child}
use Rattle.plain_view.proofs.Listings.{child_order, children_sorted}
use Rattle.plain_view.proofs.view.PlainViewView.children.Goals as goal

pub returns : goal.returns
returns c =
    let present = c.as_slice.ensures ∙ (λ i. (c.self.view_is i).present) in
    c.in_ok-ids.ensures
    ∙ ap (map (λ (e : Child). e.id))
    (c.as_slice-2.ensures ∙ c.in_ok-sorted.ensures
    ∙ ap (in_order child_order) (c.in_ok-children.ensures ∙ (λ i. map child (filter (is_shown_below c.args.parent) (present i)))))
    ∙ children_sorted (filter (is_shown_below c.args.parent) c.args.self.now.present)

use Rattle.std.proofs.Common.{map, ap, ◌∙◌}
use Rattle.repl_data.specs.Order.{in_order}
use Rattle.plain_view.specs.declared.view.Listed.{Listed}
use Rattle.plain_view.specs.Listing.{listed}
use Rattle.plain_view.proofs.Listings.{listed_order, dump_sorted}
use Rattle.plain_view.proofs.view.PlainView.dump.Goals as goal

pub returns : goal.returns
returns c =
    let present = c.as_slice.ensures ∙ (λ i. (c.self.view_is i).present) in
    record {
      entries =
          c.in_ok-entries.ensures
          ∙ ap (map (λ (l : Listed). l.shown))
          (c.as_slice-2.ensures ∙ c.in_ok-sorted.ensures
          ∙ ap (in_order listed_order) (c.in_ok-all.ensures ∙ ap (map (listed c.args.self.now)) present))
          ∙ dump_sorted c.args.self.now;
    }

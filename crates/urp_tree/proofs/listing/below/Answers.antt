use Rattle.std.proofs.Common.{◌≡◌, List, refl, sym, ap, ◌∙◌}
use Rattle.std.specs.Prelude.{flat_map}
use Rattle.repl_data.specs.declared.csn.Uid.{Uid}
use Rattle.repl_data.specs.Order.{in_order}
use Rattle.repl_data.specs.View.{shown_key_cmp}
use Rattle.urp_tree.specs.Listed.{kids_at}
use Rattle.urp_tree.proofs.Fits.{on_each}
use Rattle.urp_tree.proofs.Listed.{in_names, in_sorted}
use Rattle.urp_tree.proofs.listing.below.Goals as goal

pub returns-then-not-is_contested : goal.returns-then-not-is_contested
returns-then-not-is_contested c = λ suffix.
    c.in_ok-ids.ensures
    ∙ in_names c.args.rows.now c.requires.tree c.seat_count-seats.ensures.ordered c.args.parent c.args.row.now c.requires.at c.len-names.ensures.ordered (c.if-not-is_contested.ensures refl) suffix

pub returns : goal.returns
returns c =
    on_each c.ids_of.result
    (λ ids h suffix. h
    ∙ in_sorted c.args.rows.now c.requires.tree c.seat_count-seats.ensures.ordered c.args.parent c.args.row.now c.requires.at c.len-names.ensures.ordered suffix c.in_ok-kids.kids.keys
    (c.in_ok-kids.ensures ∙ ap (λ (us : List Uid). in_order shown_key_cmp (flat_map (kids_at c.args.rows.now) us)) (c.as_slice.ensures ∙ c.in_ok-ids.ensures)))
    c.ids_of.ensures

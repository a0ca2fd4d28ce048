use Rattle.std.proofs.Common.{◌≡◌, Bool, Option, None, Some, sym, ap, ◌∙◌}
use Rattle.urp_tree.specs.Rows.{facts_in}
use Rattle.urp_tree.proofs.Seen.{none_here}
use Rattle.urp_tree.proofs.Placed.{place_row, place_absent, none_among}
use Rattle.urp_tree.proofs.places.place.Goals as goal

pub lost-requires-clause-parent : goal.lost-requires-clause-parent
lost-requires-clause-parent c = c.in-Some.ensures.keeps.parent

pub returns-in-Some : goal.returns-in-Some
returns-in-Some c =
    ap Some c.lost.ensures ∙ sym (place_row c.args.rows.now c.requires c.seat_count-seats.ensures.ordered c.args.id c.in-Some.row.now c.in-Some.ensures.at c.in-Some.ensures.here.own)

pub returns-in-None : goal.returns-in-None
returns-in-None c = sym (place_absent (facts_in c.args.rows.now.entries) c.args.id (none_among c.args.id _ (none_here c.args.id (facts_in c.args.rows.now.entries) c.in-None.ensures.row)))

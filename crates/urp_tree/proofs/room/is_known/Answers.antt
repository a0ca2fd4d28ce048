use Rattle.std.proofs.Common.{sym, ap, ◌∙◌}
use Rattle.std.specs.Option.{option_copied}
use Rattle.urp_tree.proofs.Fits.{no_row, row_among}
use Rattle.urp_tree.proofs.room.is_known.Goals as goal

pub returns-in-Some : goal.returns-in-Some
returns-in-Some c =
    sym (row_among c.args.rows.now c.requires c.seat_count-seats.ensures.ordered c.args.id _ (sym c.row_of.ensures ∙ ap option_copied c.in-Some.is))

pub returns-in-None : goal.returns-in-None
returns-in-None c = sym (no_row c.args.rows.now c.requires c.seat_count-seats.ensures.ordered c.args.id (sym c.row_of.ensures ∙ ap option_copied c.in-None.is))

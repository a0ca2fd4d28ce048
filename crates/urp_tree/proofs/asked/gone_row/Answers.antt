use Rattle.std.proofs.Common.{refl, sym, ap, ◌∙◌}
use Rattle.std.specs.Option.{option_copied}
use Rattle.urp_tree.proofs.Seen.{gone_shows, gone_hides, gone_none, kept}
use Rattle.urp_tree.proofs.asked.gone_row.Goals as goal

pub returns-in_default-clause-row : goal.returns-in_default-clause-row
returns-in_default-clause-row c =
    gone_none c.args.rows.now c.requires c.seat_count-seats.ensures.ordered c.args.id (sym c.row_of.ensures ∙ ap option_copied c.in_default.is)

pub returns-then-shows-clause-row : goal.returns-then-shows-clause-row
returns-then-shows-clause-row c =
    gone_shows c.args.rows.now c.requires c.seat_count-seats.ensures.ordered c.args.id c.in-Some.row.now (sym c.row_of.ensures ∙ ap option_copied c.in-Some.is) (c.if-shows.ensures.yes refl)

pub returns-clause-row : goal.returns-clause-row
returns-clause-row c =
    gone_hides c.args.rows.now c.requires c.seat_count-seats.ensures.ordered c.args.id c.in-Some.row.now (sym c.row_of.ensures ∙ ap option_copied c.in-Some.is) (c.if-shows.ensures.no refl)

pub returns-clause-keeps : goal.returns-clause-keeps
returns-clause-keeps c = kept c.args.rows.now c.requires c.seat_count-seats.ensures.ordered c.args.id c.in-Some.row.now (sym c.row_of.ensures ∙ ap option_copied c.in-Some.is)

use Rattle.std.proofs.Common.{◌≡◌, [], Some, refl, sym, ap, ◌∙◌}
use Rattle.std.specs.Option.{option_copied}
use Rattle.urp_tree.specs.Rows.{row_at}
use Rattle.urp_tree.proofs.Seen.{present_shows, present_hides, present_none, kept, shows_among}
use Rattle.urp_tree.proofs.Paths.{here_is}
use Rattle.urp_tree.proofs.asked.present_row.Goals as goal

pub returns-in_default-clause-row : goal.returns-in_default-clause-row
returns-in_default-clause-row c =
    present_none c.args.rows.now c.requires c.seat_count-seats.ensures.ordered c.args.id (sym c.row_of.ensures ∙ ap option_copied c.in_default.is)

pub returns-then-shows-clause-row : goal.returns-then-shows-clause-row
returns-then-shows-clause-row c =
    present_shows c.args.rows.now c.requires c.seat_count-seats.ensures.ordered c.args.id c.in-Some.row.now (sym c.row_of.ensures ∙ ap option_copied c.in-Some.is) (c.if-shows.ensures.yes refl)

pub returns-then-shows-clause-keeps : goal.returns-then-shows-clause-keeps
returns-then-shows-clause-keeps c = kept c.args.rows.now c.requires c.seat_count-seats.ensures.ordered c.args.id c.in-Some.row.now (sym c.row_of.ensures ∙ ap option_copied c.in-Some.is)

pub returns-clause-row : goal.returns-clause-row
returns-clause-row c =
    present_hides c.args.rows.now c.requires c.seat_count-seats.ensures.ordered c.args.id c.in-Some.row.now (sym c.row_of.ensures ∙ ap option_copied c.in-Some.is) (c.if-shows.ensures.no refl)

pub returns-then-shows-clause-here : goal.returns-then-shows-clause-here
returns-then-shows-clause-here c =
    let there : row_at c.args.rows.now c.args.id ≡ Some c.in-Some.row.now = sym c.row_of.ensures ∙ ap option_copied c.in-Some.is in
    here_is c.args.rows.now c.requires c.seat_count-seats.ensures.ordered [] c.args.id c.in-Some.row.now there
    (shows_among c.args.rows.now c.requires c.seat_count-seats.ensures.ordered c.args.id c.in-Some.row.now there (c.if-shows.ensures.yes refl))

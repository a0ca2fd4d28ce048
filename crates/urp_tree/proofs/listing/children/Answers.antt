use Rattle.std.proofs.Common.{Some, None, sym, ap, ◌∙◌}
use Rattle.std.specs.Option.{option_copied}
use Rattle.urp_tree.proofs.Listed.{none_listed}
use Rattle.urp_tree.proofs.listing.children.Goals as goal

pub below-requires-clause-at : goal.below-requires-clause-at
below-requires-clause-at c = sym c.row_of.ensures ∙ ap option_copied c.in-Some.is

pub returns-in-None : goal.returns-in-None
returns-in-None c = λ suffix. c.new.ensures ∙ none_listed c.args.rows.now c.requires c.seat_count-seats.ensures.ordered c.args.parent suffix (sym c.row_of.ensures ∙ ap option_copied c.in-None.is)

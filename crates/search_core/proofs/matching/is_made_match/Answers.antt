use Rattle.std.proofs.Common.{sym, ◌∙◌}
use Rattle.filter_truth.proofs.Entries.{entry_rises}
use Rattle.search_core.proofs.matching.is_made_match.Goals as goal

pub is_meant-requires : goal.is_meant-requires
is_meant-requires g c = entry_rises (g.V.View.view c.args.view.now) c.args.id c.in-Some.entry (sym c.in_ok-entry.ensures ∙ c.in-Some.is)

use Rattle.std.proofs.Common.{sym}
use Rattle.filter_truth.proofs.LentShows.{never_none}
use Rattle.filter_truth.proofs.lent.shows_conflict.Goals as goal

pub returns-in-None-clause-told : goal.returns-in-None-clause-told
returns-in-None-clause-told g c = absurd (never_none (g.V.View.view c.args.view.now) c.args.id c.args.own.now c.requires.rises c.requires.lent (sym c.in-None.ensures))

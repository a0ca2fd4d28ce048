use Rattle.std.proofs.Common.{Some, ap, ◌∙◌}
use Rattle.repl_data.specs.Presence.{present_of}
use Rattle.repl_data.specs.View.{view_of_facts}
use Rattle.urp_tree.specs.Rows.{facts_in}
use Rattle.urp_tree.specs.Seen.{contested_dn}
use Rattle.urp_tree.proofs.Paths.{among_facts}
use Rattle.urp_tree.proofs.Lost.{lost_printed, none_printed}
use Rattle.urp_tree.proofs.shown.lost_dn.Goals as goal

pub lost-requires-clause-parent : goal.lost-requires-clause-parent
lost-requires-clause-parent c = among_facts c.args.entry.now.parent (facts_in c.args.rows.now.entries) c.requires.parent

pub returns-then-lost : goal.returns-then-lost
returns-then-lost c =
    ap Some c.in_ok-dn.ensures
    ∙ lost_printed (present_of (facts_in c.args.rows.now.entries)) c.args.entry.now (contested_dn (view_of_facts c.args.suffix.now (facts_in c.args.rows.now.entries)) c.args.entry.now) c.if-lost.ensures

pub returns : goal.returns
returns c = none_printed (present_of (facts_in c.args.rows.now.entries)) c.args.entry.now (contested_dn (view_of_facts c.args.suffix.now (facts_in c.args.rows.now.entries)) c.args.entry.now) c.if-lost.ensures

use Rattle.std.proofs.Common.{Some, sym, ap, ◌∙◌}
use Rattle.std.specs.Prelude.{option_map}
use Rattle.repl_data.specs.View.{view_of_facts, present_shown}
use Rattle.urp_tree.specs.Rows.{facts_in}
use Rattle.urp_tree.proofs.shown.entry.Goals as goal

pub present_shown-requires-clause-keeps : goal.present_shown-requires-clause-keeps
present_shown-requires-clause-keeps c = c.in-Some.ensures.keeps

pub present_shown-requires-clause-here : goal.present_shown-requires-clause-here
present_shown-requires-clause-here c = c.in-Some.ensures.here

pub returns-in_ok-present_shown-in-Some : goal.returns-in_ok-present_shown-in-Some
returns-in_ok-present_shown-in-Some c =
    ap Some c.in_ok-present_shown-in-Some.ensures
    ∙ ap (option_map (present_shown (view_of_facts c.args.suffix.now (facts_in c.args.rows.now.entries)))) (sym (c.in-Some.ensures.row c.args.suffix.now))

pub returns-in-None : goal.returns-in-None
returns-in-None c = ap (option_map (present_shown (view_of_facts c.args.suffix.now (facts_in c.args.rows.now.entries)))) (sym (c.in-None.ensures.row c.args.suffix.now))

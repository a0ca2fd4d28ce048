use Rattle.std.proofs.Common.{Some, sym, ap, ◌∙◌}
use Rattle.std.specs.Prelude.{option_map}
use Rattle.repl_data.specs.View.{view_of_facts, tombstone_shown}
use Rattle.urp_tree.specs.Rows.{facts_in}
use Rattle.urp_tree.proofs.shown.tombstone.Goals as goal

pub gone_shown-requires : goal.gone_shown-requires
gone_shown-requires c = c.in-Some.ensures.keeps.shown

pub returns-in_ok-gone_shown-in-Some : goal.returns-in_ok-gone_shown-in-Some
returns-in_ok-gone_shown-in-Some c =
    ap Some (c.in_ok-gone_shown-in-Some.ensures (facts_in c.args.rows.now.entries))
    ∙ ap (option_map (tombstone_shown (view_of_facts c.args.suffix.now (facts_in c.args.rows.now.entries)))) (sym (c.in-Some.ensures.row c.args.suffix.now))

pub returns-in-None : goal.returns-in-None
returns-in-None c = ap (option_map (tombstone_shown (view_of_facts c.args.suffix.now (facts_in c.args.rows.now.entries)))) (sym (c.in-None.ensures.row c.args.suffix.now))

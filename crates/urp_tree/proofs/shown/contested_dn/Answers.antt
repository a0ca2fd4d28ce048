use Rattle.std.proofs.Common.{List, ap, ◌∙◌}
use Rattle.repl_data.specs.declared.change.Rdn.{Rdn}
use Rattle.repl_data.specs.View.{view_of_facts, dn_below}
use Rattle.urp_tree.specs.Rows.{facts_in}
use Rattle.urp_tree.proofs.shown.contested_dn.Goals as goal

pub returns : goal.returns
returns c =
    c.in_ok-dn.ensures
    ∙ ap (λ (rdns : List Rdn). dn_below (view_of_facts c.args.suffix.now (facts_in c.args.rows.now.entries)) rdns) (c.as_slice.ensures ∙ c.in_ok-names.ensures c.args.suffix.now)

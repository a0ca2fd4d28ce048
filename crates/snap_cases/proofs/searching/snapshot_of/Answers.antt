use Rattle.std.proofs.Common.{sym, subst, ◌∙◌}
use Rattle.urp_tree.proofs.Fits.{on_each}
use Rattle.search_core.specs.Tree.{IsTree}
use Rattle.snap_cases.proofs.searching.snapshot_of.Goals as goal

pub returns : goal.returns
returns c =
    on_each c.of.result
    (λ s h.
    subst IsTree (sym (h ∙ c.view.ensures))
    (c.search_laws.ensures c.args.node.now.suffix c.args.node.now.taken c.laws.ensures.closed c.laws.ensures.within))
    c.of.ensures.view

use Rattle.std.proofs.Common.{sym, subst}
use Rattle.search_core.specs.Tree.{IsTree}
use Rattle.snap_cases.proofs.searching.over_tree.Goals as goal

pub search-requires : goal.search-requires
search-requires c =
    subst IsTree (sym c.view.ensures)
    (c.search_laws.ensures c.args.node.now.suffix c.args.node.now.taken c.laws.ensures.closed c.laws.ensures.within)

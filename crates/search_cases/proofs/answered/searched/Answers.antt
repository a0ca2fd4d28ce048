use Rattle.std.proofs.Common.{◌≡◌, sym, subst}
use Rattle.std.specs.Prelude.{IfOk}
use Rattle.repl_data.specs.View.{view_of}
use Rattle.search_core.specs.Tree.{IsTree}
use Rattle.search_cases.proofs.answered.searched.Goals as goal

pub search-requires : goal.search-requires
search-requires c =
    subst IsTree (sym (subst (λ r. IfOk r (λ v. v ≡ view_of c.args.suffix.now c.args.changes.now)) c.in_ok-view.ensures.ok c.of.ensures.view))
    (c.search_laws.ensures c.args.suffix.now c.args.changes.now c.requires c.are_in_range-fits.ensures)

use Rattle.std.proofs.Common.{◌≡◌, List, ℕ, sym, ap, subst, ◌∙◌}
use Rattle.urp_tree.specs.declared.changed.Changed.{Changed}
use Rattle.urp_tree.specs.Known.{known_view}
use Rattle.urp_tree.specs.Moves.{IsViewMove, empty_view}
use Rattle.urp_tree.proofs.Fits.{on_each}
use Rattle.view_snap.proofs.snapshot.Snapshot.of.Goals as goal

pub returns-clause-view : goal.returns-clause-view
returns-clause-view c =
    on_each c.told_with.result
    (λ s h. h (known_view c.args.tree.now)
    (subst (λ (cs : List Changed). IsViewMove (empty_view c.in_ok-suffix.suffix) (known_view c.args.tree.now) cs) (sym c.as_slice.ensures)
    (subst (λ (n : List ℕ). IsViewMove (empty_view n) (known_view c.args.tree.now) c.in_ok-entries.entries) (sym (c.in_ok-suffix.ensures ∙ c.suffix_name.ensures)) c.in_ok-entries.ensures)))
    c.told_with.ensures.view

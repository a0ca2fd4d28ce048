use Rattle.std.proofs.Common.{◌≡◌, ◌+◌, ◌*◌, ◌≤◌, List, length, sym, ap, subst, ◌∙◌, arith}
use Rattle.repl_data.specs.View.{DirectoryView}
use Rattle.urp_tree.specs.declared.changed.Changed.{Changed}
use Rattle.urp_tree.specs.Moves.{IsViewMove}
use Rattle.view_snap.specs.Told.{Shot, view_of_rows}
use Rattle.view_snap.specs.Maps.{told_at, told_after}
use Rattle.view_snap.proofs.Moves.{moved_view}
use Rattle.view_snap.proofs.snapshot.Snapshot.moved.Goals as goal

pub put_all-requires : goal.put_all-requires
put_all-requires g c = c.self.invariant

pub invariant_of-result : goal.invariant_of-result
invariant_of-result g c = c.in_ok-maps.ensures.maps

pub returns-clause-view : goal.returns-clause-view
returns-clause-view g c = λ after m.
    let cs : List Changed = c.args.plan.now.changed in
    (λ i. view_of_rows (c.in_ok-suffix.ensures i) c.in_ok-maps.maps.entries)
    ∙ moved_view c.self.inside.suffix c.self.inside.maps.entries c.in_ok-maps.maps.entries c.self.invariant.entries c.in_ok-maps.ensures.maps.entries cs
    (λ u. c.in_ok-maps.ensures.entries u ∙ ap (λ (xs : List Changed). told_after xs (told_at c.self.inside.maps.entries u) u) (c.as_slice.ensures ∙ c.changed.ensures))
    after (subst (λ (k : Shot). IsViewMove k.view after cs) (sym c.self.view_is) m)

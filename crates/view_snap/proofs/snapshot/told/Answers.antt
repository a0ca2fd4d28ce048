use Rattle.std.proofs.Common.{◌≡◌, List, [], sym, ap, subst, ◌∙◌}
use Rattle.repl_data.specs.View.{DirectoryView}
use Rattle.urp_tree.specs.declared.changed.Changed.{Changed}
use Rattle.urp_tree.specs.Moves.{IsViewMove, empty_view}
use Rattle.view_snap.specs.Told.{Told, Shot, view_of_rows}
use Rattle.view_snap.specs.Maps.{told_at, told_after}
use Rattle.view_snap.proofs.Moves.{moved_view}
use Rattle.view_snap.proofs.snapshot.told.Goals as goal

pub put_all-requires : goal.put_all-requires
put_all-requires g c = c.new-none.ensures.maps

pub invariant_of-result : goal.invariant_of-result
invariant_of-result g c = c.in_ok-maps.ensures.maps

pub returns-clause-view : goal.returns-clause-view
returns-clause-view g c = λ after m.
    moved_view c.args.suffix c.new-none.result.entries c.in_ok-maps.maps.entries c.new-none.ensures.maps.entries c.in_ok-maps.ensures.maps.entries c.args.entries.now
    (λ u. c.in_ok-maps.ensures.entries u)
    after (subst (λ rows. IsViewMove (view_of_rows c.args.suffix rows) after c.args.entries.now) (sym c.new-none.ensures.none) m)

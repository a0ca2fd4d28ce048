use Rattle.repl_data.specs.View.{DirectoryView}
use Rattle.urp_tree.specs.Known.{known_view}
use Rattle.urp_tree.specs.Moves.{IsViewMove}
use Rattle.view_counts.proofs.Moved.{law, within, left}
use Rattle.view_counts.proofs.tally.moved.Goals as goal

pub minus-requires : goal.minus-requires
minus-requires c =
    let v : DirectoryView = known_view c.args.tree.now in
    let counted = c.requires.counted in
    let to = c.requires.moves in
    within v to.0 c.args.entries.now c.args.counts c.in_ok-before.before c.in_ok-after.after c.in_ok-all.all counted.counts c.in_ok-before.ensures c.in_ok-after.ensures c.in_ok-all.ensures
    (law v to.0 c.args.entries.now to.1 c.requires.rises counted.present counted.gone)

pub returns : goal.returns
returns c = λ w m.
    let v : DirectoryView = known_view c.args.tree.now in
    let counted = c.requires.counted in
    let move : IsViewMove v w c.args.entries.now = m in
    record {
      present = move.present;
      gone = move.gone;
      counts =
          left v w c.args.entries.now c.args.counts c.in_ok-before.before c.in_ok-after.after c.in_ok-all.all counted.counts c.in_ok-before.ensures c.in_ok-after.ensures c.in_ok-all.ensures
          (law v w c.args.entries.now move c.requires.rises counted.present counted.gone) c.minus.result c.minus.ensures;
    }

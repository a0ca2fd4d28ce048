use Rattle.std.proofs.Common.{ap, ◌∙◌}
use Rattle.change_log.specs.Log.{Log, prev_in}
use Rattle.change_log.proofs.Indexed.{prev_indexed}
use Rattle.change_log.proofs.log.ChangeLog.prev.Goals as goal

pub returns : goal.returns
returns c = record {
  greatest_below = rw c.as_slice.ensures.value at c.prev_in.ensures
      ∙ prev_indexed c.self.inside.index.items c.self.inside.changes.items c.args.csn c.self.invariant.0
      ∙ ap (λ (l : Log). prev_in l.changes c.args.csn) c.self.view_is;
}

use Rattle.change_log.specs.Log.{is_between}
use Rattle.change_log.specs.Index.{IsBestOf}
use Rattle.change_log.proofs.index.first_between.Given as goal

abbrev pub invariant-loop-last : goal.invariant-loop-last
invariant-loop-last l = IsBestOf l.index (is_between l.beyond l.limit) l.limit l.last-index l.best

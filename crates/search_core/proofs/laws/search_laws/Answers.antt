use Rattle.repl_data.specs.View.{view_of}
use Rattle.view_walk.proofs.Closed.{closed_tree}
use Rattle.search_core.proofs.Rising.{view_rises, gone_rises}
use Rattle.search_core.proofs.laws.search_laws.Goals as goal

pub returns : goal.returns
returns c = λ suffix xs closed fits. record { names = closed_tree suffix xs closed fits; attrs = view_rises suffix xs; gone = gone_rises suffix xs }

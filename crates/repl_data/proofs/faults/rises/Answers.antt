use Rattle.std.proofs.Common.{ap, ◌∙◌}
use Rattle.std.specs.Prelude.{is_none}
use Rattle.repl_data.specs.declared.change.Val.{Val}
use Rattle.repl_data.specs.Check.{falls}
use Rattle.repl_data.proofs.CheckLaws.{any-position}
use Rattle.repl_data.proofs.faults.rises.Goals as goal

pub returns : goal.returns
returns c = c.is_absent.ensures ∙ ap is_none c.first_fall.ensures ∙ any-position 0 (falls (λ (v : Val). v.key) c.args.vals.now)

use Rattle.std.proofs.Common.{sym, ◌∙◌}
use Rattle.std.proofs.lemmas.Result.{IfOk-weaker}
use Rattle.repl_data.proofs.TextKeys.{folded-ascii}
use Rattle.attr_keys.proofs.text.folded_ascii.Goals as goal

pub returns : goal.returns
returns c = IfOk-weaker c.lower.result _ _ (λ t e. e ∙ sym (folded-ascii c.args.value.now c.requires)) c.lower.ensures

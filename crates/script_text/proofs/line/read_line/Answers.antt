use Rattle.std.proofs.Common.{◌≡◌, Some, None, sym, ◌∙◌}
use Rattle.std.proofs.lemmas.Result.{IfOk-weaker}
use Rattle.script_text.proofs.Found.{read-spelled}
use Rattle.script_text.proofs.Read.{spelled-read}
use Rattle.script_text.proofs.line.read_line.Goals as goal

pub returns-clause-found : goal.returns-clause-found
returns-clause-found c = IfOk-weaker _ _ _ (λ line e. read-spelled c.args.text.now line e) c.line_at.ensures.read

pub returns-clause-outside : goal.returns-clause-outside
returns-clause-outside c = λ bad line s. let never : None ≡ Some line = sym (c.line_at.ensures.none bad) ∙ spelled-read c.args.text.now line s in cc

use Rattle.repl_data.proofs.Sound.{not_both}
use Rattle.repl_data.proofs.CheckLaws.{no_part-full}
use Rattle.repl_data.proofs.faults.no_part.Goals as goal

pub returns-else-is_empty : goal.returns-else-is_empty
returns-else-is_empty c = no_part-full c.args.rdn.now.avas (λ e. not_both _ (c.is_empty.ensures.1 e) c.if-is_empty.false)

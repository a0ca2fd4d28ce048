use Rattle.std.proofs.Common.{sym, ◌∙◌}
use Rattle.repl_data.proofs.CheckLaws.{mods-full}
use Rattle.repl_data.proofs.faults.empty_in_mods.Goals as goal

pub returns-else-is_empty : goal.returns-else-is_empty
returns-else-is_empty c = c.empty_mod.ensures ∙ mods-full c.args.mods.now (sym c.is_empty.ensures ∙ c.if-is_empty.false)

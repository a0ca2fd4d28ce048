use Rattle.std.proofs.Common.{sym, ap, ◌∙◌}
use Rattle.std.specs.Prelude.{option_map}
use Rattle.std.specs.Option.{option_copied}
use Rattle.urp_names.specs.Contending.{id_of}
use Rattle.urp_names.proofs.contenders.Contenders.holder.Goals as goal

pub returns-in-Some : goal.returns-in-Some
returns-in-Some c = ap (option_map id_of) (sym (ap option_copied c.in-Some.is) ∙ c.first.ensures)

pub returns-in-None : goal.returns-in-None
returns-in-None c = ap (option_map id_of) (sym (ap option_copied c.in-None.is) ∙ c.first.ensures)

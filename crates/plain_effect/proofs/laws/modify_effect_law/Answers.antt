use Rattle.plain_effect.proofs.AcceptedMods.{accepted_mods}
use Rattle.plain_effect.proofs.laws.modify_effect_law.Goals as goal

pub returns : goal.returns
returns c = λ suffix xs controls bound object given u body csn closed above h drawn. accepted_mods suffix xs controls bound object given u body csn closed above h drawn

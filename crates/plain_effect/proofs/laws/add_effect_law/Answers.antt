use Rattle.plain_effect.proofs.Accepted.{accepted_effect}
use Rattle.plain_effect.proofs.laws.add_effect_law.Goals as goal

pub returns : goal.returns
returns c = λ suffix xs controls bound object given body csn closed above h drawn. accepted_effect suffix xs controls bound object given body csn closed above h drawn

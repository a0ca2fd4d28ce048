use Rattle.std.proofs.Common.{rules, ap, ◌∙◌}
use Rattle.seat_lock.proofs.Seats.{looking}
use Rattle.seat_lock.proofs.wait.wait.Goals as goal

pub load-serving-requires : goal.load-serving-requires
load-serving-requires g c = (search rules, search rules, looking _ _ _ _ _ _ _ c.requires.drawn.0 (ap (λ m. m.0.stage) c.loop.invariant.1 ∙ c.requires.drawn.1))

use Rattle.request_wait.proofs.Places.{stays_in_bytes}
use Rattle.request_wait.proofs.unfinished.Unfinished.extend_from_slice.Goals as goal

pub invariant_of-self-2 : goal.invariant_of-self-2
invariant_of-self-2 c = rw c.in-Ok.ensures.ok (stays_in_bytes c.self.inside.waiting c.self.inside.bytes c.args.piece.now c.self.invariant)

use Rattle.std.proofs.Common.{refl}
use Rattle.request_wait.proofs.Places.{place_at_start}
use Rattle.request_wait.proofs.waiting.Waiting.new.Goals as goal

pub returns : goal.returns
returns c = place_at_start _ refl c.new.ensures

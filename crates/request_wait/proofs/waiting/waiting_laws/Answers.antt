use Rattle.request_wait.proofs.Places.{stays_in_bytes}
use Rattle.request_wait.proofs.waiting.waiting_laws.Goals as goal

pub returns : goal.returns
returns c = stays_in_bytes

use Rattle.std.proofs.Common.{sym, ap, []}
use Rattle.std.specs.Prelude.{is_some}
use Rattle.world_core.proofs.state.WorldState.session.Goals as goal

pub returns-in-Some : goal.returns-in-Some
returns-in-Some c = rw (← c.as_slice.ensures.value) (sym (ap is_some (c.in-Some.ensures.1 (record { supplier = 0; consumer = 0; cursor = [] }))))

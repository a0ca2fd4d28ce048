use Rattle.std.proofs.Common.{◌&&◌, ◌==◌}
use Rattle.world_core.specs.World.{Session}
use Rattle.world_core.proofs.Finding.{finds}
use Rattle.world_core.proofs.places.session_place.Goals as goal

pub returns : goal.returns
returns c = finds (λ (s : Session). (s.supplier == c.args.a) && (s.consumer == c.args.b)) c.args.sessions.now c.first_between.result c.first_between.ensures

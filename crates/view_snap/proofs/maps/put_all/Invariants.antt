use Rattle.std.proofs.Common.{◌≡◌, ◌+◌, ◌*◌, ◌≤◌, drop}
use Rattle.repl_data.specs.declared.csn.Uid.{Uid}
use Rattle.view_snap.specs.Maps.{AreMaps, told_at, told_after}
use Rattle.view_snap.proofs.maps.put_all.Given as goal

abbrev pub invariant-loop-one : goal.invariant-loop-one
invariant-loop-one g l = record {
  maps : AreMaps l.after;
  entries : (u : Uid) → told_after (drop l.one-index l.told) (told_at l.after.entries u) u ≡ told_after l.told (told_at l.maps.entries u) u;
  steps : l.steps ≤ l.fn.steps + 4 * l.one-index;
}

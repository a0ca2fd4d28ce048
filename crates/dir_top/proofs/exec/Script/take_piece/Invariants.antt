use Rattle.std.proofs.Common.{List, ℕ, ◌≤◌, ◌++◌, drop, Option}
use Rattle.dir_top.specs.declared.state.State.{State}
use Rattle.dir_top.specs.Output.{Told}
use Rattle.dir_top.specs.Running.{Reads, IsWithin}
use Rattle.dir_top.proofs.exec.Script.take_piece.Given as goal

abbrev pub invariant-loop-byte : goal.invariant-loop-byte
invariant-loop-byte g l =
    IsWithin l.self × (g.K.Sink.faults l.fn.sink ≤ g.K.Sink.faults l.sink)
    × ((whole : Told (Option State)) (rest : List ℕ) (old : Option (List ℕ)) → Reads whole (l.piece ++ rest) l.fn.self old (g.K.Sink.contents l.fn.sink)
    → Reads whole (drop l.byte-index l.piece ++ rest) l.self old (g.K.Sink.contents l.sink))

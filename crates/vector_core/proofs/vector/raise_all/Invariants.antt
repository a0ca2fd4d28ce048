use Rattle.std.proofs.Common.{◌+◌, ◌≤◌, length, take, vec_len, vec_capacity}
use Rattle.vector_core.specs.Vector.{IsVector, IsMerged}
use Rattle.vector_core.proofs.vector.raise_all.Given as goal

abbrev pub invariant-loop-csn : goal.invariant-loop-csn
invariant-loop-csn l = record {
  vector : IsVector l.list.items;
  merged : IsMerged l.fn.list.items (take l.csn-index l.more) l.list.items;
  room : vec_len l.list + length l.more ≤ vec_capacity l.list + l.csn-index;
}

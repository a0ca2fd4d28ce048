use Rattle.std.proofs.Common.{◌≡◌, ◌+◌, ◌++◌, take, vec_len}
use Rattle.cow_map.proofs.rows.copy_rows.Given as goal

abbrev pub invariant-loop-row : goal.invariant-loop-row
invariant-loop-row g l = (l.copies.items ≡ l.fn.copies.items ++ take l.row-index l.rows) × (vec_len l.copies ≡ vec_len l.fn.copies + l.row-index)

use Rattle.std.proofs.Common.{◌≡◌, ◌+◌, ◌≤◌, length, vec_len, vec_capacity}
use Rattle.keeper_core.specs.Rows.{IsRising, after_batch}
use Rattle.keeper_core.proofs.rows.take_steps.Given as goal

abbrev pub invariant-loop-step : goal.invariant-loop-step
invariant-loop-step l = record {
  rising : IsRising l.rows.items;
  taken : l.rows.items ≡ after_batch l.fn.rows.items l.yielded;
  room : vec_len l.rows + vec_len l.fn.steps ≤ vec_capacity l.rows + length l.yielded;
}

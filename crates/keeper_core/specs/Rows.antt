-- Rows by their keys, and what a batch leaves of them.
use Rattle.std.specs.Prelude.{◌≡◌, ℕ, Bool, not, List, [], ◌∷◌, filter, Option, Some, None, if◌then◌else◌}
use Rattle.std.specs.List.{AllByRecursion}
use Rattle.std.specs.declared.cmp.Ordering.{Ordering}
use Rattle.std.specs.declared.cmp.Ordering.TheVariants.{Less}
use Rattle.std.specs.Ordering.{nat_cmp, ordering_then, eq_by_cmp}
use Rattle.repl_data.specs.Order.{bytes_cmp, put_by}
use Rattle.keeper_core.specs.declared.row.RowKey.{RowKey}
use Rattle.keeper_core.specs.declared.row.Row.{Row}
use Rattle.keeper_core.specs.declared.row.BatchStep.{BatchStep}
use Rattle.keeper_core.specs.declared.row.BatchStep.TheVariants.{Put, Remove}

-- by kind, and then by the bytes of the key
abbrev pub key_cmp : RowKey → RowKey → Ordering
key_cmp a b = ordering_then (nat_cmp a.kind b.kind) (bytes_cmp a.key b.key)

abbrev pub key_eq : RowKey → RowKey → Bool
key_eq = eq_by_cmp key_cmp

-- each key is below all later ones
abbrev pub IsRising : List Row → Type 0
IsRising [] = Unit {0}
IsRising (r ∷ rows) = AllByRecursion (λ (s : Row). key_cmp r.key s.key ≡ Less) rows × IsRising rows

-- the bytes that stand under a key
abbrev pub bytes_at : RowKey → List Row → Option (List ℕ)
bytes_at key [] = None
bytes_at key (r ∷ rows) = if key_eq key r.key then Some r.bytes else bytes_at key rows

-- a put gives its key these bytes, and a remove takes its key's row away; all other rows stay
abbrev pub after_step : List Row → BatchStep → List Row
after_step rows (Put key bytes) = put_by (λ (r : Row). r.key) key_cmp (record { key = key; bytes = bytes }) rows
after_step rows (Remove key) = filter (λ (r : Row). not (key_eq key r.key)) rows

-- the rows that a batch leaves, its steps taken one after the other
abbrev pub after_batch : List Row → List BatchStep → List Row
after_batch rows [] = rows
after_batch rows (step ∷ steps) = after_batch (after_step rows step) steps

-- the key that a step is on
abbrev pub step_key : BatchStep → RowKey
step_key (Put key bytes) = key
step_key (Remove key) = key

abbrev pub is_on : RowKey → BatchStep → Bool
is_on key step = key_eq key (step_key step)

-- How a node draws the next time and sequence number.
use Rattle.std.specs.Prelude.{ℕ, ◌+◌, Bool, nat_lt, if◌then◌else◌, Option, Some, None}
use Rattle.std.specs.Ordering.{nat_cmp, ordering_then, is_lt}
use Rattle.repl_data.specs.declared.csn.Csn.{Csn}
use Rattle.pending_core.specs.declared.generator.Generator.{Generator}

-- the next pair after the last one at the time `now`; none exactly at the last pair of all
abbrev pub draw : Generator → ℕ → Option (ℕ × ℕ)
draw last now =
    if nat_lt last.time now then Some (now, 0)
    else if nat_lt last.seq 65535 then Some (last.time, last.seq + 1)
    else if nat_lt last.time 4294967295 then Some (last.time + 1, 0)
    else None

-- the generator that drew this pair last
abbrev pub generator_at : ℕ × ℕ → Generator
generator_at pair = record { time = pair.0; seq = pair.1 }

-- by time, and then by sequence number
abbrev pub is_before : Generator → Generator → Bool
is_before a b = is_lt (ordering_then (nat_cmp a.time b.time) (nat_cmp a.seq b.seq))

-- raised to at least the time and sequence number of a CSN
abbrev pub raised_to : Generator → Csn → Generator
raised_to last csn = let reached = generator_at (csn.time, csn.seq) in if is_before last reached then reached else last

-- Values that are read up to the first that is refused, and then put in order.
use Rattle.std.specs.Prelude.{ℕ, Bool, not, List, [], ◌∷◌, Option, Some, None, Result, Ok, Err}
use Rattle.repl_data.specs.declared.change.AttrKey.{AttrKey}
use Rattle.repl_data.specs.declared.change.Val.{Val}
use Rattle.repl_data.specs.Types.{is_derived_value}
use Rattle.rule_values.specs.declared.fault.Refusal.{Refusal}
use Rattle.rule_values.specs.declared.fault.Refusal.TheVariants.{Derived, ListedTwice}
use Rattle.rule_values.specs.Refusing.{◌>>=◌, refuse_if}
use Rattle.rule_values.specs.Listed.{read_value}

-- one value, whatever stands beside it
unfoldable pub read_one : AttrKey → List ℕ → Result Val Refusal
read_one attr spelled =
    read_value attr spelled >>= λ v.
    refuse_if (is_derived_value attr v) Derived >>= λ _.
    Ok v

abbrev pub and_then : Result Val Refusal → List Val × Option Refusal → List Val × Option Refusal
and_then (Ok v) more = (v ∷ more.0, more.1)
and_then (Err why) more = ([], Some why)

-- the values before the first that is refused, and why that one is
unfoldable pub read_all : AttrKey → List (List ℕ) → List Val × Option Refusal
read_all attr [] = ([], None)
read_all attr (s ∷ ss) = and_then (read_one attr s) (read_all attr ss)

abbrev pub stopped : Option Refusal → Result (Unit {0}) Refusal
stopped None = Ok tt
stopped (Some why) = Err why

-- what is said of them when they stand in order: a value that stands twice was read before the one that is refused
unfoldable pub in_turn : Bool → Option Refusal → List Val → Result (List Val) Refusal
in_turn rising why vals =
    refuse_if (not rising) ListedTwice >>= λ _.
    stopped why >>= λ _.
    Ok vals

-- A FILTER MADE READY: its names, values and pieces are keys.
use Rattle.std.specs.Prelude.{◌≡◌, ℕ, Bool, true, List, Option, Some, None}
use Rattle.attr_keys.specs.Table.{kind_of}
use Rattle.ldap_types.specs.declared.request.Filter.{Filter}
use Rattle.filter_truth.specs.declared.three.Truth.{Truth}
use Rattle.filter_truth.specs.declared.three.Truth.TheVariants.{No, Undefined}
use Rattle.filter_truth.specs.declared.test.Test.{Test}
use Rattle.filter_truth.specs.declared.test.Test.TheVariants.{Any, Compares, Pieces}
use Rattle.filter_truth.specs.declared.test.Assertion.{Assertion}
use Rattle.filter_truth.specs.declared.prepared.Prepared.{Prepared, fold-Prepared}
use Rattle.filter_truth.specs.declared.prepared.Prepared.TheOpen.{Prepared-F}
use Rattle.filter_truth.specs.Three.{of_bool, negated, all_of, any_of}
use Rattle.filter_truth.specs.Pieces.{has_pieces}
use Rattle.filter_truth.specs.Truth.{Shows, Asserted, holds, truth_by}

-- whether the key of a value of this attribute passes the test
abbrev pub passes : List ℕ → Test → List ℕ → Bool
passes attr Any shown = true
passes attr (Compares how key) shown = holds how (kind_of attr) key shown
passes attr (Pieces first middle last) shown = has_pieces first middle last shown

-- what an assertion that was read asserts
abbrev pub meant : Assertion → Asserted
meant a = (a.attr.name, passes a.attr.name a.test)

abbrev pub maybe_meant : Option Assertion → Option Asserted
maybe_meant None = None
maybe_meant (Some a) = Some (meant a)

abbrev pub maybe_passes : List ℕ → Option Test → Option (List ℕ → Bool)
maybe_passes attr None = None
maybe_passes attr (Some t) = Some (passes attr t)

-- one filter that is ready, from the truths of those inside it
abbrev pub ready_step : Shows → Prepared-F Truth → Truth
ready_step shown (Prepared-F.And ts) = all_of ts
ready_step shown (Prepared-F.Or ts) = any_of ts
ready_step shown (Prepared-F.Not t) = negated t
ready_step shown (Prepared-F.Asserts a) = of_bool (shown a.attr.name (passes a.attr.name a.test))
ready_step shown Prepared-F.Unreadable = Undefined
ready_step shown Prepared-F.Nowhere = No

unfoldable pub ready_by : Shows → Prepared → Truth
ready_by shown p = fold-Prepared Truth (ready_step shown) p

-- whatever is shown, it has the truth of the filter
abbrev pub StandsFor : Prepared → Filter → Type 0
StandsFor p f = (shown : Shows) → ready_by shown p ≡ truth_by shown f

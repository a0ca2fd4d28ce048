-- THE TRUTH OF A FILTER for an entry (RFC 4511, section 4.5.1.7), by cases on the filter.
use Rattle.std.specs.Prelude.{ℕ, Bool, true, false, ◌&&◌, List, [], ◌∷◌, map, find, Option, Some, None, is_none, if◌then◌else◌}
use Rattle.std.specs.List.{list_any, list_all}
use Rattle.std.specs.Option.{option_map}
use Rattle.std.specs.Ordering.{is_le}
use Rattle.repl_data.specs.declared.change.Shown.{Shown}
use Rattle.repl_data.specs.declared.change.Val.{Val}
use Rattle.repl_data.specs.Order.{bytes_eq}
use Rattle.attr_keys.specs.declared.kind.Kind.{Kind}
use Rattle.attr_keys.specs.declared.kind.Kind.TheVariants.{Int}
use Rattle.attr_keys.specs.Name.{bad_name}
use Rattle.attr_keys.specs.Table.{key_of, kind_of}
use Rattle.attr_keys.specs.Value.{bad_value, value_key, piece_key, compared}
use Rattle.ldap_types.specs.declared.request.Filter.{Filter, fold-Filter}
use Rattle.ldap_types.specs.declared.request.Filter.TheOpen.{Filter-F}
use Rattle.filter_truth.specs.declared.three.Truth.{Truth}
use Rattle.filter_truth.specs.declared.three.Truth.TheVariants.{Undefined}
use Rattle.filter_truth.specs.declared.test.Comparison.{Comparison}
use Rattle.filter_truth.specs.declared.test.Comparison.TheVariants.{Equal, AtLeast, AtMost}
use Rattle.filter_truth.specs.Three.{of_bool, negated, all_of, any_of}
use Rattle.filter_truth.specs.Pieces.{has_pieces}

-- ---- what is shown

-- Whether the attribute of this key shows a value whose key passes a test. It is all that a filter asks of an entry.
abbrev pub Shows : Type 0
Shows = List ℕ → (List ℕ → Bool) → Bool

abbrev pub name_of : Shown → List ℕ
name_of s = s.attr.name

abbrev pub vals_of : Option Shown → List Val
vals_of None = []
vals_of (Some s) = s.vals

abbrev pub shows : List Shown → Shows
shows attrs key test = list_any (λ (v : Val). test v.key) (vals_of (find (λ (s : Shown). bytes_eq key s.attr.name) attrs))

-- ---- what is asserted

-- the key of a name, and of a value and of a piece of one, where it can be read
abbrev pub attr_of : List ℕ → Option (List ℕ)
attr_of name = if is_none (bad_name name) then Some (key_of name) else None

abbrev pub value_of : Kind → List ℕ → Option (List ℕ)
value_of kind value = if is_none (bad_value kind value) then Some (value_key kind value) else None

abbrev pub piece_of : Kind → List ℕ → Option (List ℕ)
piece_of kind piece = if is_none (bad_value kind piece) then Some (piece_key kind piece) else None

-- an attribute, and the test that one of its values has to pass
abbrev pub Asserted : Type 0
Asserted = List ℕ × (List ℕ → Bool)

-- what a name and what is asserted of values of its kind come to, where both can be read
abbrev pub asserted : (Kind → Option (List ℕ → Bool)) → Option (List ℕ) → Option Asserted
asserted test None = None
asserted test (Some key) = option_map (λ passes. (key, passes)) (test (kind_of key))

-- how the key of a value that is shown stands to the one that is asserted: integers by value, and all others by
-- the bytes of their keys
abbrev pub holds : Comparison → Kind → List ℕ → List ℕ → Bool
holds Equal kind key shown = bytes_eq key shown
holds AtLeast kind key shown = is_le (compared kind key shown)
holds AtMost kind key shown = is_le (compared kind shown key)

abbrev pub compares : Comparison → List ℕ → Kind → Option (List ℕ → Bool)
compares how value kind = option_map (holds how kind) (value_of kind value)

-- a piece that is not given is the empty one, which stands everywhere
abbrev pub maybe_piece : Kind → Option (List ℕ) → Option (List ℕ)
maybe_piece kind None = Some []
maybe_piece kind (Some piece) = piece_of kind piece

abbrev pub joined : Option (List ℕ) → Option (List (List ℕ)) → Option (List (List ℕ))
joined (Some x) (Some xs) = Some (x ∷ xs)
joined _ _ = None

abbrev pub all_pieces : Kind → List (List ℕ) → Option (List (List ℕ))
all_pieces kind [] = Some []
all_pieces kind (piece ∷ pieces) = joined (piece_of kind piece) (all_pieces kind pieces)

abbrev pub is_integer : Kind → Bool
is_integer Int = true
is_integer _ = false

abbrev pub pieces_test : Option (List ℕ) → Option (List (List ℕ)) → Option (List ℕ) → Option (List ℕ → Bool)
pieces_test (Some first) (Some middle) (Some last) = Some (λ shown. has_pieces first middle last shown)
pieces_test _ _ _ = None

-- integers have no pieces
abbrev pub with_pieces : Option (List ℕ) → List (List ℕ) → Option (List ℕ) → Kind → Option (List ℕ → Bool)
with_pieces first middle last kind =
    if is_integer kind then None
    else pieces_test (maybe_piece kind first) (all_pieces kind middle) (maybe_piece kind last)

-- ---- filters

-- some value passes the test, or none does; Undefined where what is asserted can't be read
abbrev pub told : Shows → Option Asserted → Truth
told shown None = Undefined
told shown (Some a) = of_bool (shown a.0 a.1)

-- any value is there; of a name that can't be read there is none
abbrev pub is_there : Shows → Option (List ℕ) → Bool
is_there shown None = false
is_there shown (Some key) = shown key (λ value. true)

-- one filter, from the truths of those inside it
abbrev pub truth_step : Shows → Filter-F Truth → Truth
truth_step shown (Filter-F.And ts) = all_of ts
truth_step shown (Filter-F.Or ts) = any_of ts
truth_step shown (Filter-F.Not t) = negated t
truth_step shown (Filter-F.Equality name value) = told shown (asserted (compares Equal value) (attr_of name))
truth_step shown (Filter-F.Substrings name first middle last) = told shown (asserted (with_pieces first middle last) (attr_of name))
truth_step shown (Filter-F.AtLeast name value) = told shown (asserted (compares AtLeast value) (attr_of name))
truth_step shown (Filter-F.AtMost name value) = told shown (asserted (compares AtMost value) (attr_of name))
truth_step shown (Filter-F.Present name) = of_bool (is_there shown (attr_of name))
truth_step shown (Filter-F.Approximate name value) = told shown (asserted (compares Equal value) (attr_of name))
truth_step shown Filter-F.Extensible = Undefined

-- the truth of a filter, by what is shown
unfoldable pub truth_by : Shows → Filter → Truth
truth_by shown f = fold-Filter Truth (truth_step shown) f

-- THE TRUTH OF A FILTER for the attributes that an entry shows
abbrev pub truth : Filter → List Shown → Truth
truth f attrs = truth_by (shows attrs) f

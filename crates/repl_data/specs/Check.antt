-- Whether a change may be taken at all, and what it weighs.
use Rattle.std.specs.Prelude.{ℕ, ◌+◌, ◌*◌, Bool, true, false, not, ◌&&◌, ◌||◌, ◌==◌, nat_lt, List, [], ◌∷◌, ◌++◌, map, length, sum_by, Option, Some, None, option_map, if◌then◌else◌}
use Rattle.std.specs.Ordering.{is_lt}
use Rattle.std.specs.List.{list_any, list_all, position_from}
use Rattle.repl_data.specs.declared.csn.Csn.{Csn}
use Rattle.repl_data.specs.declared.csn.Uid.{Uid}
use Rattle.repl_data.specs.declared.change.AttrKey.{AttrKey}
use Rattle.repl_data.specs.declared.change.Val.{Val}
use Rattle.repl_data.specs.declared.change.Ava.{Ava}
use Rattle.repl_data.specs.declared.change.Rdn.{Rdn}
use Rattle.repl_data.specs.declared.change.Attr.{Attr}
use Rattle.repl_data.specs.declared.change.Mod.{Mod}
use Rattle.repl_data.specs.declared.change.ModKind.{ModKind}
use Rattle.repl_data.specs.declared.change.ModKind.TheVariants.{Add as AddValues}
use Rattle.repl_data.specs.declared.change.Body.{Body}
use Rattle.repl_data.specs.declared.change.Body.TheVariants.{Add, Mod as Modify, Ren, Del}
use Rattle.repl_data.specs.declared.change.Change.{Change}
use Rattle.repl_data.specs.declared.change.Malformed.{Malformed}
use Rattle.repl_data.specs.declared.change.Malformed.TheVariants.{Rid, Sub, Order, Root, TooMany, TooHeavy, Empty, DoubleKey, Derived, NameValue}
use Rattle.repl_data.specs.Order.{csn_lt, csn_eq, uid_eq, suffix_id, bytes_cmp, bytes_eq}
use Rattle.repl_data.specs.Types.{is_derived_attribute, is_derived_value, is_derived_ava}

-- the greatest weight of a change that is taken
abbrev pub greatest_weight : ℕ
greatest_weight = 2097152

-- WEIGHT: 512, 32 for each attribute, modification, value and name part, and the bytes of names and
-- spelled values, four times in names and dropped values.
abbrev pub val_weight : Val → ℕ
val_weight v = 32 + length v.spelled

abbrev pub attr_weight : AttrKey → List Val → ℕ
attr_weight t vals = 32 + length t.name + sum_by val_weight vals

abbrev pub part_weight : Ava → ℕ
part_weight a = 32 + 4 * (length a.attr.name + length a.val.spelled)

abbrev pub weight : Body → ℕ
weight (Add parent rdn attrs) = 512 + sum_by part_weight rdn.avas + sum_by (λ (a : Attr). attr_weight a.attr a.vals) attrs
weight (Modify mods) = 512 + sum_by (λ (m : Mod). attr_weight m.attr m.vals) mods
weight (Ren rdn dropped) = 512 + sum_by part_weight rdn.avas + sum_by part_weight dropped
weight Del = 512

-- CHECK: the first of these faults.
abbrev pub fault_if : Bool → Malformed → Option Malformed
fault_if b fault = if b then Some fault else None

-- the fault at the first place that is at fault. Places count from 0
abbrev pub fault_at : (ℕ → Malformed) → List Bool → Option Malformed
fault_at fault places = option_map fault (position_from (λ b. b) 0 places)

abbrev pub either_fault : Option Malformed → Option Malformed → Option Malformed
either_fault (Some fault) o = Some fault
either_fault None o = o

abbrev pub first_fault : List (Option Malformed) → Option Malformed
first_fault [] = None
first_fault (o ∷ faults) = either_fault o (first_fault faults)

abbrev pub is_empty : {X : Type 0} → List X → Bool
is_empty [] = true
is_empty (x ∷ xs) = false

-- at each item whether its key is not above the key before it
abbrev pub falls_after : {X : Type 0} → (X → List ℕ) → X → List X → List Bool
falls_after key x [] = []
falls_after key x (y ∷ ys) = not (is_lt (bytes_cmp (key x) (key y))) ∷ falls_after key y ys

abbrev pub falls : {X : Type 0} → (X → List ℕ) → List X → List Bool
falls key [] = []
falls key (x ∷ xs) = false ∷ falls_after key x xs

abbrev pub is_rising : {X : Type 0} → (X → List ℕ) → List X → Bool
is_rising key xs = not (list_any (λ b. b) (falls key xs))

abbrev pub vals_rise : List Val → Bool
vals_rise = is_rising (λ (v : Val). v.key)

-- two faults of the same places
abbrev pub either_place : List Bool → List Bool → List Bool
either_place [] bs = bs
either_place (a ∷ as_) [] = a ∷ as_
either_place (a ∷ as_) (b ∷ bs) = (a || b) ∷ either_place as_ bs

-- an Add has its own CSN as its id, and every other id that a change names is below its CSN
abbrev pub is_out_of_order : Csn → Uid → Body → Bool
is_out_of_order c u (Add parent rdn attrs) = not (csn_eq u.csn c) || not (csn_lt parent.csn c)
is_out_of_order c u _ = not (csn_lt u.csn c)

-- a Del or a Ren of the suffix
abbrev pub is_of_root : Uid → Body → Bool
is_of_root u (Ren rdn dropped) = uid_eq u suffix_id
is_of_root u Del = uid_eq u suffix_id
is_of_root u _ = false

abbrev pub has_too_many : Body → Bool
has_too_many (Add parent rdn attrs) = nat_lt 500 (length attrs)
has_too_many (Modify mods) = nat_lt 1000 (length mods)
has_too_many _ = false

abbrev pub needs_values : ModKind → Bool
needs_values AddValues = true
needs_values _ = false

abbrev pub adds_nothing : Mod → Bool
adds_nothing m = needs_values m.kind && is_empty m.vals

abbrev pub parts_of : Rdn → List Bool
parts_of rdn = if is_empty rdn.avas then true ∷ [] else map (λ _. false) rdn.avas

-- where something has no member: an RDN, a list of modifications, an attribute of an Add, an add modification
abbrev pub empty_places : Body → List Bool
empty_places (Add parent rdn attrs) = parts_of rdn ++ map (λ (a : Attr). is_empty a.vals) attrs
empty_places (Modify mods) = if is_empty mods then true ∷ [] else map adds_nothing mods
empty_places (Ren rdn dropped) = parts_of rdn
empty_places Del = []

abbrev pub part_falls : List Ava → List Bool
part_falls = falls (λ (a : Ava). a.attr.name)

-- where attributes, name parts or values do not strictly rise by key
abbrev pub double_places : Body → List Bool
double_places (Add parent rdn attrs) =
    part_falls rdn.avas
    ++ either_place (falls (λ (a : Attr). a.attr.name) attrs) (map (λ (a : Attr). not (vals_rise a.vals)) attrs)
double_places (Modify mods) = map (λ (m : Mod). not (vals_rise m.vals)) mods
double_places (Ren rdn dropped) = part_falls rdn.avas ++ part_falls dropped
double_places Del = []

abbrev pub names_derived : AttrKey → List Val → Bool
names_derived t vals = is_derived_attribute t || list_any (is_derived_value t) vals

-- where a derived attribute or class is named
abbrev pub derived_places : Body → List Bool
derived_places (Add parent rdn attrs) = map is_derived_ava rdn.avas ++ map (λ (a : Attr). names_derived a.attr a.vals) attrs
derived_places (Modify mods) = map (λ (m : Mod). names_derived m.attr m.vals) mods
derived_places (Ren rdn dropped) = map is_derived_ava rdn.avas ++ map is_derived_ava dropped
derived_places Del = []

-- whether the attributes have this value
abbrev pub has_value : List Attr → Ava → Bool
has_value attrs a =
    list_any (λ (b : Attr). bytes_eq b.attr.name a.attr.name && list_any (λ (v : Val). bytes_eq v.key a.val.key) b.vals) attrs

abbrev pub lacks_name_value : Body → Bool
lacks_name_value (Add parent rdn attrs) = not (list_all (has_value attrs) rdn.avas)
lacks_name_value _ = false

-- the faults that have a place, and the lack of a value of the name
abbrev pub faults_of_body : Body → List (Option Malformed)
faults_of_body body =
    fault_at Empty (empty_places body)
    ∷ fault_at DoubleKey (double_places body)
    ∷ fault_at Derived (derived_places body)
    ∷ fault_if (lacks_name_value body) NameValue
    ∷ []

-- the faults that come before these
abbrev pub faults_of_frame : Change → List (Option Malformed)
faults_of_frame c =
    fault_if ((c.csn.rid == 0) || (c.csn.rid == 65535)) Rid
    ∷ fault_if (not (c.csn.sub == 0)) Sub
    ∷ fault_if (is_out_of_order c.csn c.target c.body) Order
    ∷ fault_if (is_of_root c.target c.body) Root
    ∷ fault_if (has_too_many c.body) TooMany
    ∷ fault_if (nat_lt greatest_weight (weight c.body)) TooHeavy
    ∷ []

abbrev pub fault_of : Change → Option Malformed
fault_of c = first_fault (faults_of_frame c ++ faults_of_body c.body)

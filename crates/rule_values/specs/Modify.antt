-- A MODIFY (RFC 4511, section 4.6): its modifications, each on the entry as the earlier ones left it.
use Rattle.std.specs.Prelude.{ℤ, pos, Bool, not, ◌&&◌, nat_lt, List, [], ◌∷◌, flat_map, fold, length, codes, Result, Ok, Err, if◌then◌else◌}
use Rattle.std.specs.Ordering.{int_eq}
use Rattle.std.specs.List.{list_any, list_all}
use Rattle.repl_data.specs.declared.change.Val.{Val}
use Rattle.repl_data.specs.declared.change.Ava.{Ava}
use Rattle.repl_data.specs.declared.change.Rdn.{Rdn}
use Rattle.repl_data.specs.declared.change.Shown.{Shown}
use Rattle.repl_data.specs.declared.change.Mod.{Mod}
use Rattle.repl_data.specs.declared.change.ModKind.{ModKind}
use Rattle.repl_data.specs.declared.change.ModKind.TheVariants.{Add as AddValues, Delete, Replace}
use Rattle.repl_data.specs.Order.{bytes_eq}
use Rattle.repl_data.specs.Types.{is_derived_attribute}
use Rattle.repl_data.specs.Check.{is_empty, needs_values}
use Rattle.repl_data.specs.Plain.{add_values, values_after}
use Rattle.attr_keys.specs.Table.{is_single}
use Rattle.ldap_types.specs.declared.request.RawMod.{RawMod}
use Rattle.rule_values.specs.declared.fault.Refusal.{Refusal}
use Rattle.rule_values.specs.declared.fault.Refusal.TheVariants.{UnknownKind, NoValue, NoModification, TooManyModifications, NotHeld, Derived, SecondValue, HeldAlready, NoClass, NameValueGone}
use Rattle.rule_values.specs.Refusing.{◌>>=◌, refuse_if}
use Rattle.rule_values.specs.Listed.{has_key, read_name, values_beside}
use Rattle.rule_values.specs.Written.{Values, written}

-- ---- what an entry has

-- the values that an entry shows of each attribute, in order of key. (A view shows of a key one value. The last
-- one stands for others that had its key.)
abbrev pub shown_values : List Shown → Values
shown_values own name = add_values (flat_map (λ (s : Shown). if bytes_eq s.attr.name name then s.vals else []) own) []

-- what it has after one modification: of its attribute the values that this leaves, of the others the same
abbrev pub after : Values → Mod → Values
after has m name = if bytes_eq name m.attr.name then values_after m.kind m.vals (has name) else has name

-- ---- one modification as it is read, whatever the entry has

abbrev pub kind_of : ℤ → Result ModKind Refusal
kind_of kind =
    if int_eq kind (pos 0) then Ok AddValues
    else if int_eq kind (pos 1) then Ok Delete
    else if int_eq kind (pos 2) then Ok Replace
    else Err UnknownKind

-- first case that fits
unfoldable pub read_mod : RawMod → Result Mod Refusal
read_mod given =
    kind_of given.kind >>= λ kind.
    read_name given.name >>= λ attr.
    refuse_if (is_derived_attribute attr) Derived >>= λ _.
    refuse_if (needs_values kind && is_empty given.vals) NoValue >>= λ _.
    values_beside attr [] given.vals >>= λ vals.
    Ok (record { kind = kind; attr = attr; vals = vals })

-- ---- one modification of an attribute that has these values

-- a value that is added is not held, and one that is deleted is, or the attribute where it goes whole
abbrev pub fits : ModKind → List Val → List Val → Result (Unit {0}) Refusal
fits AddValues vals had = refuse_if (list_any (λ (v : Val). has_key v.key had) vals) HeldAlready
fits Delete vals had = refuse_if (if is_empty vals then is_empty had else not (list_all (λ (v : Val). has_key v.key had) vals)) NotHeld
fits Replace vals had = Ok tt

-- THE MODIFICATIONS, each on what the earlier ones left
unfoldable pub carried : Values → List RawMod → Result (List Mod) Refusal
carried has [] = Ok []
carried has (given ∷ more) =
    read_mod given >>= λ m.
    fits m.kind m.vals (has m.attr.name) >>= λ _.
    carried (after has m) more >>= λ mods.
    Ok (m ∷ mods)

-- ---- the entry after all of them

abbrev pub has_part : Values → Ava → Bool
has_part has a = has_key a.val.key (has a.attr.name)

-- a single-valued type that a modification names has more than one value (RFC 4512, section 4.1.2)
abbrev pub has_second : Values → Mod → Bool
has_second has m = is_single m.attr.name && nat_lt 1 (length (has m.attr.name))

-- no class is left (RFC 4512, section 2.4)
unfoldable pub lacks_class : Values → Bool
lacks_class has = is_empty (has (codes "objectclass"))

-- it keeps the values of its name, at most one value of a single-valued type, and a class
unfoldable pub ended : Rdn → Values → List Mod → Result (Unit {0}) Refusal
ended name has mods =
    refuse_if (not (list_all (has_part has) name.avas)) NameValueGone >>= λ _.
    refuse_if (list_any (has_second has) mods) SecondValue >>= λ _.
    refuse_if (lacks_class has) NoClass

-- ---- WHAT IS WRITTEN of the modifications of an entry of this name, which shows these values. First case that fits

unfoldable pub modifications : Rdn → List Shown → List RawMod → Result (List Mod) Refusal
modifications name own given =
    refuse_if (is_empty given) NoModification >>= λ _.
    refuse_if (nat_lt 1000 (length given)) TooManyModifications >>= λ _.
    carried (shown_values own) given >>= λ mods.
    let has = fold after (shown_values own) mods in
    ended name has mods >>= λ _.
    Ok (written has mods)

-- The attributes and values that a client lists (RFC 4511, section 4.1.7), and those of an add (section 4.7).
use Rattle.std.specs.Prelude.{ℕ, ◌+◌, Bool, not, ◌&&◌, nat_lt, List, [], ◌∷◌, ◌++◌, map, flat_map, fold, length, is_none, count_by, codes, Option, Some, None, Result, Ok, Err, if◌then◌else◌}
use Rattle.std.specs.List.{list_any}
use Rattle.repl_data.specs.declared.change.AttrKey.{AttrKey}
use Rattle.repl_data.specs.declared.change.Val.{Val}
use Rattle.repl_data.specs.declared.change.Ava.{Ava}
use Rattle.repl_data.specs.declared.change.Rdn.{Rdn}
use Rattle.repl_data.specs.declared.change.Attr.{Attr}
use Rattle.repl_data.specs.Order.{bytes_cmp, bytes_eq, in_order}
use Rattle.repl_data.specs.Types.{is_derived_attribute, is_derived_value}
use Rattle.repl_data.specs.Check.{is_empty, has_value}
use Rattle.repl_data.specs.View.{put_attr, put_val, vals_at}
use Rattle.attr_keys.specs.Name.{bad_name}
use Rattle.attr_keys.specs.Table.{key_of, kind_of, is_single}
use Rattle.attr_keys.specs.Value.{bad_value, value_key}
use Rattle.ldap_types.specs.declared.request.RawAttr.{RawAttr}
use Rattle.rule_values.specs.declared.fault.Refusal.{Refusal}
use Rattle.rule_values.specs.declared.fault.Refusal.TheVariants.{BadName, BadValue, Derived, ListedTwice, NoValue, TooManyAttributes, SecondValue, NoClass}
use Rattle.rule_values.specs.Refusing.{◌>>=◌, refuse_if}

-- ---- how many attributes

abbrev pub is_name : RawAttr → Bool
is_name a = is_none (bad_name a.name)

-- the keys of the names that are names
abbrev pub named_keys : List RawAttr → List (List ℕ)
named_keys given = flat_map (λ (a : RawAttr). if is_name a then key_of a.name ∷ [] else []) given

-- The attributes of the name and of the list. One that is there twice counts once, and each that has no name
-- that can be read counts.
unfoldable pub attribute_count : Rdn → List RawAttr → ℕ
attribute_count rdn given =
    length (in_order bytes_cmp (map (λ (a : Ava). a.attr.name) rdn.avas ++ named_keys given))
    + count_by (λ (a : RawAttr). not (is_name a)) given

-- ---- reading them

-- the attribute that a name names
abbrev pub named : List ℕ → Option ℕ → Result AttrKey Refusal
named name None = Ok (record { name = key_of name })
named name (Some place) = Err BadName

abbrev pub read_name : List ℕ → Result AttrKey Refusal
read_name name = named name (bad_name name)

-- a value of this attribute
abbrev pub valued : AttrKey → List ℕ → Option ℕ → Result Val Refusal
valued attr spelled None = Ok (record { key = value_key (kind_of attr.name) spelled; spelled = spelled })
valued attr spelled (Some place) = Err BadValue

abbrev pub read_value : AttrKey → List ℕ → Result Val Refusal
read_value attr spelled = valued attr spelled (bad_value (kind_of attr.name) spelled)

abbrev pub has_key : List ℕ → List Val → Bool
has_key key vals = list_any (λ (v : Val). bytes_eq v.key key) vals

-- a value beside others, none of which has its key
abbrev pub put_new : Val → List Val → Result (List Val) Refusal
put_new v before = refuse_if (has_key v.key before) ListedTwice >>= λ _. Ok (put_val v before)

-- ONE VALUE, beside those of its attribute that came before
unfoldable pub value_beside : AttrKey → List Val → List ℕ → Result (List Val) Refusal
value_beside attr before spelled =
    read_value attr spelled >>= λ v.
    refuse_if (is_derived_value attr v) Derived >>= λ _.
    put_new v before

unfoldable pub values_beside : AttrKey → List Val → List (List ℕ) → Result (List Val) Refusal
values_beside attr before [] = Ok before
values_beside attr before (s ∷ ss) = value_beside attr before s >>= λ vals. values_beside attr vals ss

-- ONE ATTRIBUTE, beside those that came before, of which it may be one
unfoldable pub attribute_beside : List Attr → RawAttr → Result (List Attr) Refusal
attribute_beside before given =
    read_name given.name >>= λ attr.
    refuse_if (is_derived_attribute attr) Derived >>= λ _.
    refuse_if (is_empty given.vals) NoValue >>= λ _.
    values_beside attr (vals_at attr.name before) given.vals >>= λ vals.
    Ok (put_attr (record { attr = attr; vals = vals }) before)

-- the attributes in the order given, beside those that came before
unfoldable pub attributes_beside : List Attr → List RawAttr → Result (List Attr) Refusal
attributes_beside before [] = Ok before
attributes_beside before (a ∷ more) = attribute_beside before a >>= λ attrs. attributes_beside attrs more

-- ---- the values of the name

abbrev pub with_part : List Attr → Ava → List Attr
with_part attrs a =
    if has_value attrs a then attrs
    else put_attr (record { attr = a.attr; vals = put_val a.val (vals_at a.attr.name attrs) }) attrs

-- the attributes with the values of the name that they lack
unfoldable pub with_name : Rdn → List Attr → List Attr
with_name rdn attrs = fold with_part attrs rdn.avas

-- ---- the schema

-- a single-valued type with more than one value (RFC 4512, section 4.1.2)
abbrev pub has_too_many_values : Attr → Bool
has_too_many_values a = is_single a.attr.name && nat_lt 1 (length a.vals)

-- an entry has at least one class (RFC 4512, section 2.4)
abbrev pub is_class : Attr → Bool
is_class a = bytes_eq a.attr.name (codes "objectclass")

-- ---- THE ATTRIBUTES OF AN ADD, first case that fits

unfoldable pub entry_attributes : Rdn → List RawAttr → Result (List Attr) Refusal
entry_attributes rdn given =
    refuse_if (nat_lt 500 (attribute_count rdn given)) TooManyAttributes >>= λ _.
    attributes_beside [] given >>= λ attrs.
    let whole = with_name rdn attrs in
    refuse_if (list_any has_too_many_values whole) SecondValue >>= λ _.
    refuse_if (not (list_any is_class whole)) NoClass >>= λ _.
    Ok whole

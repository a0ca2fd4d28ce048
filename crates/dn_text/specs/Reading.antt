-- What name a text is, or its first fault and its place.
use Rattle.std.specs.Prelude.{ℕ, ◌+◌, Bool, false, ◌==◌, nat_lt, List, [], ◌∷◌, length, take, drop, bytes_eq, insert, Option, Some, None, Result, Ok, if◌then◌else◌}
use Rattle.std.specs.List.{list_any}
use Rattle.std.specs.Ordering.{nat_cmp, is_lt}
use Rattle.std.specs.Cmp.Lexicographic.{slice_cmp}
use Rattle.repl_data.specs.declared.change.AttrKey.{AttrKey}
use Rattle.repl_data.specs.declared.change.Ava.{Ava}
use Rattle.repl_data.specs.declared.change.Rdn.{Rdn}
use Rattle.attr_keys.specs.Name.{bad_name}
use Rattle.attr_keys.specs.Table.{key_of, kind_of}
use Rattle.attr_keys.specs.Value.{bad_value, value_key}
use Rattle.dn_text.specs.declared.fault.DnFault.{DnFault}
use Rattle.dn_text.specs.declared.fault.DnWhy.TheVariants.{Char, HexForm, Empty, NoEquals, Twice, Value}
use Rattle.dn_text.specs.declared.name.Dn.{Dn}
use Rattle.dn_text.specs.declared.escape.EscapeState.TheVariants.{Whole}
use Rattle.dn_text.specs.Fault.{◌>>=◌, bad}
use Rattle.dn_text.specs.Split.{Span, bare_len, pieces, space_count, trimmed}
use Rattle.dn_text.specs.Escape.{escapes_from, value_of}

-- ---- one part: an attribute and a value

abbrev pub named : List ℕ → ℕ → Option ℕ → Result AttrKey DnFault
named text at None = Ok (record { name = key_of text })
named text at (Some place) = bad (at + place) Char

-- the key of the attribute name in a span
unfoldable pub attr_in : Span → Result AttrKey DnFault
attr_in s = named s.text s.start (bad_name s.text)

abbrev pub begins_hash : List ℕ → Bool
begins_hash [] = false
begins_hash (c ∷ cs) = c == 35

abbrev pub keyed : AttrKey → ℕ → List ℕ → Option ℕ → Result Ava DnFault
keyed attr at spelled None = Ok (record { attr = attr; val = record { key = value_key (kind_of attr.name) spelled; spelled = spelled } })
keyed attr at spelled (Some place) = bad at Value

-- the part of this attribute whose value is in a span
unfoldable pub value_in : AttrKey → Span → Result Ava DnFault
value_in attr s =
    if begins_hash s.text then bad s.start HexForm
    else value_of s.start s.text >>= λ spelled. keyed attr s.start spelled (bad_value (kind_of attr.name) spelled)

abbrev pub has_attr : List ℕ → List Ava → Bool
has_attr name avas = list_any (λ (a : Ava). bytes_eq a.attr.name name) avas

-- a text that begins at this place and has no `=`
unfoldable pub without_equals : {A : Type 0} → ℕ → List ℕ → Result A DnFault
without_equals at text =
    if space_count text == length text then bad (at + length text) Empty
    else escapes_from Whole at text >>= λ u. bad (at + length text) NoEquals

-- the part of this attribute, whose name stands in a span, and whose value is in a span, beside these parts
abbrev pub beside : List Ava → Span → Span → AttrKey → Result Ava DnFault
beside avas name value attr = if has_attr attr.name avas then bad name.start Twice else value_in attr value

unfoldable pub part_in : List Ava → Span → Result Ava DnFault
part_in avas s =
    let n = bare_len 61 false s.text in
    if nat_lt n (length s.text) then
    (let name = trimmed s.start (take n s.text) in
    attr_in name >>= beside avas name (trimmed (s.start + n + 1) (drop (n + 1) s.text)))
    else without_equals s.start s.text

-- ---- the parts of an RDN, in order of attribute

abbrev pub comes_before : Ava → Ava → Bool
comes_before a b = is_lt (slice_cmp nat_cmp a.attr.name b.attr.name)

-- how many of the parts, which are in order, come first
abbrev pub place_among : Ava → List Ava → ℕ
place_among a [] = 0
place_among a (b ∷ bs) = if comes_before a b then 0 else place_among a bs + 1

-- the part in its place among parts in order
abbrev pub put_part : Ava → List Ava → List Ava
put_part a bs = insert bs (place_among a bs) a

-- the parts in the spans, beside these
unfoldable pub parts_in : List Ava → List Span → Result (List Ava) DnFault
parts_in avas [] = Ok avas
parts_in avas (s ∷ ss) = part_in avas s >>= λ a. parts_in (put_part a avas) ss

unfoldable pub rdn_in : Span → Result Rdn DnFault
rdn_in s = parts_in [] (pieces 43 s.start s.text) >>= λ avas. Ok (record { avas = avas })

-- ---- the name

unfoldable pub rdns_in : List Span → Result (List Rdn) DnFault
rdns_in [] = Ok []
rdns_in (s ∷ ss) = rdn_in s >>= λ rdn. rdns_in ss >>= λ rdns. Ok (rdn ∷ rdns)

-- the empty text is the empty name
unfoldable pub dn_in : List ℕ → Result Dn DnFault
dn_in text = if length text == 0 then Ok (record { rdns = [] }) else rdns_in (pieces 44 0 text) >>= λ rdns. Ok (record { rdns = rdns })

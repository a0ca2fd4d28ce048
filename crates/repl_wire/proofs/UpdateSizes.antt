-- The message of an update has at most as many bytes as the update weighs.
use Rattle.std.proofs.Common.{◌≡◌, ℕ, ◌+◌, ◌*◌, ◌≤◌, ◌<◌, Bool, true, false, List, [], ◌∷◌, ◌++◌, length, map, refl, ap, arith, length-append, None}
use Rattle.std.specs.Prelude.{sum_by, not, codes, ◌==◌, ◌||◌, if◌then◌else◌}
use Rattle.std.specs.List.{flat_map, position_from}
use Rattle.std.proofs.lemmas.List.Sums.{sum_by-cons}
use Rattle.hex.specs.Hex.{encode_with, encode_lower}
use Rattle.ber_core.specs.Element.{element}
use Rattle.dn_text.specs.Laws.{AreReadableParts}
use Rattle.dn_text.specs.Print.{put_all}
use Rattle.dn_text.proofs.Rising.{put-rising, apart-none, rising-from_readable}
use Rattle.repl_data.specs.declared.csn.Uid.{Uid}
use Rattle.repl_data.specs.declared.change.AttrKey.{AttrKey}
use Rattle.repl_data.specs.declared.change.Val.{Val}
use Rattle.repl_data.specs.declared.change.Ava.{Ava}
use Rattle.repl_data.specs.declared.change.Attr.{Attr}
use Rattle.repl_data.specs.declared.change.Mod.{Mod}
use Rattle.repl_data.specs.declared.change.Rdn.{Rdn}
use Rattle.repl_data.specs.declared.change.Body.{Body}
use Rattle.repl_data.specs.declared.change.Body.TheVariants as body
use Rattle.repl_data.specs.declared.change.Update.{Update}
use Rattle.repl_data.specs.Check.{val_weight, attr_weight, part_weight, weight, is_empty, double_places}
use Rattle.repl_data.specs.Text.{csn_text, uid_text, escape_always, escape_as_hex, escaped, escaped_rest, escaped_value, ava_text, joined}
use Rattle.repl_data.proofs.Bytes.{length-uid_text}
use Rattle.repl_wire.specs.Form.{octet_string, integer}
use Rattle.repl_wire.specs.Keys.{HasKeys}
use Rattle.repl_wire.specs.Laws.{IsRequestId, UpdatesComeBack, UpdatesFit}
use Rattle.repl_wire.specs.UpdateForm.{update_name, id_name, name_text, kind_number, attribute, dropped_part, fields, control_value, modification, boolean, write_bytes, control_bytes, update_bytes}
use Rattle.repl_wire.proofs.ControlBack.{length-csn_text}
use Rattle.repl_wire.proofs.Sizes.{element_short, integer_short}
use Rattle.repl_wire.proofs.UpdateBack.{passes, readable, update_back}
use Rattle.repl_wire.proofs.UpdateRequests.{update_is_read}
use Rattle.repl_wire.proofs.Back.{longer}

-- ---- attributes

abbrev spelled : Val → List ℕ
spelled v = octet_string v.spelled

vals_size : (vals : List Val) → sum_by val_weight vals ≤ 2097152 → length (flat_map spelled vals) ≤ sum_by val_weight vals
vals_size [] le = omega arith
vals_size (v ∷ vals) le =
    let sum = sum_by-cons val_weight v vals in
    let more = vals_size vals (omega arith) in
    let one = element_short 0x04 v.spelled (omega arith) in
    let len = length-append (spelled v) (flat_map spelled vals) in
    omega arith

attribute_size : (attr : AttrKey) (vals : List Val) → attr_weight attr vals ≤ 2097152 → length (attribute attr vals) + 17 ≤ attr_weight attr vals
unfolding attribute
attribute_size attr vals le =
    let inside = flat_map spelled vals in
    let all = vals_size vals (omega arith) in
    let name = element_short 0x04 attr.name (omega arith) in
    let set = element_short 0x31 inside (omega arith) in
    let len = length-append (octet_string attr.name) (element 0x31 inside) in
    let whole = element_short 0x30 (octet_string attr.name ++ element 0x31 inside) (omega arith) in
    omega arith

abbrev weight_of : Attr → ℕ
weight_of a = attr_weight a.attr a.vals

abbrev attribute_of : Attr → List ℕ
attribute_of a = attribute a.attr a.vals

attributes_size : (attrs : List Attr) → sum_by weight_of attrs ≤ 2097152 → length (flat_map attribute_of attrs) ≤ sum_by weight_of attrs
attributes_size [] le = omega arith
attributes_size (a ∷ attrs) le =
    let sum = sum_by-cons weight_of a attrs in
    let more = attributes_size attrs (omega arith) in
    let one = attribute_size a.attr a.vals (omega arith) in
    let len = length-append (attribute_of a) (flat_map attribute_of attrs) in
    omega arith

abbrev weight_of_mod : Mod → ℕ
weight_of_mod m = attr_weight m.attr m.vals

modification_size : (m : Mod) → weight_of_mod m ≤ 2097152 → length (modification m) ≤ weight_of_mod m
unfolding modification
modification_size m le =
    let k = element_short 0x0a (kind_number m.kind ∷ []) (omega arith) in
    let a = attribute_size m.attr m.vals le in
    let len = length-append (element 0x0a (kind_number m.kind ∷ [])) (attribute m.attr m.vals) in
    let whole = element_short 0x30 (element 0x0a (kind_number m.kind ∷ []) ++ attribute m.attr m.vals) (omega arith) in
    omega arith

modifications_size : (mods : List Mod) → sum_by weight_of_mod mods ≤ 2097152 → length (flat_map modification mods) ≤ sum_by weight_of_mod mods
modifications_size [] le = omega arith
modifications_size (m ∷ mods) le =
    let sum = sum_by-cons weight_of_mod m mods in
    let more = modifications_size mods (omega arith) in
    let one = modification_size m (omega arith) in
    let len = length-append (modification m) (flat_map modification mods) in
    omega arith

dropped_size : (a : Ava) → part_weight a ≤ 2097152 → length (dropped_part a) ≤ part_weight a
unfolding dropped_part
dropped_size a le =
    let v = element_short 0x04 a.val.spelled (omega arith) in
    let n = element_short 0x04 a.attr.name (omega arith) in
    let set = element_short 0x31 (octet_string a.val.spelled) (omega arith) in
    let len = length-append (octet_string a.attr.name) (element 0x31 (octet_string a.val.spelled)) in
    let whole = element_short 0x30 (octet_string a.attr.name ++ element 0x31 (octet_string a.val.spelled)) (omega arith) in
    omega arith

all_dropped_size : (parts : List Ava) → sum_by part_weight parts ≤ 2097152 → length (flat_map dropped_part parts) ≤ sum_by part_weight parts
all_dropped_size [] le = omega arith
all_dropped_size (a ∷ parts) le =
    let sum = sum_by-cons part_weight a parts in
    let more = all_dropped_size parts (omega arith) in
    let one = dropped_size a (omega arith) in
    let len = length-append (dropped_part a) (flat_map dropped_part parts) in
    omega arith

-- ---- relative names

by_tests : (p q : Bool) (b : ℕ) → length (if p then 92 ∷ encode_lower (b ∷ []) else (if q then 92 ∷ b ∷ [] else b ∷ [])) ≤ 3
unfolding encode_with
by_tests true q b = omega arith
by_tests false true b = omega arith
by_tests false false b = omega arith

escaped_size : (edge : Bool) (b : ℕ) → length (escaped edge b) ≤ 3
escaped_size edge b = by_tests (escape_as_hex b) (escape_always b || edge) b

escaped_rest_size : (bs : List ℕ) → length (escaped_rest bs) ≤ 3 * length bs
escaped_rest_size [] = omega arith
escaped_rest_size (b ∷ []) = let one = escaped_size (b == 32) b in omega arith
escaped_rest_size (b ∷ c ∷ bs) =
    let one = escaped_size false b in
    let more = escaped_rest_size (c ∷ bs) in
    let len = length-append (escaped false b) (escaped_rest (c ∷ bs)) in
    omega arith

escaped_value_size : (bs : List ℕ) → length (escaped_value bs) ≤ 3 * length bs
escaped_value_size [] = omega arith
escaped_value_size (b ∷ bs) =
    let one = escaped_size ((b == 32) || (b == 35)) b in
    let more = escaped_rest_size bs in
    let len = length-append (escaped ((b == 32) || (b == 35)) b) (escaped_rest bs) in
    omega arith

ava_size : (a : Ava) → length (ava_text a) + 1 ≤ part_weight a
ava_size a =
    let v = escaped_value_size a.val.spelled in
    let l1 = length-append (a.attr.name ++ codes "=") (escaped_value a.val.spelled) in
    let l2 = length-append a.attr.name (codes "=") in
    omega arith

parts_size : (avas : List Ava) → length (joined (codes "+") (map ava_text avas)) ≤ sum_by part_weight avas
parts_size [] = omega arith
parts_size (a ∷ []) = let one = ava_size a in let sum = sum_by-cons part_weight a [] in omega arith
parts_size (a ∷ b ∷ avas) =
    let one = ava_size a in
    let sum = sum_by-cons part_weight a (b ∷ avas) in
    let more = parts_size (b ∷ avas) in
    let rest = joined (codes "+") (map ava_text (b ∷ avas)) in
    let l1 = length-append (ava_text a ++ codes "+") rest in
    let l2 = length-append (ava_text a) (codes "+") in
    omega arith

name_size : (rdn : Rdn) → AreReadableParts rdn.avas → length (name_text rdn) ≤ sum_by part_weight rdn.avas
name_size rdn r =
    let same : put_all [] rdn.avas ≡ rdn.avas = put-rising [] rdn.avas (apart-none rdn.avas) (rising-from_readable rdn.avas r) in
    let size = parts_size rdn.avas in
    let len : length (name_text rdn) ≡ length (joined (codes "+") (map ava_text rdn.avas)) = ap (λ (avas : List Ava). length (joined (codes "+") (map ava_text avas))) same in
    omega arith

-- ---- the message

id_size : (u : Uid) → length (id_name u) ≡ 46
unfolding id_name encode_with
id_size u = refl

boolean_size : (b : Bool) → length (boolean b) ≤ 6
boolean_size b = element_short 0x01 _ (omega arith)

-- the parts of the relative name can be told from its text
abbrev IsNamed : Body → Type 0
IsNamed (body.Add parent rdn attrs) = AreReadableParts rdn.avas
IsNamed (body.Mod mods) = Unit {0}
IsNamed (body.Ren rdn dropped) = AreReadableParts rdn.avas
IsNamed body.Del = Unit {0}

is_named : (b : Body) → HasKeys b → position_from (λ p. p) 0 (double_places b) ≡ None → IsNamed b
is_named (body.Add parent rdn attrs) k e = readable rdn.avas _ e k.0
is_named (body.Mod mods) k e = tt
is_named (body.Ren rdn dropped) k e = readable rdn.avas _ e k.0
is_named body.Del k e = tt

-- a body with its fields, without what each message has
abbrev Both : List ℕ → Body → ℕ
Both object b = length (write_bytes object b) + length (fields b)

body_size : (object : List ℕ) (b : Body) → length object ≡ 46 → weight b ≤ 2097152 → IsNamed b → Both object b + 200 ≤ weight b
body_size object (body.Add parent rdn attrs) is le named =
    let o = element_short 0x04 object (omega arith) in
    let inside = flat_map attribute_of attrs in
    let a = attributes_size attrs (omega arith) in
    let l = element_short 0x30 inside (omega arith) in
    let len = length-append (octet_string object) (element 0x30 inside) in
    let whole = element_short 0x68 (octet_string object ++ element 0x30 inside) (omega arith) in
    let n = name_size rdn named in
    let id = length-uid_text parent in
    let p = element_short 0x80 (uid_text parent) (omega arith) in
    let q = element_short 0x81 (name_text rdn) (omega arith) in
    let both = length-append (element 0x80 (uid_text parent)) (element 0x81 (name_text rdn)) in
    omega arith
body_size object (body.Mod mods) is le named =
    let o = element_short 0x04 object (omega arith) in
    let inside = flat_map modification mods in
    let a = modifications_size mods (omega arith) in
    let l = element_short 0x30 inside (omega arith) in
    let len = length-append (octet_string object) (element 0x30 inside) in
    let whole = element_short 0x66 (octet_string object ++ element 0x30 inside) (omega arith) in
    omega arith
body_size object (body.Ren rdn dropped) is le named =
    let o = element_short 0x04 object (omega arith) in
    let n = name_size rdn named in
    let q = element_short 0x04 (name_text rdn) (omega arith) in
    let f = boolean (not (is_empty dropped)) in
    let d = boolean_size (not (is_empty dropped)) in
    let l1 = length-append (octet_string object ++ octet_string (name_text rdn)) f in
    let l2 = length-append (octet_string object) (octet_string (name_text rdn)) in
    let whole = element_short 0x6c (octet_string object ++ octet_string (name_text rdn) ++ f) (omega arith) in
    let inside = flat_map dropped_part dropped in
    let a = all_dropped_size dropped (omega arith) in
    let p = element_short 0xa2 inside (omega arith) in
    omega arith
body_size object body.Del is le named = let o = element_short 0x4a object (omega arith) in omega arith

frame_size : (id : ℕ) (u : Update) → IsRequestId id → Both (id_name u.change.target) u.change.body ≤ 2097152 → length (update_bytes id u) ≤ Both (id_name u.change.target) u.change.body + 200
unfolding update_bytes control_bytes control_value update_name
frame_size id u i le =
    let most = i.most in
    let b = u.change.body in
    let f = fields b in
    let w = write_bytes (id_name u.change.target) b in
    let d1 = length-csn_text u.change.csn in
    let d2 = length-csn_text u.prev in
    let c = element_short 0x04 (csn_text u.change.csn) (omega arith) in
    let p = element_short 0x04 (csn_text u.prev) (omega arith) in
    let first = octet_string (csn_text u.change.csn) in
    let second = octet_string (csn_text u.prev) in
    let l1 = length-append (first ++ second) f in
    let l2 = length-append first second in
    let v = element_short 0x30 (first ++ second ++ f) (omega arith) in
    let value = element 0x30 (first ++ second ++ f) in
    let name = octet_string update_name in
    let n = element_short 0x04 update_name (omega arith) in
    let k = boolean_size true in
    let s = element_short 0x04 value (omega arith) in
    let l3 = length-append (name ++ boolean true) (octet_string value) in
    let l4 = length-append name (boolean true) in
    let all = name ++ boolean true ++ octet_string value in
    let q = element_short 0x30 all (omega arith) in
    let r = element_short 0xa0 (element 0x30 all) (omega arith) in
    let m = integer_short id (omega arith) in
    let l5 = length-append (integer id ++ w) (element 0xa0 (element 0x30 all)) in
    let l6 = length-append (integer id) w in
    let t = element_short 0x30 (integer id ++ w ++ element 0xa0 (element 0x30 all)) (omega arith) in
    omega arith

pub updates_fit : UpdatesFit
updates_fit id u i s =
    let c = passes u.change s.checked in
    let light = c.light in
    let both = body_size (id_name u.change.target) u.change.body (id_size u.change.target) light (is_named u.change.body s.keyed c.rising) in
    let all = frame_size id u i (omega arith) in
    (omega arith, omega arith)

value_shorter : (id : ℕ) (u : Update) → length (control_value u) < length (update_bytes id u)
unfolding update_bytes control_bytes
value_shorter id u =
    let n = octet_string update_name in
    let c = boolean true in
    let v = octet_string (control_value u) in
    let w = write_bytes (id_name u.change.target) u.change.body in
    let a = longer 0x04 (control_value u) in
    let l1 = length-append (n ++ c) v in
    let l2 = length-append n c in
    let b = longer 0x30 (n ++ c ++ v) in
    let d = longer 0xa0 (element 0x30 (n ++ c ++ v)) in
    let l3 = length-append (integer id ++ w) (element 0xa0 (element 0x30 (n ++ c ++ v))) in
    let l4 = length-append (integer id) w in
    let e = longer 0x30 (integer id ++ w ++ element 0xa0 (element 0x30 (n ++ c ++ v))) in
    omega arith

pub updates_come_back : UpdatesComeBack
updates_come_back id u rest i s =
    let fit = updates_fit id u i s in
    let less = value_shorter id u in
    (update_is_read id u rest i fit.1, update_back id u s (omega arith))

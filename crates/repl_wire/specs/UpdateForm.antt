-- The message of an update: a write of LDAP whose entry is named by its id, with a control that carries the rest
-- (RFC 4511, sections 4.1.11 and 4.6 to 4.9). Values travel as they were spelled. Each length and each integer has
-- the fewest bytes that it can have.
use Rattle.std.specs.Prelude.{ℕ, pos, Bool, true, not, List, [], ◌∷◌, ◌++◌, map, codes, Some, None, if◌then◌else◌}
use Rattle.std.specs.List.{flat_map}
use Rattle.ber_core.specs.Element.{element}
use Rattle.dn_text.specs.Print.{dn_text}
use Rattle.ldap_types.specs.declared.request.Request.{Request}
use Rattle.ldap_types.specs.declared.request.Control.{Control}
use Rattle.ldap_types.specs.declared.request.RawAttr.{RawAttr}
use Rattle.ldap_types.specs.declared.request.RawMod.{RawMod}
use Rattle.ldap_types.specs.declared.request.Op.{Op}
use Rattle.ldap_types.specs.declared.request.Op.TheVariants as op
use Rattle.repl_data.specs.declared.csn.Uid.{Uid}
use Rattle.repl_data.specs.declared.change.AttrKey.{AttrKey}
use Rattle.repl_data.specs.declared.change.Val.{Val}
use Rattle.repl_data.specs.declared.change.Ava.{Ava}
use Rattle.repl_data.specs.declared.change.Attr.{Attr}
use Rattle.repl_data.specs.declared.change.Mod.{Mod}
use Rattle.repl_data.specs.declared.change.ModKind.{ModKind}
use Rattle.repl_data.specs.declared.change.ModKind.TheVariants as mod_kind
use Rattle.repl_data.specs.declared.change.Rdn.{Rdn}
use Rattle.repl_data.specs.declared.change.Body.{Body}
use Rattle.repl_data.specs.declared.change.Body.TheVariants as body
use Rattle.repl_data.specs.declared.change.Update.{Update}
use Rattle.repl_data.specs.Check.{is_empty}
use Rattle.repl_data.specs.Text.{csn_text, uid_text}
use Rattle.repl_wire.specs.Form.{octet_string, integer}

-- ---- names

-- the name of the control
unfoldable pub update_name : List ℕ
update_name = codes "2.999.389.3"

-- the name that an entry goes by: its id
unfoldable pub id_name : Uid → List ℕ
id_name u = codes "nsuniqueid=" ++ uid_text u

-- the text of an RDN (RFC 4514, section 2.2)
abbrev pub name_text : Rdn → List ℕ
name_text rdn = dn_text (record { rdns = rdn ∷ [] })

-- 0 add, 1 delete, 2 replace (RFC 4511, section 4.6)
abbrev pub kind_number : ModKind → ℕ
kind_number mod_kind.Add = 0
kind_number mod_kind.Delete = 1
kind_number mod_kind.Replace = 2

-- ---- the value of the control
-- SEQUENCE { csn OCTET STRING, prev OCTET STRING, parent [0] OCTET STRING OPTIONAL,
-- name [1] OCTET STRING OPTIONAL, dropped [2] SEQUENCE OF PartialAttribute OPTIONAL }

-- PartialAttribute (RFC 4511, section 4.1.7): an attribute and its values
unfoldable pub attribute : AttrKey → List Val → List ℕ
attribute attr vals = element 0x30 (octet_string attr.name ++ element 0x31 (flat_map (λ (v : Val). octet_string v.spelled) vals))

-- a dropped value, with its attribute
unfoldable pub dropped_part : Ava → List ℕ
dropped_part a = element 0x30 (octet_string a.attr.name ++ element 0x31 (octet_string a.val.spelled))

-- an add has the id of the parent and the text of the RDN; a modify DN has what is dropped of the old RDN
abbrev pub fields : Body → List ℕ
fields (body.Add parent rdn attrs) = element 0x80 (uid_text parent) ++ element 0x81 (name_text rdn)
fields (body.Mod mods) = []
fields (body.Ren rdn dropped) = element 0xa2 (flat_map dropped_part dropped)
fields body.Del = []

unfoldable pub control_value : Update → List ℕ
control_value u = element 0x30 (octet_string (csn_text u.change.csn) ++ octet_string (csn_text u.prev) ++ fields u.change.body)

-- ---- the request

abbrev pub raw_attr : Attr → RawAttr
raw_attr a = record { name = a.attr.name; vals = map (λ (v : Val). v.spelled) a.vals }

abbrev pub raw_mod : Mod → RawMod
raw_mod m = record { kind = pos (kind_number m.kind); name = m.attr.name; vals = map (λ (v : Val). v.spelled) m.vals }

-- the write of an entry of this name; the old RDN is marked for deletion exactly where something of it is dropped
abbrev pub write_of : List ℕ → Body → Op
write_of object (body.Add parent rdn attrs) = op.Add object (map raw_attr attrs)
write_of object (body.Mod mods) = op.Modify object (map raw_mod mods)
write_of object (body.Ren rdn dropped) = op.Rename object (name_text rdn) (not (is_empty dropped)) None
write_of object body.Del = op.Delete object

-- the control is critical
abbrev pub update_control : Update → Control
update_control u = record { oid = update_name; critical = true; value = Some (control_value u) }

abbrev pub update_request : ℕ → Update → Request
update_request id u = record { id = id; op = write_of (id_name u.change.target) u.change.body; controls = update_control u ∷ [] }

-- ---- its bytes

-- a modification: an ENUMERATED of one byte, and the attribute
unfoldable pub modification : Mod → List ℕ
modification m = element 0x30 (element 0x0a (kind_number m.kind ∷ []) ++ attribute m.attr m.vals)

-- BOOLEAN: ff or 00 (RFC 4511, section 5.1)
abbrev pub boolean : Bool → List ℕ
boolean b = element 0x01 ((if b then 0xff else 0x00) ∷ [])

-- AddRequest, ModifyRequest, ModifyDNRequest, DelRequest
abbrev pub write_bytes : List ℕ → Body → List ℕ
write_bytes object (body.Add parent rdn attrs) = element 0x68 (octet_string object ++ element 0x30 (flat_map (λ (a : Attr). attribute a.attr a.vals) attrs))
write_bytes object (body.Mod mods) = element 0x66 (octet_string object ++ element 0x30 (flat_map modification mods))
write_bytes object (body.Ren rdn dropped) = element 0x6c (octet_string object ++ octet_string (name_text rdn) ++ boolean (not (is_empty dropped)))
write_bytes object body.Del = element 0x4a object

-- Control (RFC 4511, section 4.1.11)
unfoldable pub control_bytes : Update → List ℕ
control_bytes u = element 0x30 (octet_string update_name ++ boolean true ++ octet_string (control_value u))

-- LDAPMessage
unfoldable pub update_bytes : ℕ → Update → List ℕ
update_bytes id u = element 0x30 (integer id ++ write_bytes (id_name u.change.target) u.change.body ++ element 0xa0 (control_bytes u))

-- The bytes of a row of a change: elements of BER (X.690, section 8), each length and each integer in
-- the fewest bytes that it can have. So a change has one row.
use Rattle.std.specs.Prelude.{ℕ, ◌<◌, ◌^◌, pos, List, [], ◌++◌, length}
use Rattle.std.specs.List.{flat_map}
use Rattle.ber_core.specs.Element.{element}
use Rattle.ber_core.specs.Number.{shortest_integer}
use Rattle.repl_data.specs.declared.csn.Csn.{Csn}
use Rattle.repl_data.specs.declared.change.Val.{Val}
use Rattle.repl_data.specs.declared.change.Ava.{Ava}
use Rattle.repl_data.specs.declared.change.Attr.{Attr}
use Rattle.repl_data.specs.declared.change.Mod.{Mod}
use Rattle.repl_data.specs.declared.change.ModKind.{ModKind}
use Rattle.repl_data.specs.declared.change.ModKind.TheVariants as mod_kind
use Rattle.repl_data.specs.declared.change.Body.{Body}
use Rattle.repl_data.specs.declared.change.Body.TheVariants as body
use Rattle.repl_data.specs.declared.change.Change.{Change}
use Rattle.repl_data.specs.Text.{csn_bytes, IsInRange}

-- ---- leaves

-- OCTET STRING
abbrev pub octet_string : List ℕ → List ℕ
octet_string bytes = element 0x04 bytes

-- INTEGER
abbrev pub integer : ℕ → List ℕ
integer n = element 0x02 (shortest_integer (pos n))

-- SEQUENCE, of elements one after the other
abbrev pub sequence : List ℕ → List ℕ
sequence elements = element 0x30 elements

-- a CSN in ten bytes
abbrev pub csn_string : Csn → List ℕ
csn_string c = octet_string (csn_bytes c)

-- ---- parts

-- SEQUENCE { key, spelled }
unfoldable pub val_bytes : Val → List ℕ
val_bytes v = sequence (octet_string v.key ++ octet_string v.spelled)

-- vals: SEQUENCE OF SEQUENCE { key, spelled }
abbrev pub vals_bytes : List Val → List ℕ
vals_bytes vals = sequence (flat_map val_bytes vals)

-- SEQUENCE { attr, key, spelled }
unfoldable pub ava_bytes : Ava → List ℕ
ava_bytes a = sequence (octet_string a.attr.name ++ octet_string a.val.key ++ octet_string a.val.spelled)

-- rdn and dropped: SEQUENCE OF SEQUENCE { attr, key, spelled }
abbrev pub avas_bytes : List Ava → List ℕ
avas_bytes avas = sequence (flat_map ava_bytes avas)

-- SEQUENCE { attr, vals }
unfoldable pub attr_bytes : Attr → List ℕ
attr_bytes a = sequence (octet_string a.attr.name ++ vals_bytes a.vals)

-- attrs: SEQUENCE OF SEQUENCE { attr, vals }
abbrev pub attrs_bytes : List Attr → List ℕ
attrs_bytes attrs = sequence (flat_map attr_bytes attrs)

-- add, delete and replace, as in a modify request (RFC 4511, section 4.6)
abbrev pub kind_number : ModKind → ℕ
kind_number mod_kind.Add = 0
kind_number mod_kind.Delete = 1
kind_number mod_kind.Replace = 2

-- SEQUENCE { kind INTEGER, attr, vals }
unfoldable pub mod_bytes : Mod → List ℕ
mod_bytes m = sequence (integer (kind_number m.kind) ++ octet_string m.attr.name ++ vals_bytes m.vals)

-- ---- the row

-- [0] { parent, rdn, attrs }, [1] SEQUENCE OF { kind, attr, vals }, [2] { rdn, dropped }, or [3], primitive and empty
abbrev pub body_bytes : Body → List ℕ
body_bytes (body.Add parent rdn attrs) = element 0xa0 (csn_string parent.csn ++ avas_bytes rdn.avas ++ attrs_bytes attrs)
body_bytes (body.Mod mods) = element 0xa1 (flat_map mod_bytes mods)
body_bytes (body.Ren rdn dropped) = element 0xa2 (avas_bytes rdn.avas ++ avas_bytes dropped)
body_bytes body.Del = element 0x83 []

-- ChangeRow: SEQUENCE { version INTEGER, csn, target, body }, of version 1
unfoldable pub row_of : Change → List ℕ
row_of c = sequence (integer 1 ++ csn_string c.csn ++ csn_string c.target.csn ++ body_bytes c.body)

-- ---- which changes there are

-- the CSN of the parent that an Add names is in range
abbrev pub HasParentInRange : Body → Type 0
HasParentInRange (body.Add parent rdn attrs) = IsInRange parent.csn
HasParentInRange (body.Mod mods) = Unit {0}
HasParentInRange (body.Ren rdn dropped) = Unit {0}
HasParentInRange body.Del = Unit {0}

-- The parts of each CSN are 32 and three times 16 bits, and the row has a length of 64 bits, as each
-- value in a program has. The numbers in these definitions have no bound of their own.
pub record IsChangeInRange (c : Change) : Type 0 where
  pub csn : IsInRange c.csn
  pub target : IsInRange c.target.csn
  pub parent : HasParentInRange c.body
  pub size : length (row_of c) < 2 ^ 64

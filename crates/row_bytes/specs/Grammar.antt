-- Rows of changes, read element by element from the front, in the writer's form alone: each length and
-- each integer in the fewest bytes, and no element after the last one.
use Rattle.std.specs.Prelude.{ℕ, ◌==◌, ◌||◌, Bool, List, [], ◌∷◌, length, Result, Ok, Err, if◌then◌else◌}
use Rattle.repl_data.specs.declared.csn.Csn.{Csn}
use Rattle.repl_data.specs.declared.change.Val.{Val}
use Rattle.repl_data.specs.declared.change.Ava.{Ava}
use Rattle.repl_data.specs.declared.change.Attr.{Attr}
use Rattle.repl_data.specs.declared.change.Mod.{Mod}
use Rattle.repl_data.specs.declared.change.ModKind.{ModKind}
use Rattle.repl_data.specs.declared.change.ModKind.TheVariants as mod_kind
use Rattle.repl_data.specs.declared.change.Body.{Body}
use Rattle.repl_data.specs.declared.change.Body.TheVariants as body
use Rattle.repl_data.specs.declared.change.Change.{Change}
use Rattle.repl_data.specs.Text.{csn_of}
use Rattle.row_bytes.specs.declared.fault.RowWhy.TheVariants as why
use Rattle.row_bytes.specs.Place.{Fault, At, Place, Reading, ◌>>=◌, refused, tag_here, open_exact, exact, ended, many}

-- ---- leaves, from what is inside them

abbrev pub octets : Place → Result (List ℕ) Fault
octets p = Ok p.bytes

abbrev pub text : Place → Reading (List ℕ)
text = exact 0x04 octets

-- ten bytes are a CSN
unfoldable pub csn_inside : Place → Result Csn Fault
csn_inside p = if length p.bytes == 10 then Ok (csn_of p.bytes) else Err (At p.start why.Shape)

abbrev pub csn_here : Place → Reading Csn
csn_here = exact 0x04 csn_inside

-- an integer of one byte
abbrev pub one_byte : ℕ → List ℕ → Result ℕ Fault
one_byte start [] = Err (At start why.Shape)
one_byte start (b ∷ []) = Ok b
one_byte start (b ∷ c ∷ bytes) = Err (At start why.Shape)

unfoldable pub version_inside : Place → Result (Unit {0}) Fault
version_inside p = one_byte p.start p.bytes >>= λ n. if n == 1 then Ok tt else Err (At p.start why.Version)

abbrev pub version_here : Place → Reading (Unit {0})
version_here = exact 0x02 version_inside

abbrev pub kind_of : ℕ → ℕ → Result ModKind Fault
kind_of start n =
    if n == 0 then Ok mod_kind.Add
    else if n == 1 then Ok mod_kind.Delete
    else if n == 2 then Ok mod_kind.Replace
    else Err (At start why.Shape)

unfoldable pub kind_inside : Place → Result ModKind Fault
kind_inside p = one_byte p.start p.bytes >>= λ n. kind_of p.start n

abbrev pub kind_here : Place → Reading ModKind
kind_here = exact 0x02 kind_inside

-- ---- parts, from what is inside them

unfoldable pub val_inside : Place → Result Val Fault
val_inside p = do
  key ← text p
  spelled ← text key.1
  over ← ended spelled.1
  Ok (record { key = key.0; spelled = spelled.0 })

abbrev pub val_here : Place → Reading Val
val_here = exact 0x30 val_inside

abbrev pub vals_here : Place → Reading (List Val)
vals_here = exact 0x30 (many val_here)

unfoldable pub ava_inside : Place → Result Ava Fault
ava_inside p = do
  name ← text p
  key ← text name.1
  spelled ← text key.1
  over ← ended spelled.1
  Ok (record { attr = record { name = name.0 }; val = record { key = key.0; spelled = spelled.0 } })

abbrev pub ava_here : Place → Reading Ava
ava_here = exact 0x30 ava_inside

abbrev pub avas_here : Place → Reading (List Ava)
avas_here = exact 0x30 (many ava_here)

unfoldable pub attr_inside : Place → Result Attr Fault
attr_inside p = do
  name ← text p
  vs ← vals_here name.1
  over ← ended vs.1
  Ok (record { attr = record { name = name.0 }; vals = vs.0 })

abbrev pub attr_here : Place → Reading Attr
attr_here = exact 0x30 attr_inside

abbrev pub attrs_here : Place → Reading (List Attr)
attrs_here = exact 0x30 (many attr_here)

unfoldable pub mod_inside : Place → Result Mod Fault
mod_inside p = do
  k ← kind_here p
  name ← text k.1
  vs ← vals_here name.1
  over ← ended vs.1
  Ok (record { kind = k.0; attr = record { name = name.0 }; vals = vs.0 })

abbrev pub mod_here : Place → Reading Mod
mod_here = exact 0x30 mod_inside

-- ---- bodies, from what is inside them

unfoldable pub add_inside : Place → Result Body Fault
add_inside p = do
  parent ← csn_here p
  rdn ← avas_here parent.1
  all ← attrs_here rdn.1
  over ← ended all.1
  Ok (body.Add (record { csn = parent.0 }) (record { avas = rdn.0 }) all.0)

unfoldable pub mods_inside : Place → Result Body Fault
mods_inside p = many mod_here p >>= λ mods. Ok (body.Mod mods)

unfoldable pub ren_inside : Place → Result Body Fault
ren_inside p = do
  rdn ← avas_here p
  dropped ← avas_here rdn.1
  over ← ended dropped.1
  Ok (body.Ren (record { avas = rdn.0 }) dropped.0)

-- a Del is empty
unfoldable pub del_inside : Place → Result Body Fault
del_inside p = if length p.bytes == 0 then Ok body.Del else Err (At p.start why.Shape)

-- Add, Mod, Ren and Del
abbrev pub is_body_tag : ℕ → Bool
is_body_tag tag = tag == 0xa0 || tag == 0xa1 || tag == 0xa2 || tag == 0x83

-- what is inside the body with this tag
unfoldable pub body_inside : ℕ → Place → Result Body Fault
body_inside tag p =
    if tag == 0xa0 then add_inside p
    else if tag == 0xa1 then mods_inside p
    else if tag == 0xa2 then ren_inside p
    else del_inside p

-- one of the four bodies stands here
unfoldable pub body_here : Place → Reading Body
body_here p = do
  tag ← tag_here p
  o ← (if is_body_tag tag then open_exact tag p else refused p)
  b ← body_inside tag o.0
  Ok (b, o.1)

-- ---- the row

unfoldable pub row_inside : Place → Result Change Fault
row_inside p = do
  v ← version_here p
  c ← csn_here v.1
  target ← csn_here c.1
  b ← body_here target.1
  over ← ended b.1
  Ok (record { csn = c.0; target = record { csn = target.0 }; body = b.0 })

-- the change whose row the bytes are, or the first fault
unfoldable pub row_at : List ℕ → Result Change Fault
row_at bytes = do
  row ← exact 0x30 row_inside (record { start = 0; at = 0; bytes = bytes })
  over ← ended row.1
  Ok row.0

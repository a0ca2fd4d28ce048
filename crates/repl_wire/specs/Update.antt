-- The update that a request is, or the first fault.
use Rattle.std.specs.Prelude.{ℕ, ◌==◌, Bool, true, false, ℤ, pos, negsuc, bytes_eq, List, [], ◌∷◌, take, drop, codes, Option, Some, None, Result, Ok, Err, if◌then◌else◌}
use Rattle.std.specs.List.{list_any}
use Rattle.dn_text.specs.declared.fault.DnFault.{DnFault}
use Rattle.dn_text.specs.declared.name.Dn.{Dn}
use Rattle.dn_text.specs.Reading.{dn_in}
use Rattle.ldap_types.specs.declared.request.Request.{Request}
use Rattle.ldap_types.specs.declared.request.Control.{Control}
use Rattle.ldap_types.specs.declared.request.RawAttr.{RawAttr}
use Rattle.ldap_types.specs.declared.request.RawMod.{RawMod}
use Rattle.ldap_types.specs.declared.request.Op.{Op}
use Rattle.ldap_types.specs.declared.request.Op.TheVariants as op
use Rattle.repl_data.specs.declared.csn.Uid.{Uid}
use Rattle.repl_data.specs.declared.change.Ava.{Ava}
use Rattle.repl_data.specs.declared.change.Attr.{Attr}
use Rattle.repl_data.specs.declared.change.Mod.{Mod}
use Rattle.repl_data.specs.declared.change.ModKind.{ModKind}
use Rattle.repl_data.specs.declared.change.ModKind.TheVariants as mod_kind
use Rattle.repl_data.specs.declared.change.Rdn.{Rdn}
use Rattle.repl_data.specs.declared.change.Body.{Body}
use Rattle.repl_data.specs.declared.change.Body.TheVariants as body
use Rattle.repl_data.specs.declared.change.Update.{Update}
use Rattle.repl_wire.specs.declared.fault.WireFault.{WireFault}
use Rattle.repl_wire.specs.declared.fault.WireWhy.TheVariants as why
use Rattle.repl_wire.specs.declared.control.Fields.{Fields}
use Rattle.repl_wire.specs.declared.control.Dropped.{Dropped}
use Rattle.repl_wire.specs.Fault.{◌>>=◌, bad, in_value, name_told}
use Rattle.repl_wire.specs.Keys.{attr_key, val_of, each_from, vals_of}
use Rattle.repl_wire.specs.UpdateForm.{update_name}
use Rattle.repl_wire.specs.Control.{uid_of, control_at}
use Rattle.repl_wire.specs.Reading.{given}

-- ---- the control

abbrev pub is_update : Control → Bool
is_update c = bytes_eq c.oid update_name

abbrev pub carried : Control → Result (List ℕ) WireFault
carried c = if c.critical then given c.value else bad 0 why.Control

-- the value of the one control of updates, which is critical; others are not looked at
abbrev pub control_of : List Control → Result (List ℕ) WireFault
control_of [] = bad 0 why.Control
control_of (c ∷ cs) = if is_update c then (if list_any is_update cs then bad 0 why.Control else carried c) else control_of cs

-- ---- the entry

-- the entry that a write names
abbrev pub object_of : Op → Result (List ℕ) WireFault
object_of (op.Add object attrs) = Ok object
object_of (op.Modify object mods) = Ok object
object_of (op.Rename object rdn delete_old superior) = Ok object
object_of (op.Delete object) = Ok object
object_of _ = bad 0 why.Op

abbrev pub some_id : Option Uid → Result Uid WireFault
some_id (Some u) = Ok u
some_id None = bad 0 why.Target

-- the id that an entry goes by
abbrev pub target_of : List ℕ → Result Uid WireFault
target_of object = if bytes_eq (take 11 object) (codes "nsuniqueid=") then some_id (uid_of (drop 11 object)) else bad 0 why.Target

-- ---- what the operation does

abbrev pub one_rdn : List Rdn → Result Rdn WireFault
one_rdn (rdn ∷ []) = Ok rdn
one_rdn _ = bad 0 why.Rdn

abbrev pub only_rdn : Result Dn DnFault → Result Rdn WireFault
only_rdn (Ok dn) = one_rdn dn.rdns
only_rdn (Err e) = Err (name_told e)

-- the RDN that a text is, with the keys of its values
unfoldable pub rdn_of : List ℕ → Result Rdn WireFault
rdn_of text = only_rdn (dn_in text)

unfoldable pub attr_of : ℕ → RawAttr → Result Attr WireFault
attr_of at a = attr_key at a.name >>= λ attr. vals_of at attr a.vals >>= λ vals. Ok (record { attr = attr; vals = vals })

abbrev pub kind_of_number : ℕ → ℤ → Result ModKind WireFault
kind_of_number at (pos n) = if n == 0 then Ok mod_kind.Add else if n == 1 then Ok mod_kind.Delete else if n == 2 then Ok mod_kind.Replace else bad at why.Kind
kind_of_number at (negsuc n) = bad at why.Kind

unfoldable pub mod_of : ℕ → RawMod → Result Mod WireFault
mod_of at m = kind_of_number at m.kind >>= λ kind. attr_key at m.name >>= λ attr. vals_of at attr m.vals >>= λ vals. Ok (record { kind = kind; attr = attr; vals = vals })

unfoldable pub part_of : ℕ → Dropped → Result Ava WireFault
part_of at d = attr_key at d.name >>= λ attr. val_of at attr d.spelled >>= λ v. Ok (record { attr = attr; val = v })

-- a field that must be there, and one that must not
abbrev pub some_field : {A : Type 0} → Option A → Result A WireFault
some_field (Some x) = Ok x
some_field None = bad 0 why.Field

abbrev pub no_field : {A : Type 0} → Option A → Result (Unit {0}) WireFault
no_field (Some x) = bad 0 why.Field
no_field None = Ok tt

-- an add has a parent and a name
unfoldable pub add_of : Fields → List RawAttr → Result Body WireFault
add_of f attrs = do
  parent ← some_field f.parent
  name ← some_field f.name
  none ← no_field f.dropped
  rdn ← rdn_of name
  all ← each_from attr_of 0 attrs
  Ok (body.Add parent rdn all)

-- a modify and a delete have no field
unfoldable pub no_origin : Fields → Result (Unit {0}) WireFault
no_origin f = no_field f.parent >>= λ u. no_field f.name

unfoldable pub no_fields : Fields → Result (Unit {0}) WireFault
no_fields f = no_origin f >>= λ u. no_field f.dropped

unfoldable pub mods_of : Fields → List RawMod → Result Body WireFault
mods_of f mods = no_fields f >>= λ u. each_from mod_of 0 mods >>= λ all. Ok (body.Mod all)

unfoldable pub delete_of : Fields → Result Body WireFault
delete_of f = no_fields f >>= λ u. Ok body.Del

-- A modify DN has what is dropped; the old RDN is marked for deletion exactly where something is, and the entry
-- stays below its parent.
abbrev pub fits : List Dropped → Bool → Option (List ℕ) → Result (Unit {0}) WireFault
fits [] false None = Ok tt
fits (d ∷ ds) true None = Ok tt
fits dropped delete_old superior = bad 0 why.Field

unfoldable pub rename_of : Fields → List ℕ → Bool → Option (List ℕ) → Result Body WireFault
rename_of f text delete_old superior = do
  none ← no_origin f
  dropped ← some_field f.dropped
  fine ← fits dropped delete_old superior
  rdn ← rdn_of text
  parts ← each_from part_of 0 dropped
  Ok (body.Ren rdn parts)

abbrev pub body_of : Fields → Op → Result Body WireFault
body_of f (op.Add object attrs) = add_of f attrs
body_of f (op.Modify object mods) = mods_of f mods
body_of f (op.Rename object rdn delete_old superior) = rename_of f rdn delete_old superior
body_of f (op.Delete object) = delete_of f
body_of f _ = bad 0 why.Op

-- ---- the update: the operation is looked at first, then the control, then the entry, then what the operation does
unfoldable pub update_of : Request → Result Update WireFault
update_of r = do
  object ← object_of r.op
  value ← control_of r.controls
  f ← in_value (control_at value)
  target ← target_of object
  b ← body_of f r.op
  Ok (record { change = record { csn = f.csn; target = target; body = b }; prev = f.prev })

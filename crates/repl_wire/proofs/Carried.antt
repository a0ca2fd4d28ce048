-- Keys of what is read, and what is read back of what carries its keys.
use Rattle.std.proofs.Common.{◌≡◌, ℕ, ◌+◌, Bool, List, [], ◌∷◌, map, Option, Some, None, Result, Ok, Err, refl, sym, ap, subst, ◌∙◌}
use Rattle.std.specs.Prelude.{pos, IfOk}
use Rattle.attr_keys.specs.Name.{bad_name}
use Rattle.attr_keys.specs.Table.{key_of, kind_of}
use Rattle.attr_keys.specs.Value.{bad_value, value_key}
use Rattle.attr_keys.proofs.NameKeys.{key_of-good}
use Rattle.attr_keys.proofs.NamesAgain.{key_of-again}
use Rattle.dn_text.specs.declared.fault.DnFault.{DnFault}
use Rattle.dn_text.specs.declared.name.Dn.{Dn}
use Rattle.dn_text.specs.Laws.{AreReadableParts, AreReadable, IsReadable}
use Rattle.dn_text.specs.Reading.{dn_in}
use Rattle.dn_text.proofs.Found.{name-found}
use Rattle.dn_text.proofs.Reread.{name-readable}
use Rattle.ldap_types.specs.declared.request.Request.{Request}
use Rattle.ldap_types.specs.declared.request.RawAttr.{RawAttr}
use Rattle.ldap_types.specs.declared.request.RawMod.{RawMod}
use Rattle.ldap_types.specs.declared.request.Op.{Op}
use Rattle.ldap_types.specs.declared.request.Op.TheVariants as op
use Rattle.repl_data.specs.declared.change.AttrKey.{AttrKey}
use Rattle.repl_data.specs.declared.change.Val.{Val}
use Rattle.repl_data.specs.declared.change.Ava.{Ava}
use Rattle.repl_data.specs.declared.change.Attr.{Attr}
use Rattle.repl_data.specs.declared.change.Mod.{Mod}
use Rattle.repl_data.specs.declared.change.ModKind.{ModKind}
use Rattle.repl_data.specs.declared.change.ModKind.TheVariants as mod_kind
use Rattle.repl_data.specs.declared.change.Rdn.{Rdn}
use Rattle.repl_data.specs.declared.change.Body.TheVariants as body
use Rattle.repl_data.specs.declared.change.Update.{Update}
use Rattle.repl_wire.specs.declared.fault.WireFault.{WireFault}
use Rattle.repl_wire.specs.declared.fault.WireFault.TheVariants.{Bad}
use Rattle.repl_wire.specs.declared.fault.WireWhy.TheVariants as why
use Rattle.repl_wire.specs.declared.control.Fields.{Fields}
use Rattle.repl_wire.specs.declared.control.Dropped.{Dropped}
use Rattle.repl_wire.specs.Fault.{◌>>=◌, in_value, Gives}
use Rattle.repl_wire.specs.Control.{control_at}
use Rattle.repl_wire.specs.Keys.{named, attr_key, valued, val_of, each_from, vals_of, Every, IsKey, HasKey, AreKeyed, IsKeyedPart, HasKeys, HasKeysOfSpellings}
use Rattle.repl_wire.specs.Update.{object_of, control_of, target_of, some_field, no_field, no_origin, fits, one_rdn, only_rdn, rdn_of, attr_of, kind_of_number, mod_of, part_of, add_of, no_fields, mods_of, delete_of, rename_of, body_of, update_of}
use Rattle.repl_wire.specs.UpdateForm.{raw_attr, raw_mod, kind_number}

abbrev pub ok : {A : Type 0} → A → Result A WireFault
ok x = Ok x

-- ---- what is read carries keys

-- if something was read, P says so of it
pub data Good {A : Type 0} (P : A → Type 0) : Result A WireFault → Type 0 where
  good : (x : A) → P x → Good P (Ok x)
  stopped : (e : WireFault) → Good P (Err e)

so : {A B : Type 0} {P : A → Type 0} {Q : B → Type 0} {r : Result A WireFault} {k : A → Result B WireFault} → Good P r → ((x : A) → P x → Good Q (k x)) → Good Q (r >>= k)
so (good x p) h = h x p
so (stopped e) h = stopped e

whatever : {A B : Type 0} {Q : B → Type 0} {k : A → Result B WireFault} (r : Result A WireFault) → ((x : A) → Good Q (k x)) → Good Q (r >>= k)
whatever (Ok x) h = h x
whatever (Err e) h = stopped e

pub value : {A : Type 0} {P : A → Type 0} {r : Result A WireFault} → Good P r → (x : A) → r ≡ Ok x → P x
value {A} {P} (good y p) x e = subst P (same y x e) p
  where
    same : (a b : A) → ok a ≡ ok b → a ≡ b
    same a b q = cc
value (stopped w) x e = absurd cc

named_good : (at : ℕ) (name : List ℕ) (o : Option ℕ) → bad_name name ≡ o → Good IsKey (named at name o)
named_good at name None e = good (record { name = key_of name }) (record { is_name = key_of-good name e; own = key_of-again name })
named_good at name (Some place) e = stopped (Bad at why.Key)

attr_good : (at : ℕ) (name : List ℕ) → Good IsKey (attr_key at name)
unfolding attr_key
attr_good at name = named_good at name (bad_name name) refl

valued_good : (at : ℕ) (attr : AttrKey) (spelled : List ℕ) (o : Option ℕ) → bad_value (kind_of attr.name) spelled ≡ o → Good (HasKey attr) (valued at attr spelled o)
valued_good at attr spelled None e = good (record { key = value_key (kind_of attr.name) spelled; spelled = spelled }) (record { accepted = e; key = refl })
valued_good at attr spelled (Some place) e = stopped (Bad at why.Key)

val_good : (at : ℕ) (attr : AttrKey) (spelled : List ℕ) → Good (HasKey attr) (val_of at attr spelled)
unfolding val_of
val_good at attr spelled = valued_good at attr spelled (bad_value (kind_of attr.name) spelled) refl

each_good : {A B : Type 0} {P : B → Type 0} (piece : ℕ → A → Result B WireFault) → ((at : ℕ) (x : A) → Good P (piece at x)) → (at : ℕ) (xs : List A) → Good (Every P) (each_from piece at xs)
unfolding each_from
each_good piece h at [] = good [] tt
each_good piece h at (x ∷ xs) = so (h at x) (λ y p. so (each_good piece h (at + 1) xs) (λ ys ps. good (y ∷ ys) (p, ps)))

vals_good : (at : ℕ) (attr : AttrKey) (spelled : List (List ℕ)) → Good (Every (HasKey attr)) (vals_of at attr spelled)
vals_good at attr spelled = each_good (λ i s. val_of at attr s) (λ i s. val_good at attr s) 0 spelled

attribute_good : (at : ℕ) (a : RawAttr) → Good (λ (b : Attr). AreKeyed b.attr b.vals) (attr_of at a)
unfolding attr_of
attribute_good at a = so (attr_good at a.name) (λ attr k. so (vals_good at attr a.vals) (λ vals v. good _ (k, v)))

mod_good : (at : ℕ) (m : RawMod) → Good (λ (b : Mod). AreKeyed b.attr b.vals) (mod_of at m)
unfolding mod_of
mod_good at m = whatever (kind_of_number at m.kind) (λ kind. so (attr_good at m.name) (λ attr k. so (vals_good at attr m.vals) (λ vals v. good _ (k, v))))

part_good : (at : ℕ) (d : Dropped) → Good IsKeyedPart (part_of at d)
unfolding part_of
part_good at d = so (attr_good at d.name) (λ attr k. so (val_good at attr d.spelled) (λ v q. good _ (k, q)))

keyed_parts : (avas : List Ava) → AreReadableParts avas → Every IsKeyedPart avas
keyed_parts [] r = tt
keyed_parts (a ∷ avas) r =
    let p = r.0 in
    ((record { is_name = p.is_name; own = p.attr }, record { accepted = p.accepted; key = p.key }), keyed_parts avas r.2)

abbrev IsKeyedRdn : Rdn → Type 0
IsKeyedRdn rdn = Every IsKeyedPart rdn.avas

one_good : (dn : Dn) → IsReadable dn → Good IsKeyedRdn (one_rdn dn.rdns)
one_good dn r = by_list dn.rdns r
  where
    by_list : (rdns : List Rdn) → AreReadable rdns → Good IsKeyedRdn (one_rdn rdns)
    by_list [] r = stopped (Bad 0 why.Rdn)
    by_list (rdn ∷ []) r = good rdn (keyed_parts rdn.avas r.1)
    by_list (rdn ∷ s ∷ more) r = stopped (Bad 0 why.Rdn)

rdn_good : (text : List ℕ) → Good IsKeyedRdn (rdn_of text)
unfolding rdn_of
rdn_good text = by_read (dn_in text) refl
  where
    by_read : (r : Result Dn DnFault) → dn_in text ≡ r → Good IsKeyedRdn (only_rdn r)
    by_read (Ok dn) e = one_good dn (name-readable text dn (name-found text dn e))
    by_read (Err w) e = stopped _

add_good : (f : Fields) (attrs : List RawAttr) → Good HasKeys (add_of f attrs)
unfolding add_of
add_good f attrs =
    whatever (some_field f.parent) (λ parent.
    whatever (some_field f.name) (λ name.
    whatever (no_field f.dropped) (λ u.
    so (rdn_good name) (λ rdn r.
    so (each_good attr_of attribute_good 0 attrs) (λ all a. good (body.Add parent rdn all) (r, a))))))

mods_good : (f : Fields) (mods : List RawMod) → Good HasKeys (mods_of f mods)
unfolding mods_of
mods_good f mods = whatever (no_fields f) (λ u. so (each_good mod_of mod_good 0 mods) (λ all a. good _ a))

delete_good : (f : Fields) → Good HasKeys (delete_of f)
unfolding delete_of
delete_good f = whatever (no_fields f) (λ u. good _ tt)

rename_good : (f : Fields) (text : List ℕ) (delete_old : Bool) (superior : Option (List ℕ)) → Good HasKeys (rename_of f text delete_old superior)
unfolding rename_of
rename_good f text delete_old superior =
    whatever (no_origin f) (λ u.
    whatever (some_field f.dropped) (λ dropped.
    whatever (fits dropped delete_old superior) (λ v.
    so (rdn_good text) (λ rdn r.
    so (each_good part_of part_good 0 dropped) (λ parts a. good (body.Ren rdn parts) (r, a))))))

body_good : (f : Fields) (o : Op) → Good HasKeys (body_of f o)
body_good f (op.Add object attrs) = add_good f attrs
body_good f (op.Modify object mods) = mods_good f mods
body_good f (op.Rename object rdn delete_old superior) = rename_good f rdn delete_old superior
body_good f (op.Delete object) = delete_good f
body_good f (op.Bind b) = stopped (Bad 0 why.Op)
body_good f op.Unbind = stopped (Bad 0 why.Op)
body_good f (op.Search s) = stopped (Bad 0 why.Op)
body_good f (op.Compare object name value) = stopped (Bad 0 why.Op)
body_good f (op.Abandon id) = stopped (Bad 0 why.Op)
body_good f (op.Extended oid value) = stopped (Bad 0 why.Op)

pub update_good : (r : Request) → Good HasKeysOfSpellings (update_of r)
unfolding update_of
update_good r =
    whatever (object_of r.op) (λ object.
    whatever (control_of r.controls) (λ bytes.
    whatever (in_value (control_at bytes)) (λ f.
    whatever (target_of object) (λ target.
    so (body_good f r.op) (λ b k. good (record { change = record { csn = f.csn; target = target; body = b }; prev = f.prev }) k)))))

pub keys_by : (given : Result Update WireFault) (read : Result Update WireFault) → Gives given read → Good HasKeysOfSpellings read → IfOk given HasKeysOfSpellings
keys_by (Ok u) read g h = value h u g
keys_by (Err e) read g h = tt

-- a name that is none has no key
pub attr_refused : (at : ℕ) (name : List ℕ) (place : ℕ) → bad_name name ≡ Some place → attr_key at name ≡ Err (Bad at why.Key)
unfolding attr_key
attr_refused at name place e = ap (named at name) e

-- ---- what carries its keys is read back

attr_back : (at : ℕ) (attr : AttrKey) → IsKey attr → attr_key at attr.name ≡ ok attr
unfolding attr_key
attr_back at attr k = ap (named at attr.name) k.is_name ∙ ap (λ (n : List ℕ). ok (record { name = n })) k.own

val_back : (at : ℕ) (attr : AttrKey) (v : Val) → HasKey attr v → val_of at attr v.spelled ≡ ok v
unfolding val_of
val_back at attr v k = ap (valued at attr v.spelled) k.accepted ∙ ap (λ (n : List ℕ). ok (record { key = n; spelled = v.spelled })) (sym k.key)

each_back : {A B : Type 0} {P : B → Type 0} (piece : ℕ → A → Result B WireFault) (f : B → A) → ((at : ℕ) (y : B) → P y → piece at (f y) ≡ ok y) → (at : ℕ) (ys : List B) → Every P ys → each_from piece at (map f ys) ≡ ok ys
unfolding each_from
each_back piece f h at [] p = refl
each_back piece f h at (y ∷ ys) p =
    let a = h at y p.0 in
    let b = each_back piece f h (at + 1) ys p.1 in
    rw (a, b) refl

vals_back : (at : ℕ) (attr : AttrKey) (vals : List Val) → Every (HasKey attr) vals → vals_of at attr (map (λ (v : Val). v.spelled) vals) ≡ ok vals
vals_back at attr vals k = each_back (λ i s. val_of at attr s) (λ (v : Val). v.spelled) (λ i v p. val_back at attr v p) 0 vals k

attribute_back : (at : ℕ) (a : Attr) → AreKeyed a.attr a.vals → attr_of at (raw_attr a) ≡ ok a
unfolding attr_of
attribute_back at a k =
    let p = attr_back at a.attr k.0 in
    let q = vals_back at a.attr a.vals k.1 in
    rw (p, q) refl

pub attrs_back : (attrs : List Attr) → Every (λ (a : Attr). AreKeyed a.attr a.vals) attrs → each_from attr_of 0 (map raw_attr attrs) ≡ ok attrs
attrs_back attrs k = each_back attr_of raw_attr attribute_back 0 attrs k

kind_back : (at : ℕ) (kind : ModKind) → kind_of_number at (pos (kind_number kind)) ≡ ok kind
kind_back at mod_kind.Add = refl
kind_back at mod_kind.Delete = refl
kind_back at mod_kind.Replace = refl

mod_back : (at : ℕ) (m : Mod) → AreKeyed m.attr m.vals → mod_of at (raw_mod m) ≡ ok m
unfolding mod_of
mod_back at m k =
    let o = kind_back at m.kind in
    let p = attr_back at m.attr k.0 in
    let q = vals_back at m.attr m.vals k.1 in
    rw (o, p, q) refl

pub mods_back : (mods : List Mod) → Every (λ (m : Mod). AreKeyed m.attr m.vals) mods → each_from mod_of 0 (map raw_mod mods) ≡ ok mods
mods_back mods k = each_back mod_of raw_mod mod_back 0 mods k

abbrev pub dropped_of : Ava → Dropped
dropped_of a = record { name = a.attr.name; spelled = a.val.spelled }

part_back : (at : ℕ) (a : Ava) → IsKeyedPart a → part_of at (dropped_of a) ≡ ok a
unfolding part_of
part_back at a k =
    let p = attr_back at a.attr k.0 in
    let q = val_back at a.attr a.val k.1 in
    rw (p, q) refl

pub parts_back : (parts : List Ava) → Every IsKeyedPart parts → each_from part_of 0 (map dropped_of parts) ≡ ok parts
parts_back parts k = each_back part_of dropped_of part_back 0 parts k

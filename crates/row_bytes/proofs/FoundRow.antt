-- What is read was written so: the parts of a row, and the row.
use Rattle.std.proofs.Common.{◌≡◌, ℕ, ◌<◌, Bool, true, false, cond, List, ◌++◌, length, Result, Ok, Err, sym, ap, subst, ◌∙◌}
use Rattle.std.specs.Prelude.{pos, ◌==◌, ◌||◌, IfOk}
use Rattle.std.specs.List.{flat_map}
use Rattle.std.proofs.lemmas.Bool.{eqb-true}
use Rattle.ber_core.specs.Element.{element}
use Rattle.ber_core.specs.Number.{IsBytes, shortest_integer}
use Rattle.repl_data.specs.declared.change.Val.{Val}
use Rattle.repl_data.specs.declared.change.Ava.{Ava}
use Rattle.repl_data.specs.declared.change.Attr.{Attr}
use Rattle.repl_data.specs.declared.change.Mod.{Mod}
use Rattle.repl_data.specs.declared.change.Body.{Body}
use Rattle.repl_data.specs.declared.change.Body.TheVariants as body
use Rattle.repl_data.specs.declared.change.Change.{Change}
use Rattle.repl_data.specs.Text.{csn_bytes}
use Rattle.row_bytes.specs.declared.fault.RowFault.{RowFault}
use Rattle.row_bytes.specs.declared.fault.RowWhy.TheVariants as why
use Rattle.row_bytes.specs.Form.{octet_string, integer, csn_string, val_bytes, vals_bytes, ava_bytes, avas_bytes, attr_bytes, attrs_bytes, kind_number, mod_bytes, body_bytes, row_of}
use Rattle.row_bytes.specs.Given.{Gives}
use Rattle.row_bytes.specs.Place.{Fault, At, Place, refused, tag_here, open_exact, many}
use Rattle.row_bytes.specs.Grammar.{octets, text, csn_inside, csn_here, version_inside, version_here, kind_inside, kind_here, val_inside, val_here, vals_here, ava_inside, ava_here, avas_here, attr_inside, attr_here, attrs_here, mod_inside, mod_here, add_inside, mods_inside, ren_inside, del_inside, is_body_tag, body_inside, body_here, row_inside, row_at}
use Rattle.row_bytes.proofs.Found.{Good, good, stopped, so, ok_so, either, value, Sound, SoundInside, chosen, no_bytes, onto, last, inside_of, exact_sound, ended_sound, many_sound, element_some, octets_sound, csn_inside_sound, version_inside_sound, kind_inside_sound}

text_sound : Sound text octet_string
text_sound = exact_sound 0x04 octets (λ x. x) octets_sound

csn_sound : Sound csn_here csn_string
csn_sound = exact_sound 0x04 csn_inside csn_bytes csn_inside_sound

version_sound : Sound version_here (λ u. integer 1)
version_sound = exact_sound 0x02 version_inside (λ u. shortest_integer (pos 1)) version_inside_sound

kind_sound : Sound kind_here (λ k. integer (kind_number k))
kind_sound = exact_sound 0x02 kind_inside (λ k. shortest_integer (pos (kind_number k))) kind_inside_sound

-- ---- values

val_inside_sound : SoundInside val_inside (λ (v : Val). octet_string v.key ++ octet_string v.spelled)
unfolding val_inside
val_inside_sound p fits =
    so (text_sound p fits) (λ key a. so (text_sound key.1 a.fits) (λ spelled b. so (ended_sound spelled.1) (λ over none.
    good (record { key = key.0; spelled = spelled.0 })
    (last p.bytes (octet_string key.0 ++ octet_string spelled.0) spelled.1.bytes (onto p.bytes (octet_string key.0) key.1.bytes (octet_string spelled.0) spelled.1.bytes a.parts b.parts) none))))

val_sound : Sound val_here val_bytes
unfolding val_bytes
val_sound = exact_sound 0x30 val_inside (λ (v : Val). octet_string v.key ++ octet_string v.spelled) val_inside_sound

pub val_some : (v : Val) → 0 < length (val_bytes v)
unfolding val_bytes
val_some v = element_some 0x30 (octet_string v.key ++ octet_string v.spelled)

vals_sound : Sound vals_here vals_bytes
vals_sound = exact_sound 0x30 (many val_here) (flat_map val_bytes) (many_sound val_here val_bytes val_sound val_some)

-- ---- parts of names

ava_inside_sound : SoundInside ava_inside (λ (a : Ava). octet_string a.attr.name ++ octet_string a.val.key ++ octet_string a.val.spelled)
unfolding ava_inside
ava_inside_sound p fits =
    so (text_sound p fits) (λ name a. so (text_sound name.1 a.fits) (λ key b. so (text_sound key.1 b.fits) (λ spelled c. so (ended_sound spelled.1) (λ over none.
    good (record { attr = record { name = name.0 }; val = record { key = key.0; spelled = spelled.0 } })
    (last p.bytes ((octet_string name.0 ++ octet_string key.0) ++ octet_string spelled.0) spelled.1.bytes
    (onto p.bytes (octet_string name.0 ++ octet_string key.0) key.1.bytes (octet_string spelled.0) spelled.1.bytes
    (onto p.bytes (octet_string name.0) name.1.bytes (octet_string key.0) key.1.bytes a.parts b.parts) c.parts) none)))))

ava_sound : Sound ava_here ava_bytes
unfolding ava_bytes
ava_sound = exact_sound 0x30 ava_inside (λ (a : Ava). octet_string a.attr.name ++ octet_string a.val.key ++ octet_string a.val.spelled) ava_inside_sound

pub ava_some : (a : Ava) → 0 < length (ava_bytes a)
unfolding ava_bytes
ava_some a = element_some 0x30 (octet_string a.attr.name ++ octet_string a.val.key ++ octet_string a.val.spelled)

avas_sound : Sound avas_here avas_bytes
avas_sound = exact_sound 0x30 (many ava_here) (flat_map ava_bytes) (many_sound ava_here ava_bytes ava_sound ava_some)

-- ---- attributes

attr_inside_sound : SoundInside attr_inside (λ (a : Attr). octet_string a.attr.name ++ vals_bytes a.vals)
unfolding attr_inside
attr_inside_sound p fits =
    so (text_sound p fits) (λ name a. so (vals_sound name.1 a.fits) (λ vs b. so (ended_sound vs.1) (λ over none.
    good (record { attr = record { name = name.0 }; vals = vs.0 })
    (last p.bytes (octet_string name.0 ++ vals_bytes vs.0) vs.1.bytes (onto p.bytes (octet_string name.0) name.1.bytes (vals_bytes vs.0) vs.1.bytes a.parts b.parts) none))))

attr_sound : Sound attr_here attr_bytes
unfolding attr_bytes
attr_sound = exact_sound 0x30 attr_inside (λ (a : Attr). octet_string a.attr.name ++ vals_bytes a.vals) attr_inside_sound

pub attr_some : (a : Attr) → 0 < length (attr_bytes a)
unfolding attr_bytes
attr_some a = element_some 0x30 (octet_string a.attr.name ++ vals_bytes a.vals)

attrs_sound : Sound attrs_here attrs_bytes
attrs_sound = exact_sound 0x30 (many attr_here) (flat_map attr_bytes) (many_sound attr_here attr_bytes attr_sound attr_some)

-- ---- modifications

mod_inside_sound : SoundInside mod_inside (λ (m : Mod). integer (kind_number m.kind) ++ octet_string m.attr.name ++ vals_bytes m.vals)
unfolding mod_inside
mod_inside_sound p fits =
    so (kind_sound p fits) (λ k a. so (text_sound k.1 a.fits) (λ name b. so (vals_sound name.1 b.fits) (λ vs c. so (ended_sound vs.1) (λ over none.
    good (record { kind = k.0; attr = record { name = name.0 }; vals = vs.0 })
    (last p.bytes ((integer (kind_number k.0) ++ octet_string name.0) ++ vals_bytes vs.0) vs.1.bytes
    (onto p.bytes (integer (kind_number k.0) ++ octet_string name.0) name.1.bytes (vals_bytes vs.0) vs.1.bytes
    (onto p.bytes (integer (kind_number k.0)) k.1.bytes (octet_string name.0) name.1.bytes a.parts b.parts) c.parts) none)))))

mod_sound : Sound mod_here mod_bytes
unfolding mod_bytes
mod_sound = exact_sound 0x30 mod_inside (λ (m : Mod). integer (kind_number m.kind) ++ octet_string m.attr.name ++ vals_bytes m.vals) mod_inside_sound

pub mod_some : (m : Mod) → 0 < length (mod_bytes m)
unfolding mod_bytes
mod_some m = element_some 0x30 (integer (kind_number m.kind) ++ octet_string m.attr.name ++ vals_bytes m.vals)

-- ---- bodies

-- what is inside the body that has this tag
abbrev IsBodyOf : ℕ → List ℕ → Body → Type 0
IsBodyOf tag bytes b = body_bytes b ≡ element tag bytes

add_inside_sound : (p : Place) → IsBytes p.bytes → Good (λ b. IsBodyOf 0xa0 p.bytes b) (add_inside p)
unfolding add_inside
add_inside_sound p fits =
    so (csn_sound p fits) (λ parent a. so (avas_sound parent.1 a.fits) (λ rdn b. so (attrs_sound rdn.1 b.fits) (λ all c. so (ended_sound all.1) (λ over none.
    good (body.Add (record { csn = parent.0 }) (record { avas = rdn.0 }) all.0)
    (ap (element 0xa0) (sym (last p.bytes ((csn_string parent.0 ++ avas_bytes rdn.0) ++ attrs_bytes all.0) all.1.bytes
    (onto p.bytes (csn_string parent.0 ++ avas_bytes rdn.0) rdn.1.bytes (attrs_bytes all.0) all.1.bytes
    (onto p.bytes (csn_string parent.0) parent.1.bytes (avas_bytes rdn.0) rdn.1.bytes a.parts b.parts) c.parts) none)))))))

mods_inside_sound : (p : Place) → IsBytes p.bytes → Good (λ b. IsBodyOf 0xa1 p.bytes b) (mods_inside p)
unfolding mods_inside
mods_inside_sound p fits = so (many_sound mod_here mod_bytes mod_sound mod_some p fits) (λ mods e. good (body.Mod mods) (ap (element 0xa1) (sym e)))

ren_inside_sound : (p : Place) → IsBytes p.bytes → Good (λ b. IsBodyOf 0xa2 p.bytes b) (ren_inside p)
unfolding ren_inside
ren_inside_sound p fits =
    so (avas_sound p fits) (λ rdn a. so (avas_sound rdn.1 a.fits) (λ dropped b. so (ended_sound dropped.1) (λ over none.
    good (body.Ren (record { avas = rdn.0 }) dropped.0)
    (ap (element 0xa2) (sym (last p.bytes (avas_bytes rdn.0 ++ avas_bytes dropped.0) dropped.1.bytes (onto p.bytes (avas_bytes rdn.0) rdn.1.bytes (avas_bytes dropped.0) dropped.1.bytes a.parts b.parts) none))))))

del_inside_sound : (p : Place) → Good (λ b. IsBodyOf 0x83 p.bytes b) (del_inside p)
unfolding del_inside
del_inside_sound p = either (length p.bytes == 0) (λ z. good body.Del (ap (element 0x83) (sym (no_bytes p.bytes (eqb-true (length p.bytes) 0 z))))) (λ z. stopped _)

-- the last of four tests decides where the others failed
last_of_four : (a b c d : Bool) → (a || b || c || d) ≡ true → a ≡ false → b ≡ false → c ≡ false → d ≡ true
last_of_four true b c d e x y z = absurd cc
last_of_four false true c d e x y z = absurd cc
last_of_four false false true d e x y z = absurd cc
last_of_four false false false d e x y z = e

with_tag : (tag kind : ℕ) (bytes : List ℕ) (b : Body) → (tag == kind) ≡ true → IsBodyOf kind bytes b → IsBodyOf tag bytes b
with_tag tag kind bytes b e h = subst (λ (n : ℕ). IsBodyOf n bytes b) (sym (eqb-true tag kind e)) h

also : {A : Type 0} {P Q : A → Type 0} {r : Result A Fault} → Good P r → ((x : A) → P x → Q x) → Good Q r
also (good x p) h = good x (h x p)
also (stopped s) h = stopped s

body_inside_sound : (tag : ℕ) (p : Place) → is_body_tag tag ≡ true → IsBytes p.bytes → Good (λ b. IsBodyOf tag p.bytes b) (body_inside tag p)
unfolding body_inside
body_inside_sound tag p known fits =
    either (tag == 0xa0) (λ z. also (add_inside_sound p fits) (λ b h. with_tag tag 0xa0 p.bytes b z h))
    (λ x. either (tag == 0xa1) (λ z. also (mods_inside_sound p fits) (λ b h. with_tag tag 0xa1 p.bytes b z h))
    (λ y. either (tag == 0xa2) (λ z. also (ren_inside_sound p fits) (λ b h. with_tag tag 0xa2 p.bytes b z h))
    (λ w. also (del_inside_sound p) (λ b h. with_tag tag 0x83 p.bytes b (last_of_four (tag == 0xa0) (tag == 0xa1) (tag == 0xa2) (tag == 0x83) known x y w) h))))

body_sound : Sound body_here body_bytes
unfolding body_here
body_sound p fits =
    ok_so (tag_here p) (λ tag t. ok_so (cond (is_body_tag tag) (open_exact tag p) (refused p)) (λ o h.
    let c = chosen (is_body_tag tag) (open_exact tag p) (At p.at why.Shape) o h in
    let k = inside_of tag p o fits c.1 in
    so (body_inside_sound tag o.0 c.0 k.inner) (λ b is. good (b, o.1) (record { parts = k.parts ∙ ap (λ (xs : List ℕ). xs ++ o.1.bytes) (sym is); fits = k.rest }))))

-- ---- the row

row_inside_sound : SoundInside row_inside (λ (c : Change). integer 1 ++ csn_string c.csn ++ csn_string c.target.csn ++ body_bytes c.body)
unfolding row_inside
row_inside_sound p fits =
    so (version_sound p fits) (λ v a. so (csn_sound v.1 a.fits) (λ c b. so (csn_sound c.1 b.fits) (λ target d. so (body_sound target.1 d.fits) (λ body e. so (ended_sound body.1) (λ over none.
    good (record { csn = c.0; target = record { csn = target.0 }; body = body.0 })
    (last p.bytes (((integer 1 ++ csn_string c.0) ++ csn_string target.0) ++ body_bytes body.0) body.1.bytes
    (onto p.bytes ((integer 1 ++ csn_string c.0) ++ csn_string target.0) target.1.bytes (body_bytes body.0) body.1.bytes
    (onto p.bytes (integer 1 ++ csn_string c.0) c.1.bytes (csn_string target.0) target.1.bytes
    (onto p.bytes (integer 1) v.1.bytes (csn_string c.0) c.1.bytes a.parts b.parts) d.parts) e.parts) none))))))

row_found : (bytes : List ℕ) → IsBytes bytes → Good (λ c. bytes ≡ row_of c) (row_at bytes)
unfolding row_at row_of
row_found bytes fits =
    let p : Place = record { start = 0; at = 0; bytes = bytes } in
    so (exact_sound 0x30 row_inside (λ (c : Change). integer 1 ++ csn_string c.csn ++ csn_string c.target.csn ++ body_bytes c.body) row_inside_sound p fits) (λ row a. so (ended_sound row.1) (λ over none.
    good row.0 (last bytes (element 0x30 (integer 1 ++ csn_string row.0.csn ++ csn_string row.0.target.csn ++ body_bytes row.0.body)) row.1.bytes a.parts none)))

-- bytes that are read are the row of what is read
pub one_spelling : (bytes : List ℕ) (c : Change) → IsBytes bytes → row_at bytes ≡ Ok c → bytes ≡ row_of c
one_spelling bytes c fits e = value (row_found bytes fits) c e

pub found_by : (bytes : List ℕ) (r : Result Change RowFault) → IsBytes bytes → Gives (λ c. c) r (row_at bytes) → IfOk r (λ c. bytes ≡ row_of c)
found_by bytes (Ok c) fits g = one_spelling bytes c fits g
found_by bytes (Err e) fits g = tt

-- what holds of the reading at these bytes holds of what the reader gave
pub only_by : (bytes : List ℕ) (r : Result Change RowFault) (read : Result Change Fault) → Gives (λ c. c) r (row_at bytes) → row_at bytes ≡ read → Gives (λ c. c) r read
only_by bytes r read g e = subst (λ (a : Result Change Fault). Gives (λ c. c) r a) e g

-- What is written is read back: the parts of a row, and the row.
use Rattle.std.proofs.Common.{◌≡◌, ℕ, ◌%◌, true, false, eqb, List, [], ◌++◌, Ok, refl, subst}
use Rattle.std.specs.Prelude.{pos}
use Rattle.std.specs.List.{flat_map}
use Rattle.ber_core.specs.Element.{element}
use Rattle.ber_core.specs.Number.{shortest_integer}
use Rattle.repl_data.specs.declared.csn.Csn.{Csn}
use Rattle.repl_data.specs.declared.csn.Uid.{Uid}
use Rattle.repl_data.specs.declared.change.Val.{Val}
use Rattle.repl_data.specs.declared.change.Ava.{Ava}
use Rattle.repl_data.specs.declared.change.Attr.{Attr}
use Rattle.repl_data.specs.declared.change.Mod.{Mod}
use Rattle.repl_data.specs.declared.change.ModKind.{ModKind}
use Rattle.repl_data.specs.declared.change.Rdn.{Rdn}
use Rattle.repl_data.specs.declared.change.Body.{Body}
use Rattle.repl_data.specs.declared.change.Body.TheVariants as body
use Rattle.repl_data.specs.declared.change.Change.{Change}
use Rattle.repl_data.specs.Text.{csn_bytes, IsInRange}
use Rattle.row_bytes.specs.Form.{octet_string, integer, csn_string, val_bytes, vals_bytes, ava_bytes, avas_bytes, attr_bytes, attrs_bytes, kind_number, mod_bytes, body_bytes, row_of, HasParentInRange, IsChangeInRange}
use Rattle.row_bytes.specs.Place.{Place, inside, after, many}
use Rattle.row_bytes.specs.Grammar.{octets, text, csn_inside, csn_here, version_inside, version_here, kind_inside, kind_here, val_inside, val_here, vals_here, ava_inside, ava_here, avas_here, attr_inside, attr_here, attrs_here, mod_inside, mod_here, add_inside, mods_inside, ren_inside, del_inside, is_body_tag, body_inside, body_here, row_inside, row_at}
use Rattle.row_bytes.proofs.FoundRow.{val_some, ava_some, attr_some, mod_some}
use Rattle.row_bytes.proofs.Back.{Holds, ReadsBack, InsideReadsBack, regroup, with_end, tag_back, parts_of, opens, inside_holds, after_holds, exact_back, ended_back, many_back, octets_back, csn_inside_back, version_inside_back, kind_inside_back}

text_back : (bytes : List ℕ) → ReadsBack text bytes (octet_string bytes)
text_back bytes = exact_back 0x04 octets bytes bytes refl (octets_back bytes)

csn_back : (c : Csn) → IsInRange c → ReadsBack csn_here c (csn_string c)
csn_back c i = exact_back 0x04 csn_inside c (csn_bytes c) refl (csn_inside_back c i)

version_back : ReadsBack version_here tt (integer 1)
version_back = exact_back 0x02 version_inside tt (shortest_integer (pos 1)) refl version_inside_back

kind_back : (k : ModKind) → ReadsBack kind_here k (integer (kind_number k))
kind_back k = exact_back 0x02 kind_inside k (shortest_integer (pos (kind_number k))) refl (kind_inside_back k)

-- ---- values

val_inside_back : (v : Val) → InsideReadsBack val_inside v (octet_string v.key ++ octet_string v.spelled)
unfolding val_inside
val_inside_back v p h =
    let s1 = text_back v.key p (octet_string v.spelled) h in
    let s2 = text_back v.spelled s1.0 [] (with_end s1.0 (octet_string v.spelled) s1.1) in
    let over = ended_back s2.0 s2.1 in
    let e1 = s1.2 in let e2 = s2.2 in
    rw (e1, e2, over) refl

val_back : (v : Val) → ReadsBack val_here v (val_bytes v)
unfolding val_bytes
val_back v = exact_back 0x30 val_inside v (octet_string v.key ++ octet_string v.spelled) refl (val_inside_back v)

vals_back : (vals : List Val) → ReadsBack vals_here vals (vals_bytes vals)
vals_back vals = exact_back 0x30 (many val_here) vals (flat_map val_bytes vals) refl (many_back val_here val_bytes val_back val_some vals)

-- ---- parts of names

ava_inside_back : (a : Ava) → InsideReadsBack ava_inside a (octet_string a.attr.name ++ octet_string a.val.key ++ octet_string a.val.spelled)
unfolding ava_inside
ava_inside_back a p h =
    let s1 = text_back a.attr.name p (octet_string a.val.key ++ octet_string a.val.spelled) (regroup p (octet_string a.attr.name) (octet_string a.val.key) (octet_string a.val.spelled) h) in
    let s2 = text_back a.val.key s1.0 (octet_string a.val.spelled) s1.1 in
    let s3 = text_back a.val.spelled s2.0 [] (with_end s2.0 (octet_string a.val.spelled) s2.1) in
    let over = ended_back s3.0 s3.1 in
    let e1 = s1.2 in let e2 = s2.2 in let e3 = s3.2 in
    rw (e1, e2, e3, over) refl

ava_back : (a : Ava) → ReadsBack ava_here a (ava_bytes a)
unfolding ava_bytes
ava_back a = exact_back 0x30 ava_inside a (octet_string a.attr.name ++ octet_string a.val.key ++ octet_string a.val.spelled) refl (ava_inside_back a)

avas_back : (avas : List Ava) → ReadsBack avas_here avas (avas_bytes avas)
avas_back avas = exact_back 0x30 (many ava_here) avas (flat_map ava_bytes avas) refl (many_back ava_here ava_bytes ava_back ava_some avas)

-- ---- attributes

attr_inside_back : (a : Attr) → InsideReadsBack attr_inside a (octet_string a.attr.name ++ vals_bytes a.vals)
unfolding attr_inside
attr_inside_back a p h =
    let s1 = text_back a.attr.name p (vals_bytes a.vals) h in
    let s2 = vals_back a.vals s1.0 [] (with_end s1.0 (vals_bytes a.vals) s1.1) in
    let over = ended_back s2.0 s2.1 in
    let e1 = s1.2 in let e2 = s2.2 in
    rw (e1, e2, over) refl

attr_back : (a : Attr) → ReadsBack attr_here a (attr_bytes a)
unfolding attr_bytes
attr_back a = exact_back 0x30 attr_inside a (octet_string a.attr.name ++ vals_bytes a.vals) refl (attr_inside_back a)

attrs_back : (attrs : List Attr) → ReadsBack attrs_here attrs (attrs_bytes attrs)
attrs_back attrs = exact_back 0x30 (many attr_here) attrs (flat_map attr_bytes attrs) refl (many_back attr_here attr_bytes attr_back attr_some attrs)

-- ---- modifications

mod_inside_back : (m : Mod) → InsideReadsBack mod_inside m (integer (kind_number m.kind) ++ octet_string m.attr.name ++ vals_bytes m.vals)
unfolding mod_inside
mod_inside_back m p h =
    let s1 = kind_back m.kind p (octet_string m.attr.name ++ vals_bytes m.vals) (regroup p (integer (kind_number m.kind)) (octet_string m.attr.name) (vals_bytes m.vals) h) in
    let s2 = text_back m.attr.name s1.0 (vals_bytes m.vals) s1.1 in
    let s3 = vals_back m.vals s2.0 [] (with_end s2.0 (vals_bytes m.vals) s2.1) in
    let over = ended_back s3.0 s3.1 in
    let e1 = s1.2 in let e2 = s2.2 in let e3 = s3.2 in
    rw (e1, e2, e3, over) refl

mod_back : (m : Mod) → ReadsBack mod_here m (mod_bytes m)
unfolding mod_bytes
mod_back m = exact_back 0x30 mod_inside m (integer (kind_number m.kind) ++ octet_string m.attr.name ++ vals_bytes m.vals) refl (mod_inside_back m)

-- ---- bodies

add_inside_back : (parent : Uid) (rdn : Rdn) (attrs : List Attr) → IsInRange parent.csn → InsideReadsBack add_inside (body.Add parent rdn attrs) (csn_string parent.csn ++ avas_bytes rdn.avas ++ attrs_bytes attrs)
unfolding add_inside
add_inside_back parent rdn attrs i p h =
    let s1 = csn_back parent.csn i p (avas_bytes rdn.avas ++ attrs_bytes attrs) (regroup p (csn_string parent.csn) (avas_bytes rdn.avas) (attrs_bytes attrs) h) in
    let s2 = avas_back rdn.avas s1.0 (attrs_bytes attrs) s1.1 in
    let s3 = attrs_back attrs s2.0 [] (with_end s2.0 (attrs_bytes attrs) s2.1) in
    let over = ended_back s3.0 s3.1 in
    let e1 = s1.2 in let e2 = s2.2 in let e3 = s3.2 in
    rw (e1, e2, e3, over) refl

mods_inside_back : (mods : List Mod) → InsideReadsBack mods_inside (body.Mod mods) (flat_map mod_bytes mods)
unfolding mods_inside
mods_inside_back mods p h = let e = many_back mod_here mod_bytes mod_back mod_some mods p h in rw e refl

ren_inside_back : (rdn : Rdn) (dropped : List Ava) → InsideReadsBack ren_inside (body.Ren rdn dropped) (avas_bytes rdn.avas ++ avas_bytes dropped)
unfolding ren_inside
ren_inside_back rdn dropped p h =
    let s1 = avas_back rdn.avas p (avas_bytes dropped) h in
    let s2 = avas_back dropped s1.0 [] (with_end s1.0 (avas_bytes dropped) s1.1) in
    let over = ended_back s2.0 s2.1 in
    let e1 = s1.2 in let e2 = s2.2 in
    rw (e1, e2, over) refl

del_inside_back : InsideReadsBack del_inside body.Del []
unfolding del_inside
del_inside_back p h = let e = h.is in rw e refl

record IsBodyIn (b : Body) (bytes : List ℕ) : Type 0 where
  tag : ℕ
  inner : List ℕ
  spelled : bytes ≡ element tag inner
  known : is_body_tag tag ≡ true
  tag_form : eqb (tag % 32) 31 ≡ false
  back : InsideReadsBack (body_inside tag) b inner

body_in : (b : Body) → HasParentInRange b → IsBodyIn b (body_bytes b)
unfolding body_inside
body_in (body.Add parent rdn attrs) i = record { tag = 0xa0; inner = csn_string parent.csn ++ avas_bytes rdn.avas ++ attrs_bytes attrs; spelled = refl; known = refl; tag_form = refl; back = add_inside_back parent rdn attrs i }
body_in (body.Mod mods) i = record { tag = 0xa1; inner = flat_map mod_bytes mods; spelled = refl; known = refl; tag_form = refl; back = mods_inside_back mods }
body_in (body.Ren rdn dropped) i = record { tag = 0xa2; inner = avas_bytes rdn.avas ++ avas_bytes dropped; spelled = refl; known = refl; tag_form = refl; back = ren_inside_back rdn dropped }
body_in body.Del i = record { tag = 0x83; inner = []; spelled = refl; known = refl; tag_form = refl; back = del_inside_back }

body_back : (b : Body) → HasParentInRange b → ReadsBack body_here b (body_bytes b)
unfolding body_here
body_back b i p others h =
    let k = body_in b i in
    let hold : Holds p (element k.tag k.inner ++ others) = subst (λ (bytes : List ℕ). Holds p (bytes ++ others)) k.spelled h in
    let first = tag_back p k.tag k.inner others k.tag_form hold in
    let known = k.known in
    let opened = opens p k.tag k.inner others k.tag_form hold in
    let inner = k.back (inside p (parts_of k.tag k.inner)) (inside_holds p k.tag k.inner others hold) in
    (after p (parts_of k.tag k.inner), after_holds p k.tag k.inner others hold, rw (first, known, opened, inner) refl)

-- ---- the row

row_inside_back : (c : Change) → IsInRange c.csn → IsInRange c.target.csn → HasParentInRange c.body → InsideReadsBack row_inside c (integer 1 ++ csn_string c.csn ++ csn_string c.target.csn ++ body_bytes c.body)
unfolding row_inside
row_inside_back c i j k p h =
    let a = csn_string c.csn in
    let b = csn_string c.target.csn in
    let d = body_bytes c.body in
    let s1 = version_back p (a ++ (b ++ d)) (regroup p (integer 1) a (b ++ d) (regroup p (integer 1 ++ a) b d h)) in
    let s2 = csn_back c.csn i s1.0 (b ++ d) s1.1 in
    let s3 = csn_back c.target.csn j s2.0 d s2.1 in
    let s4 = body_back c.body k s3.0 [] (with_end s3.0 d s3.1) in
    let over = ended_back s4.0 s4.1 in
    let e1 = s1.2 in let e2 = s2.2 in let e3 = s3.2 in let e4 = s4.2 in
    rw (e1, e2, e3, e4, over) refl

pub row_back : (c : Change) → IsChangeInRange c → row_at (row_of c) ≡ Ok c
unfolding row_at row_of
row_back c i =
    let inner = integer 1 ++ csn_string c.csn ++ csn_string c.target.csn ++ body_bytes c.body in
    let p : Place = record { start = 0; at = 0; bytes = element 0x30 inner } in
    let hold : Holds p (element 0x30 inner) = record { is = refl; small = i.size } in
    let s = exact_back 0x30 row_inside c inner refl (row_inside_back c i.csn i.target i.parent) p [] (with_end p (element 0x30 inner) hold) in
    let over = ended_back s.0 s.1 in
    let e = s.2 in
    rw (e, over) refl

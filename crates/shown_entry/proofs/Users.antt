-- User attributes that are kept to be shown, and the attributes that they are.
use Rattle.std.proofs.Common.{◌≡◌, ℕ, Bool, true, false, List, [], ◌∷◌, ◌++◌, map, refl, sym, ap, ◌∙◌}
use Rattle.std.specs.Prelude.{codes, Option, if◌then◌else◌}
use Rattle.repl_data.specs.declared.csn.Uid.{Uid}
use Rattle.repl_data.specs.declared.change.Val.{Val}
use Rattle.repl_data.specs.declared.change.Attr.{Attr}
use Rattle.repl_data.specs.declared.change.Shown.{Shown}
use Rattle.repl_data.specs.Order.{bytes_cmp, bytes_eq}
use Rattle.repl_data.specs.View.{user, vals_at, put_val, with_class, key_named, glue_class, tombstone_class, id_val, operational, conflicts, shown_present, shown_gone}
use Rattle.repl_data.proofs.Loops.{put_by_map}
use Rattle.shown_entry.specs.Users.{vals_in, put_shown, classed, in_name_order, present_attrs, gone_attrs}

vals_of_users : (name : List ℕ) (attrs : List Attr) → vals_in name (map user attrs) ≡ vals_at name attrs
vals_of_users name [] = refl
vals_of_users name (a ∷ attrs) = ap (λ r. (if bytes_eq a.attr.name name then a.vals else []) ++ r) (vals_of_users name attrs)

abbrev class_attr : Val → List Val → Attr
class_attr class vals = record { attr = key_named (codes "objectclass"); vals = put_val class vals }

pub classed_users : (class : Val) (attrs : List Attr) → classed class (map user attrs) ≡ map user (with_class class attrs)
classed_users class attrs =
    ap (λ vals. put_shown (user (class_attr class vals)) (map user attrs)) (vals_of_users (codes "objectclass") attrs)
    ∙ sym (put_by_map (λ (s : Shown). s.attr.name) bytes_cmp user (class_attr class (vals_at (codes "objectclass") attrs)) attrs)

glue_users : (glue : Bool) (attrs : List Attr) → (if glue then classed glue_class (map user attrs) else map user attrs) ≡ map user (if glue then with_class glue_class attrs else attrs)
glue_users true attrs = classed_users glue_class attrs
glue_users false attrs = refl

pub present_from : (id : Uid) (dn : List ℕ) (glue : Bool) (lost : Option (List ℕ)) (users : List Shown) (attrs : List Attr) → users ≡ map user attrs → record { id = id; dn = dn; attrs = present_attrs id glue lost users } ≡ shown_present id dn glue lost attrs
unfolding present_attrs
present_from id dn glue lost users attrs h =
    let own : List Shown = operational (codes "nsuniqueid") (id_val id ∷ []) ++ operational (codes "nsds5replconflict") (conflicts glue lost) in
    ap (λ us. record { id = id; dn = dn; attrs = present_attrs id glue lost us }) h
    ∙ ap (λ us. record { id = id; dn = dn; attrs = in_name_order (own ++ us) }) (glue_users glue attrs)

pub gone_from : (id : Uid) (dn : List ℕ) (parent : Uid) (users : List Shown) (attrs : List Attr) → users ≡ map user attrs → record { id = id; dn = dn; attrs = gone_attrs id parent users } ≡ shown_gone id dn parent attrs
unfolding gone_attrs
gone_from id dn parent users attrs h =
    let own : List Shown = operational (codes "nsuniqueid") (id_val id ∷ []) ++ operational (codes "nsparentuniqueid") (id_val parent ∷ []) in
    ap (λ us. record { id = id; dn = dn; attrs = gone_attrs id parent us }) h
    ∙ ap (λ us. record { id = id; dn = dn; attrs = in_name_order (own ++ us) }) (classed_users tombstone_class attrs)

-- An update comes back from its request.
use Rattle.std.proofs.Common.{◌≡◌, ◌≢◌, ℕ, ◌+◌, ◌≤◌, ◌<◌, ◌^◌, Bool, true, false, cond, List, [], ◌∷◌, ◌++◌, length, map, Option, Some, None, Ok, refl, ap, ◌∙◌, append-nil, ltb-false}
use Rattle.std.specs.Prelude.{not, ◌==◌, ◌||◌, nat_lt, option_map}
use Rattle.std.specs.List.{position_from}
use Rattle.std.specs.Ordering.{is_lt}
use Rattle.dn_text.specs.Laws.{IsReadablePart, IsBelowAll, AreReadableParts}
use Rattle.dn_text.specs.Reading.{comes_before}
use Rattle.dn_text.proofs.Rising.{below-trans}
use Rattle.dn_text.proofs.RoundTrip.{printed-read}
use Rattle.repl_data.specs.declared.csn.Uid.{Uid}
use Rattle.repl_data.specs.declared.change.Ava.{Ava}
use Rattle.repl_data.specs.declared.change.Rdn.{Rdn}
use Rattle.repl_data.specs.declared.change.Body.{Body}
use Rattle.repl_data.specs.declared.change.Body.TheVariants as body
use Rattle.repl_data.specs.declared.change.Change.{Change}
use Rattle.repl_data.specs.declared.change.Update.{Update}
use Rattle.repl_data.specs.declared.change.Malformed.{Malformed}
use Rattle.repl_data.specs.declared.change.Malformed.TheVariants as malformed
use Rattle.repl_data.specs.Check.{weight, greatest_weight, fault_if, fault_at, either_fault, is_empty, falls_after, parts_of, part_falls, is_out_of_order, is_of_root, has_too_many, empty_places, double_places, derived_places, lacks_name_value, fault_of}
use Rattle.repl_data.specs.Order.{bytes_cmp}
use Rattle.repl_data.specs.Text.{IsInRange}
use Rattle.repl_data.proofs.Sound.{not_false}
use Rattle.repl_wire.specs.Fault.{in_value}
use Rattle.repl_wire.specs.Keys.{Every, IsKeyedPart, HasKeys}
use Rattle.repl_wire.specs.Laws.{IsSoundUpdate}
use Rattle.repl_wire.specs.Update.{some_id, object_of, target_of, control_of, only_rdn, rdn_of, add_of, no_origin, no_fields, mods_of, fits, rename_of, delete_of, body_of, update_of}
use Rattle.repl_wire.specs.UpdateForm.{update_name, id_name, name_text, control_value, write_of, update_control, update_request}
use Rattle.repl_wire.proofs.ControlBack.{uid_back, parent_of, name_of, all_dropped_of, control_back}
use Rattle.repl_wire.proofs.Carried.{ok, attrs_back, mods_back, dropped_of, parts_back}

-- ---- what `check` says

-- the faults of a change, one by one
pub record Passes (c : Change) : Type 0 where
  pub light : weight c.body ≤ 2097152
  pub some : position_from (λ b. b) 0 (empty_places c.body) ≡ None
  pub rising : position_from (λ b. b) 0 (double_places c.body) ≡ None

neither : (o p : Option Malformed) → either_fault o p ≡ None → (o ≡ None) × (p ≡ None)
neither None p e = (refl, e)
neither (Some f) p e = absurd cc

not_so : (b : Bool) (f : Malformed) → fault_if b f ≡ None → b ≡ false
not_so false f e = refl
not_so true f e = absurd cc

no_place : (f : ℕ → Malformed) (o : Option ℕ) → option_map f o ≡ None → o ≡ None
no_place f None e = refl
no_place f (Some n) e = absurd cc

pub passes : (c : Change) → fault_of c ≡ None → Passes c
passes c e =
    let a = neither (fault_if ((c.csn.rid == 0) || (c.csn.rid == 65535)) malformed.Rid) _ e in
    let b = neither (fault_if (not (c.csn.sub == 0)) malformed.Sub) _ a.1 in
    let d = neither (fault_if (is_out_of_order c.csn c.target c.body) malformed.Order) _ b.1 in
    let f = neither (fault_if (is_of_root c.target c.body) malformed.Root) _ d.1 in
    let g = neither (fault_if (has_too_many c.body) malformed.TooMany) _ f.1 in
    let h = neither (fault_if (nat_lt greatest_weight (weight c.body)) malformed.TooHeavy) _ g.1 in
    let i = neither (fault_at malformed.Empty (empty_places c.body)) _ h.1 in
    let j = neither (fault_at malformed.DoubleKey (double_places c.body)) (either_fault (fault_at malformed.Derived (derived_places c.body)) (either_fault (fault_if (lacks_name_value c.body) malformed.NameValue) None)) i.1 in
    record {
      light = ltb-false greatest_weight (weight c.body) (not_so _ malformed.TooHeavy h.0);
      some = no_place malformed.Empty _ i.0;
      rising = no_place malformed.DoubleKey _ j.0;
    }

-- ---- relative names

some_parts : (avas : List Ava) (more : List Bool) → position_from (λ b. b) 0 (parts_of (record { avas = avas }) ++ more) ≡ None → avas ≢ []
some_parts [] more e is = absurd cc
some_parts (a ∷ avas) more e is = absurd cc

not_first : (b : Bool) (n : ℕ) (o : Option ℕ) → cond b (Some n) o ≡ None → (b ≡ false) × (o ≡ None)
not_first false n o e = (refl, e)
not_first true n o e = absurd cc

abbrev name_key : Ava → List ℕ
name_key a = a.attr.name

part : (a : Ava) → IsKeyedPart a → IsReadablePart a
part a k =
    let n = k.0 in
    let v = k.1 in
    record { is_name = n.is_name; attr = n.own; accepted = v.accepted; key = v.key }

readable_after : (a : Ava) (avas : List Ava) (more : List Bool) (n : ℕ) → position_from (λ b. b) n (falls_after name_key a avas ++ more) ≡ None → Every IsKeyedPart (a ∷ avas) → IsBelowAll a avas × AreReadableParts (a ∷ avas)
readable_after a [] more n e k = (tt, (part a k.0, tt, tt))
readable_after a (b ∷ avas) more n e k =
    let p = not_first (not (is_lt (bytes_cmp a.attr.name b.attr.name))) n _ e in
    let up : comes_before a b ≡ true = not_false (is_lt (bytes_cmp a.attr.name b.attr.name)) p.0 in
    let r = readable_after b avas more (n + 1) p.1 k.1 in
    let below : IsBelowAll a (b ∷ avas) = (up, below-trans a b avas up r.0) in
    (below, (part a k.0, below, r.1))

pub readable : (avas : List Ava) (more : List Bool) → position_from (λ b. b) 0 (part_falls avas ++ more) ≡ None → Every IsKeyedPart avas → AreReadableParts avas
readable [] more e k = tt
readable (a ∷ avas) more e k = (readable_after a avas more 1 e k).1

rdn_back : (rdn : Rdn) → rdn.avas ≢ [] → AreReadableParts rdn.avas → rdn_of (name_text rdn) ≡ ok rdn
unfolding rdn_of
rdn_back rdn some r = ap only_rdn (printed-read (record { rdns = rdn ∷ [] }) (some, r, tt))

-- ---- the request

object_back : (object : List ℕ) (b : Body) → object_of (write_of object b) ≡ ok object
object_back object (body.Add parent rdn attrs) = refl
object_back object (body.Mod mods) = refl
object_back object (body.Ren rdn dropped) = refl
object_back object body.Del = refl

control_is_one : (u : Update) → control_of (update_control u ∷ []) ≡ ok (control_value u)
unfolding update_name
control_is_one u = refl

target_back : (t : Uid) → IsInRange t.csn → target_of (id_name t) ≡ ok t
unfolding id_name
target_back t r = ap some_id (uid_back t r)

fits_back : (dropped : List Ava) → fits (map dropped_of dropped) (not (is_empty dropped)) None ≡ Ok tt
fits_back [] = refl
fits_back (a ∷ dropped) = refl

body_back : (u : Update) (object : List ℕ) (b : Body) → u.change.body ≡ b → HasKeys b → position_from (λ p. p) 0 (empty_places b) ≡ None → position_from (λ p. p) 0 (double_places b) ≡ None
    → body_of (record { csn = u.change.csn; prev = u.prev; parent = parent_of b; name = name_of b; dropped = all_dropped_of b }) (write_of object b) ≡ ok b
unfolding add_of no_origin no_fields mods_of rename_of delete_of
body_back u object (body.Add parent rdn attrs) is k some rising =
    let p = rdn_back rdn (some_parts rdn.avas _ some) (readable rdn.avas _ rising k.0) in
    let q = attrs_back attrs k.1 in
    rw (p, q) refl
body_back u object (body.Mod mods) is k some rising = let q = mods_back mods k in rw q refl
body_back u object (body.Ren rdn dropped) is k some rising =
    let p = rdn_back rdn (some_parts rdn.avas [] (ap (position_from (λ b. b) 0) (append-nil (parts_of rdn)) ∙ some)) (readable rdn.avas _ rising k.0) in
    let f = fits_back dropped in
    let q = parts_back dropped k.1 in
    rw (f, p, q) refl
body_back u object body.Del is k some rising = refl

pub update_back : (id : ℕ) (u : Update) → IsSoundUpdate u → length (control_value u) < 2 ^ 64 → update_of (update_request id u) ≡ ok u
unfolding update_of
update_back id u s small =
    let c = passes u.change s.checked in
    let r = s.in_range in
    let a = object_back (id_name u.change.target) u.change.body in
    let b = control_is_one u in
    let d = ap in_value (control_back u r small) in
    let e = target_back u.change.target r.target in
    let f = body_back u (id_name u.change.target) u.change.body refl s.keyed c.some c.rising in
    rw (a, b, d, e, f) refl

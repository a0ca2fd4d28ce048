-- Values and attributes, one after the other.
use Rattle.std.proofs.Common.{◌≡◌, ℕ, ◌+◌, ◌<◌, ◌≤◌, List, length, get_or, drop, Result, Ok, sym, ap, subst, ◌∙◌}
use Rattle.std.specs.Prelude.{fold, cond, Bool, false, Some}
use Rattle.std.proofs.lemmas.List.{at_drop_more, at_drop_all}
use Rattle.repl_data.specs.declared.change.AttrKey.{AttrKey}
use Rattle.repl_data.specs.declared.change.Val.{Val}
use Rattle.repl_data.specs.declared.change.Ava.{Ava}
use Rattle.repl_data.specs.declared.change.Attr.{Attr}
use Rattle.ldap_types.specs.declared.request.RawAttr.{RawAttr}
use Rattle.rule_values.specs.declared.fault.Refusal.{Refusal}
use Rattle.rule_values.specs.declared.fault.Refusal.TheVariants.{BadName}
use Rattle.rule_values.specs.declared.fault.ValueFault.{ValueFault}
use Rattle.rule_values.specs.declared.fault.ValueFault.TheVariants.{NoMemory, Refused}
use Rattle.attr_keys.specs.Name.{bad_name}
use Rattle.repl_data.specs.Check.{has_value}
use Rattle.repl_data.specs.View.{put_attr, put_val, vals_at}
use Rattle.rule_values.specs.Refusing.{◌>>=◌, Fails}
use Rattle.rule_values.specs.Listed.{named, read_name, value_beside, values_beside, attribute_beside, attributes_beside, with_part}

-- a step of a reading that goes on, and one that fails
pub go_on : {A B : Type 0} (r : Result A Refusal) (a : A) (f : A → Result B Refusal) → r ≡ Ok a → (r >>= f) ≡ f a
go_on r a f e = ap (λ x. x >>= f) e

pub stop : {A B : Type 0} (r : Result A Refusal) (e : ValueFault) (f : A → Result B Refusal) → Fails e r → Fails e (r >>= f)
stop r NoMemory f h = tt
stop r (Refused x) f h = ap (λ y. y >>= f) h

pub values_go : (attr : AttrKey) (vals next : List Val) (given : List (List ℕ)) (i : ℕ) (s d : List ℕ) (total : Result (List Val) Refusal) → i < length given → s ≡ get_or given i d → values_beside attr vals (drop i given) ≡ total → value_beside attr vals s ≡ Ok next → values_beside attr next (drop (i + 1) given) ≡ total
unfolding values_beside
values_go attr vals next given i s d total l e so_far h =
    sym (at_drop_more (values_beside attr vals) given i d l ∙ go_on (value_beside attr vals (get_or given i d)) next _ (ap (value_beside attr vals) (sym e) ∙ h)) ∙ so_far

pub values_stop : (attr : AttrKey) (vals : List Val) (given : List (List ℕ)) (i : ℕ) (s d : List ℕ) (total : Result (List Val) Refusal) (e : ValueFault) → i < length given → s ≡ get_or given i d → values_beside attr vals (drop i given) ≡ total → Fails e (value_beside attr vals s) → Fails e total
unfolding values_beside
values_stop attr vals given i s d total e l is so_far h =
    subst (Fails e) (sym (at_drop_more (values_beside attr vals) given i d l) ∙ so_far) (stop (value_beside attr vals (get_or given i d)) e _ (subst (λ x. Fails e (value_beside attr vals x)) is h))

pub values_end : (attr : AttrKey) (vals : List Val) (given : List (List ℕ)) (i : ℕ) (total : Result (List Val) Refusal) → length given ≤ i → values_beside attr vals (drop i given) ≡ total → total ≡ Ok vals
unfolding values_beside
values_end attr vals given i total l so_far = sym so_far ∙ at_drop_all (values_beside attr vals) given i l

pub attributes_go : (attrs next : List Attr) (given : List RawAttr) (i : ℕ) (a : RawAttr) (total : Result (List Attr) Refusal) → i < length given → a ≡ get_or given i a → attributes_beside attrs (drop i given) ≡ total → attribute_beside attrs a ≡ Ok next → attributes_beside next (drop (i + 1) given) ≡ total
unfolding attributes_beside
attributes_go attrs next given i a total l e so_far h =
    sym (at_drop_more (attributes_beside attrs) given i a l ∙ go_on (attribute_beside attrs (get_or given i a)) next _ (ap (attribute_beside attrs) (sym e) ∙ h)) ∙ so_far

pub attributes_stop : (attrs : List Attr) (given : List RawAttr) (i : ℕ) (a : RawAttr) (total : Result (List Attr) Refusal) (e : ValueFault) → i < length given → a ≡ get_or given i a → attributes_beside attrs (drop i given) ≡ total → Fails e (attribute_beside attrs a) → Fails e total
unfolding attributes_beside
attributes_stop attrs given i a total e l is so_far h =
    subst (Fails e) (sym (at_drop_more (attributes_beside attrs) given i a l) ∙ so_far) (stop (attribute_beside attrs (get_or given i a)) e _ (subst (λ x. Fails e (attribute_beside attrs x)) is h))

pub attributes_end : (attrs : List Attr) (given : List RawAttr) (i : ℕ) (total : Result (List Attr) Refusal) → length given ≤ i → attributes_beside attrs (drop i given) ≡ total → total ≡ Ok attrs
unfolding attributes_beside
attributes_end attrs given i total l so_far = sym so_far ∙ at_drop_all (attributes_beside attrs) given i l

pub parts_go : (attrs next : List Attr) (avas : List Ava) (i : ℕ) (a : Ava) (total : List Attr) → i < length avas → a ≡ get_or avas i a → fold with_part attrs (drop i avas) ≡ total → next ≡ with_part attrs a → fold with_part next (drop (i + 1) avas) ≡ total
parts_go attrs next avas i a total l e so_far h =
    ap (λ (x : List Attr). fold with_part x (drop (i + 1) avas)) (h ∙ ap (with_part attrs) e) ∙ sym (at_drop_more (fold with_part attrs) avas i a l) ∙ so_far

pub parts_end : (attrs : List Attr) (avas : List Ava) (i : ℕ) (total : List Attr) → length avas ≤ i → fold with_part attrs (drop i avas) ≡ total → attrs ≡ total
parts_end attrs avas i total l so_far = sym (at_drop_all (fold with_part attrs) avas i l) ∙ so_far

-- ---- one value, one attribute

pub name_refused : (name : List ℕ) (place : ℕ) (e : ValueFault) → bad_name name ≡ Some place → e ≡ Refused BadName → Fails e (read_name name)
name_refused name place e found h = subst (λ (x : ValueFault). Fails x (read_name name)) (sym h) (ap (named name) found)

pub part_put : (before rest new : List Attr) (ava : Ava) (own vals : List Val) (attr : AttrKey) (val : Val) →
    has_value before ava ≡ false → record { attr = attr; val = val } ≡ ava → own ≡ vals_at attr.name before → vals ≡ put_val val own
    → ((vs : List Val) → put_attr (record { attr = attr; vals = vs }) rest ≡ put_attr (record { attr = attr; vals = vs }) before)
    → new ≡ put_attr (record { attr = attr; vals = vals }) rest → new ≡ with_part before ava
part_put before rest new ava own vals attr val none same o v put h =
    h ∙ put vals ∙ ap (λ (vs : List Val). put_attr (record { attr = attr; vals = vs }) before) (v ∙ ap (put_val val) o)
    ∙ ap (λ (a : Ava). put_attr (record { attr = a.attr; vals = put_val a.val (vals_at a.attr.name before) }) before) same
    ∙ ap (λ (b : Bool). cond b before (put_attr (record { attr = ava.attr; vals = put_val ava.val (vals_at ava.attr.name before) }) before)) (sym none)

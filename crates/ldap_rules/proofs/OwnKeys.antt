-- What a client spells is read with its keys.
use Rattle.std.proofs.Common.{◌≡◌, ℕ, Bool, true, false, cond, List, [], ◌∷◌, ◌++◌, Result, Ok, Err, refl, sym, ap, subst, ◌∙◌, Option, Some, None}
use Rattle.std.specs.Prelude.{◌&&◌, fold, if◌then◌else◌}
use Rattle.std.specs.List.{AllByRecursion, list_any}
use Rattle.repl_data.specs.declared.change.AttrKey.{AttrKey}
use Rattle.repl_data.specs.declared.change.Val.{Val}
use Rattle.repl_data.specs.declared.change.Ava.{Ava}
use Rattle.repl_data.specs.declared.change.Attr.{Attr}
use Rattle.repl_data.specs.Order.{bytes_cmp, bytes_eq}
use Rattle.repl_data.specs.Types.{is_derived_attribute, is_derived_value}
use Rattle.repl_data.specs.Check.{is_empty, has_value}
use Rattle.repl_data.specs.View.{put_attr, put_val, vals_at}
use Rattle.repl_data.proofs.InOrder.{is_equal}
use Rattle.attr_keys.specs.Name.{bad_name}
use Rattle.attr_keys.specs.Table.{key_of, kind_of}
use Rattle.attr_keys.specs.Value.{bad_value, value_key}
use Rattle.attr_keys.proofs.NameKeys.{key_of-good}
use Rattle.attr_keys.proofs.NamesAgain.{key_of-again}
use Rattle.dn_text.specs.Laws.{IsReadablePart}
use Rattle.ldap_types.specs.declared.request.RawAttr.{RawAttr}
use Rattle.rule_values.specs.declared.fault.Refusal.{Refusal}
use Rattle.rule_values.specs.declared.fault.Refusal.TheVariants as why
use Rattle.rule_values.specs.Refusing.{◌>>=◌}
use Rattle.rule_values.specs.Listed.{named, read_name, valued, read_value, has_key, value_beside, values_beside, attribute_beside, attributes_beside, with_part, with_name}
use Rattle.ldap_rules.specs.Ordered.{val_key, attr_name}
use Rattle.ldap_rules.specs.Carried.{IsOwnName, AreOwnVals}
use Rattle.ldap_rules.proofs.Chains.{by_pass, by_fit, same_ok}
use Rattle.ldap_rules.proofs.Places.{all_put}
use Rattle.repl_data.proofs.Loops.{all_append}
use Rattle.repl_data.proofs.SameView.{same_attr}

-- a value of this attribute that is accepted, with the key of its spelling
abbrev pub IsOwnVal : AttrKey → Val → Type 0
IsOwnVal t v = IsReadablePart (record { attr = t; val = v })

-- ---- names and values

pub name_own : (name : List ℕ) (attr : AttrKey) → read_name name ≡ Ok attr → IsOwnName attr × (attr.name ≡ key_of name)
name_own name attr h = by (bad_name name) refl h
  where
    by : (o : Option ℕ) → bad_name name ≡ o → named name o ≡ Ok attr → IsOwnName attr × (attr.name ≡ key_of name)
    by None e k =
        let is : ◌≡◌ {A = AttrKey} (record { name = key_of name }) attr = same_ok (record { name = key_of name }) attr k in
        (subst IsOwnName is (record { is_name = key_of-good name e; attr = key_of-again name }), ap (λ (t : AttrKey). t.name) (sym is))
    by (Some place) e k = let n : ⊥ = cc in absurd n

value_own : (attr : AttrKey) (s : List ℕ) (v : Val) → IsOwnName attr → read_value attr s ≡ Ok v → IsOwnVal attr v
value_own attr s v own h = by (bad_value (kind_of attr.name) s) refl h
  where
    by : (o : Option ℕ) → bad_value (kind_of attr.name) s ≡ o → valued attr s o ≡ Ok v → IsOwnVal attr v
    by None e k =
        let is : ◌≡◌ {A = Val} (record { key = value_key (kind_of attr.name) s; spelled = s }) v = same_ok (record { key = value_key (kind_of attr.name) s; spelled = s }) v k in
        subst (IsOwnVal attr) is (record { is_name = own.is_name; attr = own.attr; accepted = e; key = refl })
    by (Some place) e k = let n : ⊥ = cc in absurd n

beside_own : (attr : AttrKey) (before vals : List Val) (s : List ℕ) → IsOwnName attr → value_beside attr before s ≡ Ok vals → AreOwnVals attr before → AreOwnVals attr vals
unfolding value_beside
beside_own attr before vals s own h g =
    by_pass (read_value attr s) _ vals h (λ v r k.
    by_fit (is_derived_value attr v) why.Derived _ vals k (λ underived m.
    by_fit (has_key v.key before) why.ListedTwice _ vals m (λ new e.
    subst (AreOwnVals attr) (same_ok (put_val v before) vals e) (all_put val_key (IsOwnVal attr) v before (value_own attr s v own r) g))))

pub values_own : (attr : AttrKey) (before vals : List Val) (given : List (List ℕ)) → IsOwnName attr → values_beside attr before given ≡ Ok vals → AreOwnVals attr before → AreOwnVals attr vals
unfolding values_beside
values_own attr before vals [] own h g = subst (AreOwnVals attr) (same_ok before vals h) g
values_own attr before vals (s ∷ ss) own h g =
    by_pass (value_beside attr before s) _ vals h (λ next r k. values_own attr next vals ss own k (beside_own attr before next s own r g))

-- ---- attributes

abbrev pub HasOwnVals : Attr → Type 0
HasOwnVals a = IsOwnName a.attr × AreOwnVals a.attr a.vals

own_at : (attr : AttrKey) (attrs : List Attr) → AllByRecursion HasOwnVals attrs → AreOwnVals attr (vals_at attr.name attrs)
own_at attr [] h = tt
own_at attr (a ∷ attrs) h = by (bytes_eq a.attr.name attr.name) refl (own_at attr attrs h.1)
  where
    by : (b : Bool) → bytes_eq a.attr.name attr.name ≡ b → AreOwnVals attr (vals_at attr.name attrs) → AreOwnVals attr (cond b a.vals [] ++ vals_at attr.name attrs)
    by true e more = all_append (IsOwnVal attr) a.vals (vals_at attr.name attrs) (subst (λ (t : AttrKey). AreOwnVals t a.vals) (same_attr a.attr attr (is_equal (bytes_cmp a.attr.name attr.name) e)) h.0.1) more
    by false e more = more

attribute_own : (before attrs : List Attr) (given : RawAttr) → attribute_beside before given ≡ Ok attrs → AllByRecursion HasOwnVals before → AllByRecursion HasOwnVals attrs
unfolding attribute_beside
attribute_own before attrs given h g =
    by_pass (read_name given.name) _ attrs h (λ attr n k.
    by_fit (is_derived_attribute attr) why.Derived _ attrs k (λ plain m.
    by_fit (is_empty given.vals) why.NoValue _ attrs m (λ some l.
    by_pass (values_beside attr (vals_at attr.name before) given.vals) _ attrs l (λ vals read e.
    let own : IsOwnName attr = (name_own given.name attr n).0 in
    let made : AreOwnVals attr vals = values_own attr (vals_at attr.name before) vals given.vals own read (own_at attr before g) in
    subst (AllByRecursion HasOwnVals) (same_ok (put_attr (record { attr = attr; vals = vals }) before) attrs e)
    (all_put attr_name HasOwnVals (record { attr = attr; vals = vals }) before (own, made) g)))))

pub attributes_own : (before attrs : List Attr) (given : List RawAttr) → attributes_beside before given ≡ Ok attrs → AllByRecursion HasOwnVals before → AllByRecursion HasOwnVals attrs
unfolding attributes_beside
attributes_own before attrs [] h g = subst (AllByRecursion HasOwnVals) (same_ok before attrs h) g
attributes_own before attrs (a ∷ given) h g = by_pass (attribute_beside before a) _ attrs h (λ next n k. attributes_own next attrs given k (attribute_own before next a n g))

-- ---- the values of the name

part_own : (attrs : List Attr) (a : Ava) → IsReadablePart a → AllByRecursion HasOwnVals attrs → AllByRecursion HasOwnVals (with_part attrs a)
part_own attrs a r h = by (has_value attrs a)
  where
    vals : List Val
    vals = put_val a.val (vals_at a.attr.name attrs)

    own : IsOwnName a.attr
    own = record { is_name = r.is_name; attr = r.attr }

    by : (b : Bool) → AllByRecursion HasOwnVals (if b then attrs else put_attr (record { attr = a.attr; vals = vals }) attrs)
    by true = h
    by false = all_put attr_name HasOwnVals (record { attr = a.attr; vals = vals }) attrs (own, all_put val_key (IsOwnVal a.attr) a.val (vals_at a.attr.name attrs) r (own_at a.attr attrs h)) h

pub parts_own : (attrs : List Attr) (avas : List Ava) → AllByRecursion IsReadablePart avas → AllByRecursion HasOwnVals attrs → AllByRecursion HasOwnVals (fold with_part attrs avas)
parts_own attrs [] r h = h
parts_own attrs (a ∷ avas) r h = parts_own (with_part attrs a) avas r.1 (part_own attrs a r.0 h)

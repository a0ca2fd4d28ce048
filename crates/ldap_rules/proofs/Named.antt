-- The values of the name among the attributes.
use Rattle.std.proofs.Common.{◌≡◌, ℕ, Bool, true, false, cond, ◌||◌, ◌&&◌, List, [], ◌∷◌, ◌++◌, map, refl, sym, ap, subst, ◌∙◌, append-nil, append_assoc}
use Rattle.std.specs.Prelude.{fold}
use Rattle.std.specs.List.{AllByRecursion, list_any, list_all}
use Rattle.std.specs.declared.cmp.Ordering.{Ordering}
use Rattle.std.specs.declared.cmp.Ordering.TheVariants.{Less, Equal, Greater}
use Rattle.std.proofs.lemmas.Bool.{or_left, or_right}
use Rattle.repl_data.specs.declared.change.AttrKey.{AttrKey}
use Rattle.repl_data.specs.declared.change.Val.{Val}
use Rattle.repl_data.specs.declared.change.Ava.{Ava}
use Rattle.repl_data.specs.declared.change.Attr.{Attr}
use Rattle.repl_data.specs.Order.{bytes_cmp, bytes_eq, by_order}
use Rattle.repl_data.specs.Types.{is_derived_attribute, is_derived_value, is_derived_ava}
use Rattle.repl_data.specs.Check.{has_value}
use Rattle.repl_data.specs.View.{put_attr, put_val, vals_at}
use Rattle.repl_data.proofs.Sound.{neither, both_true, not_both}
use Rattle.repl_data.proofs.Orders.{bytes_total, bytes_exact}
use Rattle.repl_data.proofs.InOrder.{in_order_by-append, any-in_order_by, put-known}
use Rattle.repl_data.proofs.Bools.{either_true}
use Rattle.ldap_rules.specs.Ordered.{val_key, attr_name, own_key}
use Rattle.rule_values.specs.Listed.{has_key, with_part}
use Rattle.ldap_rules.proofs.Places.{put_rises, equal_key, is_same}
use Rattle.ldap_rules.proofs.Goods.{AreRead, put_read, vals_good, none_put, full_put}

-- ---- keys of values

key_stays : (k : List ℕ) (v : Val) (vals : List Val) → has_key k vals ≡ true → has_key k (put_val v vals) ≡ true
key_stays k v [] h = absurd (not_both false h refl)
key_stays k v (w ∷ vals) h = by (bytes_cmp v.key w.key) refl (key_stays k v vals)
  where
    by : (o : Ordering) → bytes_cmp v.key w.key ≡ o → (has_key k vals ≡ true → has_key k (put_val v vals) ≡ true) → has_key k (by_order o (v ∷ w ∷ vals) (v ∷ vals) (w ∷ put_val v vals)) ≡ true
    by Less e more = or_right (bytes_eq v.key k) (has_key k (w ∷ vals)) h
    by Equal e more = either_true (bytes_eq w.key k) (has_key k vals) h (λ s. or_left (bytes_eq v.key k) (has_key k vals) (ap (λ x. bytes_eq x k) (bytes_exact v.key w.key e) ∙ s)) (λ s. or_right (bytes_eq v.key k) (has_key k vals) s)
    by Greater e more = either_true (bytes_eq w.key k) (has_key k vals) h (λ s. or_left (bytes_eq w.key k) (has_key k (put_val v vals)) s) (λ s. or_right (bytes_eq w.key k) (has_key k (put_val v vals)) (more s))

key_put : (v : Val) (vals : List Val) → has_key v.key (put_val v vals) ≡ true
key_put v [] = or_left (bytes_eq v.key v.key) false (equal_key v.key v.key refl)
key_put v (w ∷ vals) = by (bytes_cmp v.key w.key) (key_put v vals)
  where
    own : bytes_eq v.key v.key ≡ true
    own = equal_key v.key v.key refl

    by : (o : Ordering) → has_key v.key (put_val v vals) ≡ true → has_key v.key (by_order o (v ∷ w ∷ vals) (v ∷ vals) (w ∷ put_val v vals)) ≡ true
    by Less more = or_left (bytes_eq v.key v.key) (has_key v.key (w ∷ vals)) own
    by Equal more = or_left (bytes_eq v.key v.key) (has_key v.key vals) own
    by Greater more = or_right (bytes_eq w.key v.key) (has_key v.key (put_val v vals)) more

key_of_both : (k : List ℕ) (xs ys : List Val) → has_key k (xs ++ ys) ≡ (has_key k xs || has_key k ys)
key_of_both k [] ys = refl
key_of_both k (x ∷ xs) ys = ap (λ b. bytes_eq x.key k || b) (key_of_both k xs ys) ∙ turned (bytes_eq x.key k) (has_key k xs) (has_key k ys)
  where
    turned : (a b c : Bool) → (a || (b || c)) ≡ ((a || b) || c)
    turned true b c = refl
    turned false b c = refl

-- ---- values that the attributes have

abbrev is_here : Ava → Attr → Bool
is_here a b = bytes_eq b.attr.name a.attr.name && has_key a.val.key b.vals

-- an attribute that is put in place of another keeps the values, where its values are more than those
value_stays : (a : Ava) (attr : AttrKey) (vals : List Val) (attrs : List Attr) → ((k : List ℕ) → has_key k (vals_at attr.name attrs) ≡ true → has_key k vals ≡ true) → has_value attrs a ≡ true → has_value (put_attr (record { attr = attr; vals = vals }) attrs) a ≡ true
value_stays a attr vals [] more h = absurd (not_both false h refl)
value_stays a attr vals (b ∷ attrs) more h = by (bytes_cmp attr.name b.attr.name) refl (value_stays a attr vals attrs rest)
  where
    rest : (k : List ℕ) → has_key k (vals_at attr.name attrs) ≡ true → has_key k vals ≡ true
    rest k g = more k (key_of_both k (cond (bytes_eq b.attr.name attr.name) b.vals []) (vals_at attr.name attrs) ∙ or_right (has_key k (cond (bytes_eq b.attr.name attr.name) b.vals [])) (has_key k (vals_at attr.name attrs)) g)

    replaced : attr.name ≡ b.attr.name → is_here a b ≡ true → is_here a (record { attr = attr; vals = vals }) ≡ true
    replaced e s =
        let s' = both_true (bytes_eq b.attr.name a.attr.name) (has_key a.val.key b.vals) s in
        let own : bytes_eq b.attr.name attr.name ≡ true = equal_key b.attr.name attr.name (sym e) in
        let kept : has_key a.val.key vals ≡ true = more a.val.key (ap (λ t. has_key a.val.key (cond t b.vals [] ++ vals_at attr.name attrs)) own ∙ key_of_both a.val.key b.vals (vals_at attr.name attrs) ∙ or_left (has_key a.val.key b.vals) (has_key a.val.key (vals_at attr.name attrs)) s'.1) in
        ap (λ n. bytes_eq n a.attr.name && has_key a.val.key vals) e ∙ ap (λ t. t && has_key a.val.key vals) s'.0 ∙ kept

    by : (o : Ordering) → bytes_cmp attr.name b.attr.name ≡ o → (has_value attrs a ≡ true → has_value (put_attr (record { attr = attr; vals = vals }) attrs) a ≡ true) → has_value (by_order o (record { attr = attr; vals = vals } ∷ b ∷ attrs) (record { attr = attr; vals = vals } ∷ attrs) (b ∷ put_attr (record { attr = attr; vals = vals }) attrs)) a ≡ true
    by Less e later = or_right (is_here a (record { attr = attr; vals = vals })) (has_value (b ∷ attrs) a) h
    by Equal e later =
        either_true (is_here a b) (has_value attrs a) h
        (λ s. or_left (is_here a (record { attr = attr; vals = vals })) (has_value attrs a) (replaced (bytes_exact attr.name b.attr.name e) s))
        (λ s. or_right (is_here a (record { attr = attr; vals = vals })) (has_value attrs a) s)
    by Greater e later =
        either_true (is_here a b) (has_value attrs a) h
        (λ s. or_left (is_here a b) (has_value (put_attr (record { attr = attr; vals = vals }) attrs) a) s)
        (λ s. or_right (is_here a b) (has_value (put_attr (record { attr = attr; vals = vals }) attrs) a) (later s))

value_put : (a : Ava) (vals : List Val) (attrs : List Attr) → has_key a.val.key vals ≡ true → has_value (put_attr (record { attr = a.attr; vals = vals }) attrs) a ≡ true
value_put a vals [] h = or_left (is_here a (record { attr = a.attr; vals = vals })) false (ap (λ t. t && has_key a.val.key vals) (equal_key a.attr.name a.attr.name refl) ∙ h)
value_put a vals (b ∷ attrs) h = by (bytes_cmp a.attr.name b.attr.name) (value_put a vals attrs h)
  where
    own : is_here a (record { attr = a.attr; vals = vals }) ≡ true
    own = ap (λ t. t && has_key a.val.key vals) (equal_key a.attr.name a.attr.name refl) ∙ h

    by : (o : Ordering) → has_value (put_attr (record { attr = a.attr; vals = vals }) attrs) a ≡ true → has_value (by_order o (record { attr = a.attr; vals = vals } ∷ b ∷ attrs) (record { attr = a.attr; vals = vals } ∷ attrs) (b ∷ put_attr (record { attr = a.attr; vals = vals }) attrs)) a ≡ true
    by Less more = or_left (is_here a (record { attr = a.attr; vals = vals })) (has_value (b ∷ attrs) a) own
    by Equal more = or_left (is_here a (record { attr = a.attr; vals = vals })) (has_value attrs a) own
    by Greater more = or_right (is_here a b) (has_value (put_attr (record { attr = a.attr; vals = vals }) attrs) a) more

-- ---- one part of the name

part_there : (attrs : List Attr) (a : Ava) → has_value (with_part attrs a) a ≡ true
part_there attrs a = by (has_value attrs a) refl
  where
    by : (b : Bool) → has_value attrs a ≡ b → has_value (cond b attrs (put_attr (record { attr = a.attr; vals = put_val a.val (vals_at a.attr.name attrs) }) attrs)) a ≡ true
    by true e = e
    by false e = value_put a (put_val a.val (vals_at a.attr.name attrs)) attrs (key_put a.val (vals_at a.attr.name attrs))

part_keeps : (attrs : List Attr) (b a : Ava) → has_value attrs a ≡ true → has_value (with_part attrs b) a ≡ true
part_keeps attrs b a h = by (has_value attrs b)
  where
    by : (t : Bool) → has_value (cond t attrs (put_attr (record { attr = b.attr; vals = put_val b.val (vals_at b.attr.name attrs) }) attrs)) a ≡ true
    by true = h
    by false = value_stays a b.attr (put_val b.val (vals_at b.attr.name attrs)) attrs (λ k. key_stays k b.val (vals_at b.attr.name attrs)) h

name_known : (attrs : List Attr) (a : Ava) → has_value attrs a ≡ true → list_any (bytes_eq a.attr.name) (map attr_name attrs) ≡ true
name_known [] a h = absurd (not_both false h refl)
name_known (b ∷ attrs) a h =
    either_true (is_here a b) (has_value attrs a) h
    (λ s. or_left (bytes_eq a.attr.name b.attr.name) (list_any (bytes_eq a.attr.name) (map attr_name attrs)) (equal_key a.attr.name b.attr.name (sym (is_same b.attr.name a.attr.name (both_true (bytes_eq b.attr.name a.attr.name) (has_key a.val.key b.vals) s).0))))
    (λ s. or_right (bytes_eq a.attr.name b.attr.name) (list_any (bytes_eq a.attr.name) (map attr_name attrs)) (name_known attrs a s))

-- one name more, which is there, changes nothing
known_read : (names : List (List ℕ)) (attrs : List Attr) (name : List ℕ) → AreRead names attrs → list_any (bytes_eq name) (map attr_name attrs) ≡ true → AreRead (names ++ name ∷ []) attrs
known_read names attrs name r h = record {
  good = r.good;
  names_are =
      let there : list_any (bytes_eq name) names ≡ true = sym (any-in_order_by bytes_cmp bytes_total own_key bytes_exact (bytes_eq name) names) ∙ ap (list_any (bytes_eq name)) (sym r.names_are) ∙ h in
      r.names_are ∙ sym (put-known bytes_cmp bytes_total own_key bytes_exact name names there) ∙ sym (in_order_by-append bytes_cmp bytes_total own_key bytes_exact names name);
}

part_read : (names : List (List ℕ)) (attrs : List Attr) (a : Ava) → is_derived_ava a ≡ false → AreRead names attrs → AreRead (names ++ a.attr.name ∷ []) (with_part attrs a)
part_read names attrs a d r = by (has_value attrs a) refl
  where
    plain : (is_derived_attribute a.attr ≡ false) × (is_derived_value a.attr a.val ≡ false)
    plain = neither (is_derived_attribute a.attr) (is_derived_value a.attr a.val) d

    by : (b : Bool) → has_value attrs a ≡ b → AreRead (names ++ a.attr.name ∷ []) (cond b attrs (put_attr (record { attr = a.attr; vals = put_val a.val (vals_at a.attr.name attrs) }) attrs))
    by true e = known_read names attrs a.attr.name r (name_known attrs a e)
    by false e =
        let own = vals_good a.attr attrs r.good in
        put_read names attrs (record { attr = a.attr; vals = put_val a.val (vals_at a.attr.name attrs) }) r (record {
          plain = plain.0;
          full = full_put val_key a.val (vals_at a.attr.name attrs);
          rises = put_rises val_key a.val (vals_at a.attr.name attrs) own.0;
          underived = none_put val_key (is_derived_value a.attr) a.val (vals_at a.attr.name attrs) plain.1 own.1;
        })

-- ---- all parts

parts_keep : (attrs : List Attr) (avas : List Ava) (a : Ava) → has_value attrs a ≡ true → has_value (fold with_part attrs avas) a ≡ true
parts_keep attrs [] a h = h
parts_keep attrs (b ∷ avas) a h = parts_keep (with_part attrs b) avas a (part_keeps attrs b a h)

all_there : (attrs : List Attr) (avas : List Ava) → AllByRecursion (λ a. has_value (fold with_part attrs avas) a ≡ true) avas
all_there attrs [] = tt
all_there attrs (a ∷ avas) = (parts_keep (with_part attrs a) avas a (part_there attrs a), all_there (with_part attrs a) avas)

listed : (q : Ava → Bool) (avas : List Ava) → AllByRecursion (λ a. q a ≡ true) avas → list_all q avas ≡ true
listed q [] h = refl
listed q (a ∷ avas) h = ap (λ b. b && list_all q avas) h.0 ∙ listed q avas h.1

pub parts_there : (attrs : List Attr) (avas : List Ava) → list_all (has_value (fold with_part attrs avas)) avas ≡ true
parts_there attrs avas = listed (has_value (fold with_part attrs avas)) avas (all_there attrs avas)

pub parts_read : (names : List (List ℕ)) (attrs : List Attr) (avas : List Ava) → list_any is_derived_ava avas ≡ false → AreRead names attrs → AreRead (names ++ map (λ (a : Ava). a.attr.name) avas) (fold with_part attrs avas)
parts_read names attrs [] d r = subst (λ (ns : List (List ℕ)). AreRead ns attrs) (sym (append-nil names)) r
parts_read names attrs (a ∷ avas) d r =
    let d' = neither (is_derived_ava a) (list_any is_derived_ava avas) d in
    subst (λ (ns : List (List ℕ)). AreRead ns (fold with_part (with_part attrs a) avas)) (append_assoc names (a.attr.name ∷ []) (map (λ (b : Ava). b.attr.name) avas))
    (parts_read (names ++ a.attr.name ∷ []) (with_part attrs a) avas d'.1 (part_read names attrs a d'.0 r))

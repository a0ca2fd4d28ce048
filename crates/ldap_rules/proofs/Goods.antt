-- What is read of an add: attributes in order, each with values, and none that a view derives.
use Rattle.std.proofs.Common.{◌≡◌, ℕ, Bool, true, false, cond, ◌||◌, List, [], ◌∷◌, ◌++◌, map, Result, Ok, Err, refl, sym, ap, subst, ◌∙◌, Option, Some, None, append-nil, append_assoc}
use Rattle.std.specs.Prelude.{is_none}
use Rattle.std.specs.List.{AllByRecursion, list_any}
use Rattle.std.specs.declared.cmp.Ordering.{Ordering}
use Rattle.std.specs.declared.cmp.Ordering.TheVariants.{Less, Equal, Greater}
use Rattle.std.specs.Ordering.{is_eq}
use Rattle.repl_data.specs.declared.change.AttrKey.{AttrKey}
use Rattle.repl_data.specs.declared.change.Val.{Val}
use Rattle.repl_data.specs.declared.change.Attr.{Attr}
use Rattle.repl_data.specs.Order.{bytes_cmp, put_by, by_order, in_order}
use Rattle.repl_data.specs.Types.{is_derived_attribute, is_derived_value}
use Rattle.repl_data.specs.Check.{is_empty}
use Rattle.repl_data.specs.View.{put_attr, put_val, vals_at}
use Rattle.repl_data.proofs.Sound.{neither, not_both}
use Rattle.repl_data.proofs.Orders.{bytes_total, bytes_exact}
use Rattle.repl_data.proofs.InOrder.{in_order_by-append}
use Rattle.attr_keys.specs.Name.{bad_name}
use Rattle.attr_keys.specs.Table.{key_of}
use Rattle.ldap_types.specs.declared.request.RawAttr.{RawAttr}
use Rattle.rule_values.specs.declared.fault.Refusal.{Refusal}
use Rattle.rule_values.specs.declared.fault.Refusal.TheVariants as why
use Rattle.rule_values.specs.Refusing.{◌>>=◌}
use Rattle.rule_values.specs.Counting.{put_key}
use Rattle.rule_values.specs.Listed.{is_name, named_keys, named, read_name, read_value, has_key, value_beside, values_beside, attribute_beside, attributes_beside}
use Rattle.ldap_rules.specs.Ordered.{Rises, val_key, attr_name, own_key}
use Rattle.ldap_rules.proofs.Chains.{by_pass, by_fit, same_ok}
use Rattle.ldap_rules.proofs.Places.{put_rises, all_put, above_others}

-- ---- tests of items that are put

pub none_put : {X : Type 0} (key : X → List ℕ) (q : X → Bool) (x : X) (xs : List X) → q x ≡ false → list_any q xs ≡ false → list_any q (put_by key bytes_cmp x xs) ≡ false
none_put key q x [] p h = ap (λ b. b || false) p
none_put key q x (y ∷ ys) p h = by (bytes_cmp (key x) (key y)) (neither _ _ h).0 (neither _ _ h).1 (none_put key q x ys p (neither _ _ h).1)
  where
    by : (o : Ordering) → q y ≡ false → list_any q ys ≡ false → list_any q (put_by key bytes_cmp x ys) ≡ false → list_any q (by_order o (x ∷ y ∷ ys) (x ∷ ys) (y ∷ put_by key bytes_cmp x ys)) ≡ false
    by Less a b c = ap (λ t. t || (q y || list_any q ys)) p ∙ ap (λ t. t || list_any q ys) a ∙ b
    by Equal a b c = ap (λ t. t || list_any q ys) p ∙ b
    by Greater a b c = ap (λ t. t || list_any q (put_by key bytes_cmp x ys)) a ∙ c

pub full_put : {X : Type 0} (key : X → List ℕ) (x : X) (xs : List X) → is_empty (put_by key bytes_cmp x xs) ≡ false
full_put key x [] = refl
full_put key x (y ∷ ys) = by (bytes_cmp (key x) (key y))
  where
    by : (o : Ordering) → is_empty (by_order o (x ∷ y ∷ ys) (x ∷ ys) (y ∷ put_by key bytes_cmp x ys)) ≡ false
    by Less = refl
    by Equal = refl
    by Greater = refl

-- ---- values

abbrev pub GoodVals : AttrKey → List Val → Type 0
GoodVals attr vals = Rises val_key vals × (list_any (is_derived_value attr) vals ≡ false)

pub value_good : (attr : AttrKey) (before vals : List Val) (s : List ℕ) → value_beside attr before s ≡ Ok vals → GoodVals attr before → GoodVals attr vals × (is_empty vals ≡ false)
unfolding value_beside
value_good attr before vals s h g =
    by_pass (read_value attr s) _ vals h (λ v r k.
    by_fit (is_derived_value attr v) why.Derived _ vals k (λ underived m.
    by_fit (has_key v.key before) why.ListedTwice _ vals m (λ new e.
    let p : put_val v before ≡ vals = same_ok (put_val v before) vals e in
    subst (λ (w : List Val). GoodVals attr w × (is_empty w ≡ false)) p
    ((put_rises val_key v before g.0, none_put val_key (is_derived_value attr) v before underived g.1), full_put val_key v before))))

values_kept : (attr : AttrKey) (before vals : List Val) (given : List (List ℕ)) → values_beside attr before given ≡ Ok vals → GoodVals attr before × (is_empty before ≡ false) → GoodVals attr vals × (is_empty vals ≡ false)
unfolding values_beside
values_kept attr before vals [] h g = subst (λ (w : List Val). GoodVals attr w × (is_empty w ≡ false)) (same_ok before vals h) g
values_kept attr before vals (s ∷ ss) h g =
    by_pass (value_beside attr before s) _ vals h (λ next r k. values_kept attr next vals ss k (value_good attr before next s r g.0))

pub values_good : (attr : AttrKey) (before vals : List Val) (given : List (List ℕ)) → is_empty given ≡ false → values_beside attr before given ≡ Ok vals → GoodVals attr before → GoodVals attr vals × (is_empty vals ≡ false)
unfolding values_beside
values_good attr before vals [] n h g = absurd (not_both true refl n)
values_good attr before vals (s ∷ ss) n h g =
    by_pass (value_beside attr before s) _ vals h (λ next r k. values_kept attr next vals ss k (value_good attr before next s r g))

-- ---- attributes

pub record IsGood (a : Attr) : Type 0 where
  pub plain : is_derived_attribute a.attr ≡ false
  pub full : is_empty a.vals ≡ false
  pub rises : Rises val_key a.vals
  pub underived : list_any (is_derived_value a.attr) a.vals ≡ false

abbrev pub AreGood : List Attr → Type 0
AreGood attrs = Rises attr_name attrs × AllByRecursion IsGood attrs

pub vals_good : (attr : AttrKey) (attrs : List Attr) → AreGood attrs → GoodVals attr (vals_at attr.name attrs)
vals_good attr [] g = (tt, refl)
vals_good attr (a ∷ attrs) g = by (bytes_cmp a.attr.name attr.name) refl (vals_good attr attrs (g.0.1, g.1.1))
  where
    by : (o : Ordering) → bytes_cmp a.attr.name attr.name ≡ o → GoodVals attr (vals_at attr.name attrs) → GoodVals attr (cond (is_eq o) a.vals [] ++ vals_at attr.name attrs)
    by Less e more = more
    by Greater e more = more
    by Equal e more =
        let name : a.attr.name ≡ attr.name = bytes_exact a.attr.name attr.name e in
        let same : a.attr ≡ attr = ap (λ (n : List ℕ). record { name = n }) name in
        let none : vals_at attr.name attrs ≡ [] = above_others attr.name attrs (subst (λ n. AllByRecursion (λ (z : Attr). bytes_cmp n z.attr.name ≡ Less) attrs) name g.0.0) in
        let whole : a.vals ≡ a.vals ++ vals_at attr.name attrs = sym (append-nil a.vals) ∙ ap (λ w. a.vals ++ w) (sym none) in
        subst (GoodVals attr) whole (g.1.0.rises, subst (λ (t : AttrKey). list_any (is_derived_value t) a.vals ≡ false) same g.1.0.underived)

names_put : (a : Attr) (attrs : List Attr) → map attr_name (put_attr a attrs) ≡ put_key a.attr.name (map attr_name attrs)
names_put a [] = refl
names_put a (b ∷ attrs) = by (bytes_cmp a.attr.name b.attr.name) (names_put a attrs)
  where
    by : (o : Ordering) → map attr_name (put_attr a attrs) ≡ put_key a.attr.name (map attr_name attrs) → map attr_name (by_order o (a ∷ b ∷ attrs) (a ∷ attrs) (b ∷ put_attr a attrs)) ≡ by_order o (a.attr.name ∷ b.attr.name ∷ map attr_name attrs) (a.attr.name ∷ map attr_name attrs) (b.attr.name ∷ put_key a.attr.name (map attr_name attrs))
    by Less e = refl
    by Equal e = refl
    by Greater e = ap (λ ns. b.attr.name ∷ ns) e

-- the attributes, whose names these make
pub record AreRead (names : List (List ℕ)) (attrs : List Attr) : Type 0 where
  pub good : AreGood attrs
  pub names_are : map attr_name attrs ≡ in_order bytes_cmp names

pub put_read : (names : List (List ℕ)) (attrs : List Attr) (a : Attr) → AreRead names attrs → IsGood a → AreRead (names ++ a.attr.name ∷ []) (put_attr a attrs)
put_read names attrs a r g = record {
  good = (put_rises attr_name a attrs r.good.0, all_put attr_name IsGood a attrs g r.good.1);
  names_are = names_put a attrs ∙ ap (put_key a.attr.name) r.names_are ∙ sym (in_order_by-append bytes_cmp bytes_total own_key bytes_exact names a.attr.name);
}

named_as : (name : List ℕ) (o : Option ℕ) (attr : AttrKey) → named name o ≡ Ok attr → (is_none o ≡ true) × (attr.name ≡ key_of name)
named_as name None attr h = (refl, ap (λ (t : AttrKey). t.name) (sym (same_ok _ attr h)))
named_as name (Some place) attr h = let n : ⊥ = cc in absurd n

attribute_read : (names : List (List ℕ)) (before attrs : List Attr) (given : RawAttr) → attribute_beside before given ≡ Ok attrs → AreRead names before → AreRead (names ++ named_keys (given ∷ [])) attrs
unfolding attribute_beside
attribute_read names before attrs given h r =
    by_pass (read_name given.name) _ attrs h (λ attr n k.
    by_fit (is_derived_attribute attr) why.Derived _ attrs k (λ plain m.
    by_fit (is_empty given.vals) why.NoValue _ attrs m (λ some l.
    by_pass (values_beside attr (vals_at attr.name before) given.vals) _ attrs l (λ vals read e.
    let is = named_as given.name (bad_name given.name) attr n in
    let good = values_good attr (vals_at attr.name before) vals given.vals some read (vals_good attr before r.good) in
    let made : AreRead (names ++ attr.name ∷ []) attrs = subst (AreRead (names ++ attr.name ∷ [])) (same_ok _ attrs e) (put_read names before (record { attr = attr; vals = vals }) r (record { plain = plain; full = good.1; rises = good.0.0; underived = good.0.1 })) in
    subst (λ (ns : List (List ℕ)). AreRead (names ++ ns) attrs) (ap (λ (k : List ℕ). k ∷ []) is.1 ∙ ap (λ (b : Bool). cond b (key_of given.name ∷ []) [] ++ []) (sym is.0)) made))))

pub attributes_read : (names : List (List ℕ)) (before attrs : List Attr) (given : List RawAttr) → attributes_beside before given ≡ Ok attrs → AreRead names before → AreRead (names ++ named_keys given) attrs
unfolding attributes_beside
attributes_read names before attrs [] h r =
    subst (λ (w : List Attr). AreRead (names ++ []) w) (same_ok before attrs h) (subst (λ (ns : List (List ℕ)). AreRead ns before) (sym (append-nil names)) r)
attributes_read names before attrs (a ∷ given) h r =
    by_pass (attribute_beside before a) _ attrs h (λ next n k.
    subst (λ (ns : List (List ℕ)). AreRead ns attrs)
    (append_assoc names (named_keys (a ∷ [])) (named_keys given) ∙ ap (λ (ns : List (List ℕ)). names ++ ns) (ap (λ (ns : List (List ℕ)). ns ++ named_keys given) (append-nil (cond (is_name a) (key_of a.name ∷ []) []))))
    (attributes_read (names ++ named_keys (a ∷ [])) next attrs given k (attribute_read names before next a n r)))

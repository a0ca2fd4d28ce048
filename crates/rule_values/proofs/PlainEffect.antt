-- What modifications leave is their plain effect.
use Rattle.std.proofs.Common.{◌≡◌, ℕ, Bool, true, false, cond, not, List, [], ◌∷◌, ◌++◌, map, refl, sym, ap, subst, ◌∙◌, append-nil}
use Rattle.std.specs.Prelude.{filter, fold}
use Rattle.std.specs.List.{AllByRecursion}
use Rattle.std.specs.declared.cmp.Ordering.{Ordering}
use Rattle.std.specs.declared.cmp.Ordering.TheVariants.{Less, Equal, Greater}
use Rattle.repl_data.specs.declared.change.AttrKey.{AttrKey}
use Rattle.repl_data.specs.declared.change.Val.{Val}
use Rattle.repl_data.specs.declared.change.Attr.{Attr}
use Rattle.repl_data.specs.declared.change.Mod.{Mod}
use Rattle.repl_data.specs.Order.{bytes_cmp, bytes_eq, by_order}
use Rattle.repl_data.specs.Ordered.{Rises}
use Rattle.repl_data.specs.Plain.{plain_mod, set_values, values_after}
use Rattle.repl_data.specs.View.{put_attr, user, vals_at}
use Rattle.repl_data.proofs.KeyPlaces.{is_same, put_rises, same_turned}
use Rattle.repl_data.proofs.Orders.{bytes_total, bytes_exact}
use Rattle.repl_data.proofs.Loops.{all_filter}
use Rattle.rule_values.specs.Having.{attr_name, val_key}
use Rattle.rule_values.specs.Modify.{after, shown_values}
use Rattle.rule_values.specs.Written.{Values}
use Rattle.rule_values.proofs.Places.{above_others}
use Rattle.rule_values.proofs.SetLemmas.{puts_rising}
use Rattle.rule_values.proofs.ModSteps.{apart, shown_at}

-- ---- the values at a name

at_head : (b : Attr) (attrs : List Attr) (name : List ℕ) (t : Bool) → bytes_eq name b.attr.name ≡ t → vals_at name (b ∷ attrs) ≡ cond t b.vals [] ++ vals_at name attrs
at_head b attrs name t h = ap (λ x. cond x b.vals [] ++ vals_at name attrs) (same_turned b.attr.name name ∙ h)

alone : (a : Attr) (rest : List Attr) (name : List ℕ) (t : Bool) → bytes_eq name a.attr.name ≡ t → (t ≡ true → vals_at name rest ≡ []) → vals_at name (a ∷ rest) ≡ cond t a.vals (vals_at name rest)
alone a rest name true h none = at_head a rest name true h ∙ ap (λ w. a.vals ++ w) (none refl) ∙ append-nil a.vals
alone a rest name false h none = at_head a rest name false h

abbrev AreAbove : List ℕ → List Attr → Type 0
AreAbove k attrs = AllByRecursion (λ (z : Attr). bytes_cmp k z.attr.name ≡ Less) attrs

above_all : (k : List ℕ) (b : Attr) (attrs : List Attr) → bytes_cmp k b.attr.name ≡ Less → AreAbove b.attr.name attrs → AreAbove k attrs
above_all k b [] h g = tt
above_all k b (z ∷ zs) h g = (bytes_total.trans k b.attr.name z.attr.name h g.0, above_all k b zs h g.1)

none_at : (name k : List ℕ) (attrs : List Attr) → bytes_eq name k ≡ true → AreAbove k attrs → vals_at name attrs ≡ []
none_at name k attrs h a = ap (λ n. vals_at n attrs) (is_same name k h) ∙ above_others k attrs a

never : (t : Bool) → (t ≡ true → ⊥) → t ≡ false
never true f = absurd (f refl)
never false f = refl

-- ---- an attribute that is put

replaced_at : (a b : Attr) (attrs : List Attr) (name : List ℕ) (c : Bool) → bytes_eq name a.attr.name ≡ c → a.attr.name ≡ b.attr.name → cond c a.vals (vals_at name attrs) ≡ cond c a.vals (vals_at name (b ∷ attrs))
replaced_at a b attrs name true h e = refl
replaced_at a b attrs name false h e = sym (at_head b attrs name false (ap (bytes_eq name) (sym e) ∙ h))

behind_at : (a b : Attr) (attrs : List Attr) (name : List ℕ) (c : Bool) → bytes_eq name a.attr.name ≡ c → bytes_cmp a.attr.name b.attr.name ≡ Greater → cond (bytes_eq name b.attr.name) b.vals [] ++ cond c a.vals (vals_at name attrs) ≡ cond c a.vals (vals_at name (b ∷ attrs))
behind_at a b attrs name true h e = ap (λ x. cond x b.vals [] ++ a.vals) (never (bytes_eq name b.attr.name) (apart name a.attr.name b.attr.name e h))
behind_at a b attrs name false h e = sym (at_head b attrs name (bytes_eq name b.attr.name) refl)

at_put : (a : Attr) (attrs : List Attr) (name : List ℕ) → Rises attr_name attrs → vals_at name (put_attr a attrs) ≡ cond (bytes_eq name a.attr.name) a.vals (vals_at name attrs)
at_put a [] name r = alone a [] name (bytes_eq name a.attr.name) refl (λ h. refl)
at_put a (b ∷ attrs) name r = by (bytes_cmp a.attr.name b.attr.name) refl (at_put a attrs name r.1)
  where
    by : (o : Ordering) → bytes_cmp a.attr.name b.attr.name ≡ o → vals_at name (put_attr a attrs) ≡ cond (bytes_eq name a.attr.name) a.vals (vals_at name attrs)
        → vals_at name (by_order o (a ∷ b ∷ attrs) (a ∷ attrs) (b ∷ put_attr a attrs)) ≡ cond (bytes_eq name a.attr.name) a.vals (vals_at name (b ∷ attrs))
    by Less e more = alone a (b ∷ attrs) name (bytes_eq name a.attr.name) refl (λ h. none_at name a.attr.name (b ∷ attrs) h (e, above_all a.attr.name b attrs e r.0))
    by Equal e more =
        let same : a.attr.name ≡ b.attr.name = bytes_exact a.attr.name b.attr.name e in
        alone a attrs name (bytes_eq name a.attr.name) refl (λ h. none_at name a.attr.name attrs h (subst (λ (k : List ℕ). AreAbove k attrs) (sym same) r.0))
        ∙ replaced_at a b attrs name (bytes_eq name a.attr.name) refl same
    by Greater e more =
        at_head b (put_attr a attrs) name (bytes_eq name b.attr.name) refl ∙ ap (λ w. cond (bytes_eq name b.attr.name) b.vals [] ++ w) more
        ∙ behind_at a b attrs name (bytes_eq name a.attr.name) refl e

-- ---- an attribute that goes

abbrev is_left : AttrKey → Attr → Bool
is_left t a = not (bytes_eq a.attr.name t.name)

gone_at : (t : AttrKey) (a : Attr) (attrs : List Attr) (name : List ℕ) (c : Bool) → bytes_eq name t.name ≡ c → a.attr.name ≡ t.name → cond c [] (vals_at name attrs) ≡ cond c [] (vals_at name (a ∷ attrs))
gone_at t a attrs name true h e = refl
gone_at t a attrs name false h e = sym (at_head a attrs name false (ap (bytes_eq name) e ∙ h))

left_at : (t : AttrKey) (a : Attr) (attrs : List Attr) (name : List ℕ) (c : Bool) → bytes_eq name t.name ≡ c → bytes_eq a.attr.name t.name ≡ false → cond (bytes_eq a.attr.name name) a.vals [] ++ cond c [] (vals_at name attrs) ≡ cond c [] (vals_at name (a ∷ attrs))
left_at t a attrs name true h e = ap (λ x. cond x a.vals [] ++ []) (ap (bytes_eq a.attr.name) (is_same name t.name h) ∙ e)
left_at t a attrs name false h e = refl

at_without : (t : AttrKey) (attrs : List Attr) (name : List ℕ) → vals_at name (filter (is_left t) attrs) ≡ cond (bytes_eq name t.name) [] (vals_at name attrs)
at_without t [] name = by (bytes_eq name t.name)
  where
    by : (c : Bool) → ◌≡◌ {A = List Val} [] (cond c [] [])
    by true = refl
    by false = refl
at_without t (a ∷ attrs) name = by (bytes_eq a.attr.name t.name) refl (at_without t attrs name)
  where
    by : (b : Bool) → bytes_eq a.attr.name t.name ≡ b → vals_at name (filter (is_left t) attrs) ≡ cond (bytes_eq name t.name) [] (vals_at name attrs)
        → vals_at name (cond (not b) (a ∷ filter (is_left t) attrs) (filter (is_left t) attrs)) ≡ cond (bytes_eq name t.name) [] (vals_at name (a ∷ attrs))
    by true e more = more ∙ gone_at t a attrs name (bytes_eq name t.name) refl (is_same a.attr.name t.name e)
    by false e more = ap (λ w. cond (bytes_eq a.attr.name name) a.vals [] ++ w) more ∙ left_at t a attrs name (bytes_eq name t.name) refl e

-- ---- one modification

set_at : (t : AttrKey) (vals : List Val) (attrs : List Attr) (name : List ℕ) → Rises attr_name attrs → vals_at name (set_values t vals attrs) ≡ cond (bytes_eq name t.name) vals (vals_at name attrs)
set_at t [] attrs name r = at_without t attrs name
set_at t (v ∷ vals) attrs name r = at_put (record { attr = t; vals = v ∷ vals }) attrs name r

left_rises : (q : Attr → Bool) (attrs : List Attr) → Rises attr_name attrs → Rises attr_name (filter q attrs)
left_rises q [] r = tt
left_rises q (a ∷ attrs) r = by (q a) (left_rises q attrs r.1)
  where
    by : (b : Bool) → Rises attr_name (filter q attrs) → Rises attr_name (cond b (a ∷ filter q attrs) (filter q attrs))
    by true more = (all_filter (λ (y : Attr). bytes_cmp a.attr.name y.attr.name ≡ Less) q attrs r.0, more)
    by false more = more

set_rises : (t : AttrKey) (vals : List Val) (attrs : List Attr) → Rises attr_name attrs → Rises attr_name (set_values t vals attrs)
set_rises t [] attrs r = left_rises (is_left t) attrs r
set_rises t (v ∷ vals) attrs r = put_rises attr_name (record { attr = t; vals = v ∷ vals }) attrs r

abbrev at_all : List Attr → Values
at_all attrs name = vals_at name attrs

one_plain : (attrs : List Attr) (m : Mod) → Rises attr_name attrs → at_all (plain_mod attrs m) ≡ after (at_all attrs) m
one_plain attrs m r = λ i name. pointwise name i
  where
    by : (name : List ℕ) (b : Bool) → bytes_eq name m.attr.name ≡ b → cond b (values_after m.kind m.vals (vals_at m.attr.name attrs)) (vals_at name attrs) ≡ cond b (values_after m.kind m.vals (vals_at name attrs)) (vals_at name attrs)
    by name true e = ap (λ n. values_after m.kind m.vals (vals_at n attrs)) (sym (is_same name m.attr.name e))
    by name false e = refl

    pointwise : (name : List ℕ) → vals_at name (plain_mod attrs m) ≡ after (at_all attrs) m name
    pointwise name = set_at m.attr (values_after m.kind m.vals (vals_at m.attr.name attrs)) attrs name r ∙ by name (bytes_eq name m.attr.name) refl

-- ---- all of them

pub plain_at : (attrs : List Attr) (mods : List Mod) (name : List ℕ) → Rises attr_name attrs → vals_at name (fold plain_mod attrs mods) ≡ fold after (at_all attrs) mods name
plain_at attrs [] name r = refl
plain_at attrs (m ∷ mods) name r =
    plain_at (plain_mod attrs m) mods name (set_rises m.attr (values_after m.kind m.vals (vals_at m.attr.name attrs)) attrs r)
    ∙ ap (λ (has : Values). fold after has mods name) (one_plain attrs m r)

-- ---- the values that an entry shows

shown_in : (name : List ℕ) (attrs : List Attr) → shown_at name (map user attrs) ≡ vals_at name attrs
shown_in name [] = refl
shown_in name (a ∷ attrs) = ap (λ w. cond (bytes_eq a.attr.name name) a.vals [] ++ w) (shown_in name attrs)

vals_rise : (name : List ℕ) (attrs : List Attr) → Rises attr_name attrs → AllByRecursion (λ (a : Attr). Rises val_key a.vals) attrs → Rises val_key (vals_at name attrs)
vals_rise name [] r h = tt
vals_rise name (a ∷ attrs) r h = subst (Rises val_key) (sym whole) (by (bytes_eq name a.attr.name) (vals_rise name attrs r.1 h.1))
  where
    whole : vals_at name (a ∷ attrs) ≡ cond (bytes_eq name a.attr.name) a.vals (vals_at name attrs)
    whole = alone a attrs name (bytes_eq name a.attr.name) refl (λ e. none_at name a.attr.name attrs e r.0)

    by : (b : Bool) → Rises val_key (vals_at name attrs) → Rises val_key (cond b a.vals (vals_at name attrs))
    by true more = h.0
    by false more = more

pub shown_as : (attrs : List Attr) (name : List ℕ) → Rises attr_name attrs → AllByRecursion (λ (a : Attr). Rises val_key a.vals) attrs → shown_values (map user attrs) name ≡ vals_at name attrs
shown_as attrs name r h = puts_rising (shown_at name (map user attrs)) (subst (Rises val_key) (sym (shown_in name attrs)) (vals_rise name attrs r h)) ∙ shown_in name attrs

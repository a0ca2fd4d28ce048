-- An act in front of others, where all of them add values at the zero stamp.
use Rattle.std.proofs.Common.{◌≡◌, ◌≢◌, Bool, true, false, cond, ℕ, List, [], ◌∷◌, ◌++◌, map, refl, sym, ap, ◌∙◌}
use Rattle.std.specs.Prelude.{filter, flat_map}
use Rattle.std.specs.List.{AllByRecursion, list_any}
use Rattle.std.specs.declared.cmp.Ordering.TheVariants.{Equal}
use Rattle.repl_data.specs.declared.csn.Csn.{Csn}
use Rattle.repl_data.specs.declared.change.AttrKey.{AttrKey}
use Rattle.repl_data.specs.declared.change.Val.{Val}
use Rattle.repl_data.specs.declared.change.Ava.{Ava}
use Rattle.repl_data.specs.declared.change.Suffix.{Suffix}
use Rattle.repl_data.specs.Order.{zero_csn, csn_lt, bytes_cmp, bytes_eq, put_by, later, latest_or, greatest, in_order, in_order_by}
use Rattle.repl_data.specs.Stamps.{Act, Adds, Deletes, Clears}
use Rattle.repl_data.specs.Facts.{ValFacts, AttrFacts, attr_of, is_act_on, keys_named, additions, deletions, clearings, val_facts, attr_facts, attrs_facts}
use Rattle.repl_data.proofs.Orders.{bytes_total}
use Rattle.repl_data.proofs.InOrder.{in_order_by-Rises, map-put, found, any-in_order_by}
use Rattle.repl_data.proofs.Sound.{neither}
use Rattle.repl_data.proofs.SameView.{same_attr}
use Rattle.repl_data.proofs.KeyPlaces.{same_self}
use Rattle.repl_data.proofs.Raised.{other_bytes}
use Rattle.repl_data.proofs.Loops.{all_filter}
use Rattle.stamp_entry.specs.Ordered.{val_key, attr_name, HasRisingVals, AreOrdered}
use Rattle.stamp_entry.specs.Raised.{attr_at}
use Rattle.stamp_entry.specs.First.{first_val, first_attr, given_first, given_parts}
use Rattle.stamp_entry.proofs.Keeps.{rises_put, all_put, attr_at-rises}

abbrev pub IsFirst : Act → Type 0
IsFirst (Adds s t v) = s ≡ zero_csn
IsFirst (Deletes s t v) = ⊥
IsFirst (Clears s t) = ⊥

-- WHAT SUCH ACTS SAY
no_deletions : (key : List ℕ) (own : List Act) → AllByRecursion IsFirst own → flat_map (deletions key) own ≡ []
no_deletions key [] h = refl
no_deletions key (Adds s t v ∷ own) h = no_deletions key own h.1
no_deletions key (Deletes s t v ∷ own) h = absurd h.0
no_deletions key (Clears s t ∷ own) h = absurd h.0

zero_later : (x r : Csn × List ℕ) → x.0 ≡ zero_csn → r.0 ≡ zero_csn → (later x r).0 ≡ zero_csn
zero_later x r e g = by (csn_lt x.0 r.0)
  where
    by : (b : Bool) → (cond b r x).0 ≡ zero_csn
    by true = g
    by false = e

added_at_zero : (key : List ℕ) (own : List Act) → AllByRecursion IsFirst own → (latest_or (zero_csn, []) (flat_map (additions key) own)).0 ≡ zero_csn
added_at_zero key [] h = refl
added_at_zero key (Adds s t v ∷ own) h = by (bytes_eq key v.key) (added_at_zero key own h.1)
  where
    by : (b : Bool) → (latest_or (zero_csn, []) (flat_map (additions key) own)).0 ≡ zero_csn → (latest_or (zero_csn, []) (cond b ((s, v.spelled) ∷ []) [] ++ flat_map (additions key) own)).0 ≡ zero_csn
    by true m = zero_later (s, v.spelled) (latest_or (zero_csn, []) (flat_map (additions key) own)) h.0 m
    by false m = m
added_at_zero key (Deletes s t v ∷ own) h = absurd h.0
added_at_zero key (Clears s t ∷ own) h = absurd h.0

-- ONE MORE IN FRONT

front_val : (t : AttrKey) (v : Val) (own : List Act) → AllByRecursion IsFirst own → val_facts (Adds zero_csn t v ∷ own) v.key ≡ first_val v
front_val t v own h =
    let rest = latest_or (zero_csn, []) (flat_map (additions v.key) own) in
    let added : latest_or (zero_csn, []) (flat_map (additions v.key) (Adds zero_csn t v ∷ own)) ≡ (zero_csn, v.spelled) =
    ap (λ b. latest_or (zero_csn, []) (cond b ((zero_csn, v.spelled) ∷ []) [] ++ flat_map (additions v.key) own)) (same_self v.key)
    ∙ ap (λ c. cond (csn_lt zero_csn c) rest (zero_csn, v.spelled)) (added_at_zero v.key own h) in
    let down = ap greatest (no_deletions v.key own h) in
    λ i. record { key = v.key; spelled = (added i).1; up = (added i).0; down = down i }

other_val : (t : AttrKey) (v : Val) (own : List Act) (key : List ℕ) → bytes_cmp v.key key ≢ Equal → val_facts (Adds zero_csn t v ∷ own) key ≡ val_facts own key
other_val t v own key n =
    let added = ap (λ b. latest_or (zero_csn, []) (cond b ((zero_csn, v.spelled) ∷ []) [] ++ flat_map (additions key) own)) (other_bytes v.key key n) in
    λ i. record { key = key; spelled = (added i).1; up = (added i).0; down = greatest (flat_map (deletions key) own) }

abbrev vals_by : List Act → List ValFacts
vals_by own = map (val_facts own) (in_order bytes_cmp (flat_map keys_named own))

abbrev attr_by : AttrKey → List Act → AttrFacts
attr_by t own = record { attr = t; whole = greatest (flat_map clearings own); vals = vals_by own }

front_vals : (t : AttrKey) (v : Val) (own : List Act) → AllByRecursion IsFirst own → vals_by (Adds zero_csn t v ∷ own) ≡ put_by val_key bytes_cmp (first_val v) (vals_by own)
front_vals t v own h =
    map-put bytes_cmp bytes_total (λ (k : List ℕ). k) val_key (val_facts own) (val_facts (Adds zero_csn t v ∷ own)) (λ k. refl) (λ k. refl) v.key (λ k n. other_val t v own k n)
    (in_order bytes_cmp (flat_map keys_named own)) (in_order_by-Rises bytes_cmp bytes_total (λ (k : List ℕ). k) (flat_map keys_named own))
    ∙ ap (λ f. put_by val_key bytes_cmp f (vals_by own)) (front_val t v own h)

front_attr : (t : AttrKey) (v : Val) (acts : List Act) → AllByRecursion IsFirst acts → attr_facts (Adds zero_csn t v ∷ acts) t ≡ first_attr v (attr_facts acts t)
front_attr t v acts h =
    let own = filter (is_act_on t) acts in
    ap (λ b. attr_by t (cond b (Adds zero_csn t v ∷ own) own)) (same_self t.name)
    ∙ ap (λ vals. record { attr = t; whole = greatest (flat_map clearings own); vals = vals }) (front_vals t v own (all_filter IsFirst (is_act_on t) acts h))

other_attr : (t : AttrKey) (v : Val) (acts : List Act) (u : AttrKey) → bytes_cmp t.name u.name ≢ Equal → attr_facts (Adds zero_csn t v ∷ acts) u ≡ attr_facts acts u
other_attr t v acts u n = ap (λ b. attr_by u (cond b (Adds zero_csn t v ∷ filter (is_act_on u) acts) (filter (is_act_on u) acts))) (other_bytes t.name u.name n)

-- the attribute of a name is what acts say of it
unnamed : (t : AttrKey) (acts : List Act) → list_any (λ (u : AttrKey). bytes_eq t.name u.name) (map attr_of acts) ≡ false → filter (is_act_on t) acts ≡ []
unnamed t [] h = refl
unnamed t (a ∷ acts) h =
    let h' = neither _ _ h in
    λ i. cond (h'.0 i) (a ∷ unnamed t acts h'.1 i) (unnamed t acts h'.1 i)

attr_said : (t : AttrKey) (acts : List Act) → attr_at t (attrs_facts acts) ≡ attr_facts acts t
attr_said t acts =
    found bytes_cmp bytes_total (λ (u : AttrKey). u.name) same_attr attr_name (attr_facts acts) (λ u. refl) t _ (in_order_by (λ (u : AttrKey). u.name) bytes_cmp (map attr_of acts)) (λ h.
    ap (attr_by t) (unnamed t acts (sym (any-in_order_by bytes_cmp bytes_total (λ (u : AttrKey). u.name) same_attr (λ (u : AttrKey). bytes_eq t.name u.name) (map attr_of acts)) ∙ h)))

pub front_attrs : (t : AttrKey) (v : Val) (acts : List Act) → AllByRecursion IsFirst acts → attrs_facts (Adds zero_csn t v ∷ acts) ≡ given_first t v (attrs_facts acts)
front_attrs t v acts h =
    map-put bytes_cmp bytes_total (λ (u : AttrKey). u.name) attr_name (attr_facts acts) (attr_facts (Adds zero_csn t v ∷ acts)) (λ u. refl) (λ u. refl) t (λ u n. other_attr t v acts u n)
    (in_order_by (λ (u : AttrKey). u.name) bytes_cmp (map attr_of acts)) (in_order_by-Rises bytes_cmp bytes_total (λ (u : AttrKey). u.name) (map attr_of acts))
    ∙ ap (λ a. put_by attr_name bytes_cmp a (attrs_facts acts)) (front_attr t v acts h ∙ ap (first_attr v) (sym (attr_said t acts)))

front_parts : (parts : List Ava) (acts : List Act) → AllByRecursion IsFirst acts → attrs_facts (map (λ (a : Ava). Adds zero_csn a.attr a.val) parts ++ acts) ≡ given_parts parts (attrs_facts acts)
front_parts [] acts h = refl
front_parts (a ∷ parts) acts h =
    front_attrs a.attr a.val (map (λ (b : Ava). Adds zero_csn b.attr b.val) parts ++ acts) (first_parts parts acts h) ∙ ap (given_first a.attr a.val) (front_parts parts acts h)
  where
    first_parts : (parts : List Ava) (acts : List Act) → AllByRecursion IsFirst acts → AllByRecursion IsFirst (map (λ (b : Ava). Adds zero_csn b.attr b.val) parts ++ acts)
    first_parts [] acts h = h
    first_parts (b ∷ parts) acts h = (refl, first_parts parts acts h)

-- WHAT THE SUFFIX ENTRY HAS
pub front_suffix : (suffix : Suffix) (t : AttrKey) (top domain : Val) → attrs_facts (map (λ (a : Ava). Adds zero_csn a.attr a.val) suffix.rdn.avas ++ Adds zero_csn t top ∷ Adds zero_csn t domain ∷ []) ≡ given_parts suffix.rdn.avas (given_first t top (given_first t domain []))
front_suffix suffix t top domain =
    front_parts suffix.rdn.avas (Adds zero_csn t top ∷ Adds zero_csn t domain ∷ []) (refl, (refl, tt))
    ∙ ap (given_parts suffix.rdn.avas) (front_attrs t top (Adds zero_csn t domain ∷ []) (refl, tt) ∙ ap (given_first t top) (front_attrs t domain [] tt))

-- THE ORDER STAYS
pub given-ordered : (t : AttrKey) (v : Val) (attrs : List AttrFacts) → AreOrdered attrs → AreOrdered (given_first t v attrs)
given-ordered t v attrs h = (
  rises_put attr_name (first_attr v (attr_at t attrs)) attrs h.0,
  all_put attr_name HasRisingVals (first_attr v (attr_at t attrs)) attrs (rises_put val_key (first_val v) (attr_at t attrs).vals (attr_at-rises t attrs h)) h.1,
)

-- a value given to the attribute that was taken out
pub given_back : (t : AttrKey) (v : Val) (old rest new : List AttrFacts) (taken after : AttrFacts) → taken ≡ attr_at t old → after ≡ first_attr v taken → taken.attr.name ≡ t.name
    → ((x : AttrFacts) → x.attr.name ≡ t.name → put_by attr_name bytes_cmp x rest ≡ put_by attr_name bytes_cmp x old) → new ≡ put_by attr_name bytes_cmp after rest → new ≡ given_first t v old
given_back t v old rest new taken after s a n r p =
    p ∙ r after (ap (λ (x : AttrFacts). x.attr.name) a ∙ n) ∙ ap (λ x. put_by attr_name bytes_cmp x old) (a ∙ ap (first_attr v) s)

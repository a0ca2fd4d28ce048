-- The body of an add passes `check` at a CSN above its parent.
use Rattle.std.proofs.Common.{◌≡◌, ◌≢◌, ℕ, ◌+◌, ◌<◌, ◌≤◌, Bool, true, false, cond, not, ◌||◌, List, [], ◌∷◌, ◌++◌, length, map, refl, sym, ap, ◌∙◌, arith, Option, Some, None, eq-eqb, nat_lt}
use Rattle.std.specs.Prelude.{option_map, ◌==◌, fold}
use Rattle.std.specs.List.{AllByRecursion, list_any, position_from}
use Rattle.std.specs.declared.cmp.Ordering.TheVariants.{Less}
use Rattle.std.specs.Ordering.{is_lt}
use Rattle.std.proofs.lemmas.Bool.Decides.{nat_tests}
use Rattle.std.proofs.lemmas.List.{length-map}
use Rattle.repl_data.specs.declared.csn.Csn.{Csn}
use Rattle.repl_data.specs.declared.csn.Uid.{Uid}
use Rattle.repl_data.specs.declared.change.Ava.{Ava}
use Rattle.repl_data.specs.declared.change.Attr.{Attr}
use Rattle.repl_data.specs.declared.change.Rdn.{Rdn}
use Rattle.repl_data.specs.declared.change.Body.{Body}
use Rattle.repl_data.specs.declared.change.Body.TheVariants.{Add}
use Rattle.repl_data.specs.declared.change.Change.{Change}
use Rattle.repl_data.specs.declared.change.Malformed.TheVariants.{Rid, Sub, Order, TooMany, TooHeavy, Empty, DoubleKey, Derived, NameValue}
use Rattle.repl_data.specs.declared.change.Malformed.{Malformed}
use Rattle.repl_data.specs.Order.{bytes_cmp, in_order, csn_eq, csn_lt}
use Rattle.repl_data.specs.Types.{is_derived_ava, is_derived_value}
use Rattle.repl_data.specs.Check.{fault_if, either_fault, first_fault, is_empty, falls, falls_after, vals_rise, parts_of, part_falls, either_place, names_derived, weight, faults_of_frame, faults_of_body, fault_of}
use Rattle.repl_data.proofs.Sound.{neither}
use Rattle.repl_data.proofs.Known.{any_map}
use Rattle.repl_data.proofs.Orders.{bytes_total, bytes_exact, put_swap}
use Rattle.repl_data.proofs.CsnTests.{csn_eq-same}
use Rattle.dn_text.specs.Laws.{IsBelowAll, AreReadableParts}
use Rattle.ldap_types.specs.declared.request.RawAttr.{RawAttr}
use Rattle.ldap_rules.specs.Ordered.{Rises, val_key, attr_name, own_key}
use Rattle.rule_values.specs.Listed.{named_keys, attribute_count, with_name, with_part}
use Rattle.rule_values.specs.Counting.{put_key}
use Rattle.ldap_rules.specs.Laws.{IsDrawnAbove}
use Rattle.ldap_rules.proofs.Places.{is_less}
use Rattle.ldap_rules.proofs.Goods.{IsGood, AreRead}
use Rattle.ldap_rules.proofs.Named.{parts_there, parts_read}

-- ---- where no place is at fault

pub any_both : (xs ys : List Bool) → list_any (λ b. b) xs ≡ false → list_any (λ b. b) ys ≡ false → list_any (λ b. b) (xs ++ ys) ≡ false
any_both [] ys h g = g
any_both (x ∷ xs) ys h g = let h' = neither x (list_any (λ b. b) xs) h in ap (λ t. t || list_any (λ b. b) (xs ++ ys)) h'.0 ∙ any_both xs ys h'.1 g

any_either : (xs ys : List Bool) → list_any (λ b. b) xs ≡ false → list_any (λ b. b) ys ≡ false → list_any (λ b. b) (either_place xs ys) ≡ false
any_either [] ys h g = g
any_either (x ∷ xs) [] h g = h
any_either (x ∷ xs) (y ∷ ys) h g =
    let h' = neither x (list_any (λ b. b) xs) h in
    let g' = neither y (list_any (λ b. b) ys) g in
    ap (λ t. (t || y) || list_any (λ b. b) (either_place xs ys)) h'.0 ∙ ap (λ t. t || list_any (λ b. b) (either_place xs ys)) g'.0 ∙ any_either xs ys h'.1 g'.1

pub nowhere : (k : ℕ) (bs : List Bool) → list_any (λ b. b) bs ≡ false → position_from (λ b. b) k bs ≡ None
nowhere k [] h = refl
nowhere k (b ∷ bs) h = let h' = neither b (list_any (λ b. b) bs) h in ap (λ (t : Bool). cond t (Some k) (position_from (λ b. b) (k + 1) bs)) h'.0 ∙ nowhere (k + 1) bs h'.1

pub no_first : (os : List (Option Malformed)) → AllByRecursion (λ o. o ≡ None) os → first_fault os ≡ None
no_first [] h = refl
no_first (o ∷ os) h = ap (λ x. either_fault x (first_fault os)) h.0 ∙ no_first os h.1

abbrev done : Unit {0}
done = tt

-- ---- what rises does not fall

none_falls_after : {X : Type 0} (key : X → List ℕ) (x : X) (xs : List X) → Rises key (x ∷ xs) → list_any (λ b. b) (falls_after key x xs) ≡ false
none_falls_after key x [] h = refl
none_falls_after key x (y ∷ xs) h = ap (λ o. not (is_lt o) || list_any (λ b. b) (falls_after key y xs)) h.0.0 ∙ none_falls_after key y xs h.1

pub none_falls : {X : Type 0} (key : X → List ℕ) (xs : List X) → Rises key xs → list_any (λ b. b) (falls key xs) ≡ false
none_falls key [] h = refl
none_falls key (x ∷ xs) h = none_falls_after key x xs h

below_all : (a : Ava) (avas : List Ava) → IsBelowAll a avas → AllByRecursion (λ (b : Ava). bytes_cmp a.attr.name b.attr.name ≡ Less) avas
below_all a [] h = tt
below_all a (b ∷ avas) h = (is_less (bytes_cmp a.attr.name b.attr.name) h.0, below_all a avas h.1)

pub parts_rise : (avas : List Ava) → AreReadableParts avas → Rises (λ (a : Ava). a.attr.name) avas
parts_rise [] h = tt
parts_rise (a ∷ avas) h = (below_all a avas h.1, parts_rise avas h.2)

-- ---- what is read is at fault nowhere

no_empty : (attrs : List Attr) → AllByRecursion IsGood attrs → list_any (λ b. b) (map (λ (a : Attr). is_empty a.vals) attrs) ≡ false
no_empty [] h = refl
no_empty (a ∷ attrs) h = ap (λ t. t || list_any (λ b. b) (map (λ (a : Attr). is_empty a.vals) attrs)) h.0.full ∙ no_empty attrs h.1

no_unsorted : (attrs : List Attr) → AllByRecursion IsGood attrs → list_any (λ b. b) (map (λ (a : Attr). not (vals_rise a.vals)) attrs) ≡ false
no_unsorted [] h = refl
no_unsorted (a ∷ attrs) h =
    ap (λ t. not (not t) || list_any (λ b. b) (map (λ (a : Attr). not (vals_rise a.vals)) attrs)) (none_falls val_key a.vals h.0.rises) ∙ no_unsorted attrs h.1

no_derived : (attrs : List Attr) → AllByRecursion IsGood attrs → list_any (λ b. b) (map (λ (a : Attr). names_derived a.attr a.vals) attrs) ≡ false
no_derived [] h = refl
no_derived (a ∷ attrs) h =
    ap (λ t. (t || list_any (is_derived_value a.attr) a.vals) || list_any (λ b. b) (map (λ (a : Attr). names_derived a.attr a.vals) attrs)) h.0.plain
    ∙ ap (λ t. t || list_any (λ b. b) (map (λ (a : Attr). names_derived a.attr a.vals) attrs)) h.0.underived ∙ no_derived attrs h.1

pub no_empty_part : (rdn : Rdn) → rdn.avas ≢ [] → list_any (λ b. b) (parts_of rdn) ≡ false
no_empty_part rdn h = by rdn.avas h
  where
    plain : (avas : List Ava) → list_any (λ b. b) (map (λ _. false) avas) ≡ false
    plain [] = refl
    plain (a ∷ avas) = plain avas

    by : (avas : List Ava) → avas ≢ [] → list_any (λ b. b) (cond (is_empty avas) (true ∷ []) (map (λ _. false) avas)) ≡ false
    by [] f = absurd (f refl)
    by (a ∷ avas) f = plain avas

-- ---- who draws

pub ids_of_supplier : (c : Csn) (u : Uid) → IsDrawnAbove c u → ((c.rid == 0) || (c.rid == 65535)) ≡ false
ids_of_supplier c u drawn = by drawn.rid drawn.least
  where
    by : 0 < c.rid → c.rid < 65535 → ((c.rid == 0) || (c.rid == 65535)) ≡ false
    by h g = grind (arith, nat_tests)

-- ---- how many

in_order-middle : (xs : List (List ℕ)) (y : List ℕ) (ys : List (List ℕ)) → in_order bytes_cmp (xs ++ y ∷ ys) ≡ put_key y (in_order bytes_cmp (xs ++ ys))
in_order-middle [] y ys = refl
in_order-middle (x ∷ xs) y ys = ap (put_key x) (in_order-middle xs y ys) ∙ put_swap bytes_cmp bytes_total own_key bytes_exact x y (in_order bytes_cmp (xs ++ ys))

in_order-turned : (xs ys : List (List ℕ)) → in_order bytes_cmp (xs ++ ys) ≡ in_order bytes_cmp (ys ++ xs)
in_order-turned [] ys = ap (in_order bytes_cmp) (sym (nil_right ys))
  where
    nil_right : {X : Type 0} (zs : List X) → zs ++ [] ≡ zs
    nil_right [] = refl
    nil_right (z ∷ zs) = ap (λ w. z ∷ w) (nil_right zs)
in_order-turned (x ∷ xs) ys = ap (put_key x) (in_order-turned xs ys) ∙ sym (in_order-middle ys x xs)

few : (rdn : Rdn) (given : List RawAttr) (attrs : List Attr) → AreRead (named_keys given ++ map (λ (a : Ava). a.attr.name) rdn.avas) attrs → nat_lt 500 (attribute_count rdn given) ≡ false → nat_lt 500 (length attrs) ≡ false
unfolding attribute_count
few rdn given attrs r h =
    let e : length attrs ≡ length (in_order bytes_cmp (map (λ (a : Ava). a.attr.name) rdn.avas ++ named_keys given)) =
    sym (length-map attrs attr_name) ∙ ap length r.names_are ∙ ap length (in_order-turned (named_keys given) (map (λ (a : Ava). a.attr.name) rdn.avas))
    in
    below (length attrs) _ h (omega arith)
  where
    below : (m n : ℕ) → nat_lt 500 n ≡ false → m ≤ n → nat_lt 500 m ≡ false
    below m n g l = grind (arith, nat_tests)

-- ---- the whole

pub add_sound : (c : Csn) (parent : Uid) (rdn : Rdn) (given : List RawAttr) (attrs : List Attr) → rdn.avas ≢ [] → AreReadableParts rdn.avas → list_any is_derived_ava rdn.avas ≡ false
    → AreRead (named_keys given) attrs → nat_lt 500 (attribute_count rdn given) ≡ false → nat_lt 2097152 (weight (Add parent rdn (with_name rdn attrs))) ≡ false → IsDrawnAbove c parent
    → fault_of (record { csn = c; target = record { csn = c }; body = Add parent rdn (with_name rdn attrs) }) ≡ None
unfolding with_name
add_sound c parent rdn given attrs full readable plain read count light drawn =
    let whole : List Attr = fold with_part attrs rdn.avas in
    let r : AreRead (named_keys given ++ map (λ (a : Ava). a.attr.name) rdn.avas) whole = parts_read (named_keys given) attrs rdn.avas plain read in
    let empty : List Bool = parts_of rdn ++ map (λ (a : Attr). is_empty a.vals) whole in
    let double : List Bool = part_falls rdn.avas ++ either_place (falls attr_name whole) (map (λ (a : Attr). not (vals_rise a.vals)) whole) in
    let derived : List Bool = map is_derived_ava rdn.avas ++ map (λ (a : Attr). names_derived a.attr a.vals) whole in
    let e : list_any (λ b. b) empty ≡ false = any_both (parts_of rdn) (map (λ (a : Attr). is_empty a.vals) whole) (no_empty_part rdn full) (no_empty whole r.good.1) in
    let d : list_any (λ b. b) double ≡ false =
    any_both (part_falls rdn.avas) (either_place (falls attr_name whole) (map (λ (a : Attr). not (vals_rise a.vals)) whole)) (none_falls (λ (a : Ava). a.attr.name) rdn.avas (parts_rise rdn.avas readable))
    (any_either (falls attr_name whole) (map (λ (a : Attr). not (vals_rise a.vals)) whole) (none_falls attr_name whole r.good.0) (no_unsorted whole r.good.1))
    in
    let v : list_any (λ b. b) derived ≡ false = any_both (map is_derived_ava rdn.avas) (map (λ (a : Attr). names_derived a.attr a.vals) whole) (any_map (λ b. b) is_derived_ava rdn.avas ∙ plain) (no_derived whole r.good.1) in
    let body : Body = Add parent rdn whole in
    let change : Change = record { csn = c; target = record { csn = c }; body = body } in
    no_first (faults_of_frame change ++ faults_of_body body) (
      ap (λ t. fault_if t Rid) (ids drawn.rid drawn.least),
      (
        ap (λ t. fault_if (not t) Sub) (eq-eqb c.sub 0 drawn.sub),
        (
          ap (λ t. fault_if t Order) (order (csn_eq c c) (csn_lt parent.csn c) (csn_eq-same c) drawn.later),
          (
            refl,
            (
              ap (λ t. fault_if t TooMany) (few rdn given whole r count),
              (
                ap (λ t. fault_if t TooHeavy) light,
                (
                  ap (option_map Empty) (nowhere 0 empty e),
                  (
                    ap (option_map DoubleKey) (nowhere 0 double d),
                    (
                      ap (option_map Derived) (nowhere 0 derived v),
                      (
                        ap (λ t. fault_if (not t) NameValue) (parts_there attrs rdn.avas),
                        done,
                      ),
                    ),
                  ),
                ),
              ),
            ),
          ),
        ),
      ),
    )
  where
    order : (a b : Bool) → a ≡ true → b ≡ true → (not a || not b) ≡ false
    order a b h g = ap (λ t. not t || not b) h ∙ ap not g

    ids : 0 < c.rid → c.rid < 65535 → ((c.rid == 0) || (c.rid == 65535)) ≡ false
    ids h g = grind (arith, nat_tests)

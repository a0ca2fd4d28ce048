-- Places are in one order: by originator, and then by CSN.
use Rattle.std.proofs.Common.{◌≡◌, ℕ, ◌+◌, ◌-◌, ◌<◌, ◌≤◌, not, map, filter, Contains, true, false, ◌⊎◌, inl, inr, List, refl, sym, ap, subst, ◌∙◌, arith, nat_lt, ◌==◌, get_or, length, eqb-true, eq-eqb, ne_eqb, ltb-true, lt-ltb}
use Rattle.std.specs.List.Sorted.{IsPartitionedBy}
use Rattle.std.proofs.lemmas.Bool.{cases_Bool, cases_eq, cases_lt}
use Rattle.std.proofs.lemmas.List.{get_or_default}
use Rattle.repl_data.specs.declared.csn.Csn.{Csn}
use Rattle.repl_data.specs.Order.{csn_lt, zero_csn}
use Rattle.std.proofs.lemmas.Bool.{and_parts, and_from}
use Rattle.std.proofs.lemmas.List.Elements.{Contains-get_or}
use Rattle.vector_core.specs.Greatest.{greatest}
use Rattle.vector_core.proofs.Lists.{if_true, if_false, Contains-filter, filter-Contains, Contains-map, map-Contains}
use Rattle.vector_core.proofs.Greatests.{greatest_is, greatest_none}
use Rattle.change_log.specs.Log.{is_before}
use Rattle.repl_data.proofs.CsnTests.{csn_lt-trans, csn_lt-one_way, csn_lt-irreflexive}
use Rattle.change_log.specs.declared.index.Place.{Place}
use Rattle.change_log.specs.Index.{place_lt, no_place, IsRising, is_upto}

pub place_lt-same : (a b : Csn) → a.rid ≡ b.rid → place_lt a b ≡ csn_lt a b
place_lt-same a b e = if_true (csn_lt a b) (nat_lt a.rid b.rid) (eq-eqb a.rid b.rid e)

pub place_lt-other : (a b : Csn) → (a.rid ≡ b.rid → ⊥) → place_lt a b ≡ nat_lt a.rid b.rid
place_lt-other a b d = if_false (csn_lt a b) (nat_lt a.rid b.rid) (ne_eqb a.rid b.rid d)

-- what is lower: another originator, or a lower CSN of the same one
pub place_cases : (a b : Csn) → place_lt a b ≡ true → (a.rid < b.rid) ⊎ ((a.rid ≡ b.rid) × (csn_lt a b ≡ true))
place_cases a b h =
    elim (cases_eq a.rid b.rid) [
      | inl e ↦ inr (e, sym (place_lt-same a b e) ∙ h)
      | inr d ↦ inl (ltb-true a.rid b.rid (sym (place_lt-other a b d) ∙ h))
    ]

pub place_from_rid : (a b : Csn) → a.rid < b.rid → place_lt a b ≡ true
place_from_rid a b h = place_lt-other a b (λ e. omega arith) ∙ lt-ltb a.rid b.rid h

pub place_lt-trans : (a b c : Csn) → place_lt a b ≡ true → place_lt b c ≡ true → place_lt a c ≡ true
place_lt-trans a b c p q =
    elim (place_cases a b p) [
      | inl l ↦
          elim (place_cases b c q) [
            | inl m ↦ place_from_rid a c (omega arith)
            | inr m ↦ place_from_rid a c (omega (arith, m.0))
          ]
      | inr l ↦
          elim (place_cases b c q) [
            | inl m ↦ place_from_rid a c (omega (arith, l.0))
            | inr m ↦ place_lt-same a c (l.0 ∙ m.0) ∙ csn_lt-trans a b c l.1 m.1
          ]
    ]

pub IsRising-parted : (xs : List Place) (c : Csn) → IsRising xs → IsPartitionedBy (λ x. place_lt x.csn c) xs
IsRising-parted xs c is = λ i j d le l h.
    elim (cases_lt i j) [
      | inl m ↦
          (let up = is i j m l in
          let ei = get_or_default xs i d no_place (omega arith) in
          let ej = get_or_default xs j d no_place l in
          subst (λ z. place_lt z.csn c ≡ true) (sym ei) (place_lt-trans (get_or xs i no_place).csn (get_or xs j no_place).csn c up (subst (λ z. place_lt z.csn c ≡ true) ej h)))
      | inr m ↦ (let e : j ≡ i = omega arith in subst (λ k. place_lt (get_or xs k d).csn c ≡ true) e h)
    ]

pub upto_here : (o : ℕ) (beyond x : Csn) → x.rid ≡ o → is_upto o beyond x ≡ not (csn_lt beyond x)
upto_here o beyond x e = if_true (not (csn_lt beyond x)) (nat_lt x.rid o) (eq-eqb x.rid o e)

pub upto_else : (o : ℕ) (beyond x : Csn) → (x.rid ≡ o → ⊥) → is_upto o beyond x ≡ nat_lt x.rid o
upto_else o beyond x d = if_false (not (csn_lt beyond x)) (nat_lt x.rid o) (ne_eqb x.rid o d)

-- what comes before a place that comes before comes before
upto_down : (o : ℕ) (beyond x y : Csn) → place_lt x y ≡ true → is_upto o beyond y ≡ true → is_upto o beyond x ≡ true
upto_down o beyond x y h t =
    elim (cases_eq y.rid o) [
      | inl e ↦
          elim (place_cases x y h) [
            | inl l ↦ upto_else o beyond x (λ f. omega arith) ∙ lt-ltb x.rid o (omega arith)
            | inr l ↦
                upto_here o beyond x (l.0 ∙ e)
                ∙ (elim (cases_Bool (csn_lt beyond x)) as (λ (v : _). not (csn_lt beyond x) ≡ true) [
                  | inl b ↦ (let far : csn_lt beyond y ≡ true = csn_lt-trans beyond x y b l.1 in let no : not true ≡ true = ap not (sym far) ∙ sym (upto_here o beyond y e) ∙ t in absurd cc)
                  | inr b ↦ ap not b
                ])
          ]
      | inr d ↦
          (let m : y.rid < o = ltb-true y.rid o (sym (upto_else o beyond y d) ∙ t) in
          elim (place_cases x y h) [
            | inl l ↦ upto_else o beyond x (λ f. omega arith) ∙ lt-ltb x.rid o (omega arith)
            | inr l ↦ (let r : x.rid ≡ y.rid = l.0 in upto_else o beyond x (λ f. d (sym r ∙ f)) ∙ lt-ltb x.rid o (omega arith))
          ])
    ]

pub IsRising-parted_above : (xs : List Place) (o : ℕ) (beyond : Csn) → IsRising xs → IsPartitionedBy (λ x. is_upto o beyond x.csn) xs
IsRising-parted_above xs o beyond is = λ i j d le l h.
    elim (cases_lt i j) [
      | inl m ↦
          (let up = is i j m l in
          let ei = get_or_default xs i d no_place (omega arith) in
          let ej = get_or_default xs j d no_place l in
          subst (λ z. is_upto o beyond z.csn ≡ true) (sym ei) (upto_down o beyond (get_or xs i no_place).csn (get_or xs j no_place).csn up (subst (λ z. is_upto o beyond z.csn ≡ true) ej h)))
      | inr m ↦ (let e : j ≡ i = omega arith in subst (λ k. is_upto o beyond (get_or xs k d).csn ≡ true) e h)
    ]

abbrev pub index_csns : List Place → List Csn
index_csns index = map (λ place. place.csn) index

-- a member of the filtered CSNs stands at a place
before_at : (xs : List Place) (c d : Csn) → Contains (filter (is_before c) (index_csns xs)) d
    → (k : ℕ) × (k < length xs) × ((get_or xs k no_place).csn ≡ d) × (d.rid ≡ c.rid) × (csn_lt d c ≡ true)
before_at xs c d h =
    let f = Contains-filter (is_before c) (index_csns xs) d h in
    let m = Contains-map (λ (place : Place). place.csn) xs d f.0 in
    let p = and_parts (d.rid == c.rid) (csn_lt d c) f.1 in
    let l : m.1.0 < length xs = m.1.1 in
    (m.1.0, l, ap (λ (z : Place). z.csn) (get_or_default xs m.1.0 no_place m.0 l ∙ m.1.2) ∙ m.2, eqb-true d.rid c.rid p.0, p.1)

pub prev_here : (xs : List Place) (c : Csn) (i : ℕ) → IsRising xs → i + 1 ≤ length xs → place_lt (get_or xs i no_place).csn c ≡ true
    → ((k : ℕ) → i + 1 ≤ k → k < length xs → place_lt (get_or xs k no_place).csn c ≡ false) → (get_or xs i no_place).csn.rid ≡ c.rid
    → greatest (filter (is_before c) (index_csns xs)) ≡ (get_or xs i no_place).csn
prev_here xs c i is w b a e =
    let x = get_or xs i no_place in
    let low : csn_lt x.csn c ≡ true = sym (place_lt-same x.csn c e) ∙ b in
    greatest_is (filter (is_before c) (index_csns xs)) x.csn
    (filter-Contains (is_before c) (index_csns xs) x.csn (map-Contains (λ (place : Place). place.csn) xs x (Contains-get_or xs i no_place (omega arith))) (and_from (x.csn.rid == c.rid) (csn_lt x.csn c) (eq-eqb x.csn.rid c.rid e) low))
    (λ d h.
    let at = before_at xs c d h in
    let k = at.0 in
    let l : k < length xs = at.1 in
    let under : place_lt d c ≡ true = place_lt-same d c at.3 ∙ at.4 in
    elim (cases_lt i k) [
      | inl m ↦ (let f : place_lt d c ≡ false = subst (λ z. place_lt z c ≡ false) at.2 (a k (omega arith) l) in absurd cc)
      | inr m ↦
          elim (cases_lt k i) [
            | inl n ↦
                (let up : place_lt d x.csn ≡ true = subst (λ z. place_lt z x.csn ≡ true) at.2 (is k i n (omega arith)) in
                csn_lt-one_way d x.csn (sym (place_lt-same d x.csn (at.3 ∙ sym e)) ∙ up))
            | inr n ↦
                (let same : k ≡ i = omega arith in
                let es : x.csn ≡ d = ap (λ q. (get_or xs q no_place).csn) (sym same) ∙ at.2 in
                subst (λ z. csn_lt x.csn z ≡ false) es (csn_lt-irreflexive x.csn))
          ]
    ])

pub prev_none : (xs : List Place) (c : Csn) (i : ℕ) → IsRising xs → i ≤ length xs → ((k : ℕ) → k < i → place_lt (get_or xs k no_place).csn c ≡ true)
    → ((k : ℕ) → i ≤ k → k < length xs → place_lt (get_or xs k no_place).csn c ≡ false) → (0 < i → (get_or xs (i - 1) no_place).csn.rid ≡ c.rid → ⊥)
    → greatest (filter (is_before c) (index_csns xs)) ≡ zero_csn
prev_none xs c i is w b a ne =
    greatest_none (filter (is_before c) (index_csns xs)) (λ d h.
    let at = before_at xs c d h in
    let l : at.0 < length xs = at.1 in
    let under : place_lt d c ≡ true = place_lt-same d c at.3 ∙ at.4 in
    elim (cases_lt at.0 i) [
      | inl m ↦
          (let d' = ne (omega arith) in
          let top : place_lt (get_or xs (i - 1) no_place).csn c ≡ true = b (i - 1) (omega arith) in
          let lower : (get_or xs (i - 1) no_place).csn.rid < c.rid = elim (place_cases (get_or xs (i - 1) no_place).csn c top) [ inl q ↦ q | inr q ↦ absurd (d' q.0) ] in
          let r : (get_or xs at.0 no_place).csn.rid ≡ c.rid = ap (λ (z : Csn). z.rid) at.2 ∙ at.3 in
          elim (cases_lt at.0 (i - 1)) [
            | inl n ↦
                elim (place_cases (get_or xs at.0 no_place).csn (get_or xs (i - 1) no_place).csn (is at.0 (i - 1) n (omega arith))) [
                  | inl q ↦ omega arith
                  | inr q ↦ omega (arith, q.0)
                ]
            | inr n ↦ (let same : at.0 ≡ i - 1 = omega arith in let s : (get_or xs at.0 no_place).csn.rid ≡ (get_or xs (i - 1) no_place).csn.rid = ap (λ q. (get_or xs q no_place).csn.rid) same in omega arith)
          ])
      | inr m ↦ (let f : place_lt d c ≡ false = subst (λ z. place_lt z c ≡ false) at.2 (a at.0 m l) in absurd cc)
    ])

place_lt-irreflexive : (c : Csn) → place_lt c c ≡ false
place_lt-irreflexive c = place_lt-same c c refl ∙ csn_lt-irreflexive c

pub stands_from : (xs : List Place) (c : Csn) (at : ℕ) → at < length xs → (get_or xs at no_place).csn ≡ c → Contains (index_csns xs) c
stands_from xs c at l e = subst (λ z. Contains (index_csns xs) z) e (map-Contains (λ (place : Place). place.csn) xs (get_or xs at no_place) (Contains-get_or xs at no_place l))

-- a CSN of the index stands where the lower places end
pub stands_where : (xs : List Place) (c : Csn) (at : ℕ) → IsRising xs → Contains (index_csns xs) c → ((k : ℕ) → k < at → place_lt (get_or xs k no_place).csn c ≡ true)
    → ((k : ℕ) → at ≤ k → k < length xs → place_lt (get_or xs k no_place).csn c ≡ false) → (at < length xs) × ((get_or xs at no_place).csn ≡ c)
stands_where xs c at is h b a =
    let m = Contains-map (λ (place : Place). place.csn) xs c h in
    let l : m.1.0 < length xs = m.1.1 in
    let e : (get_or xs m.1.0 no_place).csn ≡ c = ap (λ (z : Place). z.csn) (get_or_default xs m.1.0 no_place m.0 l ∙ m.1.2) ∙ m.2 in
    let ni : at ≤ m.1.0 =
    elim (cases_lt m.1.0 at) [
      | inl n ↦ (let t : place_lt c c ≡ true = subst (λ z. place_lt z c ≡ true) e (b m.1.0 n) in let f = place_lt-irreflexive c in absurd cc)
      | inr n ↦ n
    ] in
    let same : m.1.0 ≡ at =
    elim (cases_lt at m.1.0) [
      | inl n ↦
          (let up : place_lt (get_or xs at no_place).csn c ≡ true = subst (λ z. place_lt (get_or xs at no_place).csn z ≡ true) e (is at m.1.0 n l) in
          let f = a at (omega arith) (omega arith) in absurd cc)
      | inr n ↦ omega arith
    ] in
    (subst (λ n. n < length xs) same l, ap (λ n. (get_or xs n no_place).csn) (sym same) ∙ e)

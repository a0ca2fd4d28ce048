-- A vector that is raised by CSNs has the greatest of each originator, and that of a node has the node's entries.
use Rattle.std.proofs.Common.{◌≡◌, ◌≢◌, ℕ, zero, suc, ◌<◌, ◌≤◌, ◌⊎◌, inl, inr, true, false, List, [], ◌∷◌, filter, length, refl, sym, ap, subst, ◌∙◌, arith, Contains, nat_lt, ◌==◌, ltb-true, ltb-false, eqb-true, eq-eqb, ne_eqb}
use Rattle.std.specs.Prelude.{slice_index_or}
use Rattle.std.proofs.lemmas.Bool.{cases_Bool, cases_eq, true≢false}
use Rattle.std.proofs.lemmas.List.Elements.{Contains-get_or}
use Rattle.repl_data.specs.declared.csn.Csn.{Csn}
use Rattle.repl_data.specs.Order.{csn_lt, zero_csn}
use Rattle.repl_data.proofs.CsnTests.{csn_lt-irreflexive, csn_lt-zero, csn_lt-connected, csn_lt-one_way, csn_not-from_le, csn_le-from_not}
use Rattle.vector_core.specs.Greatest.{later_of, greatest}
use Rattle.vector_core.specs.Vector.{entry_of, IsVector}
use Rattle.vector_core.proofs.Lists.{Contains-nil, Contains-here, Contains-there, Contains-cons_cases, if_true, if_false, Contains-filter, filter-Contains}
use Rattle.vector_core.proofs.Greatests.{later_of-cases, later_of_assoc, greatest-among, greatest_is}
use Rattle.change_log.specs.Log.{csns_of}
use Rattle.node_core.specs.Node.{Node, front, is_covered, raised, raised_by, vector_of}
use Rattle.node_core.specs.Sound.{IsSoundNode}
use Rattle.node_core.proofs.Fronts.{csns-in, csns-from, front-among}

-- ---- entries of a list

-- one more CSN at the head
pub entry_of-here : (c : Csn) (v : List Csn) (o : ℕ) → c.rid ≡ o → entry_of (c ∷ v) o ≡ later_of c (entry_of v o)
unfolding greatest
entry_of-here c v o e = ap greatest (if_true (c ∷ filter (λ (d : Csn). d.rid == o) v) (filter (λ (d : Csn). d.rid == o) v) (eq-eqb c.rid o e))

pub entry_of-past : (c : Csn) (v : List Csn) (o : ℕ) → c.rid ≢ o → entry_of (c ∷ v) o ≡ entry_of v o
entry_of-past c v o d = ap greatest (if_false (c ∷ filter (λ (d : Csn). d.rid == o) v) (filter (λ (d : Csn). d.rid == o) v) (ne_eqb c.rid o d))

entry_of-cons : (c : Csn) (v w : List Csn) (o : ℕ) → entry_of v o ≡ entry_of w o → entry_of (c ∷ v) o ≡ entry_of (c ∷ w) o
entry_of-cons c v w o e =
    elim (cases_eq c.rid o) [
      | inl q ↦ entry_of-here c v o q ∙ ap (later_of c) e ∙ sym (entry_of-here c w o q)
      | inr d ↦ entry_of-past c v o d ∙ e ∙ sym (entry_of-past c w o d)
    ]

pub later_of-comm : (a b : Csn) → later_of a b ≡ later_of b a
later_of-comm a b =
    elim (later_of-cases a b) [
      | inl l ↦
          elim (later_of-cases b a) [
            | inl m ↦ l.0 ∙ csn_lt-connected a b l.1 m.1 ∙ sym m.0
            | inr m ↦ l.0 ∙ sym m.0
          ]
      | inr l ↦
          elim (later_of-cases b a) [
            | inl m ↦ l.0 ∙ sym m.0
            | inr m ↦ absurd (let h : csn_lt a b ≡ true = l.1 in let k : csn_lt b a ≡ true = m.1 in not_both_ways a b h k)
          ]
    ]
  where
    not_both_ways : (a b : Csn) → csn_lt a b ≡ true → csn_lt b a ≡ true → ⊥
    not_both_ways a b h k = true≢false (sym k ∙ csn_lt-one_way a b h)

entry_of-swap : (c d : Csn) (v : List Csn) (o : ℕ) → entry_of (c ∷ d ∷ v) o ≡ entry_of (d ∷ c ∷ v) o
entry_of-swap c d v o =
    elim (cases_eq c.rid o) [
      | inl q ↦
          elim (cases_eq d.rid o) [
            | inl r ↦
                entry_of-here c (d ∷ v) o q ∙ ap (later_of c) (entry_of-here d v o r)
                ∙ sym (later_of_assoc c d (entry_of v o)) ∙ ap (λ z. later_of z (entry_of v o)) (later_of-comm c d) ∙ later_of_assoc d c (entry_of v o)
                ∙ sym (entry_of-here d (c ∷ v) o r ∙ ap (later_of d) (entry_of-here c v o q))
            | inr r ↦ entry_of-cons c (d ∷ v) v o (entry_of-past d v o r) ∙ sym (entry_of-past d (c ∷ v) o r)
          ]
      | inr q ↦ entry_of-past c (d ∷ v) o q ∙ entry_of-cons d v (c ∷ v) o (sym (entry_of-past c v o q))
    ]

-- ---- a vector that is raised

-- its entries are those of the CSN and the vector together
pub entry_of-raised : (c : Csn) (v : List Csn) (o : ℕ) → entry_of (raised c v) o ≡ entry_of (c ∷ v) o
entry_of-raised c [] o = refl
entry_of-raised c (d ∷ ds) o =
    elim (cases_Bool (nat_lt d.rid c.rid)) [
      | inl t ↦
          ap (λ z. entry_of z o) (if_true (d ∷ raised c ds) _ t)
          ∙ entry_of-cons d (raised c ds) (c ∷ ds) o (entry_of-raised c ds o) ∙ entry_of-swap d c ds o
      | inr f ↦
          elim (cases_Bool (d.rid == c.rid)) [
            | inl t ↦
                ap (λ z. entry_of z o) (if_false (d ∷ raised c ds) _ f ∙ if_true (later_of c d ∷ ds) (c ∷ (d ∷ ds)) t)
                ∙ joined (eqb-true d.rid c.rid t)
            | inr g ↦ ap (λ z. entry_of z o) (if_false (d ∷ raised c ds) _ f ∙ if_false (later_of c d ∷ ds) (c ∷ (d ∷ ds)) g)
          ]
    ]
  where
    later_rid : d.rid ≡ c.rid → (later_of c d).rid ≡ c.rid
    later_rid e = elim (later_of-cases c d) [ inl l ↦ ap (λ (z : Csn). z.rid) l.0 | inr l ↦ ap (λ (z : Csn). z.rid) l.0 ∙ e ]

    joined : d.rid ≡ c.rid → entry_of (later_of c d ∷ ds) o ≡ entry_of (c ∷ d ∷ ds) o
    joined e =
        elim (cases_eq c.rid o) [
          | inl q ↦
              entry_of-here (later_of c d) ds o (later_rid e ∙ q) ∙ later_of_assoc c d (entry_of ds o)
              ∙ sym (entry_of-here c (d ∷ ds) o q ∙ ap (later_of c) (entry_of-here d ds o (e ∙ q)))
          | inr q ↦
              entry_of-past (later_of c d) ds o (λ r. q (sym (later_rid e) ∙ r))
              ∙ sym (entry_of-past c (d ∷ ds) o q ∙ entry_of-past d ds o (λ r. q (sym e ∙ r)))
        ]

entry_of-raised_by : (cs : List Csn) (o : ℕ) → entry_of (raised_by cs) o ≡ entry_of cs o
entry_of-raised_by [] o = refl
entry_of-raised_by (c ∷ cs) o = entry_of-raised c (raised_by cs) o ∙ entry_of-cons c (raised_by cs) cs o (entry_of-raised_by cs o)

-- ---- the vector of a node

covered_zero : (n : Node) (x : Csn) → is_covered n x ≡ true → front n x.rid ≡ zero_csn → x ≡ zero_csn
covered_zero n x c e = csn_lt-connected x zero_csn (csn_lt-zero x) (subst (λ z. csn_lt z x ≡ false) e (csn_not-from_le x (front n x.rid) c))

-- the vector as a list has the entries of the node
pub entry_of-vector_of : (n : Node) (o : ℕ) → entry_of (vector_of n) o ≡ front n o
entry_of-vector_of n o = entry_of-raised_by (filter (is_covered n) (csns_of n.taken)) o ∙ among
  where
    member : (x : Csn) → Contains (filter (λ (c : Csn). c.rid == o) (filter (is_covered n) (csns_of n.taken))) x → (is_covered n x ≡ true) × (x.rid ≡ o)
    member x h =
        (let f = Contains-filter (λ (c : Csn). c.rid == o) (filter (is_covered n) (csns_of n.taken)) x h in
        ((Contains-filter (is_covered n) (csns_of n.taken) x f.0).1, eqb-true x.rid o f.1))

    among : entry_of (filter (is_covered n) (csns_of n.taken)) o ≡ front n o
    among =
        elim (front-among n o) [
          | inl e ↦
              elim (greatest-among (filter (λ (c : Csn). c.rid == o) (filter (is_covered n) (csns_of n.taken)))) [
                | inl z ↦ z ∙ sym e
                | inr h ↦
                    (let x = entry_of (filter (is_covered n) (csns_of n.taken)) o in
                    let m = member x h in
                    covered_zero n x m.0 (ap (front n) m.1 ∙ e) ∙ sym e)
              ]
          | inr f ↦
              (let here : f.0.csn.rid ≡ o = f.2 in
              let is : front n f.0.csn.rid ≡ f.0.csn = ap (front n) f.2 ∙ sym f.3 in
              let covered : is_covered n f.0.csn ≡ true = csn_le-from_not f.0.csn (front n f.0.csn.rid) (subst (λ z. csn_lt z f.0.csn ≡ false) (sym is) (csn_lt-irreflexive f.0.csn)) in
              let inside = filter-Contains (is_covered n) (csns_of n.taken) f.0.csn (csns-in n.taken f.0 f.1) covered in
              greatest_is (filter (λ (c : Csn). c.rid == o) (filter (is_covered n) (csns_of n.taken))) f.0.csn
              (filter-Contains (λ (c : Csn). c.rid == o) (filter (is_covered n) (csns_of n.taken)) f.0.csn inside (eq-eqb f.0.csn.rid o f.2))
              (λ d q.
              (let m = member d q in
              subst (λ z. csn_lt z d ≡ false) (ap (front n) m.1 ∙ sym f.3) (csn_not-from_le d (front n d.rid) m.0)))
              ∙ f.3)
        ]

-- ---- its order

-- each entry's originator is below those behind it
abbrev pub Rises : List Csn → Type 0
Rises [] = Unit {0}
Rises (x ∷ xs) = ((y : Csn) → Contains xs y → x.rid < y.rid) × Rises xs

pub Contains-raised : (c : Csn) (v : List Csn) (x : Csn) → Contains (raised c v) x → (c ≡ x) ⊎ Contains v x
Contains-raised c [] x h = Contains-cons_cases c [] x h
Contains-raised c (d ∷ ds) x h =
    elim (cases_Bool (nat_lt d.rid c.rid)) [
      | inl t ↦
          elim (Contains-cons_cases d (raised c ds) x (subst (λ z. Contains z x) (if_true _ _ t) h)) [
            | inl e ↦ inr (subst (λ z. Contains (d ∷ ds) z) e (Contains-here d ds))
            | inr q ↦ elim (Contains-raised c ds x q) [ inl e ↦ inl e | inr r ↦ inr (Contains-there d ds x r) ]
          ]
      | inr f ↦
          elim (cases_Bool (d.rid == c.rid)) [
            | inl t ↦
                elim (Contains-cons_cases (later_of c d) ds x (subst (λ z. Contains z x) (if_false _ _ f ∙ if_true _ _ t) h)) [
                  | inl e ↦
                      elim (later_of-cases c d) [
                        | inl l ↦ inl (sym l.0 ∙ e)
                        | inr l ↦ inr (subst (λ z. Contains (d ∷ ds) z) (sym l.0 ∙ e) (Contains-here d ds))
                      ]
                  | inr q ↦ inr (Contains-there d ds x q)
                ]
            | inr g ↦ Contains-cons_cases c (d ∷ ds) x (subst (λ z. Contains z x) (if_false _ _ f ∙ if_false _ _ g) h)
          ]
    ]

Contains-raised_by : (cs : List Csn) (x : Csn) → Contains (raised_by cs) x → Contains cs x
Contains-raised_by [] x h = h
Contains-raised_by (c ∷ cs) x h =
    elim (Contains-raised c (raised_by cs) x h) [
      | inl e ↦ subst (λ z. Contains (c ∷ cs) z) e (Contains-here c cs)
      | inr q ↦ Contains-there c cs x (Contains-raised_by cs x q)
    ]

pub raised_rises : (c : Csn) (v : List Csn) → Rises v → Rises (raised c v)
raised_rises c [] r = (λ y h. absurd (Contains-nil h), tt)
raised_rises c (d ∷ ds) r =
    elim (cases_Bool (nat_lt d.rid c.rid)) [
      | inl t ↦
          subst (λ z. Rises z) (sym (if_true (d ∷ raised c ds) _ t)) (
            λ y h.
                elim (Contains-raised c ds y h) [
                  | inl e ↦ subst (λ (z : Csn). d.rid < z.rid) e (ltb-true d.rid c.rid t)
                  | inr q ↦ r.0 y q
                ],
            raised_rises c ds r.1,
          )
      | inr f ↦
          elim (cases_Bool (d.rid == c.rid)) [
            | inl t ↦
                subst (λ z. Rises z) (sym (if_false (d ∷ raised c ds) _ f ∙ if_true (later_of c d ∷ ds) (c ∷ (d ∷ ds)) t)) (
                  λ y h.
                      (let l : d.rid < y.rid = r.0 y h in
                      let e : d.rid ≡ c.rid = eqb-true d.rid c.rid t in
                      elim (later_of-cases c d) [
                        | inl m ↦ (let q : (later_of c d).rid ≡ c.rid = ap (λ (z : Csn). z.rid) m.0 in omega arith)
                        | inr m ↦ (let q : (later_of c d).rid ≡ d.rid = ap (λ (z : Csn). z.rid) m.0 in omega arith)
                      ]),
                  r.1,
                )
            | inr g ↦
                (let up : c.rid < d.rid = apart_above (ltb-false d.rid c.rid f) (λ e. true≢false (sym (eq-eqb d.rid c.rid e) ∙ g)) in
                subst (λ z. Rises z) (sym (if_false (d ∷ raised c ds) _ f ∙ if_false (later_of c d ∷ ds) (c ∷ (d ∷ ds)) g)) (
                  λ y h.
                      elim (Contains-cons_cases d ds y h) [
                        | inl e ↦ subst (λ (z : Csn). c.rid < z.rid) e up
                        | inr q ↦ (let l : d.rid < y.rid = r.0 y q in omega arith)
                      ],
                  r,
                ))
          ]
    ]
  where
    apart_above : c.rid ≤ d.rid → d.rid ≢ c.rid → c.rid < d.rid
    apart_above l n = elim (cases_eq d.rid c.rid) [ inl e ↦ absurd (n e) | inr q ↦ omega arith ]

raised_by_rises : (cs : List Csn) → Rises (raised_by cs)
raised_by_rises [] = tt
raised_by_rises (c ∷ cs) = raised_rises c (raised_by cs) (raised_by_rises cs)

pub by_places : (v : List Csn) → Rises v → (i j : ℕ) → i < j → j < length v → (slice_index_or v i zero_csn).rid < (slice_index_or v j zero_csn).rid
by_places [] r i j l h = absurd (omega arith)
by_places (x ∷ xs) r i zero l h = absurd (omega arith)
by_places (x ∷ xs) r zero (suc j) l h = r.0 (slice_index_or xs j zero_csn) (Contains-get_or xs j zero_csn (omega arith))
by_places (x ∷ xs) r (suc i) (suc j) l h = by_places xs r.1 i j (omega arith) (omega arith)

-- a sound node's vector is one: of each originator one entry, in rising order, none of them zero
pub vector_of-is : (n : Node) → IsSoundNode n → IsVector (vector_of n)
vector_of-is n s = record {
  rising = by_places (vector_of n) (raised_by_rises (filter (is_covered n) (csns_of n.taken)));
  kept = λ i h e.
      (let x = slice_index_or (vector_of n) i zero_csn in
      let m = Contains-filter (is_covered n) (csns_of n.taken) x (Contains-raised_by (filter (is_covered n) (csns_of n.taken)) x (Contains-get_or (vector_of n) i zero_csn h)) in
      let f = csns-from n.taken x m.0 in
      let r : 0 < f.0.csn.rid = s.taken_named f.0 f.1 in
      let z : f.0.csn.rid ≡ 0 = ap (λ (z : Csn). z.rid) (f.2 ∙ e) in
      absurd (omega arith));
}

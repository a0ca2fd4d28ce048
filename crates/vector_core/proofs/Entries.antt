-- The entries of a vector, by place.
use Rattle.std.proofs.Common.{◌≡◌, ◌≢◌, ℕ, ◌+◌, ◌<◌, ◌≤◌, zero, suc, true, false, ◌⊎◌, inl, inr, List, [], ◌∷◌, ◌++◌, refl, sym, ap, subst, ◌∙◌, arith, Contains, get_or, length, ◌==◌, eqb-true, eq-eqb, ne_eqb, filter, append-nil, cond, nat_lt, ltb-true, lt-ltb, if◌then◌else◌}
use Rattle.std.proofs.lemmas.Bool.{cases_Bool, cases_eq, cases_lt}
use Rattle.std.proofs.Math.ListN.{set}
use Rattle.std.specs.List.{insert}
use Rattle.std.specs.List.Sorted.{IsPartitionedBy}
use Rattle.std.proofs.lemmas.List.{get_or_default, get_or-set_other, get_or-set_same, length-set}
use Rattle.std.proofs.lemmas.List.Edits.{length-insert, get_or-insert_below, get_or-insert_at, get_or-insert_above}
use Rattle.std.proofs.lemmas.List.Elements.{filter-append}
use Rattle.repl_data.specs.declared.csn.Csn.{Csn}
use Rattle.repl_data.specs.Order.{csn_lt, zero_csn}
use Rattle.vector_core.specs.Greatest.{later_of, greatest}
use Rattle.vector_core.specs.Vector.{IsVector, entry_of, IsRaised, IsMerged, HasEntries}
use Rattle.vector_core.proofs.Lists.{Contains-filter, filter-Contains, if_true, if_false}
use Rattle.repl_data.proofs.CsnTests.{csn_lt-irreflexive, csn_lt-zero}
use Rattle.vector_core.proofs.Greatests.{greatest_is, greatest_none, greatest-push, later_of_assoc, later_right, later_left, later_zero, zero_later}

-- this entry stands somewhere
abbrev pub At : List Csn → Csn → Type 0
At v x = (k : ℕ) × (k < length v) × (get_or v k zero_csn ≡ x)

-- no entry is of this originator
abbrev pub HasNone : List Csn → ℕ → Type 0
HasNone v o = (k : ℕ) → k < length v → (get_or v k zero_csn).rid ≡ o → ⊥

pub At-Contains : (v : List Csn) (x : Csn) → At v x → Contains v x
At-Contains v x h = (h.0, h.1, get_or_default v h.0 x zero_csn h.1 ∙ h.2)

pub Contains-At : (v : List Csn) (x : Csn) → Contains v x → At v x
Contains-At v x h = (h.0, h.1, get_or_default v h.0 zero_csn x h.1 ∙ h.2)

-- no two entries are of one originator
pub one_place : (v : List Csn) → IsVector v → (i j : ℕ) → i < length v → j < length v → (get_or v i zero_csn).rid ≡ (get_or v j zero_csn).rid → i ≡ j
one_place v is i j hi hj e =
    elim (cases_lt i j) [
      | inl l ↦ (let r = is.rising i j l hj in absurd (omega arith))
      | inr l ↦
          elim (cases_lt j i) [
            | inl m ↦ (let r = is.rising j i m hi in absurd (omega arith))
            | inr m ↦ omega arith
          ]
    ]

pub entry_here : (v : List Csn) (o : ℕ) (x : Csn) → IsVector v → At v x → x.rid ≡ o → entry_of v o ≡ x
entry_here v o x is h e =
    greatest_is (filter (λ (c : Csn). c.rid == o) v) x
    (filter-Contains (λ (c : Csn). c.rid == o) v x (At-Contains v x h) (eq-eqb x.rid o e))
    (λ y q.
    let f = Contains-filter (λ (c : Csn). c.rid == o) v y q in
    let at = Contains-At v y f.0 in
    let ey : y.rid ≡ o = eqb-true y.rid o f.1 in
    let k : h.0 ≡ at.0 = one_place v is h.0 at.0 h.1 at.1 (ap (λ (z : Csn). z.rid) h.2 ∙ e ∙ sym ey ∙ ap (λ (z : Csn). z.rid) (sym at.2)) in
    let same : x ≡ y = sym h.2 ∙ ap (λ n. get_or v n zero_csn) k ∙ at.2 in
    subst (λ z. csn_lt x z ≡ false) same (csn_lt-irreflexive x))

pub entry_none : (v : List Csn) (o : ℕ) → HasNone v o → entry_of v o ≡ zero_csn
entry_none v o h =
    greatest_none (filter (λ (c : Csn). c.rid == o) v)
    (λ y q.
    let f = Contains-filter (λ (c : Csn). c.rid == o) v y q in
    let at = Contains-At v y f.0 in
    h at.0 at.1 (ap (λ (z : Csn). z.rid) at.2 ∙ eqb-true y.rid o f.1))

-- an originator has an entry or none
pub entry_or_none : (v : List Csn) (o : ℕ) → ((x : Csn) × At v x × (x.rid ≡ o)) ⊎ HasNone v o
entry_or_none v o = upto (length v) (omega arith)
  where
    upto : (n : ℕ) → n ≤ length v → ((x : Csn) × At v x × (x.rid ≡ o)) ⊎ ((k : ℕ) → k < n → (get_or v k zero_csn).rid ≡ o → ⊥)
    upto zero h = inr (λ k l e. omega arith)
    upto (suc n) h =
        elim (cases_eq (get_or v n zero_csn).rid o) [
          | inl e ↦ inl (get_or v n zero_csn, (n, omega arith, refl), e)
          | inr d ↦
              elim (upto n (omega arith)) [
                | inl q ↦ inl q
                | inr q ↦
                    inr (λ k l e.
                    elim (cases_lt k n) [
                      | inl m ↦ q k m e
                      | inr m ↦ (let s : k ≡ n = omega arith in d (ap (λ i. (get_or v i zero_csn).rid) (sym s) ∙ e))
                    ])
              ]
        ]

-- those of lower replica ids come first
pub IsVector-parted : (v : List Csn) (o : ℕ) → IsVector v → IsPartitionedBy (λ (x : Csn). nat_lt x.rid o) v
IsVector-parted v o is = λ i j d le l h.
    elim (cases_lt i j) [
      | inl m ↦
          (let up = is.rising i j m l in
          let ei = get_or_default v i d zero_csn (omega arith) in
          let ej = get_or_default v j d zero_csn l in
          let ri : (get_or v i d).rid ≡ (get_or v i zero_csn).rid = ap (λ (z : Csn). z.rid) ei in
          let rj : (get_or v j d).rid ≡ (get_or v j zero_csn).rid = ap (λ (z : Csn). z.rid) ej in
          let b : (get_or v j d).rid < o = ltb-true (get_or v j d).rid o h in
          lt-ltb (get_or v i d).rid o (omega arith))
      | inr m ↦ (let e : j ≡ i = omega arith in subst (λ k. nat_lt (get_or v k d).rid o ≡ true) e h)
    ]

-- EDITS

-- what stands elsewhere stays, and of its originator the later of the two stands there
pub raised_from : (v w : List Csn) (c top : Csn) → IsVector v → IsVector w → later_of (entry_of v c.rid) c ≡ top → top.rid ≡ c.rid → At w top
    → ((x : Csn) → x.rid ≢ c.rid → At v x → At w x) → ((x : Csn) → x.rid ≢ c.rid → At w x → At v x) → IsRaised v w c
raised_from v w c top isv isw e er at there back = λ o.
    elim (cases_eq o c.rid) [
      | inl q ↦
          entry_here w o top isw at (er ∙ sym q) ∙ sym e ∙ ap (λ n. later_of (entry_of v n) c) (sym q)
          ∙ sym (if_true (later_of (entry_of v o) c) (entry_of v o) (eq-eqb o c.rid q))
      | inr d ↦
          (elim (entry_or_none v o) [
            | inl h ↦ entry_here w o h.0 isw (there h.0 (λ f. d (sym h.2 ∙ f)) h.1) h.2 ∙ sym (entry_here v o h.0 isv h.1 h.2)
            | inr h ↦
                entry_none w o (λ k l f. let b = back (get_or w k zero_csn) (λ g. d (sym f ∙ g)) (k, l, refl) in h b.0 b.1 (ap (λ (z : Csn). z.rid) b.2 ∙ f))
                ∙ sym (entry_none v o h)
          ])
          ∙ sym (if_false (later_of (entry_of v o) c) (entry_of v o) (ne_eqb o c.rid d))
    ]

pub raised_zero : (v : List Csn) → IsRaised v v zero_csn
raised_zero v = λ o.
    elim (cases_Bool (o == 0)) [
      | inl t ↦ sym (if_true (later_of (entry_of v o) zero_csn) (entry_of v o) t ∙ later_zero (entry_of v o))
      | inr f ↦ sym (if_false (later_of (entry_of v o) zero_csn) (entry_of v o) f)
    ]

pub raised_same : (v : List Csn) (c : Csn) (i : ℕ) → IsVector v → i < length v → (get_or v i zero_csn).rid ≡ c.rid → csn_lt (get_or v i zero_csn) c ≡ false → IsRaised v v c
raised_same v c i is l e low =
    raised_from v v c (get_or v i zero_csn) is is
    (ap (λ z. later_of z c) (entry_here v c.rid (get_or v i zero_csn) is (i, l, refl) e) ∙ later_left (get_or v i zero_csn) c low)
    e (i, l, refl) (λ x d h. h) (λ x d h. h)

pub not_zero : (a c : Csn) → csn_lt a c ≡ true → c ≡ zero_csn → ⊥
not_zero a c h e = let f : csn_lt a c ≡ false = subst (λ z. csn_lt a z ≡ false) (sym e) (csn_lt-zero a) in absurd cc

rid_set : (v : List Csn) (c : Csn) (i : ℕ) → i < length v → (get_or v i zero_csn).rid ≡ c.rid → (k : ℕ) → (get_or (set v i c) k zero_csn).rid ≡ (get_or v k zero_csn).rid
rid_set v c i l e k =
    elim (cases_eq k i) [
      | inl q ↦ ap (λ n. (get_or (set v i c) n zero_csn).rid) q ∙ ap (λ (z : Csn). z.rid) (get_or-set_same v i c zero_csn l) ∙ sym e ∙ ap (λ n. (get_or v n zero_csn).rid) (sym q)
      | inr d ↦ ap (λ (z : Csn). z.rid) (get_or-set_other v i k c zero_csn d)
    ]

pub IsVector-set : (v : List Csn) (c : Csn) (i : ℕ) → IsVector v → i < length v → (get_or v i zero_csn).rid ≡ c.rid → (c ≡ zero_csn → ⊥) → IsVector (set v i c)
IsVector-set v c i is l e nz = record {
  rising = λ j k m h.
      let n : length (set v i c) ≡ length v = length-set v i c in
      let up = is.rising j k m (omega arith) in
      let rj = rid_set v c i l e j in
      let rk = rid_set v c i l e k in
      omega arith;
  kept = λ k h.
      let n : length (set v i c) ≡ length v = length-set v i c in
      elim (cases_eq k i) [
        | inl q ↦ λ f. nz (sym (get_or-set_same v i c zero_csn l) ∙ ap (λ n. get_or (set v i c) n zero_csn) (sym q) ∙ f)
        | inr d ↦ λ f. is.kept k (omega arith) (sym (get_or-set_other v i k c zero_csn d) ∙ f)
      ];
}

pub raised_set : (v : List Csn) (c : Csn) (i : ℕ) → IsVector v → i < length v → (get_or v i zero_csn).rid ≡ c.rid → csn_lt (get_or v i zero_csn) c ≡ true → IsRaised v (set v i c) c
raised_set v c i is l e low =
    let n : length (set v i c) ≡ length v = length-set v i c in
    let other = λ (x : Csn) (k : ℕ) (d : x.rid ≢ c.rid) (q : (get_or v k zero_csn).rid ≡ x.rid) (same : k ≡ i). d (sym q ∙ ap (λ n. (get_or v n zero_csn).rid) same ∙ e) in
    raised_from v (set v i c) c c is (IsVector-set v c i is l e (not_zero (get_or v i zero_csn) c low))
    (ap (λ z. later_of z c) (entry_here v c.rid (get_or v i zero_csn) is (i, l, refl) e) ∙ later_right (get_or v i zero_csn) c low)
    refl (i, omega arith, get_or-set_same v i c zero_csn l)
    (λ x d h. (h.0, omega (arith, h.1), get_or-set_other v i h.0 c zero_csn (other x h.0 d (ap (λ (z : Csn). z.rid) h.2)) ∙ h.2))
    (λ x d h.
    let ne : h.0 ≢ i = other x h.0 d (sym (rid_set v c i l e h.0) ∙ ap (λ (z : Csn). z.rid) h.2) in
    (h.0, omega (arith, h.1), sym (get_or-set_other v i h.0 c zero_csn ne) ∙ h.2))

-- where an originator without an entry would stand
pub record IsGap (v : List Csn) (c : Csn) (i : ℕ) : Type 0 where
  pub within : i ≤ length v
  pub below : (k : ℕ) → k < i → (get_or v k zero_csn).rid < c.rid
  pub above : (k : ℕ) → i ≤ k → k < length v → c.rid < (get_or v k zero_csn).rid

pub gap_from : (v : List Csn) (c : Csn) (i : ℕ) → IsVector v → i ≤ length v → ((k : ℕ) → k < i → (get_or v k zero_csn).rid < c.rid)
    → ((k : ℕ) → i ≤ k → k < length v → c.rid ≤ (get_or v k zero_csn).rid) → (i < length v → (get_or v i zero_csn).rid ≢ c.rid) → IsGap v c i
gap_from v c i is w b a d = record {
  within = w;
  below = b;
  above = λ k le l.
      let here = a i (omega arith) (omega arith) in
      let ne = d (omega arith) in
      elim (cases_lt i k) [
        | inl m ↦ (let up = is.rising i k m l in omega arith)
        | inr m ↦ (let e : i ≡ k = omega arith in let r : (get_or v i zero_csn).rid ≡ (get_or v k zero_csn).rid = ap (λ n. (get_or v n zero_csn).rid) e in omega arith)
      ];
}

-- an element after an insertion: one from before it, the new one, or one from behind it
pub insert_cases : (v : List Csn) (c : Csn) (i k : ℕ) → i ≤ length v → k < length (insert v i c)
    → ((k < i) × (get_or (insert v i c) k zero_csn ≡ get_or v k zero_csn)) ⊎ (((k ≡ i) × (get_or (insert v i c) k zero_csn ≡ c)) ⊎ ((m : ℕ) × (k ≡ m + 1) × (i ≤ m) × (m < length v) × (get_or (insert v i c) k zero_csn ≡ get_or v m zero_csn)))
insert_cases v c i k w l =
    let n : length (insert v i c) ≡ length v + 1 = length-insert v i c w in
    elim (cases_lt k i) [
      | inl m ↦ inl (m, get_or-insert_below v i c zero_csn k m w)
      | inr m ↦
          elim (cases_eq k i) [
            | inl e ↦ inr (inl (e, ap (λ n. get_or (insert v i c) n zero_csn) e ∙ get_or-insert_at v i c zero_csn w))
            | inr d ↦
                inr (inr (behind k m d l))
          ]
    ]
  where
    behind : (k : ℕ) → i ≤ k → k ≢ i → k < length (insert v i c) → (m : ℕ) × (k ≡ m + 1) × (i ≤ m) × (m < length v) × (get_or (insert v i c) k zero_csn ≡ get_or v m zero_csn)
    behind zero le d h = absurd (omega arith)
    behind (suc m) le d h =
        let n : length (insert v i c) ≡ length v + 1 = length-insert v i c w in
        let e : suc m ≡ m + 1 = omega arith in
        (m, e, omega arith, omega arith, ap (λ n. get_or (insert v i c) n zero_csn) e ∙ get_or-insert_above v i c zero_csn m (omega arith) w)

pub insert_there : (v : List Csn) (c x : Csn) (i : ℕ) → i ≤ length v → At v x → At (insert v i c) x
insert_there v c x i w h =
    let n : length (insert v i c) ≡ length v + 1 = length-insert v i c w in
    let l : h.0 < length v = h.1 in
    elim (cases_lt h.0 i) [
      | inl m ↦ (h.0, omega arith, get_or-insert_below v i c zero_csn h.0 m w ∙ h.2)
      | inr m ↦ (h.0 + 1, omega arith, get_or-insert_above v i c zero_csn h.0 m w ∙ h.2)
    ]

pub insert_back : (v : List Csn) (c x : Csn) (i : ℕ) → i ≤ length v → At (insert v i c) x → (x ≡ c) ⊎ At v x
insert_back v c x i w h =
    elim (insert_cases v c i h.0 w h.1) [
      | inl q ↦ (let a : h.0 < i = q.0 in inr (h.0, omega arith, sym q.1 ∙ h.2))
      | inr (inl q) ↦ inl (sym h.2 ∙ q.1)
      | inr (inr q) ↦ inr (q.0, q.3, sym q.4 ∙ h.2)
    ]

-- the replica ids of neighbours in what an insertion leaves
rid_at : (v : List Csn) (c : Csn) (i k : ℕ) → IsGap v c i → k < length (insert v i c)
    → ((k < i) × ((get_or (insert v i c) k zero_csn).rid ≡ (get_or v k zero_csn).rid) × ((get_or v k zero_csn).rid < c.rid))
    ⊎ (((k ≡ i) × ((get_or (insert v i c) k zero_csn).rid ≡ c.rid))
    ⊎ ((m : ℕ) × (k ≡ m + 1) × (i ≤ m) × (m < length v) × ((get_or (insert v i c) k zero_csn).rid ≡ (get_or v m zero_csn).rid) × (c.rid < (get_or v m zero_csn).rid)))
rid_at v c i k g l =
    elim (insert_cases v c i k g.within l) [
      | inl q ↦ inl (q.0, ap (λ (z : Csn). z.rid) q.1, g.below k q.0)
      | inr (inl q) ↦ inr (inl (q.0, ap (λ (z : Csn). z.rid) q.1))
      | inr (inr q) ↦ inr (inr (q.0, q.1, q.2, q.3, ap (λ (z : Csn). z.rid) q.4, g.above q.0 q.2 q.3))
    ]

pub IsVector-insert : (v : List Csn) (c : Csn) (i : ℕ) → IsVector v → IsGap v c i → (c ≡ zero_csn → ⊥) → IsVector (insert v i c)
IsVector-insert v c i is g nz = record {
  rising = λ j k m h.
      elim (rid_at v c i j g (omega arith)) [
        | inl p ↦
            elim (rid_at v c i k g h) [
              | inl q ↦ (let w = g.within in let up = is.rising j k m (omega (arith, q.0)) in omega (arith, p.1, q.1))
              | inr (inl q) ↦ omega (arith, p.1, p.2, q.1)
              | inr (inr q) ↦ omega (arith, p.1, p.2, q.4, q.5)
            ]
        | inr (inl p) ↦
            elim (rid_at v c i k g h) [
              | inl q ↦ absurd (omega (arith, p.0, q.0))
              | inr (inl q) ↦ absurd (omega (arith, p.0, q.0))
              | inr (inr q) ↦ omega (arith, p.1, q.4, q.5)
            ]
        | inr (inr p) ↦
            elim (rid_at v c i k g h) [
              | inl q ↦ absurd (omega (arith, p.1, p.2, q.0))
              | inr (inl q) ↦ absurd (omega (arith, p.1, p.2, q.0))
              | inr (inr q) ↦ (let up = is.rising p.0 q.0 (omega (arith, p.1, q.1)) q.3 in omega (arith, p.4, q.4))
            ]
      ];
  kept = λ k h.
      elim (insert_cases v c i k g.within h) [
        | inl q ↦ (let w = g.within in let a : k < i = q.0 in λ f. is.kept k (omega arith) (sym q.1 ∙ f))
        | inr (inl q) ↦ λ f. nz (sym q.1 ∙ f)
        | inr (inr q) ↦ λ f. is.kept q.0 q.3 (sym q.4 ∙ f)
      ];
}

pub raised_insert : (v : List Csn) (c : Csn) (i : ℕ) → IsVector v → IsGap v c i → (c ≡ zero_csn → ⊥) → IsRaised v (insert v i c) c
raised_insert v c i is g nz =
    let none : HasNone v c.rid = λ k l e. elim (cases_lt k i) [ inl m ↦ (let b = g.below k m in omega arith) | inr m ↦ (let a = g.above k m l in omega arith) ] in
    let n : length (insert v i c) ≡ length v + 1 = length-insert v i c g.within in
    let w = g.within in
    raised_from v (insert v i c) c c is (IsVector-insert v c i is g nz)
    (ap (λ z. later_of z c) (entry_none v c.rid none) ∙ zero_later c)
    refl (i, omega arith, get_or-insert_at v i c zero_csn w)
    (λ x d h. insert_there v c x i w h)
    (λ x d h. elim (insert_back v c x i w h) [ inl e ↦ absurd (d (ap (λ (z : Csn). z.rid) e)) | inr q ↦ q ])

-- one more CSN at the end of a list
pub entry_of-push : (cs : List Csn) (c : Csn) → IsRaised cs (cs ++ c ∷ []) c
entry_of-push cs c = λ o.
    elim (cases_eq o c.rid) [
      | inl e ↦
          ap greatest (filter-append (λ (x : Csn). x.rid == o) cs (c ∷ [])
          ∙ ap (λ b. filter (λ (x : Csn). x.rid == o) cs ++ cond b (c ∷ []) []) (eq-eqb c.rid o (sym e)))
          ∙ greatest-push (filter (λ (x : Csn). x.rid == o) cs) c
          ∙ sym (if_true (later_of (entry_of cs o) c) (entry_of cs o) (eq-eqb o c.rid e))
      | inr d ↦
          ap greatest (filter-append (λ (x : Csn). x.rid == o) cs (c ∷ [])
          ∙ ap (λ b. filter (λ (x : Csn). x.rid == o) cs ++ cond b (c ∷ []) []) (ne_eqb c.rid o (λ e. d (sym e)))
          ∙ append-nil (filter (λ (x : Csn). x.rid == o) cs))
          ∙ sym (if_false (later_of (entry_of cs o) c) (entry_of cs o) (ne_eqb o c.rid d))
    ]

pub merged_none : (v : List Csn) → IsMerged v [] v
unfolding greatest
merged_none v = λ o. sym (later_zero (entry_of v o))

-- a merge goes on by one more CSN
pub merged_more : (v w z cs : List Csn) (c : Csn) → IsMerged v cs w → IsRaised w z c → IsMerged v (cs ++ c ∷ []) z
merged_more v w z cs c m r = λ o.
    elim (cases_eq o c.rid) [
      | inl e ↦
          (let t : (o == c.rid) ≡ true = eq-eqb o c.rid e in
          r o ∙ if_true (later_of (entry_of w o) c) (entry_of w o) t ∙ ap (λ x. later_of x c) (m o) ∙ later_of_assoc (entry_of v o) (entry_of cs o) c
          ∙ ap (λ x. later_of (entry_of v o) x) (sym (entry_of-push cs c o ∙ if_true (later_of (entry_of cs o) c) (entry_of cs o) t)))
      | inr d ↦
          (let t : (o == c.rid) ≡ false = ne_eqb o c.rid d in
          r o ∙ if_false (later_of (entry_of w o) c) (entry_of w o) t ∙ m o
          ∙ ap (λ x. later_of (entry_of v o) x) (sym (entry_of-push cs c o ∙ if_false (later_of (entry_of cs o) c) (entry_of cs o) t)))
    ]

-- two raised by one CSN stay alike
pub alike_more : (v w cs : List Csn) (c : Csn) → HasEntries v cs → IsRaised v w c → HasEntries w (cs ++ c ∷ [])
alike_more v w cs c h r = λ o.
    r o ∙ ap (λ x. if o == c.rid then later_of x c else x) (h o) ∙ sym (entry_of-push cs c o)

-- an originator that is not at the place where its entry would stand has none
pub none_at_gap : (v : List Csn) (o i : ℕ) → IsVector v → i ≤ length v → ((k : ℕ) → k < i → (get_or v k zero_csn).rid < o)
    → ((k : ℕ) → i ≤ k → k < length v → o ≤ (get_or v k zero_csn).rid) → (i < length v → (get_or v i zero_csn).rid ≢ o) → HasNone v o
none_at_gap v o i is w b a d k l e =
    elim (cases_lt k i) [
      | inl m ↦ (let h = b k m in omega arith)
      | inr m ↦ (let here = a i (omega arith) (omega arith) in let ne = d (omega arith) in
          elim (cases_lt i k) [
            | inl n ↦ (let up = is.rising i k n l in omega arith)
            | inr n ↦ (let same : i ≡ k = omega arith in ne (ap (λ n. (get_or v n zero_csn).rid) same ∙ e))
          ])
    ]

-- one step of raising, where `ys` is the list as it was read
pub insert_step : (v ys : List Csn) (c : Csn) (i : ℕ) → ys ≡ v → IsVector v → i ≤ length ys → ((k : ℕ) → k < i → (get_or ys k zero_csn).rid < c.rid)
    → ((k : ℕ) → i ≤ k → k < length ys → c.rid ≤ (get_or ys k zero_csn).rid) → (i < length ys → (get_or ys i zero_csn).rid ≢ c.rid) → (c ≡ zero_csn → ⊥)
    → IsVector (insert v i c) × IsRaised v (insert v i c) c
insert_step v ys c i e is w b a d nz =
    let w' : i ≤ length v = subst (λ z. i ≤ length z) e w in
    let b' : (k : ℕ) → k < i → (get_or v k zero_csn).rid < c.rid = subst (λ z. (k : ℕ) → k < i → (get_or z k zero_csn).rid < c.rid) e b in
    let a' : (k : ℕ) → i ≤ k → k < length v → c.rid ≤ (get_or v k zero_csn).rid = subst (λ z. (k : ℕ) → i ≤ k → k < length z → c.rid ≤ (get_or z k zero_csn).rid) e a in
    let d' : i < length v → (get_or v i zero_csn).rid ≢ c.rid = subst (λ z. i < length z → (get_or z i zero_csn).rid ≢ c.rid) e d in
    let g = gap_from v c i is w' b' a' d' in
    (IsVector-insert v c i is g nz, raised_insert v c i is g nz)

pub set_step : (v ys : List Csn) (c x : Csn) (i : ℕ) → ys ≡ v → IsVector v → i < length ys → x ≡ get_or ys i zero_csn → x.rid ≡ c.rid → csn_lt x c ≡ true
    → IsVector (set v i c) × IsRaised v (set v i c) c
set_step v ys c x i e is l h r low =
    let l' : i < length v = subst (λ z. i < length z) e l in
    let h' : x ≡ get_or v i zero_csn = subst (λ z. x ≡ get_or z i zero_csn) e h in
    let r' : (get_or v i zero_csn).rid ≡ c.rid = ap (λ (z : Csn). z.rid) (sym h') ∙ r in
    let low' : csn_lt (get_or v i zero_csn) c ≡ true = subst (λ z. csn_lt z c ≡ true) h' low in
    (IsVector-set v c i is l' r' (not_zero (get_or v i zero_csn) c low'), raised_set v c i is l' r' low')

pub same_step : (v ys : List Csn) (c x : Csn) (i : ℕ) → ys ≡ v → IsVector v → i < length ys → x ≡ get_or ys i zero_csn → x.rid ≡ c.rid → csn_lt x c ≡ false → IsRaised v v c
same_step v ys c x i e is l h r low =
    let l' : i < length v = subst (λ z. i < length z) e l in
    let h' : x ≡ get_or v i zero_csn = subst (λ z. x ≡ get_or z i zero_csn) e h in
    raised_same v c i is l' (ap (λ (z : Csn). z.rid) (sym h') ∙ r) (subst (λ z. csn_lt z c ≡ false) h' low)

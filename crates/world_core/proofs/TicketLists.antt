-- Tickets in rising order of number: what putting one in, and leaving some out, does to the list.
use Rattle.std.proofs.Common.{◌≡◌, ◌≢◌, ℕ, ◌<◌, ◌≤◌, ◌⊎◌, inl, inr, Bool, not, ◌==◌, List, [], ◌∷◌, filter, sym, ap, subst, ◌∙◌, arith, Contains, nat_lt, ltb-true, ltb-false, eqb-true, eq-eqb, ne_eqb}
use Rattle.std.proofs.lemmas.Bool.{cases_Bool, cases_eq, not-true, true≢false}
use Rattle.vector_core.proofs.Lists.{Contains-nil, Contains-here, Contains-there, Contains-cons_cases, if_true, if_false, Contains-filter, filter-Contains}
use Rattle.world_core.specs.World.{Ticket, without_ticket, with_ticket}
use Rattle.world_core.specs.Laws.{AreRising}

-- no two have one number
pub one_number : (tickets : List Ticket) (t s : Ticket) → AreRising tickets → Contains tickets t → Contains tickets s → t.number ≡ s.number → t ≡ s
one_number [] t s r c d e = absurd (Contains-nil c)
one_number (x ∷ xs) t s r c d e =
    elim (Contains-cons_cases x xs t c) [
      | inl p ↦
          elim (Contains-cons_cases x xs s d) [
            | inl q ↦ sym p ∙ q
            | inr q ↦ (let l : x.number < s.number = r.0 s q in let n : x.number ≡ t.number = ap (λ (z : Ticket). z.number) p in absurd (omega arith))
          ]
      | inr p ↦
          elim (Contains-cons_cases x xs s d) [
            | inl q ↦ (let l : x.number < t.number = r.0 t p in let n : x.number ≡ s.number = ap (λ (z : Ticket). z.number) q in absurd (omega arith))
            | inr q ↦ one_number xs t s r.1 p q e
          ]
    ]

pub filter_rises : (p : Ticket → Bool) (tickets : List Ticket) → AreRising tickets → AreRising (filter p tickets)
filter_rises p [] r = tt
filter_rises p (x ∷ xs) r =
    elim (cases_Bool (p x)) [
      | inl t ↦
          subst (λ z. AreRising z) (sym (if_true (x ∷ filter p xs) (filter p xs) t))
          (λ s h. r.0 s (Contains-filter p xs s h).0, filter_rises p xs r.1)
      | inr f ↦ subst (λ z. AreRising z) (sym (if_false (x ∷ filter p xs) (filter p xs) f)) (filter_rises p xs r.1)
    ]

pub kept_ticket : (k : ℕ) (tickets : List Ticket) (u : Ticket) → Contains (without_ticket k tickets) u → Contains tickets u × (u.number ≢ k)
kept_ticket k tickets u c =
    let f = Contains-filter (λ (z : Ticket). not (z.number == k)) tickets u c in
    (f.0, λ e. true≢false (sym (eq-eqb u.number k e) ∙ not-true (u.number == k) f.1))

pub ticket_kept : (k : ℕ) (tickets : List Ticket) (u : Ticket) → Contains tickets u → u.number ≢ k → Contains (without_ticket k tickets) u
ticket_kept k tickets u c d = filter-Contains (λ (z : Ticket). not (z.number == k)) tickets u c (ap not (ne_eqb u.number k d))

-- ---- a ticket in its place

-- a member is that ticket, or one of the others
pub put_ticket : (t : Ticket) (tickets : List Ticket) (u : Ticket) → AreRising tickets → Contains (with_ticket t tickets) u → (t ≡ u) ⊎ Contains (without_ticket t.number tickets) u
put_ticket t [] u r h = elim (Contains-cons_cases t [] u h) [ inl e ↦ inl e | inr q ↦ absurd (Contains-nil q) ]
put_ticket t (s ∷ rest) u r h =
    elim (cases_Bool (nat_lt s.number t.number)) [
      | inl l ↦
          (let low : s.number < t.number = ltb-true s.number t.number l in
          elim (Contains-cons_cases s (with_ticket t rest) u (subst (λ z. Contains z u) (if_true (s ∷ with_ticket t rest) _ l) h)) [
            | inl e ↦
                inr (ticket_kept t.number (s ∷ rest) u (subst (λ z. Contains (s ∷ rest) z) e (Contains-here s rest))
                (λ n. (let m : s.number ≡ u.number = ap (λ (z : Ticket). z.number) e in absurd (omega arith))))
            | inr q ↦
                elim (put_ticket t rest u r.1 q) [
                  | inl e ↦ inl e
                  | inr k ↦ (let m = kept_ticket t.number rest u k in inr (ticket_kept t.number (s ∷ rest) u (Contains-there s rest u m.0) m.1))
                ]
          ])
      | inr f ↦
          elim (cases_Bool (s.number == t.number)) [
            | inl e ↦
                (let same : s.number ≡ t.number = eqb-true s.number t.number e in
                elim (Contains-cons_cases t rest u (subst (λ z. Contains z u) (if_false (s ∷ with_ticket t rest) _ f ∙ if_true (t ∷ rest) (t ∷ (s ∷ rest)) e) h)) [
                  | inl q ↦ inl q
                  | inr q ↦ inr (ticket_kept t.number (s ∷ rest) u (Contains-there s rest u q) (λ n. (let l : s.number < u.number = r.0 u q in absurd (omega arith))))
                ])
            | inr d ↦
                (let up : t.number < s.number = apart_above (ltb-false s.number t.number f) (λ e. true≢false (sym (eq-eqb s.number t.number e) ∙ d)) in
                elim (Contains-cons_cases t (s ∷ rest) u (subst (λ z. Contains z u) (if_false (s ∷ with_ticket t rest) _ f ∙ if_false (t ∷ rest) (t ∷ (s ∷ rest)) d) h)) [
                  | inl q ↦ inl q
                  | inr q ↦
                      inr (ticket_kept t.number (s ∷ rest) u q
                      (λ n.
                      elim (Contains-cons_cases s rest u q) [
                        | inl e ↦ (let m : s.number ≡ u.number = ap (λ (z : Ticket). z.number) e in absurd (omega arith))
                        | inr k ↦ (let l : s.number < u.number = r.0 u k in absurd (omega arith))
                      ]))
                ])
          ]
    ]
  where
    apart_above : t.number ≤ s.number → s.number ≢ t.number → t.number < s.number
    apart_above l n = elim (cases_eq s.number t.number) [ inl e ↦ absurd (n e) | inr q ↦ omega arith ]

-- a member of the rest is at or below what every member is above
put_above : (t : Ticket) (tickets : List Ticket) (k : ℕ) → AreRising tickets → k < t.number → ((s : Ticket) → Contains tickets s → k < s.number) → (u : Ticket) → Contains (with_ticket t tickets) u → k < u.number
put_above t tickets k r l above u h =
    elim (put_ticket t tickets u r h) [
      | inl e ↦ subst (λ (z : Ticket). k < z.number) e l
      | inr q ↦ above u (kept_ticket t.number tickets u q).0
    ]

pub put_rises : (t : Ticket) (tickets : List Ticket) → AreRising tickets → AreRising (with_ticket t tickets)
put_rises t [] r = (λ s h. absurd (Contains-nil h), tt)
put_rises t (s ∷ rest) r =
    elim (cases_Bool (nat_lt s.number t.number)) [
      | inl l ↦
          subst (λ z. AreRising z) (sym (if_true (s ∷ with_ticket t rest) _ l))
          (put_above t rest s.number r.1 (ltb-true s.number t.number l) r.0, put_rises t rest r.1)
      | inr f ↦
          elim (cases_Bool (s.number == t.number)) [
            | inl e ↦
                (let same : s.number ≡ t.number = eqb-true s.number t.number e in
                subst (λ z. AreRising z) (sym (if_false (s ∷ with_ticket t rest) _ f ∙ if_true (t ∷ rest) (t ∷ (s ∷ rest)) e))
                (λ u h. (let l : s.number < u.number = r.0 u h in omega arith), r.1))
            | inr d ↦
                (let up : t.number < s.number = apart_above (ltb-false s.number t.number f) (λ e. true≢false (sym (eq-eqb s.number t.number e) ∙ d)) in
                subst (λ z. AreRising z) (sym (if_false (s ∷ with_ticket t rest) _ f ∙ if_false (t ∷ rest) (t ∷ (s ∷ rest)) d)) (
                  λ u h.
                      elim (Contains-cons_cases s rest u h) [
                        | inl e ↦ subst (λ (z : Ticket). t.number < z.number) e up
                        | inr q ↦ (let l : s.number < u.number = r.0 u q in omega arith)
                      ],
                  r,
                ))
          ]
    ]
  where
    apart_above : t.number ≤ s.number → s.number ≢ t.number → t.number < s.number
    apart_above l n = elim (cases_eq s.number t.number) [ inl e ↦ absurd (n e) | inr q ↦ omega arith ]

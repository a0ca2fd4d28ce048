-- Where a ticket stands among others, in rising order of number.
use Rattle.std.proofs.Common.{◌≡◌, ℕ, ◌<◌, inl, inr, Bool, true, false, not, ◌==◌, List, [], ◌∷◌, find, position, Some, None, refl, sym, ap, ◌∙◌, arith, Contains, nat_lt, nat_le, ltb-true, ltb-false, eqb-true}
use Rattle.std.specs.List.{insert, remove, position_or_len}
use Rattle.std.proofs.lemmas.Bool.{cases_Bool, le-leb, lt-leb, lt-ltb, le-ltb, ne_eqb}
use Rattle.vector_core.proofs.Lists.{if_true, if_false, Contains-here, Contains-there}
use Rattle.node_core.proofs.Draws.{None-Some}
use Rattle.world_core.specs.World.{Ticket, without_ticket, with_ticket}
use Rattle.world_core.specs.Laws.{AreRising}
use Rattle.world_core.proofs.Advances.{find-Contains}
use Rattle.world_core.proofs.Finding.{position_some, place-skip, place-stop}

-- the ticket of a number
abbrev pub is_number : ℕ → Ticket → Bool
is_number k t = t.number == k

-- a number at or above this one
abbrev pub is_from : ℕ → Ticket → Bool
is_from k t = nat_le k t.number

lt_not_from : (a b : ℕ) → nat_lt a b ≡ true → nat_le b a ≡ false
lt_not_from a b e = lt-leb b a (ltb-true a b e)

not_lt_from : (a b : ℕ) → nat_lt a b ≡ false → nat_le b a ≡ true
not_lt_from a b e = le-leb b a (ltb-false a b e)

-- a new ticket comes before the first of a greater number
pub put_new : (t : Ticket) (tickets : List Ticket) → find (is_number t.number) tickets ≡ None → insert tickets (position_or_len (is_from t.number) tickets) t ≡ with_ticket t tickets
put_new t [] e = refl
put_new t (s ∷ rest) e =
    elim (cases_Bool (s.number == t.number)) [
      | inl same ↦ absurd (None-Some (sym e ∙ if_true (Some s) (find (is_number t.number) rest) same))
      | inr apart ↦
          elim (cases_Bool (nat_lt s.number t.number)) [
            | inl l ↦
                ap (λ i. insert (s ∷ rest) i t) (place-skip (is_from t.number) s rest (lt_not_from s.number t.number l))
                ∙ ap (λ z. s ∷ z) (put_new t rest (sym (if_false (Some s) (find (is_number t.number) rest) apart) ∙ e))
                ∙ sym (if_true (s ∷ with_ticket t rest) _ l)
            | inr f ↦
                ap (λ i. insert (s ∷ rest) i t) (place-stop (is_from t.number) s rest (not_lt_from s.number t.number f))
                ∙ sym (if_false (s ∷ with_ticket t rest) _ f ∙ if_false (t ∷ rest) (t ∷ (s ∷ rest)) apart)
          ]
    ]

-- the first of a number is the only one, and those before it are below it
above_it : (s : Ticket) (rest : List Ticket) (k : ℕ) (t : Ticket) → AreRising (s ∷ rest) → find (is_number k) rest ≡ Some t → s.number < k
above_it s rest k t r e =
    let c = find-Contains (is_number k) rest t e in
    let l : s.number < t.number = r.0 t c.0 in
    let same : t.number ≡ k = eqb-true t.number k c.1 in
    omega arith

-- a ticket that is put back at its place stands instead of the one that was there
put_back_at : (t s : Ticket) (tickets : List Ticket) → AreRising tickets → find (is_number t.number) tickets ≡ Some s → insert (remove tickets (position_or_len (is_number t.number) tickets)) (position_or_len (is_number t.number) tickets) t ≡ with_ticket t tickets
put_back_at t s [] r e = absurd (None-Some e)
put_back_at t s (x ∷ rest) r e =
    elim (cases_Bool (x.number == t.number)) [
      | inl same ↦
          (let eq : x.number ≡ t.number = eqb-true x.number t.number same in
          let low : nat_lt x.number t.number ≡ false = le-ltb x.number t.number (omega arith) in
          ap (λ i. insert (remove (x ∷ rest) i) i t) (place-stop (is_number t.number) x rest same)
          ∙ sym (if_false (x ∷ with_ticket t rest) _ low ∙ if_true (t ∷ rest) (t ∷ (x ∷ rest)) same))
      | inr apart ↦
          (let e' : find (is_number t.number) rest ≡ Some s = sym (if_false (Some x) (find (is_number t.number) rest) apart) ∙ e in
          let l : x.number < t.number = above_it x rest t.number s r e' in
          ap (λ i. insert (remove (x ∷ rest) i) i t) (place-skip (is_number t.number) x rest apart)
          ∙ ap (λ z. x ∷ z) (put_back_at t s rest r.1 e')
          ∙ sym (if_true (x ∷ with_ticket t rest) _ (lt-ltb x.number t.number l)))
    ]

none_left : (k : ℕ) (tickets : List Ticket) → ((t : Ticket) → Contains tickets t → k < t.number) → without_ticket k tickets ≡ tickets
none_left k [] h = refl
none_left k (x ∷ rest) h =
    let l : k < x.number = h x (Contains-here x rest) in
    let apart : (x.number == k) ≡ false = ne_eqb x.number k (λ e. (let same : x.number ≡ k = e in absurd (omega arith))) in
    if_true (x ∷ without_ticket k rest) (without_ticket k rest) (ap not apart)
    ∙ ap (λ z. x ∷ z) (none_left k rest (λ t c. h t (Contains-there x rest t c)))

-- the others are left
taken_out_at : (k : ℕ) (s : Ticket) (tickets : List Ticket) → AreRising tickets → find (is_number k) tickets ≡ Some s → remove tickets (position_or_len (is_number k) tickets) ≡ without_ticket k tickets
taken_out_at k s [] r e = absurd (None-Some e)
taken_out_at k s (x ∷ rest) r e =
    elim (cases_Bool (x.number == k)) [
      | inl same ↦
          (let eq : x.number ≡ k = eqb-true x.number k same in
          ap (λ i. remove (x ∷ rest) i) (place-stop (is_number k) x rest same)
          ∙ sym (if_false (x ∷ without_ticket k rest) (without_ticket k rest) (ap not same)
          ∙ none_left k rest (λ t c. (let l : x.number < t.number = r.0 t c in omega arith))))
      | inr apart ↦
          ap (λ i. remove (x ∷ rest) i) (place-skip (is_number k) x rest apart)
          ∙ ap (λ z. x ∷ z) (taken_out_at k s rest r.1 (sym (if_false (Some x) (find (is_number k) rest) apart) ∙ e))
          ∙ sym (if_true (x ∷ without_ticket k rest) (without_ticket k rest) (ap not apart))
    ]

pub put_back : (t s : Ticket) (tickets : List Ticket) (at : ℕ) → AreRising tickets → position (is_number t.number) tickets ≡ Some at → find (is_number t.number) tickets ≡ Some s → insert (remove tickets at) at t ≡ with_ticket t tickets
put_back t s tickets at r e f =
    ap (λ i. insert (remove tickets i) i t) (sym (position_some (is_number t.number) tickets at e).0) ∙ put_back_at t s tickets r f

pub taken_out : (k : ℕ) (s : Ticket) (tickets : List Ticket) (at : ℕ) → AreRising tickets → position (is_number k) tickets ≡ Some at → find (is_number k) tickets ≡ Some s → remove tickets at ≡ without_ticket k tickets
taken_out k s tickets at r e f = ap (λ i. remove tickets i) (sym (position_some (is_number k) tickets at e).0) ∙ taken_out_at k s tickets r f

-- The greatest of a list, by its members.
use Rattle.std.proofs.Common.{◌≡◌, true, false, ◌⊎◌, inl, inr, List, [], ◌∷◌, ◌++◌, refl, sym, ap, subst, ◌∙◌, Contains}
use Rattle.std.proofs.lemmas.Bool.{cases_Bool}
use Rattle.repl_data.specs.declared.csn.Csn.{Csn}
use Rattle.repl_data.specs.Order.{csn_lt, zero_csn}
use Rattle.vector_core.specs.Greatest.{later_of, greatest}
use Rattle.vector_core.proofs.Lists.{Contains-nil, Contains-here, Contains-there, Contains-cons_cases, if_true, if_false}
use Rattle.repl_data.proofs.CsnTests.{csn_lt-irreflexive, csn_lt-trans, csn_lt-one_way, csn_lt-connected, csn_lt-le_trans, csn_lt-zero}

pub later_of-cases : (a b : Csn) → ((later_of a b ≡ a) × (csn_lt a b ≡ false)) ⊎ ((later_of a b ≡ b) × (csn_lt a b ≡ true))
later_of-cases a b =
    elim (cases_Bool (csn_lt a b)) [
      | inl t ↦ inr (if_true b a t, t)
      | inr f ↦ inl (if_false b a f, f)
    ]

pub later_right : (a b : Csn) → csn_lt a b ≡ true → later_of a b ≡ b
later_right a b h = if_true b a h

pub later_left : (a b : Csn) → csn_lt a b ≡ false → later_of a b ≡ a
later_left a b h = if_false b a h

pub later_zero : (c : Csn) → later_of c zero_csn ≡ c
later_zero c = later_left c zero_csn (csn_lt-zero c)

pub zero_later : (c : Csn) → later_of zero_csn c ≡ c
zero_later c =
    elim (cases_Bool (csn_lt zero_csn c)) [
      | inl l ↦ later_right zero_csn c l
      | inr l ↦ later_left zero_csn c l ∙ csn_lt-connected zero_csn c l (csn_lt-zero c)
    ]

-- at most, as it is used here
pub at_most-trans : (a b c : Csn) → csn_lt b a ≡ false → csn_lt c b ≡ false → csn_lt c a ≡ false
at_most-trans a b c p q =
    elim (cases_Bool (csn_lt c a)) [
      | inl t ↦ (let h : csn_lt c b ≡ true = csn_lt-le_trans c a b t p in absurd cc)
      | inr f ↦ f
    ]

-- no member is above the greatest
pub greatest-above : (cs : List Csn) (c : Csn) → Contains cs c → csn_lt (greatest cs) c ≡ false
unfolding greatest
greatest-above [] c h = absurd (Contains-nil h)
greatest-above (d ∷ ds) c h =
    elim (later_of-cases d (greatest ds)) [
      | inl l ↦
          subst (λ z. csn_lt z c ≡ false) (sym l.0)
          (elim (Contains-cons_cases d ds c h) [
            | inl e ↦ subst (λ z. csn_lt d z ≡ false) e (csn_lt-irreflexive d)
            | inr q ↦ at_most-trans c (greatest ds) d (greatest-above ds c q) l.1
          ])
      | inr l ↦
          subst (λ z. csn_lt z c ≡ false) (sym l.0)
          (elim (Contains-cons_cases d ds c h) [
            | inl e ↦ subst (λ z. csn_lt (greatest ds) z ≡ false) e (csn_lt-one_way d (greatest ds) l.1)
            | inr q ↦ greatest-above ds c q
          ])
    ]

pub greatest-among : (cs : List Csn) → (greatest cs ≡ zero_csn) ⊎ Contains cs (greatest cs)
unfolding greatest
greatest-among [] = inl refl
greatest-among (d ∷ ds) =
    elim (later_of-cases d (greatest ds)) [
      | inl l ↦ inr (subst (λ z. Contains (d ∷ ds) z) (sym l.0) (Contains-here d ds))
      | inr l ↦
          elim (greatest-among ds) [
            | inl e ↦ inl (l.0 ∙ e)
            | inr q ↦ inr (subst (λ z. Contains (d ∷ ds) z) (sym l.0) (Contains-there d ds (greatest ds) q))
          ]
    ]

-- a member that none is above is the greatest
pub greatest_is : (cs : List Csn) (c : Csn) → Contains cs c → ((d : Csn) → Contains cs d → csn_lt c d ≡ false) → greatest cs ≡ c
greatest_is cs c h most =
    csn_lt-connected (greatest cs) c (greatest-above cs c h)
    (elim (greatest-among cs) [
      | inl e ↦ subst (λ z. csn_lt c z ≡ false) (sym e) (csn_lt-zero c)
      | inr q ↦ most (greatest cs) q
    ])

pub greatest_none : (cs : List Csn) → ((c : Csn) → Contains cs c → ⊥) → greatest cs ≡ zero_csn
greatest_none cs h = elim (greatest-among cs) [ inl e ↦ e | inr q ↦ absurd (h (greatest cs) q) ]

greatest_within : (cs ds : List Csn) → ((c : Csn) → Contains cs c → Contains ds c) → csn_lt (greatest ds) (greatest cs) ≡ false
greatest_within cs ds h =
    elim (greatest-among cs) [
      | inl e ↦ subst (λ z. csn_lt (greatest ds) z ≡ false) (sym e) (csn_lt-zero (greatest ds))
      | inr q ↦ greatest-above ds (greatest cs) (h (greatest cs) q)
    ]

pub greatest_same : (cs ds : List Csn) → ((c : Csn) → Contains cs c → Contains ds c) → ((c : Csn) → Contains ds c → Contains cs c) → greatest cs ≡ greatest ds
greatest_same cs ds there back = csn_lt-connected (greatest cs) (greatest ds) (greatest_within ds cs back) (greatest_within cs ds there)

pub later_of_assoc : (a b c : Csn) → later_of (later_of a b) c ≡ later_of a (later_of b c)
later_of_assoc a b c =
    elim (cases_Bool (csn_lt a b)) [
      | inl l ↦
          elim (cases_Bool (csn_lt b c)) [
            | inl m ↦ ap (λ z. later_of z c) (later_right a b l) ∙ later_right b c m ∙ sym (later_right a c (csn_lt-trans a b c l m)) ∙ ap (λ z. later_of a z) (sym (later_right b c m))
            | inr m ↦ ap (λ z. later_of z c) (later_right a b l) ∙ later_left b c m ∙ sym (later_right a b l) ∙ ap (λ z. later_of a z) (sym (later_left b c m))
          ]
      | inr l ↦
          elim (cases_Bool (csn_lt b c)) [
            | inl m ↦ ap (λ z. later_of z c) (later_left a b l) ∙ ap (λ z. later_of a z) (sym (later_right b c m))
            | inr m ↦ ap (λ z. later_of z c) (later_left a b l) ∙ later_left a c (at_most-trans c b a m l) ∙ sym (later_left a b l) ∙ ap (λ z. later_of a z) (sym (later_left b c m))
          ]
    ]

pub greatest-push : (cs : List Csn) (c : Csn) → greatest (cs ++ c ∷ []) ≡ later_of (greatest cs) c
unfolding greatest
greatest-push [] c = later_zero c ∙ sym (zero_later c)
greatest-push (d ∷ ds) c = ap (λ z. later_of d z) (greatest-push ds c) ∙ sym (later_of_assoc d (greatest ds) c)

-- Which tickets are open behind a write: those from before it.
use Rattle.std.proofs.Common.{◌≢◌, inl, inr, subst, ◌∙◌}
use Rattle.repl_data.specs.declared.csn.Csn.{Csn}
use Rattle.node_core.specs.Calls.{AreSame, IsAdded, IsTaken, IsMoved}

-- a ticket was begun, committed, and settled or aborted
pub open_same : (old begun committed new : Csn → Type 0) (t r : Csn) → IsAdded old begun t → IsMoved begun committed t r → IsTaken committed new r → AreSame old new
open_same old begun committed new t r added moved taken = λ c. (back c, on c)
  where
    back : (c : Csn) → new c → old c
    back c n =
        let k = (taken c).0 n in
        elim ((moved.all c).0 k.0) [
          | inl was ↦ elim ((added.all c).0 was.0) [ inl o ↦ o | inr e ↦ absurd (was.1 e) ]
          | inr is ↦ absurd (k.1 is.1)
        ]

    not_drawn : (c : Csn) → old c → c ≢ t
    not_drawn c o = λ e. added.fresh (subst (λ (x : Csn). old x) e o)

    still : (c : Csn) → old c → begun c
    still c o = (added.all c).1 (inl o)

    not_left : (c : Csn) → old c → c ≢ r
    not_left c o = λ e.
        moved.fresh (λ same. not_drawn c o (e ∙ same)) (subst (λ (x : Csn). begun x) e (still c o))

    on : (c : Csn) → old c → new c
    on c o = (taken c).1 ((moved.all c).1 (inl (still c o, not_drawn c o)), not_left c o)

-- one was committed and then settled
pub committed_same : (old committed new : Csn → Type 0) (r : Csn) → IsAdded old committed r → IsTaken committed new r → AreSame old new
committed_same old committed new r added taken = λ c. (back c, on c)
  where
    back : (c : Csn) → new c → old c
    back c n =
        let k = (taken c).0 n in
        elim ((added.all c).0 k.0) [ inl o ↦ o | inr e ↦ absurd (k.1 e) ]

    on : (c : Csn) → old c → new c
    on c o = (taken c).1 ((added.all c).1 (inl o), λ e. added.fresh (subst (λ (x : Csn). old x) e o))

pub same_twice : (a b c : Csn → Type 0) → AreSame a b → AreSame b c → AreSame a c
same_twice a b c f g = λ x. (λ h. (f x).0 ((g x).0 h), λ h. (g x).1 ((f x).1 h))

pub same_refl : (a : Csn → Type 0) → AreSame a a
same_refl a = λ x. (λ h. h, λ h. h)

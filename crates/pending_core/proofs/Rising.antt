-- Lists of CSNs that rise.
use Rattle.std.proofs.Common.{◌≡◌, ℕ, ◌+◌, ◌-◌, ◌<◌, ◌≤◌, zero, suc, Bool, true, false, ◌⊎◌, inl, inr, List, [], ◌∷◌, ◌++◌, refl, sym, ap, subst, ◌∙◌, arith, Contains, get_or, length, ◌==◌, not, filter, take, drop, cond, length-append}
use Rattle.std.specs.List.{remove}
use Rattle.std.specs.List.Sorted.{IsPartitionedBy}
use Rattle.std.proofs.lemmas.Bool.{cases_lt}
use Rattle.std.proofs.Math.ListN.{get_or-append}
use Rattle.std.proofs.Math.Seq.{get_or-append_seam, drop-cons}
use Rattle.std.proofs.lemmas.List.{get_or_default, get_or-take, length-take-le, get_or-drop, take-append-drop, length-drop}
use Rattle.std.proofs.lemmas.List.Edits.{length-remove, get_or-remove_below, get_or-remove_above}
use Rattle.std.proofs.lemmas.List.Elements.{filter-append, All-get_or, All-from_get_or, All-filter}
use Rattle.repl_data.specs.declared.csn.Csn.{Csn}
use Rattle.repl_data.specs.Order.{csn_lt, csn_le, csn_eq, zero_csn}
use Rattle.pending_core.specs.Pending.{IsRising, IsAbove, IsLeast, without}
use Rattle.repl_data.proofs.CsnTests.{csn_lt-irreflexive, csn_lt-trans, csn_lt-one_way, csn_le-from_not, csn_eq-not_lt, csn_eq-not_gt, csn_eq-same}

pub IsRising-parted : (xs : List Csn) (c : Csn) → IsRising xs → IsPartitionedBy (λ x. csn_lt x c) xs
IsRising-parted xs c is = λ i j d le l h.
    elim (cases_lt i j) [
      | inl m ↦
          (let up = is i j m l in
          let ei = get_or_default xs i d zero_csn (omega arith) in
          let ej = get_or_default xs j d zero_csn l in
          subst (λ z. csn_lt z c ≡ true) (sym ei) (csn_lt-trans (get_or xs i zero_csn) (get_or xs j zero_csn) c up (subst (λ z. csn_lt z c ≡ true) ej h)))
      | inr m ↦ (let e : j ≡ i = omega arith in subst (λ k. csn_lt (get_or xs k d) c ≡ true) e h)
    ]

-- a CSN that is held stands where the lower ones end
pub found_at : (xs : List Csn) (c : Csn) (i : ℕ) → IsRising xs → Contains xs c → ((k : ℕ) → k < i → csn_lt (get_or xs k zero_csn) c ≡ true)
    → ((k : ℕ) → i ≤ k → k < length xs → csn_lt (get_or xs k zero_csn) c ≡ false) → (i < length xs) × (get_or xs i zero_csn ≡ c)
found_at xs c i is h b a =
    let l : h.0 < length xs = h.1 in
    let e : get_or xs h.0 zero_csn ≡ c = get_or_default xs h.0 zero_csn c l ∙ h.2 in
    let ni : i ≤ h.0 = elim (cases_lt h.0 i) [ inl m ↦ (let t : csn_lt c c ≡ true = subst (λ z. csn_lt z c ≡ true) e (b h.0 m) in let f = csn_lt-irreflexive c in absurd cc) | inr m ↦ m ] in
    let same : h.0 ≡ i =
    elim (cases_lt i h.0) [
      | inl m ↦
          (let up : csn_lt (get_or xs i zero_csn) c ≡ true = subst (λ z. csn_lt (get_or xs i zero_csn) z ≡ true) e (is i h.0 m l) in
          let f = a i (omega arith) (omega arith) in absurd cc)
      | inr m ↦ omega arith
    ] in
    (subst (λ n. n < length xs) same l, ap (λ n. get_or xs n zero_csn) (sym same) ∙ e)

-- what passes a test everywhere is kept whole
filter_all : (p : Csn → Bool) (xs : List Csn) → ((k : ℕ) → k < length xs → p (get_or xs k zero_csn) ≡ true) → filter p xs ≡ xs
filter_all p [] h = refl
filter_all p (x ∷ xs) h =
    ap (λ b. cond b (x ∷ filter p xs) (filter p xs)) (h zero (omega arith)) ∙ ap (λ ys. x ∷ ys) (filter_all p xs (λ k l. h (suc k) (omega arith)))

kept : (c : Csn) (x : Csn) → (csn_lt x c ≡ true) ⊎ (csn_lt c x ≡ true) → not (csn_eq x c) ≡ true
kept c x (inl h) = ap not (csn_eq-not_lt x c h)
kept c x (inr h) = ap not (csn_eq-not_gt x c h)

pub remove_without : (xs : List Csn) (c : Csn) (i : ℕ) → IsRising xs → i < length xs → get_or xs i zero_csn ≡ c → remove xs i ≡ without xs c
remove_without xs c i is l e =
    let p = λ (x : Csn). not (csn_eq x c) in
    let low : filter p (take i xs) ≡ take i xs =
    filter_all p (take i xs) (λ k h.
    let n : length (take i xs) ≡ i = length-take-le i xs (omega arith) in
    let g = get_or-take i xs k zero_csn (omega arith) in
    subst (λ z. p z ≡ true) (sym g) (kept c (get_or xs k zero_csn) (inl (subst (λ z. csn_lt (get_or xs k zero_csn) z ≡ true) e (is k i (omega arith) l))))) in
    let high : filter p (drop (suc i) xs) ≡ drop (suc i) xs =
    filter_all p (drop (suc i) xs) (λ k h.
    let n : length (drop (suc i) xs) ≡ length xs - suc i = length-drop (suc i) xs in
    let g = get_or-drop (suc i) xs k zero_csn in
    subst (λ z. p z ≡ true) (sym g) (kept c (get_or xs (suc i + k) zero_csn) (inr (subst (λ z. csn_lt z (get_or xs (suc i + k) zero_csn) ≡ true) e (is i (suc i + k) (omega arith) (omega arith)))))) in
    let self : p c ≡ false = ap not (csn_eq-same c) in
    let split : xs ≡ take i xs ++ c ∷ drop (suc i) xs =
    sym (take-append-drop i xs) ∙ ap (λ ys. take i xs ++ ys) (drop-cons xs i zero_csn l ∙ ap (λ z. z ∷ drop (suc i) xs) e) in
    sym (ap (filter p) split ∙ filter-append p (take i xs) (c ∷ drop (suc i) xs)
    ∙ ap (λ b. filter p (take i xs) ++ cond b (c ∷ filter p (drop (suc i) xs)) (filter p (drop (suc i) xs))) self
    ∙ ap (λ ys. ys ++ filter p (drop (suc i) xs)) low ∙ ap (λ ys. take i xs ++ ys) high)

pub IsRising-remove : (xs : List Csn) (i : ℕ) → IsRising xs → i < length xs → IsRising (remove xs i)
IsRising-remove xs i is l = λ j k m h.
    let n : length (remove xs i) + 1 ≡ length xs = length-remove xs i l in
    elim (cases_lt j i) [
      | inl a ↦
          elim (cases_lt k i) [
            | inl b ↦ subst (λ z. csn_lt z (get_or (remove xs i) k zero_csn) ≡ true) (sym (get_or-remove_below xs i zero_csn j a l)) (subst (λ z. csn_lt (get_or xs j zero_csn) z ≡ true) (sym (get_or-remove_below xs i zero_csn k b l)) (is j k m (omega arith)))
            | inr b ↦ subst (λ z. csn_lt z (get_or (remove xs i) k zero_csn) ≡ true) (sym (get_or-remove_below xs i zero_csn j a l)) (subst (λ z. csn_lt (get_or xs j zero_csn) z ≡ true) (sym (get_or-remove_above xs i zero_csn k b l)) (is j (k + 1) (omega arith) (omega arith)))
          ]
      | inr a ↦ subst (λ z. csn_lt z (get_or (remove xs i) k zero_csn) ≡ true) (sym (get_or-remove_above xs i zero_csn j a l)) (subst (λ z. csn_lt (get_or xs (j + 1) zero_csn) z ≡ true) (sym (get_or-remove_above xs i zero_csn k (omega arith) l)) (is (j + 1) (k + 1) (omega arith) (omega arith)))
    ]

pub IsRising-push : (xs : List Csn) (c : Csn) → IsRising xs → IsAbove xs c → IsRising (xs ++ c ∷ [])
IsRising-push xs c is above = λ j k m h.
    let n : length (xs ++ c ∷ []) ≡ length xs + 1 = length-append xs (c ∷ []) in
    elim (cases_lt k (length xs)) [
      | inl a ↦ subst (λ z. csn_lt z (get_or (xs ++ c ∷ []) k zero_csn) ≡ true) (sym (get_or-append xs (c ∷ []) zero_csn j (omega arith))) (subst (λ z. csn_lt (get_or xs j zero_csn) z ≡ true) (sym (get_or-append xs (c ∷ []) zero_csn k a)) (is j k m a))
      | inr a ↦
          (let e : k ≡ length xs = omega arith in
          let last : get_or (xs ++ c ∷ []) k zero_csn ≡ c = ap (λ n. get_or (xs ++ c ∷ []) n zero_csn) e ∙ get_or-append_seam xs c [] zero_csn in
          subst (λ z. csn_lt z (get_or (xs ++ c ∷ []) k zero_csn) ≡ true) (sym (get_or-append xs (c ∷ []) zero_csn j (omega arith))) (subst (λ z. csn_lt (get_or xs j zero_csn) z ≡ true) (sym last) (All-get_or (λ held. csn_lt held c ≡ true) xs j zero_csn (omega arith) above)))
    ]

pub first_least : (xs : List Csn) → IsRising xs → 0 < length xs → IsLeast xs (get_or xs 0 zero_csn)
first_least xs is h =
    All-from_get_or (λ held. csn_le (get_or xs 0 zero_csn) held ≡ true) xs zero_csn (λ i l.
    csn_le-from_not (get_or xs 0 zero_csn) (get_or xs i zero_csn)
    (elim (cases_lt 0 i) [
      | inl m ↦ csn_lt-one_way (get_or xs 0 zero_csn) (get_or xs i zero_csn) (is 0 i m l)
      | inr m ↦ (let e : 0 ≡ i = omega arith in subst (λ n. csn_lt (get_or xs n zero_csn) (get_or xs 0 zero_csn) ≡ false) e (csn_lt-irreflexive (get_or xs 0 zero_csn)))
    ]))

pub above_without : (xs : List Csn) (old new : Csn) → IsAbove xs new → IsAbove (without xs old) new
above_without xs old new h = All-filter (λ (held : Csn). not (csn_eq held old)) (λ held. csn_lt held new ≡ true) xs h

pub not_0 : (n : ℕ) → (n == 0) ≡ false → 0 < n
not_0 zero e = absurd cc
not_0 (suc n) e = omega arith

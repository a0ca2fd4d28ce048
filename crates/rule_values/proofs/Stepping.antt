-- One modification, value by value.
use Rattle.std.proofs.Common.{◌≡◌, ℕ, zero, suc, ◌+◌, ◌<◌, ◌≤◌, Bool, true, false, cond, not, ◌||◌, ◌&&◌, true≢false, List, [], ◌∷◌, length, get_or, drop, filter, refl, sym, ap, subst, ◌∙◌, Result, Ok, Err, Ordering, Less, Equal, Greater, is_eq}
use Rattle.std.specs.List.{AllByRecursion, list_any, list_all}
use Rattle.std.proofs.lemmas.List.{at_drop_more, at_drop_all}
use Rattle.repl_data.specs.declared.change.Val.{Val}
use Rattle.repl_data.specs.declared.change.ModKind.{ModKind}
use Rattle.repl_data.specs.declared.change.ModKind.TheVariants.{Add, Delete}
use Rattle.repl_data.specs.Check.{is_empty}
use Rattle.repl_data.specs.Order.{bytes_cmp, bytes_eq, by_order}
use Rattle.repl_data.specs.Ordered.{Rises}
use Rattle.repl_data.specs.Plain.{add_values, without_values, values_after}
use Rattle.repl_data.specs.View.{put_val}
use Rattle.repl_data.proofs.KeyPlaces.{is_same}
use Rattle.repl_data.proofs.Orders.{bytes_exact}
use Rattle.rule_values.specs.declared.fault.Refusal.{Refusal}
use Rattle.rule_values.specs.declared.fault.Refusal.TheVariants.{HeldAlready, NotHeld}
use Rattle.rule_values.specs.declared.fault.ValueFault.{ValueFault}
use Rattle.rule_values.specs.declared.fault.ValueFault.TheVariants.{NoMemory, Refused}
use Rattle.rule_values.specs.Refusing.{◌>>=◌, refuse_if, Fails}
use Rattle.rule_values.specs.Having.{val_key, changed, with_new, without_one, left_of}
use Rattle.rule_values.specs.Listed.{has_key}
use Rattle.rule_values.specs.Modify.{fits}
use Rattle.rule_values.proofs.InTurn.{go_on, stop}
use Rattle.rule_values.proofs.ModSteps.{take_one}
use Rattle.rule_values.proofs.SetLemmas.{is_other, puts_rising}
use Rattle.repl_data.proofs.Bools.{either_again}

pub no_vals : (vals : List Val) → is_empty vals ≡ true → vals ≡ []
no_vals [] h = refl
no_vals (v ∷ vals) h = absurd (true≢false (sym h))

rises_on : (vals : List Val) (i : ℕ) → Rises val_key vals → Rises val_key (drop i vals)
rises_on vals zero r = r
rises_on [] (suc i) r = tt
rises_on (v ∷ vals) (suc i) r = rises_on vals i r.1

-- the value at a place is below those behind it
next_at : (vals : List Val) (i : ℕ) (v : Val) → i < length vals → v ≡ get_or vals i v → drop i vals ≡ v ∷ drop (i + 1) vals
next_at vals i v l e = at_drop_more (λ (xs : List Val). xs) vals i v l ∙ ap (λ (x : Val). x ∷ drop (i + 1) vals) (sym e)

abbrev AreAbove : Val → List Val → Type 0
AreAbove v vals = AllByRecursion (λ (w : Val). bytes_cmp v.key w.key ≡ Less) vals

above_at : (vals : List Val) (i : ℕ) (v : Val) → Rises val_key vals → i < length vals → v ≡ get_or vals i v → AreAbove v (drop (i + 1) vals)
above_at vals i v r l e = (subst (Rises val_key) (next_at vals i v l e) (rises_on vals i r)).0

-- ---- adds

swapped : (a b c : Bool) → (a || (b || c)) ≡ (b || (a || c))
swapped true true c = refl
swapped true false c = refl
swapped false true c = refl
swapped false false c = refl

has_put : (k : List ℕ) (v : Val) (had : List Val) → has_key k (put_val v had) ≡ (bytes_eq v.key k || has_key k had)
has_put k v [] = refl
has_put k v (w ∷ had) = by (bytes_cmp v.key w.key) refl (has_put k v had)
  where
    by : (o : Ordering) → bytes_cmp v.key w.key ≡ o → has_key k (put_val v had) ≡ (bytes_eq v.key k || has_key k had)
        → has_key k (by_order o (v ∷ w ∷ had) (v ∷ had) (w ∷ put_val v had)) ≡ (bytes_eq v.key k || (bytes_eq w.key k || has_key k had))
    by Less e more = refl
    by Equal e more = either_again (bytes_eq v.key k) (has_key k had) ∙ ap (λ (x : List ℕ). bytes_eq v.key k || (bytes_eq x k || has_key k had)) (bytes_exact v.key w.key e)
    by Greater e more = ap (λ b. bytes_eq w.key k || b) more ∙ swapped (bytes_eq w.key k) (bytes_eq v.key k) (has_key k had)

any_put : (v : Val) (vals had : List Val) → AreAbove v vals → list_any (λ (w : Val). has_key w.key had) vals ≡ list_any (λ (w : Val). has_key w.key (put_val v had)) vals
any_put v [] had h = refl
any_put v (w ∷ vals) had h =
    (λ i. sym (has_put w.key v had ∙ ap (λ b. b || has_key w.key had) (ap is_eq h.0)) i || any_put v vals had h.1 i)

add_step : (v : Val) (vals had : List Val) → AreAbove v vals → changed Add (v ∷ vals) had ≡ (with_new v had >>= λ next. changed Add vals next)
unfolding changed
add_step v vals had h = by (has_key v.key had)
  where
    by : (b : Bool) → (refuse_if (b || list_any (λ (w : Val). has_key w.key had) vals) HeldAlready >>= λ _. Ok (add_values vals (put_val v had)))
        ≡ ((refuse_if b HeldAlready >>= λ _. Ok (put_val v had)) >>= λ next. refuse_if (list_any (λ (w : Val). has_key w.key next) vals) HeldAlready >>= λ _. Ok (add_values vals next))
    by true = refl
    by false = ap (λ b. refuse_if b HeldAlready >>= λ _. Ok (add_values vals (put_val v had))) (any_put v vals had h)

pub add_go : (vals had next : List Val) (i : ℕ) (v : Val) (total : Result (List Val) Refusal) → Rises val_key vals → i < length vals → v ≡ get_or vals i v → changed Add (drop i vals) had ≡ total → with_new v had ≡ Ok next → changed Add (drop (i + 1) vals) next ≡ total
add_go vals had next i v total r l e so_far h =
    sym (ap (λ (xs : List Val). changed Add xs had) (next_at vals i v l e) ∙ add_step v (drop (i + 1) vals) had (above_at vals i v r l e) ∙ go_on (with_new v had) next (λ x. changed Add (drop (i + 1) vals) x) h) ∙ so_far

pub add_stop : (vals had : List Val) (i : ℕ) (v : Val) (total : Result (List Val) Refusal) (f : ValueFault) → Rises val_key vals → i < length vals → v ≡ get_or vals i v → changed Add (drop i vals) had ≡ total → Fails f (with_new v had) → Fails f total
add_stop vals had i v total f r l e so_far h =
    subst (Fails f) (sym (ap (λ (xs : List Val). changed Add xs had) (next_at vals i v l e) ∙ add_step v (drop (i + 1) vals) had (above_at vals i v r l e)) ∙ so_far) (stop (with_new v had) f (λ x. changed Add (drop (i + 1) vals) x) h)

pub add_end : (vals had : List Val) (i : ℕ) (total : Result (List Val) Refusal) → length vals ≤ i → changed Add (drop i vals) had ≡ total → total ≡ Ok had
unfolding changed
add_end vals had i total l so_far = sym so_far ∙ at_drop_all (λ (xs : List Val). changed Add xs had) vals i l

none_held : (vals : List Val) → list_any (λ (w : Val). has_key w.key []) vals ≡ false
none_held [] = refl
none_held (v ∷ vals) = none_held vals

pub add_first : (vals had all : List Val) → is_empty had ≡ true → Rises val_key vals → all ≡ vals → changed Add vals had ≡ Ok all
unfolding changed
add_first vals had all h r e =
    ap (changed Add vals) (no_vals had h)
    ∙ ap (λ b. refuse_if b HeldAlready >>= λ _. Ok (add_values vals [])) (none_held vals)
    ∙ ap Ok (puts_rising vals r ∙ sym e)

-- ---- deletes

has_other : (k : List ℕ) (key : List ℕ) (had : List Val) → bytes_eq key k ≡ false → has_key k had ≡ has_key k (filter (is_other key) had)
has_other k key [] h = refl
has_other k key (w ∷ had) h = by (bytes_eq w.key key) refl (has_other k key had h)
  where
    by : (b : Bool) → bytes_eq w.key key ≡ b → has_key k had ≡ has_key k (filter (is_other key) had) → (bytes_eq w.key k || has_key k had) ≡ has_key k (cond (not b) (w ∷ filter (is_other key) had) (filter (is_other key) had))
    by true e more = ap (λ b. b || has_key k had) (ap (λ (x : List ℕ). bytes_eq x k) (is_same w.key key e) ∙ h) ∙ more
    by false e more = ap (λ b. bytes_eq w.key k || b) more

all_other : (v : Val) (vals had : List Val) → AreAbove v vals → list_all (λ (w : Val). has_key w.key had) vals ≡ list_all (λ (w : Val). has_key w.key (filter (is_other v.key) had)) vals
all_other v [] had h = refl
all_other v (w ∷ vals) had h = (λ i. has_other w.key v.key had (ap is_eq h.0) i && all_other v vals had h.1 i)

left_step : (v : Val) (vals had : List Val) → AreAbove v vals → left_of (v ∷ vals) had ≡ (without_one v had >>= λ next. left_of vals next)
left_step v vals had h = by (has_key v.key had)
  where
    by : (b : Bool) → (refuse_if (not (b && list_all (λ (w : Val). has_key w.key had) vals)) NotHeld >>= λ _. Ok (without_values (v ∷ vals) had))
        ≡ ((refuse_if (not b) NotHeld >>= λ _. Ok (filter (is_other v.key) had)) >>= λ next. left_of vals next)
    by false = refl
    by true =
        ap (λ b. refuse_if (not b) NotHeld >>= λ _. Ok (without_values (v ∷ vals) had)) (all_other v vals had h)
        ∙ ap (λ (xs : List Val). refuse_if (not (list_all (λ (w : Val). has_key w.key (filter (is_other v.key) had)) vals)) NotHeld >>= λ _. Ok xs) (sym (take_one v vals had))

pub left_go : (vals had next : List Val) (i : ℕ) (v : Val) (total : Result (List Val) Refusal) → Rises val_key vals → i < length vals → v ≡ get_or vals i v → left_of (drop i vals) had ≡ total → without_one v had ≡ Ok next → left_of (drop (i + 1) vals) next ≡ total
left_go vals had next i v total r l e so_far h =
    sym (ap (λ (xs : List Val). left_of xs had) (next_at vals i v l e) ∙ left_step v (drop (i + 1) vals) had (above_at vals i v r l e) ∙ go_on (without_one v had) next (λ x. left_of (drop (i + 1) vals) x) h) ∙ so_far

pub left_stop : (vals had : List Val) (i : ℕ) (v : Val) (total : Result (List Val) Refusal) (f : ValueFault) → Rises val_key vals → i < length vals → v ≡ get_or vals i v → left_of (drop i vals) had ≡ total → Fails f (without_one v had) → Fails f total
left_stop vals had i v total f r l e so_far h =
    subst (Fails f) (sym (ap (λ (xs : List Val). left_of xs had) (next_at vals i v l e) ∙ left_step v (drop (i + 1) vals) had (above_at vals i v r l e)) ∙ so_far) (stop (without_one v had) f (λ x. left_of (drop (i + 1) vals) x) h)

all_stay : (had : List Val) → without_values [] had ≡ had
all_stay [] = refl
all_stay (v ∷ had) = ap (λ (r : List Val). v ∷ r) (all_stay had)

pub left_end : (vals had : List Val) (i : ℕ) (total : Result (List Val) Refusal) → length vals ≤ i → left_of (drop i vals) had ≡ total → total ≡ Ok had
left_end vals had i total l so_far = sym so_far ∙ at_drop_all (λ (xs : List Val). left_of xs had) vals i l ∙ ap Ok (all_stay had)

pub delete_some : (vals had : List Val) → is_empty vals ≡ false → left_of vals had ≡ changed Delete vals had
unfolding changed
delete_some [] had h = absurd (true≢false h)
delete_some (v ∷ vals) had h = refl

-- ---- what a change says

ok_not_err : {A : Type 0} (x : A) (e : Refusal) → ◌≡◌ {A = Result A Refusal} (Ok x) (Err e) → ⊥
ok_not_err x e h = cc

same_err : {A : Type 0} (e f : Refusal) → ◌≡◌ {A = Result A Refusal} (Err e) (Err f) → e ≡ f
same_err e f h = cc

same_ok : (x y : List Val) → ◌≡◌ {A = Result (List Val) Refusal} (Ok x) (Ok y) → y ≡ x
same_ok x y h = cc

pub change_fails : (kind : ModKind) (vals had : List Val) (f : ValueFault) → Fails f (changed kind vals had) → Fails f (fits kind vals had)
unfolding changed
change_fails kind vals had NoMemory h = tt
change_fails kind vals had (Refused why) h = by (fits kind vals had) h
  where
    by : (r : Result (Unit {0}) Refusal) → (r >>= λ _. Ok (values_after kind vals had)) ≡ Err why → r ≡ Err why
    by (Ok u) g = absurd (ok_not_err (values_after kind vals had) why g)
    by (Err e) g = ap Err (same_err e why g)

pub change_done : (kind : ModKind) (vals had all : List Val) → changed kind vals had ≡ Ok all → (fits kind vals had ≡ Ok tt) × (all ≡ values_after kind vals had)
unfolding changed
change_done kind vals had all h = by (fits kind vals had) h
  where
    by : (r : Result (Unit {0}) Refusal) → (r >>= λ _. Ok (values_after kind vals had)) ≡ Ok all → (r ≡ Ok tt) × (all ≡ values_after kind vals had)
    by (Ok u) g = (refl, same_ok (values_after kind vals had) all g)
    by (Err e) g = absurd (ok_not_err all e (sym g))

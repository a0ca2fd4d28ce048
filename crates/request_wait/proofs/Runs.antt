-- Elements with a tag one after the other, as many as stand here.
use Rattle.std.proofs.Common.{◌≡◌, ℕ, zero, suc, ◌<◌, ◌≤◌, Bool, true, false, cond, eqb, List, [], ◌∷◌, Option, Some, None, Result, Ok, Err, refl, sym, ap, ◌∙◌, arith}
use Rattle.std.specs.Prelude.{◌==◌}
use Rattle.ber_core.specs.Window.{Stop, Window, Reading, ◌>>=◌, tag_here, element, optional, with_first, run_from, run}
use Rattle.request_wait.proofs.Stays.{same_ok}
use Rattle.request_wait.proofs.Fuel.{element_shrinks, none_left}

abbrev missing : {A : Type 0} → Window → Reading (Option A)
missing w = Ok (None, w)

abbrev found : {A : Type 0} → A → Window → Reading (Option A)
found x w = Ok (Some x, w)

abbrev wrapped : {A : Type 0} → Reading A → Reading (Option A)
wrapped r = r >>= λ x. Ok (Some x.0, x.1)

-- ---- what optional gives

wrapped_some : {A : Type 0} (r : Reading A) (x : A) (v : Window) → wrapped r ≡ found x v → (y : A × Window) × (r ≡ Ok y) × (y.1 ≡ v)
wrapped_some (Ok y) x v is = (y, refl, ap (λ (p : Option _ × Window). p.1) (same_ok _ _ is))
wrapped_some (Err e) x v is = absurd cc

wrapped_none : {A : Type 0} (r : Reading A) (v : Window) → wrapped r ≡ missing v → ⊥
wrapped_none (Ok y) v is = let e = ap (λ (p : Option _ × Window). p.0) (same_ok _ _ is) in cc
wrapped_none (Err e) v is = cc

by_test : {A : Type 0} (b : Bool) (r : Reading A) (w : Window) (x : A) (v : Window) → cond b (wrapped r) (missing w) ≡ found x v → wrapped r ≡ found x v
by_test true r w x v is = is
by_test false r w x v is = let e = ap (λ (p : Option _ × Window). p.0) (same_ok _ _ is) in absurd cc

by_tag : {A : Type 0} (tag : ℕ) (t : Result ℕ Stop) (r : Reading A) (w : Window) (x : A) (v : Window) → (t >>= λ n. cond (n == tag) (wrapped r) (missing w)) ≡ found x v → wrapped r ≡ found x v
by_tag tag (Ok n) r w x v is = by_test (n == tag) r w x v is
by_tag tag (Err e) r w x v is = absurd cc

by_left : {A : Type 0} (b : Bool) (r : Reading (Option A)) (w : Window) (x : A) (v : Window) → cond b (missing w) r ≡ found x v → r ≡ found x v
by_left true r w x v is = let e = ap (λ (p : Option _ × Window). p.0) (same_ok _ _ is) in absurd cc
by_left false r w x v is = is

optional_shrinks : {A : Type 0} (tag : ℕ) (content : Window → Result A Stop) (w : Window) (x : A) (v : Window) → optional tag content w ≡ found x v → v.left < w.left
unfolding optional
optional_shrinks tag content w x v is =
    let k = wrapped_some (element tag content w) x v (by_tag tag (tag_here w) (element tag content w) w x v (by_left (eqb w.left 0) _ w x v is)) in
    let a = ap (λ (u : Window). u.left) k.2 in
    let b = element_shrinks tag content w k.0 k.1 in
    omega arith

same_window : {A : Type 0} (w v : Window) → (let r : Reading (Option A) = missing w in r) ≡ missing v → v ≡ w
same_window w v is = sym (ap (λ (p : Option _ × Window). p.1) (same_ok _ _ is))

none_by_test : {A : Type 0} (b : Bool) (r : Reading A) (w v : Window) → cond b (wrapped r) (missing w) ≡ missing v → v ≡ w
none_by_test true r w v is = absurd (wrapped_none r v is)
none_by_test false r w v is = same_window w v is

none_by_tag : {A : Type 0} (tag : ℕ) (t : Result ℕ Stop) (r : Reading A) (w v : Window) → (t >>= λ n. cond (n == tag) (wrapped r) (missing w)) ≡ missing v → v ≡ w
none_by_tag tag (Ok n) r w v is = none_by_test (n == tag) r w v is
none_by_tag tag (Err e) r w v is = absurd cc

none_by_left : {A : Type 0} (b : Bool) (r : Reading (Option A)) (w v : Window) → (r ≡ missing v → v ≡ w) → cond b (missing w) r ≡ missing v → v ≡ w
none_by_left true r w v h is = same_window w v is
none_by_left false r w v h is = h is

-- where nothing is found the place stays
pub none_stays : {A : Type 0} (tag : ℕ) (content : Window → Result A Stop) (w v : Window) → optional tag content w ≡ missing v → v ≡ w
unfolding optional
none_stays tag content w v is = none_by_left (eqb w.left 0) _ w v (none_by_tag tag (tag_here w) (element tag content w) w v) is

-- ---- runs

same_first : {A : Type 0} (tag : ℕ) (content : Window → Result A Stop) (others more : Window → Reading (List A)) (w : Window) (r : Reading (Option A)) → optional tag content w ≡ r → ((x : A) (v : Window) → optional tag content w ≡ found x v → others v ≡ more v)
    → (r >>= with_first others) ≡ (r >>= with_first more)
same_first tag content others more w (Ok (None, v)) is h = refl
same_first tag content others more w (Ok (Some x, v)) is h = ap (λ (r : Reading (List _)). r >>= λ xs. Ok (x ∷ xs.0, xs.1)) (h x v is)
same_first tag content others more w (Err e) is h = refl

run_enough : {A : Type 0} (tag : ℕ) (content : Window → Result A Stop) (n m : ℕ) (w : Window) → w.left ≤ n → w.left ≤ m → run_from tag content n w ≡ run_from tag content m w
unfolding run_from optional
run_enough tag content zero zero w a b = refl
run_enough tag content zero (suc m) w a b = rw (none_left w.left a) refl
run_enough tag content (suc n) zero w a b = rw (none_left w.left b) refl
run_enough tag content (suc n) (suc m) w a b =
    same_first tag content (run_from tag content n) (run_from tag content m) w (optional tag content w) refl (λ x v is. let lt = optional_shrinks tag content w x v is in run_enough tag content n m v (omega arith) (omega arith))

pub run_is : {A : Type 0} (tag : ℕ) (content : Window → Result A Stop) (w : Window) → run tag content w ≡ (optional tag content w >>= with_first (run tag content))
unfolding run_from
run_is tag content w =
    run_enough tag content w.left (suc w.left) w (omega arith) (omega arith)
    ∙ same_first tag content (run_from tag content w.left) (run tag content) w (optional tag content w) refl (λ x v is. let lt = optional_shrinks tag content w x v is in run_enough tag content w.left v.left v (omega arith) (omega arith))

abbrev nothing : {A : Type 0} → Window → Reading (List A)
nothing v = Ok ([], v)

one_more : {A : Type 0} (r : Reading (List A)) (x : A) (v : Window) → (r >>= λ xs. Ok (x ∷ xs.0, xs.1)) ≡ nothing v → ⊥
one_more (Ok xs) x v is = let e = ap (λ (p : List _ × Window). p.0) (same_ok _ _ is) in cc
one_more (Err e) x v is = cc

none_first : {A : Type 0} (others : Window → Reading (List A)) (w v : Window) (r : Reading (Option A)) → ((u : Window) → r ≡ missing u → u ≡ w) → (r >>= with_first others) ≡ nothing v → v ≡ w
none_first others w v (Ok (None, u)) h is = sym (ap (λ (p : List _ × Window). p.1) (same_ok _ _ is)) ∙ h u refl
none_first others w v (Ok (Some x, u)) h is = absurd (one_more (others u) x v is)
none_first others w v (Err e) h is = absurd cc

-- where none is found the place stays
pub no_run_stays : {A : Type 0} (tag : ℕ) (content : Window → Result A Stop) (w v : Window) → run tag content w ≡ nothing v → v ≡ w
no_run_stays tag content w v is = none_first (run tag content) w v (optional tag content w) (λ u e. none_stays tag content w u e) (sym (run_is tag content w) ∙ is)

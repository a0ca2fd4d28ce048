-- A reading that begins with an element, by what stands first.
use Rattle.std.proofs.Common.{◌≡◌, ℕ, Bool, true, false, cond, eqb, List, [], ◌∷◌, Option, Some, None, Result, Ok, Err, refl, ap, ◌∙◌}
use Rattle.std.specs.Prelude.{◌==◌}
use Rattle.ber_core.specs.Window.{Stop, Window, Reading, ◌>>=◌, tag_here, open_as, element, many, optional}
use Rattle.request_wait.specs.Inside.{Outcome, done, outcome}
use Rattle.request_wait.proofs.Fuel.{element_shrinks, many_is}

-- ---- outcomes

pub outcome_bind : {A B : Type 0} (r : Result A Stop) (k : A → Result B Stop) → outcome (r >>= k) ≡ (r >>= λ x. outcome (k x))
outcome_bind (Ok x) k = refl
outcome_bind (Err e) k = refl

-- a reading that makes a value of another one's
pub outcome_value : {A B : Type 0} (r : Result A Stop) (f : A → B) → outcome (r >>= λ x. Ok (f x)) ≡ outcome r
outcome_value (Ok x) f = refl
outcome_value (Err e) f = refl

-- a reading that ends with a value
pub outcome_end : {B : Type 0} (r : Outcome) (x : B) → outcome (r >>= λ u. Ok x) ≡ r
outcome_end (Ok u) x = refl
outcome_end (Err e) x = refl

pub same_bind : {A : Type 0} (r : Result A Stop) (k l : A → Outcome) → ((x : A) → k x ≡ l x) → (r >>= k) ≡ (r >>= l)
same_bind (Ok x) k l h = h x
same_bind (Err e) k l h = refl

pub passes : {A B : Type 0} (r : Result A Stop) (k : A → Result B Stop) (l : A → Outcome) → ((x : A) → outcome (k x) ≡ l x) → outcome (r >>= k) ≡ (r >>= l)
passes r k l h = outcome_bind r k ∙ same_bind r (λ x. outcome (k x)) l h

-- ---- an element, and then the rest

-- an element that was opened, its content, and then the rest
abbrev pub opened_then : (Window → Outcome) → (Window → Outcome) → Result (Window × Window) Stop → Outcome
opened_then content next r = r >>= λ o. content o.0 >>= λ u. next o.1

pub same_opened : (content other next : Window → Outcome) (r : Result (Window × Window) Stop) → ((v : Window) → content v ≡ other v) → opened_then content next r ≡ opened_then other next r
same_opened content other next (Ok o) h = ap (λ (x : Outcome). x >>= λ u. next o.1) (h o.0)
same_opened content other next (Err e) h = refl

by_content : {A : Type 0} (o : Window × Window) (r : Result A Stop) (k : A × Window → Outcome) (next : Window → Outcome) → ((x : A × Window) → k x ≡ next x.1) → ((r >>= λ x. Ok (x, o.1)) >>= k) ≡ (outcome r >>= λ u. next o.1)
by_content o (Ok x) k next h = h (x, o.1)
by_content o (Err e) k next h = refl

pub by_open : {A : Type 0} (r : Result (Window × Window) Stop) (content : Window → Result A Stop) (k : A × Window → Outcome) (next : Window → Outcome) → ((x : A × Window) → k x ≡ next x.1)
    → ((r >>= λ o. content o.0 >>= λ x. Ok (x, o.1)) >>= k) ≡ opened_then (λ v. outcome (content v)) next r
by_open (Ok o) content k next h = by_content o (content o.0) k next h
by_open (Err e) content k next h = refl

pub element_first : {A : Type 0} (tag : ℕ) (content : Window → Result A Stop) (k : A × Window → Outcome) (next : Window → Outcome) (w : Window) → ((x : A × Window) → k x ≡ next x.1)
    → (element tag content w >>= k) ≡ opened_then (λ v. outcome (content v)) next (open_as tag w)
unfolding element
element_first tag content k next w h = by_open (open_as tag w) content k next h

-- the same where a value is made in the end
pub first : {A B : Type 0} (tag : ℕ) (content : Window → Result A Stop) (k : A × Window → Result B Stop) (next : Window → Outcome) (w : Window) → ((x : A × Window) → outcome (k x) ≡ next x.1)
    → outcome (element tag content w >>= k) ≡ opened_then (λ v. outcome (content v)) next (open_as tag w)
first tag content k next w h = outcome_bind (element tag content w) k ∙ element_first tag content (λ x. outcome (k x)) next w h

-- ---- as many as there are

pub outcome_choice : {A : Type 0} (b : Bool) (xs : List A) (r : Result (List A) Stop) → outcome (cond b (Ok xs) r) ≡ cond b done (outcome r)
outcome_choice true xs r = refl
outcome_choice false xs r = refl

pub more_values : {A : Type 0} (r : Result (List A) Stop) (x : A) → outcome (r >>= λ xs. Ok (x ∷ xs)) ≡ outcome r
more_values (Ok xs) x = refl
more_values (Err e) x = refl

pub many_first : {A : Type 0} (tag : ℕ) (content : Window → Result A Stop) (w : Window)
    → outcome (many (element tag content) w) ≡ cond (eqb w.left 0) done (opened_then (λ v. outcome (content v)) (λ v. outcome (many (element tag content) v)) (open_as tag w))
many_first tag content w =
    ap outcome (many_is (element tag content) (element_shrinks tag content) w)
    ∙ outcome_choice (eqb w.left 0) [] _
    ∙ ap (λ (r : Outcome). cond (eqb w.left 0) done r) (first tag content _ (λ v. outcome (many (element tag content) v)) w (λ x. more_values (many (element tag content) x.1) x.0))

-- ---- an element that may be left out

abbrev nothing : {A : Type 0} → Option A
nothing = None

found_is : {A : Type 0} (r : Reading A) (k : Option A × Window → Outcome) → ((r >>= λ x. Ok (Some x.0, x.1)) >>= k) ≡ (r >>= λ x. k (Some x.0, x.1))
found_is (Ok x) k = refl
found_is (Err e) k = refl

by_first : {A : Type 0} (b : Bool) (r : Reading A) (w : Window) (k : Option A × Window → Outcome) (found missing : Outcome) → (r >>= λ x. k (Some x.0, x.1)) ≡ found → k (nothing, w) ≡ missing
    → (cond b (r >>= λ x. Ok (Some x.0, x.1)) (Ok (nothing, w)) >>= k) ≡ cond b found missing
by_first true r w k found missing h g = found_is r k ∙ h
by_first false r w k found missing h g = g

by_tag : {A : Type 0} (tag : ℕ) (t : Result ℕ Stop) (r : Reading A) (w : Window) (k : Option A × Window → Outcome) (found missing : Outcome) → (r >>= λ x. k (Some x.0, x.1)) ≡ found → k (nothing, w) ≡ missing
    → ((t >>= λ n. cond (n == tag) (r >>= λ x. Ok (Some x.0, x.1)) (Ok (nothing, w))) >>= k) ≡ (t >>= λ n. cond (n == tag) found missing)
by_tag tag (Ok n) r w k found missing h g = by_first (n == tag) r w k found missing h g
by_tag tag (Err e) r w k found missing h g = refl

by_left : {A : Type 0} (b : Bool) (r : Reading (Option A)) (w : Window) (k : Option A × Window → Outcome) (there missing : Outcome) → (r >>= k) ≡ there → k (nothing, w) ≡ missing → (cond b (Ok (nothing, w)) r >>= k) ≡ cond b missing there
by_left true r w k there missing h g = g
by_left false r w k there missing h g = h

pub optional_first : {A : Type 0} (tag : ℕ) (content : Window → Result A Stop) (k : Option A × Window → Outcome) (found missing : Window → Outcome) (w : Window) → ((x : A) (v : Window) → k (Some x, v) ≡ found v) → ((v : Window) → k (nothing, v) ≡ missing v)
    → (optional tag content w >>= k) ≡ cond (eqb w.left 0) (missing w) (tag_here w >>= λ t. cond (t == tag) (opened_then (λ v. outcome (content v)) found (open_as tag w)) (missing w))
unfolding optional
optional_first tag content k found missing w h g =
    by_left (eqb w.left 0) _ w k _ (missing w) (by_tag tag (tag_here w) (element tag content w) w k (opened_then (λ v. outcome (content v)) found (open_as tag w)) (missing w) (element_first tag content (λ x. k (Some x.0, x.1)) found w (λ x. h x.0 x.1)) (g w)) (g w)

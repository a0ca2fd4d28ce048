-- Elements one after the other: each one read leaves fewer bytes, so reading behind it is reading again as many as there are.
use Rattle.std.proofs.Common.{◌≡◌, ℕ, zero, suc, ◌<◌, ◌≤◌, true, cond, eqb, List, [], ◌∷◌, Result, Ok, Err, refl, ap, ◌∙◌, arith}
use Rattle.std.proofs.lemmas.Bool.Decides.{nat_tests}
use Rattle.ber_core.specs.declared.read.Header.{Header}
use Rattle.ber_core.specs.Reading.{header_at, header_size}
use Rattle.ber_core.proofs.Laws.{header_takes}
use Rattle.ber_core.specs.Window.{Stop, Window, Reading, ◌>>=◌, tag_here, after, open_here, open_as, octets, element, skip_one, skip_from, skip, many_from, many}
use Rattle.request_wait.specs.Inside.{Outcome, done}
use Rattle.request_wait.proofs.Stays.{same_ok, opened, opened_here}

-- ---- each element read leaves fewer bytes

two_at_least : (bytes : List ℕ) → 2 ≤ header_size bytes
two_at_least [] = omega arith
two_at_least (tag ∷ []) = omega arith
two_at_least (tag ∷ b ∷ bytes) = omega arith

fewer : (w : Window) (h : Header) → header_at w.left w.bytes ≡ Ok h → (after w h).left < w.left
fewer w h e =
    let k = header_takes w.left w.bytes h e in
    let b = k.begins in
    let two = b.two in
    let size_is : header_size w.bytes ≡ h.size = ap (λ (x : Header). x.size) k.header_is in
    let least = two_at_least w.bytes in
    omega arith

abbrev pub Shrinks : {A : Type 0} → (Window → Reading A) → Type 0
Shrinks {A} piece = (w : Window) (x : A × Window) → piece w ≡ Ok x → x.1.left < w.left

read_rest : {A : Type 0} (o : Window × Window) (r : Result A Stop) (x : A × Window) → (r >>= λ y. Ok (y, o.1)) ≡ Ok x → o.1 ≡ x.1
read_rest o (Ok y) x is = ap (λ (p : _ × Window). p.1) (same_ok _ x is)
read_rest o (Err e) x is = absurd cc

pub read_opened : {A : Type 0} (r : Result (Window × Window) Stop) (content : Window → Result A Stop) (x : A × Window) → (r >>= λ o. content o.0 >>= λ y. Ok (y, o.1)) ≡ Ok x → (o : Window × Window) × (r ≡ Ok o) × (o.1 ≡ x.1)
read_opened (Ok o) content x is = (o, refl, read_rest o (content o.0) x is)
read_opened (Err e) content x is = absurd cc

pub left_of : (w v u : Window) (h : Header) → v ≡ after w h → v ≡ u → header_at w.left w.bytes ≡ Ok h → u.left < w.left
left_of w v u h e same is =
    let a = ap (λ (x : Window). x.left) e in
    let b = ap (λ (x : Window). x.left) same in
    let c = fewer w h is in
    omega arith

pub element_shrinks : {A : Type 0} (tag : ℕ) (content : Window → Result A Stop) → Shrinks (element tag content)
unfolding element
element_shrinks tag content w x is =
    let k = read_opened (open_as tag w) content x is in
    let h = opened tag w k.0 k.1 in
    left_of w k.0.1 x.1 h.0 (ap (λ (o : Window × Window). o.1) h.2) k.2 h.1

skipped_rest : (o : Window × Window) (r : Result (List ℕ) Stop) (v : Window) → (r >>= λ bytes. Ok o.1) ≡ Ok v → o.1 ≡ v
skipped_rest o (Ok y) v is = same_ok _ v is
skipped_rest o (Err e) v is = absurd cc

skipped_opened : (r : Result (Window × Window) Stop) (v : Window) → (r >>= λ o. octets o.0 >>= λ bytes. Ok o.1) ≡ Ok v → (o : Window × Window) × (r ≡ Ok o) × (o.1 ≡ v)
skipped_opened (Ok o) v is = (o, refl, skipped_rest o (octets o.0) v is)
skipped_opened (Err e) v is = absurd cc

after_tag : (w v : Window) (r : Result ℕ Stop) → (r >>= λ tag. open_here w >>= λ o. octets o.0 >>= λ bytes. Ok o.1) ≡ Ok v → (open_here w >>= λ o. octets o.0 >>= λ bytes. Ok o.1) ≡ Ok v
after_tag w v (Ok t) is = is
after_tag w v (Err e) is = absurd cc

skip_one_shrinks : (w v : Window) → skip_one w ≡ Ok v → v.left < w.left
unfolding skip_one
skip_one_shrinks w v is =
    let k = skipped_opened (open_here w) v (after_tag w v (tag_here w) is) in
    let h = opened_here w k.0 k.1 in
    left_of w k.0.1 v h.0 (ap (λ (o : Window × Window). o.1) h.2) k.2 h.1

-- ---- as many as there are

abbrev front : {A : Type 0} → (Window → Result (List A) Stop) → A × Window → Result (List A) Stop
front others first = others first.1 >>= λ xs. Ok (first.0 ∷ xs)

same_front : {A : Type 0} (piece : Window → Reading A) (w : Window) (others more : Window → Result (List A) Stop) (r : Reading A) → piece w ≡ r → ((x : A × Window) → piece w ≡ Ok x → others x.1 ≡ more x.1) → (r >>= front others) ≡ (r >>= front more)
same_front piece w others more (Ok x) e h = ap (λ (r : Result (List _) Stop). r >>= λ xs. Ok (x.0 ∷ xs)) (h x e)
same_front piece w others more (Err s) e h = refl

pub none_left : (n : ℕ) → n ≤ 0 → eqb n 0 ≡ true
none_left n le = grind (arith, nat_tests)

pub enough : {A : Type 0} (piece : Window → Reading A) → Shrinks piece → (n m : ℕ) (w : Window) → w.left ≤ n → w.left ≤ m → many_from piece n w ≡ many_from piece m w
unfolding many_from
enough piece s zero zero w a b = refl
enough piece s zero (suc m) w a b = rw (none_left w.left a) refl
enough piece s (suc n) zero w a b = rw (none_left w.left b) refl
enough piece s (suc n) (suc m) w a b =
    ap (λ (r : Result (List _) Stop). cond (eqb w.left 0) (Ok []) r) (same_front piece w (many_from piece n) (many_from piece m) (piece w) refl (λ x is. let lt = s w x is in enough piece s n m x.1 (omega arith) (omega arith)))

pub many_is : {A : Type 0} (piece : Window → Reading A) → Shrinks piece → (w : Window) → many piece w ≡ cond (eqb w.left 0) (Ok []) (piece w >>= front (many piece))
unfolding many_from
many_is piece s w =
    enough piece s w.left (suc w.left) w (omega arith) (omega arith)
    ∙ ap (λ (r : Result (List _) Stop). cond (eqb w.left 0) (Ok []) r) (same_front piece w (many_from piece w.left) (many piece) (piece w) refl (λ x is. let lt = s w x is in enough piece s w.left x.1.left x.1 (omega arith) (omega arith)))

same_rest : (w : Window) (others more : Window → Outcome) (r : Result Window Stop) → skip_one w ≡ r → ((v : Window) → skip_one w ≡ Ok v → others v ≡ more v) → (r >>= others) ≡ (r >>= more)
same_rest w others more (Ok v) e h = h v e
same_rest w others more (Err s) e h = refl

skip_enough : (n m : ℕ) (w : Window) → w.left ≤ n → w.left ≤ m → skip_from n w ≡ skip_from m w
unfolding skip_from
skip_enough zero zero w a b = refl
skip_enough zero (suc m) w a b = rw (none_left w.left a) refl
skip_enough (suc n) zero w a b = rw (none_left w.left b) refl
skip_enough (suc n) (suc m) w a b =
    ap (λ (r : Outcome). cond (eqb w.left 0) done r) (same_rest w (skip_from n) (skip_from m) (skip_one w) refl (λ v is. let lt = skip_one_shrinks w v is in skip_enough n m v (omega arith) (omega arith)))

pub skip_is : (w : Window) → skip w ≡ cond (eqb w.left 0) done (skip_one w >>= skip)
unfolding skip_from
skip_is w =
    skip_enough w.left (suc w.left) w (omega arith) (omega arith)
    ∙ ap (λ (r : Outcome). cond (eqb w.left 0) done r) (same_rest w (skip_from w.left) skip (skip_one w) refl (λ v is. let lt = skip_one_shrinks w v is in skip_enough w.left v.left v (omega arith) (omega arith)))

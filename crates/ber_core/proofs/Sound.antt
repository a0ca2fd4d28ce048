-- What is read is spelled so: the parts that all operations have.
use Rattle.std.proofs.Common.{◌≡◌, ℕ, zero, suc, ◌-◌, ◌+◌, ◌≤◌, ◌<◌, ◌%◌, Bool, true, false, cond, ltb, List, [], ◌∷◌, ◌++◌, length, take, drop, get_or, Option, Some, None, Result, Ok, Err, refl, sym, ap, subst, ◌∙◌, append_assoc, arith, length-append, length-drop}
use Rattle.std.proofs.lemmas.Bool.{ltb-false, eqb-true}
use Rattle.std.proofs.lemmas.Bool.Decides.{nat_tests}
use Rattle.std.proofs.lemmas.List.{take-append-drop, length-take-le}
use Rattle.std.proofs.Math.Seq.{take-append-add}
use Rattle.std.specs.Prelude.{◌==◌, ◌||◌, nat_lt, slice_get, slice_range}
use Rattle.ber_core.specs.declared.fault.BerFault.{BerFault}
use Rattle.ber_core.specs.declared.fault.BerFault.TheVariants as ber
use Rattle.ber_core.specs.declared.fault.BerWhy.TheVariants as ber_why
use Rattle.ber_core.specs.declared.read.Header.{Header}
use Rattle.ber_core.specs.Element.{IsElement}
use Rattle.ber_core.specs.Number.{integer_of, boolean_of}
use Rattle.ber_core.specs.Reading.{header_at, header_size, least_size}
use Rattle.ber_core.proofs.Laws.{header_takes, header_element}
use Rattle.ber_core.specs.declared.fault.NotLdapWhy.TheVariants as why
use Rattle.ber_core.specs.Window.{Stop, Fault, More, Window, Reading, ◌>>=◌, tag_in, tag_here, inside, after, both, open_here, open_as, octets, or_shape, int, boolean, element, refused, skip_one, skip_from, skip, ended, many_from, many, optional, with_first, run_from, run}
use Rattle.ber_core.specs.Spelling.{Element, Then, Given, ThenMaybe, Nothing, Each, none, next, IsSomeElement, Unknown, Octets, Integer, Boolean}

-- ---- what is read holds

abbrev pub read_ok : {B : Type 0} → B → Result B Stop
read_ok x = Ok x

pub out : {B : Type 0} (x y : B) → read_ok x ≡ read_ok y → x ≡ y
out x y e = cc

-- if something was read, P says so of it
pub data Good {A : Type 0} (P : A → Type 0) : Result A Stop → Type 0 where
  good : (x : A) → P x → Good P (Ok x)
  stopped : (s : Stop) → Good P (Err s)

pub so : {A B : Type 0} {P : A → Type 0} {Q : B → Type 0} {r : Result A Stop} {k : A → Result B Stop} → Good P r → ((x : A) → P x → Good Q (k x)) → Good Q (r >>= k)
so (good x p) h = h x p
so (stopped s) h = stopped s

pub also : {A : Type 0} {P Q : A → Type 0} {r : Result A Stop} → Good P r → ((x : A) → P x → Q x) → Good Q r
also (good x p) h = good x (h x p)
also (stopped s) h = stopped s

pub ok_so : {A B : Type 0} {Q : B → Type 0} {k : A → Result B Stop} (r : Result A Stop) → ((x : A) → r ≡ Ok x → Good Q (k x)) → Good Q (r >>= k)
ok_so (Ok x) h = h x refl
ok_so (Err s) h = stopped s

pub either : {A : Type 0} {P : A → Type 0} {r t : Result A Stop} (b : Bool) → (b ≡ true → Good P r) → (b ≡ false → Good P t) → Good P (cond b r t)
either true h k = h refl
either false h k = k refl

pub value : {A : Type 0} {P : A → Type 0} {r : Result A Stop} → Good P r → (x : A) → r ≡ Ok x → P x
value {P} (good y p) x e = subst P (out y x e) p
value (stopped s) x e = absurd cc

pub chosen_true : {A : Type 0} (b : Bool) (r : Result A Stop) (s : Stop) (x : A) → cond b r (Err s) ≡ Ok x → (b ≡ true) × (r ≡ Ok x)
chosen_true true r s x e = (refl, e)
chosen_true false r s x e = absurd cc

-- these bytes were taken from the front of w, and P says that they spell what was read
pub record Reads {A : Type 0} (w : Window) (P : List ℕ → A → Type 0) (p : A × Window) : Type 0 where
  pub front : List ℕ
  pub parts : w.bytes ≡ front ++ p.1.bytes
  pub left : w.left ≡ length front + p.1.left
  pub at : p.1.at ≡ w.at + length front
  pub spelled : P front p.0

-- the same for a part that may be left out, of which what follows is known too
pub record MayRead {A : Type 0} (w : Window) (tag : ℕ) (Q : List ℕ → A → Type 0) (p : Option A × Window) : Type 0 where
  pub front : List ℕ
  pub parts : w.bytes ≡ front ++ p.1.bytes
  pub left : w.left ≡ length front + p.1.left
  pub at : p.1.at ≡ w.at + length front
  pub given : Given tag Q front (take p.1.left p.1.bytes) p.0

-- all of the inside is there, and is such bytes
pub record Covers (w : Window) (Q : List ℕ → Type 0) : Type 0 where
  pub all : w.left ≤ length w.bytes
  pub by : Q (take w.left w.bytes)

abbrev pub Sound : {A : Type 0} → (Window → Reading A) → (List ℕ → A → Type 0) → Type 0
Sound piece P = (w : Window) → Good (Reads w P) (piece w)

abbrev pub SoundInside : {A : Type 0} → (Window → Result A Stop) → (List ℕ → A → Type 0) → Type 0
SoundInside content Q = (w : Window) → Good (λ x. Covers w (λ body. Q body x)) (content w)

pub covers_map : (w : Window) (Q R : List ℕ → Type 0) → ((body : List ℕ) → Q body → R body) → Covers w Q → Covers w R
covers_map w Q R f c = record { all = c.all; by = f (take w.left w.bytes) c.by }

joined : (w rest : Window) (front : List ℕ) → w.bytes ≡ front ++ rest.bytes → w.left ≡ length front + rest.left → rest.left ≤ length rest.bytes
    → (w.left ≤ length w.bytes) × (take w.left w.bytes ≡ front ++ take rest.left rest.bytes)
joined w rest front parts left all =
    let len : length w.bytes ≡ length front + length rest.bytes = ap (λ (xs : List ℕ). length xs) parts ∙ length-append front rest.bytes in
    (omega arith, rw (parts, left) (take-append-add front rest.bytes rest.left))

pub before : {A : Type 0} {P : List ℕ → A → Type 0} {Rest : List ℕ → Type 0} (w : Window) (p : A × Window) → Reads w P p → Covers p.1 Rest → Covers w (Then P p.0 Rest)
before w p s r =
    let k = joined w p.1 s.front s.parts s.left r.all in
    record { all = k.0; by = (s.front, take p.1.left p.1.bytes, k.1, s.spelled, r.by) }

pub before_maybe : {A : Type 0} {tag : ℕ} {Q : List ℕ → A → Type 0} {Rest : List ℕ → Type 0} (w : Window) (p : Option A × Window) → MayRead w tag Q p → Covers p.1 Rest → Covers w (ThenMaybe tag Q p.0 Rest)
before_maybe w p s r =
    let k = joined w p.1 s.front s.parts s.left r.all in
    record { all = k.0; by = (s.front, take p.1.left p.1.bytes, k.1, s.given, r.by) }

-- ---- an element

both_ok : (w : Window) (r : Result Header BerFault) (o : Window × Window) → both w r ≡ Ok o → (h : Header) × (r ≡ Ok h) × ((inside w h, after w h) ≡ o)
both_ok w (Ok h) o e = (h, refl, cc)
both_ok w (Err (ber.More n)) o e = absurd cc
both_ok w (Err (ber.Bad p y)) o e = absurd cc

not_long : (b : Bool) (t u : ℕ) (s : Stop) → cond b (Err s) (read_ok u) ≡ Ok t → u ≡ t
not_long true t u s e = absurd cc
not_long false t u s e = cc

tag_is_first : (start at left : ℕ) (bytes : List ℕ) (t : ℕ) → tag_in start at left bytes ≡ Ok t → get_or bytes 0 0 ≡ t
unfolding tag_in
tag_is_first start at zero bytes t e = absurd cc
tag_is_first start at (suc zero) bytes t e = absurd cc
tag_is_first start at (suc (suc left)) [] t e = absurd cc
tag_is_first start at (suc (suc left)) (tag ∷ bytes) t e = not_long (tag % 32 == 31) t tag (Fault at (why.Ber ber_why.LongTag)) e

-- the content that was read is that of an element with this tag
pub opened : {A : Type 0} (Q : List ℕ → A → Type 0) (w : Window) (tag : ℕ) (o : Window × Window) (x : A) → tag_here w ≡ Ok tag → open_here w ≡ Ok o → Covers o.0 (λ body. Q body x) → Reads w (Element tag Q) (x, o.1)
unfolding open_here
opened Q w tag o x t e c =
    let d = both_ok w (header_at w.left w.bytes) o e in
    let h = d.0 in
    let p = subst (λ (v : Window × Window). Covers v.0 (λ body. Q body x)) (sym d.2) c in
    let all = p.all in
    let k = header_takes w.left w.bytes h d.1 in
    let le = k.there in
    let b = k.begins in
    let small = b.small in
    let size_is : header_size w.bytes ≡ h.size = ap (λ (y : Header). y.size) k.header_is in
    let least : least_size w.bytes ≡ h.size + h.content = ap (λ (y : Header). y.size + y.content) k.header_is in
    let dropped = length-drop h.size w.bytes in
    let there : h.size + h.content ≤ length w.bytes = omega arith in
    let size = h.size + h.content in
    let first : h.tag ≡ tag = sym (ap (λ (y : Header). y.tag) k.header_is) ∙ tag_is_first w.start w.at w.left w.bytes tag t in
    let count : h.size + h.content - h.size ≡ h.content = omega arith in
    let e1 : IsElement (take size w.bytes) tag (slice_range w.bytes h.size size) = subst (λ (g : ℕ). IsElement (take size w.bytes) g (slice_range w.bytes h.size size)) first (header_element w.left w.bytes h d.1 there) in
    let e2 : IsElement (take size w.bytes) tag (take h.content (drop h.size w.bytes)) = subst (λ (n : ℕ). IsElement (take size w.bytes) tag (take n (drop h.size w.bytes))) count e1 in
    let len : length (take size w.bytes) ≡ size = length-take-le size w.bytes there in
    let made : Reads w (Element tag Q) (x, after w h) = record { front = take size w.bytes; parts = sym (take-append-drop size w.bytes); left = omega arith; at = omega arith; spelled = (take h.content (drop h.size w.bytes), e2, p.by) } in
    subst (λ (v : Window × Window). Reads w (Element tag Q) (x, v.1)) d.2 made

pub as_ok : (tag : ℕ) (w : Window) (o : Window × Window) → open_as tag w ≡ Ok o → (tag_here w ≡ Ok tag) × (open_here w ≡ Ok o)
unfolding open_as
as_ok tag w o e = by_tag (tag_here w) refl e
  where
    by_tag : (r : Result ℕ Stop) → tag_here w ≡ r → (r >>= λ t. cond (t == tag) (open_here w) (refused w)) ≡ Ok o → (tag_here w ≡ Ok tag) × (open_here w ≡ Ok o)
    by_tag (Ok t) is e = (let c = chosen_true (t == tag) (open_here w) (Fault w.at why.Shape) o e in (is ∙ ap (λ (n : ℕ). read_ok n) (eqb-true t tag c.0), c.1))
    by_tag (Err s) is e = absurd cc

pub element_sound : {A : Type 0} (tag : ℕ) (content : Window → Result A Stop) (Q : List ℕ → A → Type 0) → SoundInside content Q → Sound (element tag content) (Element tag Q)
unfolding element
element_sound tag content Q q w = ok_so (open_as tag w) (λ o e. so (q o.0) (λ x c. good (x, o.1) (let k = as_ok tag w o e in opened Q w tag o x k.0 k.1 c)))

-- ---- leaves

octets_by : (left : ℕ) (bytes : List ℕ) (w : Window) → w.left ≡ left → w.bytes ≡ bytes → Good (λ x. Covers w (λ body. Octets body x)) (cond (ltb (length bytes) left) (Err More) (Ok (take left bytes)))
octets_by left bytes w l b = either (ltb (length bytes) left) (λ t. stopped More) (λ f. good (take left bytes) (let le = ltb-false (length bytes) left f in record { all = rw (l, b) le; by = rw (l, b) refl }))

pub octets_sound : SoundInside octets Octets
unfolding octets
octets_sound w = octets_by w.left w.bytes w refl refl

shaped : {A : Type 0} (start : ℕ) (w : Window) (read : List ℕ → Option A) (x : List ℕ) → Covers w (λ body. Octets body x) → Good (λ y. Covers w (λ body. read body ≡ Some y)) (or_shape start (read x))
shaped start w read x c = by_read (read x) refl
  where
    by_read : (r : Option _) → read x ≡ r → Good (λ y. Covers w (λ body. read body ≡ Some y)) (or_shape start r)
    by_read (Some y) e = good y (record { all = c.all; by = ap read c.by ∙ e })
    by_read None e = stopped _

pub int_sound : SoundInside int Integer
unfolding int
int_sound w = either (w.left == 0 || nat_lt 8 w.left) (λ t. stopped _) (λ f. so (octets_sound w) (λ x c. shaped w.start w integer_of x c))

pub boolean_sound : SoundInside boolean Boolean
unfolding boolean
boolean_sound w = either (w.left == 1) (λ t. so (octets_sound w) (λ x c. shaped w.start w boolean_of x c)) (λ f. stopped _)

-- ---- how the inside of an element ends

at_end : (w : Window) (Q : List ℕ → Type 0) → (w.left == 0) ≡ true → Q [] → Covers w Q
at_end w Q z q = let k : w.left ≡ 0 = eqb-true w.left 0 z in record { all = omega arith; by = rw k q }

pub ended_sound : (w : Window) → Good (λ u. Covers w Nothing) (ended w)
unfolding ended
ended_sound w = either (w.left == 0) (λ z. good tt (at_end w Nothing z refl)) (λ f. ok_so (tag_here w) (λ t e. stopped _))

skip_one_sound : (w : Window) → Good (λ rest. Reads w IsSomeElement (tt, rest)) (skip_one w)
unfolding skip_one
skip_one_sound w = ok_so (tag_here w) (λ t e. ok_so (open_here w) (λ o f. so (octets_sound o.0) (λ x c. good o.1
    (let r = opened Octets w t o x e f c in let s = r.spelled in record { front = r.front; parts = r.parts; left = r.left; at = r.at; spelled = (t, s.0, s.1) }))))

pub element_some : (tag : ℕ) (body front : List ℕ) → IsElement front tag body → 0 < length front
element_some tag body front h = rw h.parts (omega arith)

positive : (n : ℕ) → (n == 0) ≡ false → 0 < n
positive n f = grind (arith, nat_tests)

one_more : {A : Type 0} (P : List ℕ → A → Type 0) (w : Window) (p : A × Window) (xs : List A) → Reads w P p → Covers p.1 (λ body. Each P body xs) → Covers w (λ body. Each P body (p.0 ∷ xs))
one_more P w p xs s r =
    let k = joined w p.1 s.front s.parts s.left r.all in
    record { all = k.0; by = subst (λ (bs : List ℕ). Each P bs (p.0 ∷ xs)) (sym k.1) (next s.front (take p.1.left p.1.bytes) p.0 xs s.spelled r.by) }

abbrev empty : {A : Type 0} → List A
empty = []

skip_from_sound : (n : ℕ) (w : Window) → w.left ≤ n → Good (λ u. Covers w Unknown) (skip_from n w)
unfolding skip_from
skip_from_sound zero w le = good tt (let k : w.left ≡ 0 = omega arith in record { all = omega arith; by = rw k (empty, none) })
skip_from_sound (suc n) w le = either (w.left == 0) (λ z. good tt (at_end w Unknown z (empty, none)))
    (λ f. so (skip_one_sound w) (λ rest s.
    let some = element_some s.spelled.0 s.spelled.1 s.front s.spelled.2 in
    let left = s.left in
    also (skip_from_sound n rest (omega arith)) (λ u c.
    (let b = c.by in
    let m = one_more IsSomeElement w (tt, rest) b.0 s (record { all = c.all; by = b.1 }) in
    record { all = m.all; by = (tt ∷ b.0, m.by) }))))

pub skip_sound : (w : Window) → Good (λ u. Covers w Unknown) (skip w)
skip_sound w = skip_from_sound w.left w (omega arith)

many_from_sound : {A : Type 0} (piece : Window → Reading A) (P : List ℕ → A → Type 0) → Sound piece P → ((front : List ℕ) (x : A) → P front x → 0 < length front)
    → (n : ℕ) (w : Window) → w.left ≤ n → Good (λ xs. Covers w (λ body. Each P body xs)) (many_from piece n w)
unfolding many_from
many_from_sound piece P h some zero w le = good [] (let k : w.left ≡ 0 = omega arith in record { all = omega arith; by = rw k none })
many_from_sound piece P h some (suc n) w le = either (w.left == 0) (λ z. good [] (at_end w (λ body. Each P body []) z none))
    (λ f. so (h w) (λ p s.
    let more = some s.front p.0 s.spelled in
    let left = s.left in
    so (many_from_sound piece P h some n p.1 (omega arith)) (λ xs c. good (p.0 ∷ xs) (one_more P w p xs s c))))

pub many_sound : {A : Type 0} (piece : Window → Reading A) (P : List ℕ → A → Type 0) → Sound piece P → ((front : List ℕ) (x : A) → P front x → 0 < length front) → SoundInside (many piece) (Each P)
many_sound piece P h some w = many_from_sound piece P h some w.left w (omega arith)

pub inside_some : {A : Type 0} (tag : ℕ) (Q : List ℕ → A → Type 0) (front : List ℕ) (x : A) → Element tag Q front x → 0 < length front
inside_some tag Q front x e = element_some tag e.0 front e.1

-- ---- what may be left out

not_there : (start at left : ℕ) (bytes : List ℕ) (t tag : ℕ) → tag_in start at left bytes ≡ Ok t → (t == tag) ≡ false → slice_get (take left bytes) 0 ≡ Some tag → ⊥
unfolding tag_in
not_there start at zero bytes t tag e f is = absurd cc
not_there start at (suc zero) bytes t tag e f is = absurd cc
not_there start at (suc (suc left)) [] t tag e f is = absurd cc
not_there start at (suc (suc left)) (b ∷ bytes) t tag e f is =
    let k = not_long (b % 32 == 31) t b (Fault at (why.Ber ber_why.LongTag)) e in
    let m : b ≡ tag = cc in
    grind (arith, nat_tests)

pub optional_sound : {A : Type 0} (tag : ℕ) (content : Window → Result A Stop) (Q : List ℕ → A → Type 0) → SoundInside content Q → (w : Window) → Good (MayRead w tag Q) (optional tag content w)
unfolding optional
optional_sound tag content Q q w =
    either (w.left == 0) (λ z. good (None, w) (let k : w.left ≡ 0 = eqb-true w.left 0 z in record { front = []; parts = refl; left = omega arith; at = omega arith; given = (refl, rw k (λ e. absurd cc)) }))
    (λ f. ok_so (tag_here w) (λ t e. either (t == tag)
    (λ s. so (element_sound tag content Q q w) (λ p r. good (Some p.0, p.1) (record { front = r.front; parts = r.parts; left = r.left; at = r.at; given = r.spelled })))
    (λ other. good (None, w) (record { front = []; parts = refl; left = omega arith; at = omega arith; given = (refl, not_there w.start w.at w.left w.bytes t tag e other) }))))

first_sound : {A : Type 0} (tag : ℕ) (Q : List ℕ → A → Type 0) (others : Window → Reading (List A)) → ((v : Window) → Good (Reads v (Each (Element tag Q))) (others v))
    → (w : Window) (p : Option A × Window) → MayRead w tag Q p → Good (Reads w (Each (Element tag Q))) (with_first others p)
first_sound tag Q others h w (None, v) s = good ([], v) (record { front = s.front; parts = s.parts; left = s.left; at = s.at; spelled = (let k = s.given in subst (λ (bs : List ℕ). Each (Element tag Q) bs []) (sym k.0) none) })
first_sound tag Q others h w (Some x, v) s = so (h v) (λ xs r. good (x ∷ xs.0, xs.1) (
    let l = s.left in let m = r.left in let a = s.at in let b = r.at in let len = length-append s.front r.front in
    record { front = s.front ++ r.front; parts = s.parts ∙ ap (λ (bs : List ℕ). s.front ++ bs) r.parts ∙ sym (append_assoc s.front r.front xs.1.bytes); left = omega arith; at = omega arith; spelled = next s.front r.front x xs.0 s.given r.spelled }))

run_from_sound : {A : Type 0} (tag : ℕ) (content : Window → Result A Stop) (Q : List ℕ → A → Type 0) → SoundInside content Q → (n : ℕ) → Sound (run_from tag content n) (Each (Element tag Q))
unfolding run_from
run_from_sound tag content Q q zero w = good ([], w) (record { front = []; parts = refl; left = omega arith; at = omega arith; spelled = none })
run_from_sound tag content Q q (suc n) w = so (optional_sound tag content Q q w) (λ p s. first_sound tag Q (run_from tag content n) (run_from_sound tag content Q q n) w p s)

pub run_sound : {A : Type 0} (tag : ℕ) (content : Window → Result A Stop) (Q : List ℕ → A → Type 0) → SoundInside content Q → Sound (run tag content) (Each (Element tag Q))
run_sound tag content Q q w = run_from_sound tag content Q q w.left w

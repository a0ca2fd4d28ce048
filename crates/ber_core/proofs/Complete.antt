-- What is spelled is read: elements, and how they stand one after the other.
use Rattle.std.proofs.Common.{◌≡◌, ℕ, zero, suc, ◌-◌, ◌+◌, ◌≤◌, ◌<◌, ◌%◌, Bool, true, false, cond, ltb, List, [], ◌∷◌, ◌++◌, length, take, drop, Option, Some, None, Result, Ok, refl, sym, ap, subst, ◌∙◌, append_assoc, arith, length-append}
use Rattle.std.proofs.lemmas.Bool.{ne_eqb, eq-eqb, le-ltb}
use Rattle.std.proofs.lemmas.List.{take_at, drop_at}
use Rattle.std.specs.Prelude.{◌==◌, ◌||◌, nat_lt}
use Rattle.ber_core.specs.declared.read.Header.{Header}
use Rattle.ber_core.specs.Element.{IsElement, IsLength, IsTag}
use Rattle.ber_core.specs.Number.{integer, integer_of, boolean_of}
use Rattle.ber_core.specs.Reading.{header_at}
use Rattle.ber_core.proofs.Laws.{header_from_element, header_again}
use Rattle.ber_core.specs.Window.{Stop, Window, Reading, ◌>>=◌, tag_in, tag_here, inside, after, both, open_here, open_as, octets, or_shape, int, boolean, element, refused, skip_one, skip_from, skip, ended}
use Rattle.ber_core.specs.Spelling.{Element, Nothing, Each, none, next, IsSomeElement, Unknown, Octets, Integer, Boolean}
use Rattle.ber_core.proofs.Sound.{element_some}

-- ---- something was read

-- a value was read, and P says so of it
pub data Gets {A : Type 0} (P : A → Type 0) : Result A Stop → Type 0 where
  gets : (x : A) → P x → Gets P (Ok x)

pub go_on : {A B : Type 0} {P : A → Type 0} {Q : B → Type 0} {r : Result A Stop} {k : A → Result B Stop} → Gets P r → ((x : A) → P x → Gets Q (k x)) → Gets Q (r >>= k)
go_on (gets x p) h = h x p

pub every : {A : Type 0} {P Q : A → Type 0} {r : Result A Stop} → Gets P r → ((x : A) → P x → Q x) → Gets Q r
every (gets x p) h = gets x (h x p)

pub at_ok : {A B : Type 0} {Q : B → Type 0} (k : A → Result B Stop) (r : Result A Stop) (x : A) → r ≡ Ok x → Gets Q (k x) → Gets Q (r >>= k)
at_ok {A} {B} {Q} k r x e g = subst (λ (s : Result A Stop). Gets Q (s >>= k)) (sym e) g

pub chosen : {A : Type 0} {P : A → Type 0} {r : Result A Stop} (s : Result A Stop) (b : Bool) → b ≡ true → Gets P r → Gets P (cond b r s)
chosen s true e g = g
chosen s false e g = absurd cc

pub passed : {A : Type 0} {P : A → Type 0} {s : Result A Stop} (r : Result A Stop) (b : Bool) → b ≡ false → Gets P s → Gets P (cond b r s)
passed r false e g = g
passed r true e g = absurd cc

-- it is this value
abbrev pub Is : {A : Type 0} → A → A → Type 0
Is x y = y ≡ x

-- whatever it is
abbrev pub Any : {A : Type 0} → A → Type 0
Any x = Unit {0}

pub value_is : {A : Type 0} (x : A) (r : Result A Stop) → Gets (Is x) r → r ≡ Ok x
value_is x _ (gets y e) = ap (λ (z : _). Ok z) e

-- ---- places

-- these bytes stand here, and the element around them has no more
pub record Holds (w : Window) (body : List ℕ) : Type 0 where
  pub rest : List ℕ
  pub parts : w.bytes ≡ body ++ rest
  pub left : w.left ≡ length body

pub cut : (w : Window) (xs ys : List ℕ) → Holds w xs → xs ≡ ys → Holds w ys
cut w xs ys h e = subst (λ (zs : List ℕ). Holds w zs) e h

-- x was read, and these bytes follow
abbrev pub Leaves : {A : Type 0} → A → List ℕ → A × Window → Type 0
Leaves x others p = (p.0 ≡ x) × Holds p.1 others

-- each spelling by P is read, whatever follows it
abbrev pub Full : {A : Type 0} → (Window → Reading A) → (List ℕ → A → Type 0) → Type 0
Full {A} piece P = (w : Window) (front others : List ℕ) (x : A) → Holds w (front ++ others) → P front x → Gets (Leaves x others) (piece w)

-- each content by Q is read
abbrev pub FullInside : {A : Type 0} → (Window → Result A Stop) → (List ℕ → A → Type 0) → Type 0
FullInside {A} content Q = (w : Window) (body : List ℕ) (x : A) → Holds w body → Q body x → Gets (Is x) (content w)

pub at_end : (w : Window) (body : List ℕ) → Holds w body → body ≡ [] → (w.left == 0) ≡ true
at_end w body h e = eq-eqb w.left 0 (h.left ∙ ap (λ (xs : List ℕ). length xs) e)

pub not_at_end : (w : Window) (front others : List ℕ) → Holds w (front ++ others) → 0 < length front → (w.left == 0) ≡ false
not_at_end w front others h some = ne_eqb w.left 0 (λ z. let l = h.left in let len = length-append front others in absurd (omega arith))

-- ---- an element

pub tag_first : (start at left tag : ℕ) (more : List ℕ) → 2 ≤ left → IsTag tag → tag_in start at left (tag ∷ more) ≡ Ok tag
unfolding tag_in
tag_first start at zero tag more two t = absurd (omega arith)
tag_first start at (suc zero) tag more two t = absurd (omega arith)
tag_first start at (suc (suc left)) tag more two t = rw (ne_eqb (tag % 32) 31 t) refl

pub element_two : (whole : List ℕ) (tag : ℕ) (body : List ℕ) → IsElement whole tag body → 2 ≤ length whole
element_two whole tag body h = subst (λ (xs : List ℕ). 2 ≤ length xs) (sym h.parts) (by_len h.len h.length_form)
  where
    by_len : (len : List ℕ) → IsLength len (length body) → 2 ≤ length (tag ∷ len ++ body)
    by_len [] form = absurd form
    by_len (b ∷ digits) form = omega arith

-- where an element stands, there is its tag, its content, and what follows
pub record Opens (w : Window) (tag : ℕ) (whole body rest : List ℕ) : Type 0 where
  pub halves : Window × Window
  pub tag_is : tag_here w ≡ Ok tag
  pub open_is : open_here w ≡ Ok halves
  pub content : Holds halves.0 body
  pub follows : halves.1.bytes ≡ rest
  pub left_is : halves.1.left ≡ w.left - length whole
  pub at_is : halves.1.at ≡ w.at + length whole

pub opens : (w : Window) (tag : ℕ) (whole body rest : List ℕ) → w.bytes ≡ whole ++ rest → length whole ≤ w.left → IsElement whole tag body → Opens w tag whole body rest
unfolding open_here
opens w tag whole body rest parts le h =
    let k = header_from_element whole body tag h in
    let front = k.0 in
    let size : ℕ = length front + length body in
    let len : length whole ≡ size = ap (λ (xs : List ℕ). length xs) k.2 ∙ length-append front body in
    let all : w.bytes ≡ front ++ (body ++ rest) = parts ∙ ap (λ (xs : List ℕ). xs ++ rest) k.2 ∙ append_assoc front body rest in
    let header : Header = record { tag = tag; size = length front; content = length body } in
    let read : header_at w.left w.bytes ≡ Ok header = ap (header_at w.left) all ∙ header_again w.left front (body ++ rest) tag (length body) k.1 (omega arith) in
    let two = element_two whole tag body h in
    let first : w.bytes ≡ tag ∷ ((h.len ++ body) ++ rest) = parts ∙ ap (λ (xs : List ℕ). xs ++ rest) h.parts in
    record {
      halves = (inside w header, after w header);
      tag_is = ap (tag_in w.start w.at w.left) first ∙ tag_first w.start w.at w.left tag ((h.len ++ body) ++ rest) (omega arith) h.tag_form;
      open_is = ap (both w) read;
      content = record { rest = rest; parts = ap (drop (length front)) all ∙ drop_at front (body ++ rest) (length front) refl; left = refl };
      follows = ap (drop size) parts ∙ drop_at whole rest size len;
      left_is = ap (λ (n : ℕ). w.left - n) (sym len);
      at_is = ap (λ (n : ℕ). w.at + n) (sym len);
    }

-- the same inside an element, with what that one has after it
abbrev pub Halves : List ℕ → List ℕ → Window × Window → Type 0
Halves body others o = Holds o.0 body × Holds o.1 others

pub stands : (w : Window) (tag : ℕ) (front body others : List ℕ) → Holds w (front ++ others) → IsElement front tag body → (tag_here w ≡ Ok tag) × ((o : Window × Window) × (open_here w ≡ Ok o) × Halves body others o)
stands w tag front body others h el =
    let len = length-append front others in
    let left = h.left in
    let k = opens w tag front body (others ++ h.rest) (h.parts ∙ append_assoc front others h.rest) (omega arith) el in
    let left_is = k.left_is in
    (k.tag_is, (k.halves, k.open_is, (k.content, record { rest = h.rest; parts = k.follows; left = omega arith })))

pub element_full : {A : Type 0} (tag : ℕ) (content : Window → Result A Stop) (Q : List ℕ → A → Type 0) → FullInside content Q → Full (element tag content) (Element tag Q)
unfolding element open_as
element_full tag content Q q w front others x h e =
    let k = stands w tag front e.0 others h e.1 in
    let o = k.1.0 in
    at_ok _ (open_as tag w) o (ap (λ (r : Result ℕ Stop). r >>= λ t. cond (t == tag) (open_here w) (refused w)) k.0 ∙ ap (λ (b : Bool). cond b (open_here w) (refused w)) (eq-eqb tag tag refl) ∙ k.1.1)
    (go_on (q o.0 e.0 x k.1.2.0 e.2) (λ y is. gets (y, o.1) (is, k.1.2.1)))

-- ---- leaves

pub octets_full : FullInside octets Octets
unfolding octets
octets_full w body x h e =
    let left = h.left in
    let len : length w.bytes ≡ length body + length h.rest = ap (λ (xs : List ℕ). length xs) h.parts ∙ length-append body h.rest in
    passed _ (ltb (length w.bytes) w.left) (le-ltb (length w.bytes) w.left (omega arith))
    (gets (take w.left w.bytes) (ap (λ (n : ℕ). take n w.bytes) left ∙ ap (take (length body)) h.parts ∙ take_at body h.rest (length body) refl ∙ e))

-- the content of a leaf, as its reading sees it
shaped : {A : Type 0} (start : ℕ) (read : List ℕ → Option A) (body bytes : List ℕ) (x : A) → bytes ≡ body → read body ≡ Some x → Gets (Is x) (or_shape start (read bytes))
shaped {A} start read body bytes x e is = subst (λ (o : Option A). Gets (Is x) (or_shape start o)) (sym (ap read e ∙ is)) (gets x refl)

fits : {A : Type 0} (b : Bool) (x y : A) → cond b None (Some x) ≡ Some y → b ≡ false
fits true x y e = absurd cc
fits false x y e = refl

pub int_full : FullInside int Integer
unfolding int
int_full w body z h e =
    passed _ (w.left == 0 || nat_lt 8 w.left) (ap (λ (n : ℕ). n == 0 || nat_lt 8 n) h.left ∙ fits (length body == 0 || nat_lt 8 (length body)) (integer body) z e)
    (go_on (octets_full w body body h refl) (λ bytes is. shaped w.start integer_of body bytes z is e))

one_byte : (body : List ℕ) (b : Bool) → boolean_of body ≡ Some b → length body ≡ 1
one_byte [] b e = absurd cc
one_byte (x ∷ []) b e = refl
one_byte (x ∷ y ∷ body) b e = absurd cc

pub boolean_full : FullInside boolean Boolean
unfolding boolean
boolean_full w body b h e =
    chosen _ (w.left == 1) (eq-eqb w.left 1 (h.left ∙ one_byte body b e))
    (go_on (octets_full w body body h refl) (λ bytes is. shaped w.start boolean_of body bytes b is e))

-- ---- how the inside of an element ends

pub ended_full : (w : Window) (body : List ℕ) → Holds w body → Nothing body → Gets Any (ended w)
unfolding ended
ended_full w body h e = chosen _ (w.left == 0) (at_end w body h e) (gets tt tt)

skip_one_full : (w : Window) (front others body : List ℕ) (tag : ℕ) → Holds w (front ++ others) → IsElement front tag body → Gets (λ v. Holds v others) (skip_one w)
unfolding skip_one
skip_one_full w front others body tag h el =
    let k = stands w tag front body others h el in
    let o = k.1.0 in
    at_ok _ (tag_here w) tag k.0 (at_ok _ (open_here w) o k.1.1 (go_on (octets_full o.0 body body k.1.2.0 refl) (λ bytes is. gets o.1 k.1.2.1)))

-- what is left after something was read
pub less : (n : ℕ) (w v : Window) (front others : List ℕ) → w.left ≤ suc n → Holds w (front ++ others) → Holds v others → 0 < length front → v.left ≤ n
less n w v front others le h g some =
    let a = h.left in let b = g.left in let len = length-append front others in omega arith

skip_from_full : {body : List ℕ} {all : List (Unit {0})} (n : ℕ) (w : Window) → w.left ≤ n → Holds w body → Each IsSomeElement body all → Gets Any (skip_from n w)
unfolding skip_from
skip_from_full zero w le h e = gets tt tt
skip_from_full (suc n) w le h none = chosen _ (w.left == 0) (at_end w [] h refl) (gets tt tt)
skip_from_full (suc n) w le h (next front others x xs p r) =
    let some = element_some p.0 p.1 front p.2 in
    passed _ (w.left == 0) (not_at_end w front others h some) (go_on (skip_one_full w front others p.1 p.0 h p.2) (λ v g. skip_from_full n v (less n w v front others le h g some) g r))

pub skip_full : (w : Window) (body : List ℕ) → Holds w body → Unknown body → Gets Any (skip w)
skip_full w body h u = skip_from_full w.left w (omega arith) h u.1

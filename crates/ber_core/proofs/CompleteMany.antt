-- What is spelled is read: elements that repeat, or that may be left out.
use Rattle.std.proofs.Common.{◌≡◌, ℕ, zero, suc, ◌≤◌, ◌<◌, List, [], ◌∷◌, ◌++◌, length, Option, Some, None, Result, refl, sym, ap, subst, ◌∙◌, append_assoc, arith, length-append}
use Rattle.std.proofs.lemmas.Bool.{ne_eqb, eq-eqb}
use Rattle.std.specs.Prelude.{◌==◌, slice_get}
use Rattle.ber_core.specs.Element.{IsElement}
use Rattle.ber_core.specs.Window.{Stop, Window, Reading, tag_here, many_from, many, optional, with_first, run_from, run}
use Rattle.ber_core.specs.Spelling.{Element, Given, ThenMaybe, Nothing, Each, none, next, IsSomeElement, Unknown}
use Rattle.ber_core.proofs.Sound.{element_some}
use Rattle.ber_core.proofs.Complete.{Gets, gets, go_on, at_ok, chosen, passed, Is, Holds, cut, Leaves, Full, FullInside, at_end, not_at_end, stands, element_full, less}

abbrev empty : {A : Type 0} → List A
empty = []

-- ---- as many as there are

many_from_full : {A : Type 0} (piece : Window → Reading A) (P : List ℕ → A → Type 0) → Full piece P → ((front : List ℕ) (x : A) → P front x → 0 < length front)
    → {body : List ℕ} {xs : List A} (n : ℕ) (w : Window) → w.left ≤ n → Holds w body → Each P body xs → Gets (Is xs) (many_from piece n w)
unfolding many_from
many_from_full piece P full some zero w le h none = gets [] refl
many_from_full piece P full some zero w le h (next front others x xs p r) =
    let more = some front x p in let left = h.left in let len = length-append front others in absurd (omega arith)
many_from_full piece P full some (suc n) w le h none = chosen _ (w.left == 0) (at_end w [] h refl) (gets [] refl)
many_from_full piece P full some (suc n) w le h (next front others x xs p r) =
    let more = some front x p in
    passed _ (w.left == 0) (not_at_end w front others h more)
    (go_on (full w front others x h p) (λ y l. go_on (many_from_full piece P full some n y.1 (less n w y.1 front others le h l.1 more) l.1 r) (λ ys is. gets (y.0 ∷ ys) (λ i. l.0 i ∷ is i))))

pub many_full : {A : Type 0} (piece : Window → Reading A) (P : List ℕ → A → Type 0) → Full piece P → ((front : List ℕ) (x : A) → P front x → 0 < length front) → FullInside (many piece) (Each P)
many_full piece P full some w body xs h e = many_from_full piece P full some w.left w (omega arith) h e

-- ---- what may be left out

-- nothing stands here, or an element first
pub data Starts : List ℕ → Type 0 where
  no_more : Starts []
  element_first : (front others body : List ℕ) (tag : ℕ) → IsElement front tag body → Starts (front ++ others)

pub starts_nothing : (bytes : List ℕ) → Nothing bytes → Starts bytes
starts_nothing bytes e = subst Starts (sym e) no_more

pub starts_each : {A : Type 0} {P : List ℕ → A → Type 0} → ((front : List ℕ) (x : A) → P front x → (tag : ℕ) × (body : List ℕ) × IsElement front tag body)
    → {bytes : List ℕ} {xs : List A} (others : List ℕ) → Each P bytes xs → Starts others → Starts (bytes ++ others)
starts_each one others none s = s
starts_each one others (next front more x xs p r) s =
    let k = one front x p in
    subst Starts (sym (append_assoc front more others)) (element_first front (more ++ others) k.1 k.0 k.2)

unknown_starts : {bytes : List ℕ} {all : List (Unit {0})} → Each IsSomeElement bytes all → Starts bytes
unknown_starts none = no_more
unknown_starts (next front more x xs p r) = element_first front more p.1 p.0 p.2

pub starts_unknown : (bytes : List ℕ) → Unknown bytes → Starts bytes
starts_unknown bytes u = unknown_starts u.1

given_starts : {A : Type 0} (tag : ℕ) (Q : List ℕ → A → Type 0) (first others : List ℕ) (x : Option A) → Given tag Q first others x → Starts others → Starts (first ++ others)
given_starts tag Q first others (Some x) g s = element_first first others g.0 tag g.1
given_starts tag Q first others None g s = subst (λ (xs : List ℕ). Starts (xs ++ others)) (sym g.0) s

pub starts_maybe : {A : Type 0} (tag : ℕ) (Q : List ℕ → A → Type 0) (x : Option A) (Rest : List ℕ → Type 0) → ((others : List ℕ) → Rest others → Starts others) → (bytes : List ℕ) → ThenMaybe tag Q x Rest bytes → Starts bytes
starts_maybe tag Q x Rest rest bytes t = subst Starts (sym t.2) (given_starts tag Q t.0 t.1 x t.3 (rest t.1 t.4))

first_tag : (front others body : List ℕ) (tag : ℕ) → IsElement front tag body → slice_get (front ++ others) 0 ≡ Some tag
first_tag front others body tag el = ap (λ (xs : List ℕ). slice_get (xs ++ others) 0) el.parts

-- where its tag does not stand, it is left out
pub left_out : {A : Type 0} (tag : ℕ) (content : Window → Result A Stop) (w : Window) {others : List ℕ} → Starts others → Holds w others → (slice_get others 0 ≡ Some tag → ⊥) → Gets (Leaves {A = Option A} None others) (optional tag content w)
unfolding optional
left_out tag content w no_more h never = chosen _ (w.left == 0) (at_end w [] h refl) (gets (None, w) (refl, h))
left_out tag content w (element_first front others body t el) h never =
    let k = stands w t front body others h el in
    let first = first_tag front others body t el in
    passed _ (w.left == 0) (not_at_end w front others h (element_some t body front el))
    (at_ok _ (tag_here w) t k.0 (passed _ (t == tag) (ne_eqb t tag (λ e. never (first ∙ ap (λ (n : ℕ). Some n) e))) (gets (None, w) (refl, h))))

-- where it stands, it is read
pub there : {A : Type 0} (tag : ℕ) (content : Window → Result A Stop) (Q : List ℕ → A → Type 0) → FullInside content Q → (w : Window) (front others : List ℕ) (x : A) → Holds w (front ++ others) → Element tag Q front x → Gets (Leaves (Some x) others) (optional tag content w)
unfolding optional
there tag content Q q w front others x h e =
    let k = stands w tag front e.0 others h e.1 in
    passed _ (w.left == 0) (not_at_end w front others h (element_some tag e.0 front e.1))
    (at_ok _ (tag_here w) tag k.0 (chosen _ (tag == tag) (eq-eqb tag tag refl) (go_on (element_full tag content Q q w front others x h e) (λ p l. gets (Some p.0, p.1) (ap (λ (y : _). Some y) l.0, l.1)))))

pub optional_full : {A : Type 0} (tag : ℕ) (content : Window → Result A Stop) (Q : List ℕ → A → Type 0) → FullInside content Q → (w : Window) (front others : List ℕ) (x : Option A) → Starts others → Holds w (front ++ others) → Given tag Q front others x → Gets (Leaves x others) (optional tag content w)
optional_full tag content Q q w front others (Some x) s h g = there tag content Q q w front others x h g
optional_full tag content Q q w front others None s h g = left_out tag content w s (cut w (front ++ others) others h (ap (λ (xs : List ℕ). xs ++ others) g.0)) g.1

-- ---- as many as stand here with a tag

none_first : {A : Type 0} (read : Window → Reading (List A)) (others : List ℕ) (p : Option A × Window) → Leaves {A = Option A} None others p → Gets (Leaves empty others) (with_first read p)
none_first read others (None, v) l = gets ([], v) (refl, l.1)
none_first read others (Some x, v) l = (let e = l.0 in absurd cc)

same_some : {A : Type 0} (x y : A) → (let a : Option A = Some x in a) ≡ Some y → x ≡ y
same_some x y e = cc

some_first : {A : Type 0} (read : Window → Reading (List A)) (between others : List ℕ) (x : A) (xs : List A) (p : Option A × Window) → Leaves (Some x) between p → ((v : Window) → Holds v between → Gets (Leaves xs others) (read v)) → Gets (Leaves (x ∷ xs) others) (with_first read p)
some_first read between others x xs (None, v) l f = (let e = l.0 in absurd cc)
some_first read between others x xs (Some y, v) l f = (let e = same_some y x l.0 in go_on (f v l.1) (λ ys k. gets (y ∷ ys.0, ys.1) ((λ i. e i ∷ k.0 i), k.1)))

run_from_full : {A : Type 0} (tag : ℕ) (content : Window → Result A Stop) (Q : List ℕ → A → Type 0) → FullInside content Q → {first : List ℕ} {xs : List A} (n : ℕ) (w : Window) (others : List ℕ)
    → w.left ≤ n → Holds w (first ++ others) → Starts others → (slice_get others 0 ≡ Some tag → ⊥) → Each (Element tag Q) first xs → Gets (Leaves xs others) (run_from tag content n w)
unfolding run_from
run_from_full tag content Q q zero w others le h s never none = gets ([], w) (refl, h)
run_from_full tag content Q q zero w others le h s never (next front more x xs p r) =
    let some = element_some tag p.0 front p.1 in let left = h.left in let a = length-append (front ++ more) others in let b = length-append front more in absurd (omega arith)
run_from_full tag content Q q (suc n) w others le h s never none =
    go_on (left_out tag content w s h never) (λ p l. none_first (run_from tag content n) others p l)
run_from_full tag content Q q (suc n) w others le h s never (next front more x xs p r) =
    let g = cut w ((front ++ more) ++ others) (front ++ (more ++ others)) h (append_assoc front more others) in
    go_on (there tag content Q q w front (more ++ others) x g p) (λ y l. some_first (run_from tag content n) (more ++ others) others x xs y l
    (λ v k. run_from_full tag content Q q n v others (less n w v front (more ++ others) le g k (element_some tag p.0 front p.1)) k s never r))

pub run_full : {A : Type 0} (tag : ℕ) (content : Window → Result A Stop) (Q : List ℕ → A → Type 0) → FullInside content Q → (w : Window) (first others : List ℕ) (xs : List A)
    → Holds w (first ++ others) → Starts others → (slice_get others 0 ≡ Some tag → ⊥) → Each (Element tag Q) first xs → Gets (Leaves xs others) (run tag content w)
run_full tag content Q q w first others xs h s never e = run_from_full tag content Q q w.left w others (omega arith) h s never e

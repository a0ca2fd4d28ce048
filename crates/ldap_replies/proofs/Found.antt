-- What is read was written so: the bytes that were taken are those of the value.
use Rattle.std.proofs.Common.{◌≡◌, ℕ, zero, suc, ◌-◌, ◌+◌, ◌<◌, cond, List, [], ◌∷◌, ◌++◌, length, take, Some, Result, Ok, Err, refl, sym, ap, subst, ◌∙◌, append_assoc, arith, length-append, inl, inr}
use Rattle.std.specs.Prelude.{ℤ, ◌==◌}
use Rattle.std.specs.List.{flat_map}
use Rattle.std.proofs.lemmas.Bool.{eqb-true}
use Rattle.std.proofs.lemmas.List.{append-nil, length-take-le}
use Rattle.ber_core.specs.declared.fault.BerFault.{BerFault}
use Rattle.ber_core.specs.declared.fault.BerFault.TheVariants as ber
use Rattle.ber_core.specs.declared.read.Header.{Header}
use Rattle.ber_core.specs.Element.{IsElement, shortest_length, element}
use Rattle.ber_core.specs.Number.{IsBytes, integer_of, shortest_integer}
use Rattle.ber_core.specs.Reading.{header_at}
use Rattle.ber_core.proofs.Written.{shortest_length-shorter, shortest_integer-shorter, IsBytes-append_left, IsBytes-append_right}
use Rattle.ber_core.specs.declared.fault.NotLdapWhy.TheVariants as why
use Rattle.ber_core.specs.Window.{Stop, Fault, Window, Reading, ◌>>=◌, refused, inside, after, both, open_here, open_as, octets, many}
use Rattle.ber_core.specs.Spelling.{Nothing, Each, none, next}
use Rattle.ber_core.proofs.Sound.{good, stopped, so, also, ok_so, either, chosen_true, Reads, Covers, Sound, SoundInside, covers_map, opened, as_ok, octets_sound, int_sound, many_sound}
use Rattle.ldap_replies.specs.Grammar.{header_bytes, open_exact, exact, exact_int}

-- these bytes, where they are bytes at all, are those
abbrev pub Are : List ℕ → List ℕ → Type 0
Are bytes body = IsBytes body → body ≡ bytes

-- between two places these bytes were taken
pub record Passes (w v : Window) (bytes : List ℕ) : Type 0 where
  pub front : List ℕ
  pub parts : w.bytes ≡ front ++ v.bytes
  pub left : w.left ≡ length front + v.left
  pub at : v.at ≡ w.at + length front
  pub are : Are bytes front

are_both : (a b front others : List ℕ) → Are a front → Are b others → Are (a ++ b) (front ++ others)
are_both a b front others f g h = λ i. f (IsBytes-append_left front others h) i ++ g (IsBytes-append_right front others h) i

pub joined : (w v u : Window) (a b : List ℕ) → Passes w v a → Passes v u b → Passes w u (a ++ b)
joined w v u a b p q =
    let l = p.left in let m = q.left in let s = p.at in let t = q.at in let len = length-append p.front q.front in
    record {
      front = p.front ++ q.front;
      parts = p.parts ∙ ap (λ (bytes : List ℕ). p.front ++ bytes) q.parts ∙ sym (append_assoc p.front q.front u.bytes);
      left = omega arith;
      at = omega arith;
      are = are_both a b p.front q.front p.are q.are;
    }

take_onto : (front rest : List ℕ) (n m : ℕ) → n ≡ length front + m → take n (front ++ rest) ≡ front ++ take m rest
take_onto [] rest n m e = let k : n ≡ m = omega arith in ap (λ (i : ℕ). take i rest) k
take_onto (x ∷ front) rest zero m e = absurd (omega arith)
take_onto (x ∷ front) rest (suc n) m e = ap (λ (bytes : List ℕ). x ∷ bytes) (take_onto front rest n m (omega arith))

pub filled : (w v : Window) (a b : List ℕ) → Passes w v a → Covers v (Are b) → Covers w (Are (a ++ b))
filled w v a b p c =
    let left = p.left in
    let all = c.all in
    let len : length w.bytes ≡ length p.front + length v.bytes = ap (λ (xs : List ℕ). length xs) p.parts ∙ length-append p.front v.bytes in
    let body : take w.left w.bytes ≡ p.front ++ take v.left v.bytes = ap (λ (xs : List ℕ). take w.left xs) p.parts ∙ take_onto p.front v.bytes w.left v.left left in
    record { all = omega arith; by = subst (λ (xs : List ℕ). Are (a ++ b) xs) (sym body) (are_both a b p.front (take v.left v.bytes) p.are c.by) }

pub filled_last : (w v : Window) (a : List ℕ) → Passes w v a → Covers v Nothing → Covers w (Are a)
filled_last w v a p c =
    let e = filled w v a [] p (record { all = c.all; by = λ h. c.by }) in
    record { all = e.all; by = λ h. e.by h ∙ append-nil a }

-- ---- elements

-- what is read is an element with such a content, in the writer's form
abbrev pub Piece : {A : Type 0} → (A → List ℕ) → List ℕ → A → Type 0
Piece f front x = Are (f x) front × (0 < length front)

abbrev pub Content : {A : Type 0} → (A → List ℕ) → List ℕ → A → Type 0
Content f body x = Are (f x) body

pub passes : {A : Type 0} (f : A → List ℕ) (w : Window) (p : A × Window) → Reads w (Piece f) p → Passes w p.1 (f p.0)
passes f w p r = (let s = r.spelled in record { front = r.front; parts = r.parts; left = r.left; at = r.at; are = s.0 })

end_at : (w : Window) (r : Result Header BerFault) (o : Window × Window) → both w r ≡ Ok o → o.1.at ≡ o.0.at + o.0.left
end_at w (Ok h) o e =
    let made : Window × Window = (inside w h, after w h) in
    let is : made ≡ o = cc in
    subst (λ (p : Window × Window). p.1.at ≡ p.0.at + p.0.left) is (omega arith)
end_at w (Err (ber.More n)) o e = absurd cc
end_at w (Err (ber.Bad p y)) o e = absurd cc

opened_end : (w : Window) (o : Window × Window) → open_here w ≡ Ok o → o.1.at ≡ o.0.at + o.0.left
unfolding open_here
opened_end w o e = end_at w (header_at w.left w.bytes) o e

exact_ok : (tag : ℕ) (w : Window) (o : Window × Window) → open_exact tag w ≡ Ok o → (open_as tag w ≡ Ok o) × (o.0.at - w.at ≡ header_bytes o.0.left)
unfolding open_exact
exact_ok tag w o e = by_open (open_as tag w) refl e
  where
    by_open : (r : Result (Window × Window) Stop) → open_as tag w ≡ r → (r >>= λ p. cond (p.0.at - w.at == header_bytes p.0.left) (Ok p) (refused w)) ≡ Ok o → (open_as tag w ≡ Ok o) × (o.0.at - w.at ≡ header_bytes o.0.left)
    by_open (Ok p) is e =
        let c = chosen_true (p.0.at - w.at == header_bytes p.0.left) (Ok p) (Fault w.at why.Shape) o e in
        let same : p ≡ o = (let h = c.1 in cc) in
        (is ∙ c.1, subst (λ (q : Window × Window). q.0.at - w.at ≡ header_bytes q.0.left) same (eqb-true (p.0.at - w.at) (header_bytes p.0.left) c.0))
    by_open (Err s) is e = absurd cc

shortest_element : (tag n : ℕ) (front body : List ℕ) → IsElement front tag body → length body ≡ n → length front ≡ header_bytes n + n → IsBytes front → front ≡ element tag body
unfolding element
shortest_element tag n front body e few size fits =
    let parts : front ≡ (tag ∷ e.len) ++ body = e.parts in
    let len_fits : IsBytes e.len = (λ i. IsBytes-append_left (tag ∷ e.len) body (subst IsBytes parts fits) (suc i)) in
    let whole : length front ≡ length (tag ∷ e.len) + length body = ap (λ (xs : List ℕ). length xs) parts ∙ length-append (tag ∷ e.len) body in
    let same : length (shortest_length (length body)) ≡ length (shortest_length n) = ap (λ (k : ℕ). length (shortest_length k)) few in
    elim (shortest_length-shorter e.len (length body) len_fits e.length_form) [
      | inl is ↦ parts ∙ ap (λ (xs : List ℕ). (tag ∷ xs) ++ body) is
      | inr less ↦ absurd (omega arith)
    ]

pub written : {A : Type 0} (tag : ℕ) (f : A → List ℕ) (w : Window) (o : Window × Window) (x : A) → open_exact tag w ≡ Ok o → Covers o.0 (Are (f x)) → Reads w (Piece (λ y. element tag (f y))) (x, o.1)
written {A} tag f w o x e c =
    let k = exact_ok tag w o e in
    let a = as_ok tag w o k.0 in
    let n = o.0.left in
    let Q : List ℕ → A → Type 0 = λ body y. Are (f y) body × (length body ≡ n) in
    let all = c.all in
    let d : Covers o.0 (λ body. Q body x) = record { all = c.all; by = (c.by, length-take-le n o.0.bytes all) } in
    let r = opened Q w tag o x a.0 a.1 d in
    let s = r.spelled in
    let body = s.0 in
    let whole = s.1 in
    let content = s.2 in
    let at = r.at in
    let end = opened_end w o a.1 in
    let form = k.1 in
    let size : length r.front ≡ header_bytes n + n = omega arith in
    record {
      front = r.front;
      parts = r.parts;
      left = r.left;
      at = r.at;
      spelled = (
        (λ fits. (let is = shortest_element tag n r.front body whole content.1 size fits in is ∙ ap (element tag) (content.0 (body_fits tag r.front body whole fits)))),
        (omega arith),
      );
    }
  where
    body_fits : (tag : ℕ) (front body : List ℕ) → IsElement front tag body → IsBytes front → IsBytes body
    body_fits tag front body e fits = IsBytes-append_right (tag ∷ e.len) body (subst IsBytes e.parts fits)

pub exact_sound : {A : Type 0} (tag : ℕ) (content : Window → Result A Stop) (f : A → List ℕ) → SoundInside content (Content f) → Sound (exact tag content) (Piece (λ x. element tag (f x)))
unfolding exact
exact_sound tag content f q w = ok_so (open_exact tag w) (λ o e. so (q o.0) (λ x c. good (x, o.1) (written tag f w o x e c)))

-- ---- one after the other

each_are : {A : Type 0} (f : A → List ℕ) (body : List ℕ) (xs : List A) → Each (Piece f) body xs → Are (flat_map f xs) body
each_are f body xs none h = refl
each_are f body xs (next first others x more p e) h = are_both (f x) (flat_map f more) first others p.0 (each_are f others more e) h

pub many_found : {A : Type 0} (piece : Window → Reading A) (f : A → List ℕ) → Sound piece (Piece f) → SoundInside (many piece) (Content (flat_map f))
many_found piece f h w = also (many_sound piece (Piece f) h (λ front x p. p.1) w) (λ xs c. covers_map w (λ body. Each (Piece f) body xs) (Are (flat_map f xs)) (λ body e. each_are f body xs e) c)

-- ---- leaves

pub octets_found : SoundInside octets (Content (λ x. x))
octets_found w = also (octets_sound w) (λ x c. covers_map w (λ body. body ≡ x) (Are x) (λ body e h. e) c)

-- what is known of an integer: its bytes are as few as those that are written
abbrev pub Fewest : List ℕ → ℤ → Type 0
Fewest body z = (integer_of body ≡ Some z) × (length body ≡ length (shortest_integer z))

pub exact_int_found : SoundInside exact_int Fewest
unfolding exact_int
exact_int_found w = so (int_sound w) (λ z c. either (w.left == length (shortest_integer z))
    (λ t. good z (let all = c.all in record { all = c.all; by = (c.by, length-take-le w.left w.bytes all ∙ eqb-true w.left (length (shortest_integer z)) t) }))
    (λ f. stopped _))

pub fewest_are : (body : List ℕ) (z : ℤ) → Fewest body z → Are (shortest_integer z) body
fewest_are body z f fits =
    elim (shortest_integer-shorter body z fits f.0) [
      | inl is ↦ is
      | inr less ↦ absurd (omega (arith, f.1))
    ]

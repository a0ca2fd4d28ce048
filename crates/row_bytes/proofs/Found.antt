-- What is read was written so: elements, and what is inside leaves.
use Rattle.std.proofs.Common.{◌≡◌, ℕ, zero, suc, ◌-◌, ◌+◌, ◌<◌, ◌≤◌, ◌%◌, Bool, true, false, cond, List, [], ◌∷◌, ◌++◌, length, take, drop, Result, Ok, Err, refl, sym, ap, subst, ◌∙◌, append_assoc, arith, length-append, inl, inr}
use Rattle.std.specs.Prelude.{pos, ◌==◌}
use Rattle.std.specs.List.{flat_map}
use Rattle.std.proofs.lemmas.Bool.{eqb-true}
use Rattle.std.proofs.lemmas.List.{append-nil, length-take-le, take-append-drop}
use Rattle.ber_core.specs.declared.fault.BerFault.{BerFault}
use Rattle.ber_core.specs.declared.fault.BerFault.TheVariants as ber
use Rattle.ber_core.specs.declared.fault.BerWhy.TheVariants as ber_why
use Rattle.ber_core.specs.Element.{IsElement, shortest_length, element}
use Rattle.ber_core.specs.Number.{IsBytes, drop_needless, shortest_integer}
use Rattle.ber_core.specs.Reading.{Parts, element_at}
use Rattle.ber_core.proofs.Laws.{Takes, element_takes}
use Rattle.ber_core.proofs.Written.{shortest_length-shorter, IsBytes-append_left, IsBytes-append_right}
use Rattle.repl_data.specs.declared.change.ModKind.{ModKind}
use Rattle.repl_data.specs.declared.change.ModKind.TheVariants as mod_kind
use Rattle.repl_data.specs.Text.{csn_bytes, csn_of}
use Rattle.repl_data.proofs.Bytes.{csn_bytes-csn_of}
use Rattle.row_bytes.specs.declared.fault.RowWhy.TheVariants as why
use Rattle.row_bytes.specs.Form.{kind_number}
use Rattle.row_bytes.specs.Place.{Fault, At, Place, Reading, ◌>>=◌, refused, tag_in, tag_here, inside, after, both, open_here, open_as, header_bytes, open_exact, exact, ended, many_from, many}
use Rattle.row_bytes.specs.Grammar.{octets, csn_inside, one_byte, version_inside, kind_inside}

-- ---- what is read holds

abbrev pub read_ok : {B : Type 0} → B → Result B Fault
read_ok x = Ok x

pub out : {B : Type 0} (x y : B) → read_ok x ≡ read_ok y → x ≡ y
out x y e = cc

-- if something was read, P says so of it
pub data Good {A : Type 0} (P : A → Type 0) : Result A Fault → Type 0 where
  good : (x : A) → P x → Good P (Ok x)
  stopped : (s : Fault) → Good P (Err s)

pub so : {A B : Type 0} {P : A → Type 0} {Q : B → Type 0} {r : Result A Fault} {k : A → Result B Fault} → Good P r → ((x : A) → P x → Good Q (k x)) → Good Q (r >>= k)
so (good x p) h = h x p
so (stopped s) h = stopped s

pub ok_so : {A B : Type 0} {Q : B → Type 0} {k : A → Result B Fault} (r : Result A Fault) → ((x : A) → r ≡ Ok x → Good Q (k x)) → Good Q (r >>= k)
ok_so (Ok x) h = h x refl
ok_so (Err s) h = stopped s

pub either : {A : Type 0} {P : A → Type 0} {r t : Result A Fault} (b : Bool) → (b ≡ true → Good P r) → (b ≡ false → Good P t) → Good P (cond b r t)
either true h k = h refl
either false h k = k refl

pub value : {A : Type 0} {P : A → Type 0} {r : Result A Fault} → Good P r → (x : A) → r ≡ Ok x → P x
value {P} (good y p) x e = subst P (out y x e) p
value (stopped s) x e = absurd cc

-- what was read at the place is f of it, and the rest are bytes too
pub record Passes {A : Type 0} (f : A → List ℕ) (p : Place) (r : A × Place) : Type 0 where
  pub parts : p.bytes ≡ f r.0 ++ r.1.bytes
  pub fits : IsBytes r.1.bytes

abbrev pub Sound : {A : Type 0} → (Place → Reading A) → (A → List ℕ) → Type 0
Sound piece f = (p : Place) → IsBytes p.bytes → Good (Passes f p) (piece p)

abbrev pub SoundInside : {A : Type 0} → (Place → Result A Fault) → (A → List ℕ) → Type 0
SoundInside content f = (p : Place) → IsBytes p.bytes → Good (λ x. p.bytes ≡ f x) (content p)

-- ---- bytes

pub no_bytes : (xs : List ℕ) → length xs ≡ 0 → xs ≡ []
no_bytes [] e = refl
no_bytes (x ∷ xs) e = absurd (omega arith)

-- one behind the other
pub onto : (bytes a q b r : List ℕ) → bytes ≡ a ++ q → q ≡ b ++ r → bytes ≡ (a ++ b) ++ r
onto bytes a q b r e f = e ∙ ap (λ (xs : List ℕ). a ++ xs) f ∙ sym (append_assoc a b r)

pub last : (bytes a q : List ℕ) → bytes ≡ a ++ q → q ≡ [] → bytes ≡ a
last bytes a q e none = e ∙ ap (λ (xs : List ℕ). a ++ xs) none ∙ append-nil a

-- ---- elements

not_long : (b : Bool) (t u : ℕ) (s : Fault) → cond b (Err s) (read_ok u) ≡ Ok t → u ≡ t
not_long true t u s e = absurd cc
not_long false t u s e = cc

tag_is_first : (start at : ℕ) (bytes : List ℕ) (t tag : ℕ) (others : List ℕ) → tag_in start at bytes ≡ Ok t → bytes ≡ tag ∷ others → tag ≡ t
unfolding tag_in
tag_is_first start at [] t tag others e is = absurd cc
tag_is_first start at (b ∷ []) t tag others e is = absurd cc
tag_is_first start at (b ∷ c ∷ bytes) t tag others e is =
    let same = not_long (b % 32 == 31) t b (At at (why.Ber ber_why.LongTag)) e in
    let first : b ≡ tag = cc in
    sym first ∙ same

-- an element that was opened, with this tag and in the writer's form
record Opened (tag : ℕ) (p : Place) (o : Place × Place) : Type 0 where
  e : Parts
  takes : Takes (length p.bytes) p.bytes e
  tag_is : e.tag ≡ tag
  size : e.size - length e.body ≡ header_bytes (length e.body)
  body : o.0.bytes ≡ e.body
  rest : o.1.bytes ≡ drop e.size p.bytes

both_ok : (p : Place) (r : Result Parts BerFault) (o : Place × Place) → both p r ≡ Ok o → (e : Parts) × (r ≡ Ok e) × ((inside p e, after p e) ≡ o)
both_ok p (Ok e) o h = (e, refl, cc)
both_ok p (Err (ber.More n)) o h = absurd cc
both_ok p (Err (ber.Bad place y)) o h = absurd cc

pub chosen : {A : Type 0} (b : Bool) (r : Result A Fault) (s : Fault) (x : A) → cond b r (Err s) ≡ Ok x → (b ≡ true) × (r ≡ Ok x)
chosen true r s x e = (refl, e)
chosen false r s x e = absurd cc

as_ok : (tag : ℕ) (p : Place) (o : Place × Place) → open_as tag p ≡ Ok o → (tag_here p ≡ Ok tag) × (open_here p ≡ Ok o)
unfolding open_as
as_ok tag p o e = by_tag (tag_here p) refl e
  where
    by_tag : (r : Result ℕ Fault) → tag_here p ≡ r → (r >>= λ t. cond (t == tag) (open_here p) (refused p)) ≡ Ok o → (tag_here p ≡ Ok tag) × (open_here p ≡ Ok o)
    by_tag (Ok t) is e =
        let c = chosen (t == tag) (open_here p) (At p.at why.Shape) o e in
        (is ∙ ap (λ (n : ℕ). read_ok n) (eqb-true t tag c.0), c.1)
    by_tag (Err s) is e = absurd cc

exact_ok : (tag : ℕ) (p : Place) (o : Place × Place) → open_exact tag p ≡ Ok o → (open_as tag p ≡ Ok o) × (o.0.at - p.at ≡ header_bytes (length o.0.bytes))
unfolding open_exact
exact_ok tag p o e = by_open (open_as tag p) refl e
  where
    by_open : (r : Result (Place × Place) Fault) → open_as tag p ≡ r → (r >>= λ q. cond (q.0.at - p.at == header_bytes (length q.0.bytes)) (Ok q) (refused p)) ≡ Ok o → (open_as tag p ≡ Ok o) × (o.0.at - p.at ≡ header_bytes (length o.0.bytes))
    by_open (Ok q) is e =
        let c = chosen (q.0.at - p.at == header_bytes (length q.0.bytes)) (Ok q) (At p.at why.Shape) o e in
        let same : q ≡ o = out q o c.1 in
        (is ∙ c.1, subst (λ (x : Place × Place). x.0.at - p.at ≡ header_bytes (length x.0.bytes)) same (eqb-true (q.0.at - p.at) (header_bytes (length q.0.bytes)) c.0))
    by_open (Err s) is e = absurd cc

split_at : (p : Place) (e : Parts) (w : IsElement (take e.size p.bytes) e.tag e.body) → p.bytes ≡ ((e.tag ∷ w.len) ++ e.body) ++ drop e.size p.bytes
split_at p e w = sym (take-append-drop e.size p.bytes) ∙ ap (λ (xs : List ℕ). xs ++ drop e.size p.bytes) w.parts

opened : (tag : ℕ) (p : Place) (o : Place × Place) → open_exact tag p ≡ Ok o → Opened tag p o
unfolding open_here
opened tag p o h =
    let k = exact_ok tag p o h in
    let a = as_ok tag p o k.0 in
    let b = both_ok p (element_at (length p.bytes) p.bytes) o a.1 in
    let e = b.0 in
    let t = element_takes (length p.bytes) p.bytes e b.1 in
    let w = t.whole in
    let size_is = k.1 in
    let at : o.0.at ≡ p.at + (e.size - length e.body) = ap (λ (x : Place × Place). x.0.at) (sym b.2) in
    let body : o.0.bytes ≡ e.body = ap (λ (x : Place × Place). x.0.bytes) (sym b.2) in
    let header : header_bytes (length o.0.bytes) ≡ header_bytes (length e.body) = ap (λ (xs : List ℕ). header_bytes (length xs)) body in
    record {
      e = e;
      takes = t;
      tag_is = tag_is_first p.start p.at p.bytes tag e.tag ((w.len ++ e.body) ++ drop e.size p.bytes) a.0 (split_at p e w);
      size = omega arith;
      body = body;
      rest = ap (λ (x : Place × Place). x.1.bytes) (sym b.2);
    }

-- the bytes of an element that was opened
opened_bytes : (tag : ℕ) (p : Place) (o : Place × Place) → IsBytes p.bytes → Opened tag p o → p.bytes ≡ element tag o.0.bytes ++ o.1.bytes
unfolding element
opened_bytes tag p o fits k =
    let e = k.e in
    let t = k.takes in
    let w = t.whole in
    let there = t.there in
    let size = k.size in
    let all : p.bytes ≡ ((e.tag ∷ w.len) ++ e.body) ++ drop e.size p.bytes = split_at p e w in
    let front : take e.size p.bytes ≡ (e.tag ∷ w.len) ++ e.body = w.parts in
    let count : e.size ≡ length (e.tag ∷ w.len) + length e.body = sym (length-take-le e.size p.bytes there) ∙ ap (λ (xs : List ℕ). length xs) front ∙ length-append (e.tag ∷ w.len) e.body in
    let len_fits : IsBytes w.len = (λ i. IsBytes-append_left (e.tag ∷ w.len) e.body (IsBytes-append_left ((e.tag ∷ w.len) ++ e.body) (drop e.size p.bytes) (subst IsBytes all fits)) (suc i)) in
    let shortest : w.len ≡ shortest_length (length e.body) =
    elim (shortest_length-shorter w.len (length e.body) len_fits w.length_form) [
      | inl is ↦ is
      | inr less ↦ absurd (omega arith)
    ] in
    let tag_is = k.tag_is in
    let body = k.body in
    let rest = k.rest in
    all ∙ rw (shortest, tag_is, body, rest) refl

element_fits : (tag : ℕ) (bytes body rest : List ℕ) → IsBytes bytes → bytes ≡ element tag body ++ rest → IsBytes body
unfolding element
element_fits tag bytes body rest fits is = IsBytes-append_right (tag ∷ shortest_length (length body)) body (IsBytes-append_left (element tag body) rest (subst IsBytes is fits))

pub record Inside (tag : ℕ) (p : Place) (o : Place × Place) : Type 0 where
  pub parts : p.bytes ≡ element tag o.0.bytes ++ o.1.bytes
  pub inner : IsBytes o.0.bytes
  pub rest : IsBytes o.1.bytes

pub inside_of : (tag : ℕ) (p : Place) (o : Place × Place) → IsBytes p.bytes → open_exact tag p ≡ Ok o → Inside tag p o
inside_of tag p o fits h =
    let is = opened_bytes tag p o fits (opened tag p o h) in
    record { parts = is; inner = element_fits tag p.bytes o.0.bytes o.1.bytes fits is; rest = IsBytes-append_right (element tag o.0.bytes) o.1.bytes (subst IsBytes is fits) }

opened_sound : {A : Type 0} (tag : ℕ) (content : Place → Result A Fault) (f : A → List ℕ) (p : Place) (o : Place × Place) → SoundInside content f → Inside tag p o → Good (Passes (λ x. element tag (f x)) p) (content o.0 >>= λ x. Ok (x, o.1))
opened_sound tag content f p o q k =
    so (q o.0 k.inner) (λ x c. good (x, o.1) (record { parts = k.parts ∙ ap (λ (xs : List ℕ). element tag xs ++ o.1.bytes) c; fits = k.rest }))

pub exact_sound : {A : Type 0} (tag : ℕ) (content : Place → Result A Fault) (f : A → List ℕ) → SoundInside content f → Sound (exact tag content) (λ x. element tag (f x))
unfolding exact
exact_sound tag content f q p fits = ok_so (open_exact tag p) (λ o h. opened_sound tag content f p o q (inside_of tag p o fits h))

pub ended_sound : (p : Place) → Good (λ u. p.bytes ≡ []) (ended p)
unfolding ended
ended_sound p = either (length p.bytes == 0) (λ z. good tt (no_bytes p.bytes (eqb-true (length p.bytes) 0 z))) (λ f. ok_so (tag_here p) (λ t e. stopped _))

-- ---- one after the other

many_from_sound : {A : Type 0} (piece : Place → Reading A) (f : A → List ℕ) → Sound piece f → ((x : A) → 0 < length (f x)) → (n : ℕ) (p : Place) → length p.bytes ≤ n → IsBytes p.bytes → Good (λ xs. p.bytes ≡ flat_map f xs) (many_from piece n p)
unfolding many_from
many_from_sound piece f q some zero p le fits = good [] (no_bytes p.bytes (omega arith))
many_from_sound piece f q some (suc n) p le fits =
    either (length p.bytes == 0) (λ z. good [] (no_bytes p.bytes (eqb-true (length p.bytes) 0 z)))
    (λ z. so (q p fits) (λ r k. so (many_from_sound piece f q some n r.1 (fewer r k) k.fits) (λ others e. good (r.0 ∷ others) (k.parts ∙ ap (λ (xs : List ℕ). f r.0 ++ xs) e))))
  where
    fewer : (r : _ × Place) → Passes f p r → length r.1.bytes ≤ n
    fewer r k = let e = ap (λ (xs : List ℕ). length xs) k.parts in let s = some r.0 in omega (arith, length-append (f r.0) r.1.bytes)

pub many_sound : {A : Type 0} (piece : Place → Reading A) (f : A → List ℕ) → Sound piece f → ((x : A) → 0 < length (f x)) → SoundInside (many piece) (flat_map f)
many_sound piece f q some p fits = many_from_sound piece f q some (length p.bytes) p (omega arith) fits

pub element_some : (tag : ℕ) (body : List ℕ) → 0 < length (element tag body)
unfolding element
element_some tag body = omega arith

-- ---- leaves

pub octets_sound : SoundInside octets (λ x. x)
octets_sound p fits = good p.bytes refl

pub csn_inside_sound : SoundInside csn_inside csn_bytes
unfolding csn_inside
csn_inside_sound p fits =
    either (length p.bytes == 10) (λ z. good (csn_of p.bytes) (sym (csn_bytes-csn_of p.bytes (eqb-true (length p.bytes) 10 z) fits))) (λ z. stopped _)

one_byte_sound : (start : ℕ) (bytes : List ℕ) → Good (λ n. bytes ≡ n ∷ []) (one_byte start bytes)
one_byte_sound start [] = stopped _
one_byte_sound start (b ∷ []) = good b refl
one_byte_sound start (b ∷ c ∷ bytes) = stopped _

pub one_is : shortest_integer (pos 1) ≡ 1 ∷ []
unfolding shortest_integer drop_needless
one_is = refl

pub kind_is : (k : ModKind) → shortest_integer (pos (kind_number k)) ≡ kind_number k ∷ []
unfolding shortest_integer drop_needless
kind_is mod_kind.Add = refl
kind_is mod_kind.Delete = refl
kind_is mod_kind.Replace = refl

pub version_inside_sound : SoundInside version_inside (λ u. shortest_integer (pos 1))
unfolding version_inside
version_inside_sound p fits = so (one_byte_sound p.start p.bytes) (λ n e. either (n == 1) (λ z. good tt (e ∙ ap (λ (m : ℕ). m ∷ []) (eqb-true n 1 z) ∙ sym one_is)) (λ z. stopped _))

pub kind_inside_sound : SoundInside kind_inside (λ k. shortest_integer (pos (kind_number k)))
unfolding kind_inside
kind_inside_sound p fits =
    so (one_byte_sound p.start p.bytes) (λ n e.
    either (n == 0) (λ z. good mod_kind.Add (e ∙ ap (λ (m : ℕ). m ∷ []) (eqb-true n 0 z) ∙ sym (kind_is mod_kind.Add)))
    (λ y. either (n == 1) (λ z. good mod_kind.Delete (e ∙ ap (λ (m : ℕ). m ∷ []) (eqb-true n 1 z) ∙ sym (kind_is mod_kind.Delete)))
    (λ x. either (n == 2) (λ z. good mod_kind.Replace (e ∙ ap (λ (m : ℕ). m ∷ []) (eqb-true n 2 z) ∙ sym (kind_is mod_kind.Replace)))
    (λ z. stopped _))))

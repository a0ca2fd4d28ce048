-- What is written is read back: a walk over places that begin with what was written.
use Rattle.std.proofs.Common.{◌≡◌, ℕ, zero, suc, ◌-◌, ◌+◌, ◌<◌, ◌≤◌, ◌^◌, ◌%◌, Bool, true, false, cond, eqb, ltb, List, [], ◌∷◌, ◌++◌, length, drop, Result, Ok, refl, sym, ap, subst, ◌∙◌, append_assoc, arith, length-append}
use Rattle.std.specs.Prelude.{pos}
use Rattle.std.specs.Int.{w64, to_be_bytes}
use Rattle.std.specs.List.{flat_map}
use Rattle.std.proofs.lemmas.Bool.{eq-eqb}
use Rattle.std.proofs.lemmas.Bool.Decides.{nat_tests}
use Rattle.std.proofs.lemmas.List.{drop_at, append-nil}
use Rattle.ber_core.specs.Element.{IsTag, shortest_length, element}
use Rattle.ber_core.specs.Number.{drop_zeros, shortest_integer}
use Rattle.ber_core.specs.Reading.{Parts, element_at}
use Rattle.ber_core.proofs.Laws.{element_again}
use Rattle.ber_core.proofs.Written.{IsElement-element}
use Rattle.repl_data.specs.declared.csn.Csn.{Csn}
use Rattle.repl_data.specs.declared.change.ModKind.{ModKind}
use Rattle.repl_data.specs.declared.change.ModKind.TheVariants as mod_kind
use Rattle.repl_data.specs.Text.{csn_bytes, csn_of, IsInRange}
use Rattle.repl_data.proofs.Bytes.{csn_of-csn_bytes}
use Rattle.row_bytes.specs.Form.{kind_number}
use Rattle.row_bytes.specs.Place.{Fault, Place, Reading, tag_in, tag_here, inside, after, open_here, open_as, header_bytes, open_exact, exact, ended, many_from, many}
use Rattle.row_bytes.specs.Grammar.{octets, csn_inside, one_byte, version_inside, kind_of, kind_inside}
use Rattle.row_bytes.proofs.Found.{one_is, kind_is}

-- the place has these bytes
pub record Holds (p : Place) (body : List ℕ) : Type 0 where
  pub is : p.bytes ≡ body
  pub small : length p.bytes < 2 ^ 64

-- what is read of a place that begins with these bytes, and the place after them
abbrev pub ReadsBack : {A : Type 0} → (Place → Reading A) → A → List ℕ → Type 0
ReadsBack piece x front = (p : Place) (others : List ℕ) → Holds p (front ++ others) → (v : Place) × Holds v others × (piece p ≡ Ok (x, v))

abbrev pub InsideReadsBack : {A : Type 0} → (Place → Result A Fault) → A → List ℕ → Type 0
InsideReadsBack content x body = (p : Place) → Holds p body → content p ≡ Ok x

pub regroup : (p : Place) (a b c : List ℕ) → Holds p (a ++ b ++ c) → Holds p (a ++ (b ++ c))
regroup p a b c h = subst (λ (bytes : List ℕ). Holds p bytes) (append_assoc a b c) h

pub with_end : (p : Place) (a : List ℕ) → Holds p a → Holds p (a ++ [])
with_end p a h = subst (λ (bytes : List ℕ). Holds p bytes) (sym (append-nil a)) h

-- ---- elements

length-element : (tag : ℕ) (body : List ℕ) → length (element tag body) ≡ header_bytes (length body) + length body
unfolding element
length-element tag body = omega (arith, length-append (tag ∷ shortest_length (length body)) body)

pub is_tag : (tag : ℕ) → eqb (tag % 32) 31 ≡ false → IsTag tag
is_tag tag e = grind (arith, nat_tests)

-- a written length has a first byte
shortest_some : (n : ℕ) → (b : ℕ) × (others : List ℕ) × (shortest_length n ≡ b ∷ others)
unfolding shortest_length
shortest_some n = by_test (ltb n 128)
  where
    by_test : (t : Bool) → (b : ℕ) × (others : List ℕ) × (cond t (n ∷ []) ((128 + length (drop_zeros (to_be_bytes w64 n))) ∷ drop_zeros (to_be_bytes w64 n)) ≡ b ∷ others)
    by_test true = (n, [], refl)
    by_test false = (128 + length (drop_zeros (to_be_bytes w64 n)), drop_zeros (to_be_bytes w64 n), refl)

tag_two : (start at tag b : ℕ) (bytes : List ℕ) → eqb (tag % 32) 31 ≡ false → tag_in start at (tag ∷ b ∷ bytes) ≡ Ok tag
unfolding tag_in
tag_two start at tag b bytes t = rw t refl

pub tag_back : (p : Place) (tag : ℕ) (body others : List ℕ) → eqb (tag % 32) 31 ≡ false → Holds p (element tag body ++ others) → tag_here p ≡ Ok tag
unfolding element
tag_back p tag body others t h =
    let s = shortest_some (length body) in
    let is : p.bytes ≡ tag ∷ s.0 ∷ ((s.1 ++ body) ++ others) = h.is ∙ ap (λ (len : List ℕ). ((tag ∷ len) ++ body) ++ others) s.2 in
    ap (λ (bytes : List ℕ). tag_in p.start p.at bytes) is ∙ tag_two p.start p.at tag s.0 ((s.1 ++ body) ++ others) t

-- the element as it is read
abbrev pub parts_of : ℕ → List ℕ → Parts
parts_of tag body = record { tag = tag; body = body; size = length (element tag body) }

element_back : (p : Place) (tag : ℕ) (body others : List ℕ) → IsTag tag → Holds p (element tag body ++ others) → element_at (length p.bytes) p.bytes ≡ Ok (parts_of tag body)
element_back p tag body others t h =
    let small = h.small in
    let len : length p.bytes ≡ length (element tag body) + length others = ap (λ (xs : List ℕ). length xs) h.is ∙ length-append (element tag body) others in
    let size = length-element tag body in
    ap (λ (xs : List ℕ). element_at (length p.bytes) xs) h.is ∙ element_again (length p.bytes) (element tag body) tag body others (IsElement-element tag body t (omega arith)) (omega arith)

open_back : (p : Place) (tag : ℕ) (body others : List ℕ) → IsTag tag → Holds p (element tag body ++ others) → open_here p ≡ Ok (inside p (parts_of tag body), after p (parts_of tag body))
unfolding open_here
open_back p tag body others t h = let e = element_back p tag body others t h in rw e refl

same : (n : ℕ) → eqb n n ≡ true
same n = eq-eqb n n refl

open_as_back : (p : Place) (tag : ℕ) (body others : List ℕ) → eqb (tag % 32) 31 ≡ false → Holds p (element tag body ++ others) → open_as tag p ≡ Ok (inside p (parts_of tag body), after p (parts_of tag body))
unfolding open_as
open_as_back p tag body others t h =
    let first = tag_back p tag body others t h in
    let opened = open_back p tag body others (is_tag tag t) h in
    rw (first, same tag, opened) refl

pub opens : (p : Place) (tag : ℕ) (body others : List ℕ) → eqb (tag % 32) 31 ≡ false → Holds p (element tag body ++ others) → open_exact tag p ≡ Ok (inside p (parts_of tag body), after p (parts_of tag body))
unfolding open_exact
opens p tag body others t h =
    let opened = open_as_back p tag body others t h in
    let size = length-element tag body in
    let form : eqb (p.at + (length (element tag body) - length body) - p.at) (header_bytes (length body)) ≡ true = eq-eqb _ _ (omega arith) in
    rw (opened, form) refl

pub inside_holds : (p : Place) (tag : ℕ) (body others : List ℕ) → Holds p (element tag body ++ others) → Holds (inside p (parts_of tag body)) body
inside_holds p tag body others h =
    let small = h.small in
    let len : length p.bytes ≡ length (element tag body) + length others = ap (λ (xs : List ℕ). length xs) h.is ∙ length-append (element tag body) others in
    let size = length-element tag body in
    record { is = refl; small = omega arith }

pub after_holds : (p : Place) (tag : ℕ) (body others : List ℕ) → Holds p (element tag body ++ others) → Holds (after p (parts_of tag body)) others
after_holds p tag body others h =
    let small = h.small in
    let len : length p.bytes ≡ length (element tag body) + length others = ap (λ (xs : List ℕ). length xs) h.is ∙ length-append (element tag body) others in
    let is : drop (length (element tag body)) p.bytes ≡ others = ap (λ (xs : List ℕ). drop (length (element tag body)) xs) h.is ∙ drop_at (element tag body) others (length (element tag body)) refl in
    let count : length (drop (length (element tag body)) p.bytes) ≡ length others = ap (λ (xs : List ℕ). length xs) is in
    record { is = is; small = omega arith }

pub exact_back : {A : Type 0} (tag : ℕ) (content : Place → Result A Fault) (x : A) (body : List ℕ) → eqb (tag % 32) 31 ≡ false → InsideReadsBack content x body → ReadsBack (exact tag content) x (element tag body)
unfolding exact
exact_back tag content x body t q p others h =
    let opened = opens p tag body others t h in
    let inner = q (inside p (parts_of tag body)) (inside_holds p tag body others h) in
    (after p (parts_of tag body), after_holds p tag body others h, rw (opened, inner) refl)

abbrev done : Result (Unit {0}) Fault
done = Ok tt

pub ended_back : (p : Place) → Holds p [] → ended p ≡ done
unfolding ended
ended_back p h = let none : eqb (length p.bytes) 0 ≡ true = eq-eqb (length p.bytes) 0 (ap (λ (xs : List ℕ). length xs) h.is) in rw none refl

-- ---- one after the other

some_left : (n : ℕ) → 0 < n → eqb n 0 ≡ false
some_left n lt = grind (arith, nat_tests)

abbrev list_read : {A : Type 0} → List A → Result (List A) Fault
list_read xs = Ok xs

many_from_back : {A : Type 0} (piece : Place → Reading A) (f : A → List ℕ) → ((x : A) → ReadsBack piece x (f x)) → ((x : A) → 0 < length (f x)) → (xs : List A) (n : ℕ) (p : Place) → length p.bytes ≤ n → Holds p (flat_map f xs) → many_from piece n p ≡ list_read xs
unfolding many_from
many_from_back piece f q some [] zero p le h = refl
many_from_back piece f q some [] (suc n) p le h =
    let none : eqb (length p.bytes) 0 ≡ true = eq-eqb (length p.bytes) 0 (ap (λ (xs : List ℕ). length xs) h.is) in
    rw none refl
many_from_back piece f q some (x ∷ xs) zero p le h =
    let len : length p.bytes ≡ length (f x) + length (flat_map f xs) = ap (λ (ys : List ℕ). length ys) h.is ∙ length-append (f x) (flat_map f xs) in
    absurd (omega (arith, some x))
many_from_back piece f q some (x ∷ xs) (suc n) p le h =
    let len : length p.bytes ≡ length (f x) + length (flat_map f xs) = ap (λ (ys : List ℕ). length ys) h.is ∙ length-append (f x) (flat_map f xs) in
    let more : eqb (length p.bytes) 0 ≡ false = some_left (length p.bytes) (omega (arith, some x)) in
    let s = q x p (flat_map f xs) h in
    let k = s.1 in
    let fewer : length s.0.bytes ≡ length (flat_map f xs) = ap (λ (ys : List ℕ). length ys) k.is in
    let first = s.2 in
    let others = many_from_back piece f q some xs n s.0 (omega (arith, some x)) k in
    rw (more, first, others) refl

pub many_back : {A : Type 0} (piece : Place → Reading A) (f : A → List ℕ) → ((x : A) → ReadsBack piece x (f x)) → ((x : A) → 0 < length (f x)) → (xs : List A) → InsideReadsBack (many piece) xs (flat_map f xs)
many_back piece f q some xs p h = many_from_back piece f q some xs (length p.bytes) p (omega arith) h

-- ---- leaves

pub octets_back : (bytes : List ℕ) → InsideReadsBack octets bytes bytes
octets_back bytes p h = ap (λ (xs : List ℕ). let r : Result (List ℕ) Fault = Ok xs in r) h.is

abbrev csn_read : Csn → Result Csn Fault
csn_read c = Ok c

pub csn_inside_back : (c : Csn) → IsInRange c → InsideReadsBack csn_inside c (csn_bytes c)
unfolding csn_inside
csn_inside_back c i p h =
    let ten : eqb (length p.bytes) 10 ≡ true = eq-eqb (length p.bytes) 10 (ap (λ (xs : List ℕ). length xs) h.is) in
    rw ten (ap (λ (xs : List ℕ). csn_read (csn_of xs)) h.is ∙ ap (λ (d : Csn). csn_read d) (csn_of-csn_bytes c i))

one_byte_back : (start b : ℕ) (bytes : List ℕ) → bytes ≡ b ∷ [] → one_byte start bytes ≡ Ok b
one_byte_back start b bytes e = ap (λ (xs : List ℕ). one_byte start xs) e

pub version_inside_back : InsideReadsBack version_inside tt (shortest_integer (pos 1))
unfolding version_inside
version_inside_back p h = let e = one_byte_back p.start 1 p.bytes (h.is ∙ one_is) in rw e refl

abbrev kind_read : ModKind → Result ModKind Fault
kind_read k = Ok k

kind_of_back : (start : ℕ) (k : ModKind) → kind_of start (kind_number k) ≡ kind_read k
kind_of_back start mod_kind.Add = refl
kind_of_back start mod_kind.Delete = refl
kind_of_back start mod_kind.Replace = refl

pub kind_inside_back : (k : ModKind) → InsideReadsBack kind_inside k (shortest_integer (pos (kind_number k)))
unfolding kind_inside
kind_inside_back k p h = let e = one_byte_back p.start (kind_number k) p.bytes (h.is ∙ kind_is k) in rw e (kind_of_back p.start k)

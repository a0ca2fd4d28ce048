-- Reading elements from the front, of bytes that are all there.
use Rattle.std.specs.Prelude.{ℕ, zero, suc, ◌+◌, ◌-◌, ◌%◌, ◌==◌, List, [], ◌∷◌, length, drop, Result, Ok, Err, if◌then◌else◌}
use Rattle.ber_core.specs.declared.fault.BerFault.{BerFault}
use Rattle.ber_core.specs.declared.fault.BerFault.TheVariants as ber
use Rattle.ber_core.specs.declared.fault.BerWhy.TheVariants as ber_why
use Rattle.ber_core.specs.Element.{shortest_length}
use Rattle.ber_core.specs.Reading.{Parts, element_at}
use Rattle.row_bytes.specs.declared.fault.RowWhy.{RowWhy}
use Rattle.row_bytes.specs.declared.fault.RowWhy.TheVariants.{Ber, Shape}

-- the first fault: its place, as an offset, and what is wrong there
pub data Fault : Type 0 where
  At : ℕ → RowWhy → Fault

-- A place inside an element: where that element starts, where the place is, and the bytes from there
-- to the end of the element.
pub record Place : Type 0 where
  pub start : ℕ
  pub at : ℕ
  pub bytes : List ℕ

-- a value, and the place after it
abbrev pub Reading : Type 0 → Type 0
Reading A = Result (A × Place) Fault

infixl 10 ◌>>=◌
abbrev pub ◌>>=◌ : {A B : Type 0} → Result A Fault → (A → Result B Fault) → Result B Fault
(Ok x) >>= f = f x
(Err e) >>= f = Err e

-- the element here is of another tag or form
abbrev pub refused : {A : Type 0} → Place → Result A Fault
refused p = Err (At p.at Shape)

-- The tag of the element that must stand here. Where the element around has ended, that one is at fault;
-- where it has one byte left, no element fits.
unfoldable pub tag_in : ℕ → ℕ → List ℕ → Result ℕ Fault
tag_in start at [] = Err (At start Shape)
tag_in start at (tag ∷ []) = Err (At at (Ber ber_why.TooLarge))
tag_in start at (tag ∷ first ∷ bytes) = if tag % 32 == 31 then Err (At at (Ber ber_why.LongTag)) else Ok tag

abbrev pub tag_here : Place → Result ℕ Fault
tag_here p = tag_in p.start p.at p.bytes

-- what is inside the element here, and what is after it
abbrev pub inside : Place → Parts → Place
inside p e = record { start = p.at; at = p.at + (e.size - length e.body); bytes = e.body }

abbrev pub after : Place → Parts → Place
after p e = record { start = p.start; at = p.at + e.size; bytes = drop e.size p.bytes }

-- Nothing is ever missing, since an element that passes the end of the bytes is too large.
abbrev pub both : Place → Result Parts BerFault → Result (Place × Place) Fault
both p (Ok e) = Ok (inside p e, after p e)
both p (Err (ber.More need)) = Err (At p.at (Ber ber_why.TooLarge))
both p (Err (ber.Bad place why)) = Err (At (p.at + place) (Ber why))

unfoldable pub open_here : Place → Result (Place × Place) Fault
open_here p = both p (element_at (length p.bytes) p.bytes)

-- an element with this tag stands here
unfoldable pub open_as : ℕ → Place → Result (Place × Place) Fault
open_as tag p = do
  t ← tag_here p
  if t == tag then open_here p else refused p

-- how many bytes the tag and the length of so much content have as they are written
abbrev pub header_bytes : ℕ → ℕ
header_bytes content = 1 + length (shortest_length content)

-- an element with this tag, whose length has no longer form than the writer's
unfoldable pub open_exact : ℕ → Place → Result (Place × Place) Fault
open_exact tag p = do
  o ← open_as tag p
  if o.0.at - p.at == header_bytes (length o.0.bytes) then Ok o else refused p

-- such an element, with such a content
unfoldable pub exact : {A : Type 0} → ℕ → (Place → Result A Fault) → Place → Reading A
exact tag content p = do
  o ← open_exact tag p
  x ← content o.0
  Ok (x, o.1)

-- nothing more may stand here
unfoldable pub ended : Place → Result (Unit {0}) Fault
ended p = if length p.bytes == 0 then Ok tt else tag_here p >>= λ t. refused p

-- as many of them as there are
unfoldable pub many_from : {A : Type 0} → (Place → Reading A) → ℕ → Place → Result (List A) Fault
many_from piece zero p = Ok []
many_from piece (suc more) p =
    if length p.bytes == 0 then Ok [] else (piece p >>= λ first. many_from piece more first.1 >>= λ others. Ok (first.0 ∷ others))

abbrev pub many : {A : Type 0} → (Place → Reading A) → Place → Result (List A) Fault
many piece p = many_from piece (length p.bytes) p

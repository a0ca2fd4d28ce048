-- Reading elements from the front, of bytes that may go on.
use Rattle.std.specs.Prelude.{ℕ, zero, suc, ◌+◌, ◌-◌, ◌%◌, ℤ, pos, negsuc, ◌==◌, ◌||◌, nat_lt, List, [], ◌∷◌, length, take, drop, Option, Some, None, Bool, Result, Ok, Err, if◌then◌else◌}
use Rattle.ber_core.specs.declared.fault.BerFault.{BerFault}
use Rattle.ber_core.specs.declared.fault.BerFault.TheVariants as ber
use Rattle.ber_core.specs.declared.fault.BerWhy.TheVariants as ber_why
use Rattle.ber_core.specs.Number.{integer_of, boolean_of}
use Rattle.ber_core.specs.declared.read.Header.{Header}
use Rattle.ber_core.specs.Reading.{header_at}
use Rattle.ber_core.specs.declared.fault.NotLdapWhy.{NotLdapWhy}
use Rattle.ber_core.specs.declared.fault.NotLdapWhy.TheVariants.{Ber, Shape, TooLarge}

-- why reading stops before a value: the bytes so far are no fault and no whole message, or they are at fault
pub data Stop : Type 0 where
  More : Stop
  Fault : ℕ → NotLdapWhy → Stop

-- A place inside an element: where that element starts, where the place is, how many bytes the
-- element has from there on, and the bytes from there on that have come.
pub record Window : Type 0 where
  pub start : ℕ
  pub at : ℕ
  pub left : ℕ
  pub bytes : List ℕ

-- a value, and the place after it
abbrev pub Reading : Type 0 → Type 0
Reading A = Result (A × Window) Stop

infixl 10 ◌>>=◌
abbrev pub ◌>>=◌ : {A B : Type 0} → Result A Stop → (A → Result B Stop) → Result B Stop
(Ok x) >>= f = f x
(Err e) >>= f = Err e

-- the element here is of another tag or form
abbrev pub refused : {A : Type 0} → Window → Result A Stop
refused w = Err (Fault w.at Shape)

-- The tag of the element that must stand here. Where the element around has ended, that one is at fault;
-- where it has one byte left, no element fits.
unfoldable pub tag_in : ℕ → ℕ → ℕ → List ℕ → Result ℕ Stop
tag_in start at zero bytes = Err (Fault start Shape)
tag_in start at (suc zero) bytes = Err (Fault at (Ber ber_why.TooLarge))
tag_in start at (suc (suc left)) [] = Err More
tag_in start at (suc (suc left)) (tag ∷ bytes) = if tag % 32 == 31 then Err (Fault at (Ber ber_why.LongTag)) else Ok tag

abbrev pub tag_here : Window → Result ℕ Stop
tag_here w = tag_in w.start w.at w.left w.bytes

abbrev pub stop_at : {A : Type 0} → ℕ → BerFault → Result A Stop
stop_at at (ber.More need) = Err More
stop_at at (ber.Bad place why) = Err (Fault (at + place) (Ber why))

-- what is inside an element with these sizes, and what is after it
abbrev pub inside : Window → Header → Window
inside w h = record { start = w.at; at = w.at + h.size; left = h.content; bytes = drop h.size w.bytes }

abbrev pub after : Window → Header → Window
after w h = record { start = w.start; at = w.at + (h.size + h.content); left = w.left - (h.size + h.content); bytes = drop (h.size + h.content) w.bytes }

abbrev pub both : Window → Result Header BerFault → Result (Window × Window) Stop
both w (Ok h) = Ok (inside w h, after w h)
both w (Err e) = stop_at w.at e

-- both, as soon as the length has come
unfoldable pub open_here : Window → Result (Window × Window) Stop
open_here w = both w (header_at w.left w.bytes)

-- an element with this tag stands here
unfoldable pub open_as : ℕ → Window → Result (Window × Window) Stop
open_as tag w = do
  t ← tag_here w
  if t == tag then open_here w else refused w

-- ---- what is inside a leaf: all of it, once it has come

unfoldable pub octets : Window → Result (List ℕ) Stop
octets w = if nat_lt (length w.bytes) w.left then Err More else Ok (take w.left w.bytes)

abbrev pub or_shape : {A : Type 0} → ℕ → Option A → Result A Stop
or_shape start (Some x) = Ok x
or_shape start None = Err (Fault start Shape)

unfoldable pub int : Window → Result ℤ Stop
int w = if w.left == 0 || nat_lt 8 w.left then Err (Fault w.start Shape) else (octets w >>= λ bytes. or_shape w.start (integer_of bytes))

unfoldable pub boolean : Window → Result Bool Stop
boolean w = if w.left == 1 then (octets w >>= λ bytes. or_shape w.start (boolean_of bytes)) else Err (Fault w.start Shape)

-- an element with this tag and such a content
unfoldable pub element : {A : Type 0} → ℕ → (Window → Result A Stop) → Window → Reading A
element tag content w = do
  o ← open_as tag w
  x ← content o.0
  Ok (x, o.1)

-- ---- how the inside of an element ends

-- what is after the element here, of which only the tag and the length are looked at
unfoldable pub skip_one : Window → Result Window Stop
skip_one w = do
  tag ← tag_here w
  o ← open_here w
  bytes ← octets o.0
  Ok o.1

-- elements that nobody knows are skipped
unfoldable pub skip_from : ℕ → Window → Result (Unit {0}) Stop
skip_from zero w = Ok tt
skip_from (suc more) w = if w.left == 0 then Ok tt else (skip_one w >>= λ rest. skip_from more rest)

abbrev pub skip : Window → Result (Unit {0}) Stop
skip w = skip_from w.left w

-- nothing more may stand here
unfoldable pub ended : Window → Result (Unit {0}) Stop
ended w = if w.left == 0 then Ok tt else tag_here w >>= λ t. refused w

-- as many of them as there are
unfoldable pub many_from : {A : Type 0} → (Window → Reading A) → ℕ → Window → Result (List A) Stop
many_from piece zero w = Ok []
many_from piece (suc more) w =
    if w.left == 0 then Ok [] else (piece w >>= λ first. many_from piece more first.1 >>= λ others. Ok (first.0 ∷ others))

abbrev pub many : {A : Type 0} → (Window → Reading A) → Window → Result (List A) Stop
many piece w = many_from piece w.left w

-- an element that may be left out: it stands here if its tag does
unfoldable pub optional : {A : Type 0} → ℕ → (Window → Result A Stop) → Window → Reading (Option A)
optional tag content w = if w.left == 0 then Ok (None, w) else (do
  t ← tag_here w
  if t == tag then (element tag content w >>= λ x. Ok (Some x.0, x.1)) else Ok (None, w))

abbrev pub with_first : {A : Type 0} → (Window → Reading (List A)) → Option A × Window → Reading (List A)
with_first others (None, w) = Ok ([], w)
with_first others (Some x, w) = others w >>= λ xs. Ok (x ∷ xs.0, xs.1)

-- as many as stand here with this tag
unfoldable pub run_from : {A : Type 0} → ℕ → (Window → Result A Stop) → ℕ → Window → Reading (List A)
run_from tag content zero w = Ok ([], w)
run_from tag content (suc more) w = do
  first ← optional tag content w
  with_first (run_from tag content more) first

abbrev pub run : {A : Type 0} → ℕ → (Window → Result A Stop) → Window → Reading (List A)
run tag content w = run_from tag content w.left w

-- ---- leaves in their ranges

-- a number from `least` to 2147483647
abbrev pub in_range : ℕ → ℤ → Option ℕ
in_range least (pos n) = if nat_lt n least || nat_lt 2147483647 n then None else Some n
in_range least (negsuc n) = None

abbrev pub ranged : NotLdapWhy → ℕ → Option ℕ → Result ℕ Stop
ranged w at (Some n) = Ok n
ranged w at None = Err (Fault at w)

-- ---- the message

-- a message that passes the limit has a why of its own
abbrev pub outermost : {A : Type 0} → Result A Stop → Result A Stop
outermost (Ok x) = Ok x
outermost (Err More) = Err More
outermost (Err (Fault p (Ber ber_why.TooLarge))) = Err (Fault p TooLarge)
outermost (Err (Fault p w)) = Err (Fault p w)

-- Reading the element at the front of bytes that may go on, where it has at most `limit` bytes in all.
use Rattle.std.specs.Prelude.{◌≡◌, ℕ, ◌+◌, ◌-◌, ◌<◌, ◌≤◌, ◌%◌, ◌==◌, nat_lt, List, [], ◌∷◌, ◌++◌, length, take, slice_index, slice_range, Result, Ok, Err, if◌then◌else◌}
use Rattle.ber_core.specs.declared.fault.BerFault.{BerFault}
use Rattle.ber_core.specs.declared.fault.BerFault.TheVariants.{More, Bad}
use Rattle.ber_core.specs.declared.fault.BerWhy.TheVariants.{LongTag, Indefinite, LengthForm, TooLarge}
use Rattle.ber_core.specs.declared.read.Tlv.{Tlv}
use Rattle.ber_core.specs.declared.read.Header.{Header}
use Rattle.ber_core.specs.Number.{IsBytes, least_number}
use Rattle.ber_core.specs.Element.{IsHeader, IsElementWithin}

-- ---- what the answers mean

-- However the bytes go on, no element within the limit stands at their front.
abbrev pub BeginsNone : ℕ → List ℕ → Type 0
BeginsNone limit bytes = (more whole rest : List ℕ) → IsElementWithin limit whole → bytes ++ more ≡ whole ++ rest → ⊥

-- So many bytes are missing: some that many behind these make an element within the limit, and no fewer do.
pub record IsMissing (limit : ℕ) (bytes : List ℕ) (need : ℕ) : Type 0 where
  pub some_missing : 0 < need
  pub enough : (rest : List ℕ) × IsBytes rest × (length rest ≡ need) × IsElementWithin limit (bytes ++ rest)
  pub least : (rest : List ℕ) → IsElementWithin limit (bytes ++ rest) → need ≤ length rest

-- no tag and length stand at the front yet
abbrev pub HasNoHeader : List ℕ → Type 0
HasNoHeader bytes = (front rest : List ℕ) (tag content : ℕ) → IsHeader front tag content → bytes ≡ front ++ rest → ⊥

-- a fault has its place within the limit
abbrev pub IsPlacedWithin : ℕ → BerFault → Type 0
IsPlacedWithin limit (More need) = Unit {0}
IsPlacedWithin limit (Bad place why) = place ≤ limit

-- ---- which answer it is

-- whether the tag and the first byte of the length are of a form that is read, as far as they are there
abbrev pub form_of : List ℕ → Result (Unit {0}) BerFault
form_of [] = Ok tt
form_of (tag ∷ []) = if tag % 32 == 31 then Err (Bad 0 LongTag) else Ok tt
form_of (tag ∷ b ∷ bytes) =
    if tag % 32 == 31 then Err (Bad 0 LongTag)
    else if b == 128 then Err (Bad 1 Indefinite)
    else if nat_lt 136 b then Err (Bad 1 LengthForm)
    else Ok tt

-- how many digits of the length follow its first byte
abbrev pub digit_count : ℕ → ℕ
digit_count b = b - 128

-- how many bytes the tag and the length have: two, until the first byte of the length says that they are more
abbrev pub header_size : List ℕ → ℕ
header_size [] = 2
header_size (tag ∷ []) = 2
header_size (tag ∷ b ∷ bytes) = 2 + digit_count b

-- how many bytes the content has at least: digits of the length that are not there yet count as zeros
abbrev pub content_size : List ℕ → ℕ
content_size [] = 0
content_size (tag ∷ []) = 0
content_size (tag ∷ b ∷ bytes) = if nat_lt b 128 then b else least_number (digit_count b) (take (digit_count b) bytes)

-- the fewest bytes of an element that begins so
abbrev pub least_size : List ℕ → ℕ
least_size bytes = header_size bytes + content_size bytes

abbrev pub header_of : List ℕ → Header
header_of bytes = record { tag = slice_index bytes 0; size = header_size bytes; content = content_size bytes }

-- The header where its form is read: too large as soon as no element within the limit begins so;
-- while it isn't all there, what is missing is the rest of the fewest bytes that make an element.
unfoldable pub header_within : ℕ → List ℕ → Result Header BerFault
header_within limit bytes =
    if nat_lt limit (least_size bytes) then Err (Bad 0 TooLarge)
    else if nat_lt (length bytes) (header_size bytes) then Err (More (least_size bytes - length bytes))
    else Ok (header_of bytes)

abbrev pub if_fine : Result (Unit {0}) BerFault → Result Header BerFault → Result Header BerFault
if_fine (Ok u) read = read
if_fine (Err e) read = Err e

-- The header at the front. No element is shorter than two bytes, so a lower limit is passed before anything is read.
unfoldable pub header_at : ℕ → List ℕ → Result Header BerFault
header_at limit bytes = if nat_lt limit 2 then Err (Bad 0 TooLarge) else if_fine (form_of bytes) (header_within limit bytes)

-- an element at the front: its tag, its content, and how many bytes it has in all
pub record Parts : Type 0 where
  pub tag : ℕ
  pub body : List ℕ
  pub size : ℕ

abbrev pub parts_after : List ℕ → Header → Parts
parts_after bytes h = record { tag = h.tag; body = slice_range bytes h.size (h.size + h.content); size = h.size + h.content }

abbrev pub with_content : List ℕ → Result Header BerFault → Result Parts BerFault
with_content bytes (Ok h) =
    if nat_lt (length bytes) (h.size + h.content) then Err (More (h.size + h.content - length bytes)) else Ok (parts_after bytes h)
with_content bytes (Err e) = Err e

-- the element at the front: its header, and the content where all of it is there
unfoldable pub element_at : ℕ → List ℕ → Result Parts BerFault
element_at limit bytes = with_content bytes (header_at limit bytes)

-- what a reader saw
abbrev pub parts : Tlv → Parts
parts t = record { tag = t.tag; body = t.body.now; size = t.size }

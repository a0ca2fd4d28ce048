-- What the content of an element spells, in the standard's words (X.690, section 8; RFC 4511, section 5.1):
-- lengths and integers may be longer than needed.
use Rattle.std.specs.Prelude.{◌≡◌, ◌≢◌, ℕ, ℤ, List, [], ◌∷◌, ◌++◌, Option, Some, None, Bool, slice_get}
use Rattle.ber_core.specs.Element.{IsElement}
use Rattle.ber_core.specs.Number.{integer_of, boolean_of}

-- ---- how spellings are put together

-- what has no value of its own
abbrev pub no_value : Unit {0}
no_value = tt

-- an element with this tag, and such a content
abbrev pub Element : {A : Type 0} → ℕ → (List ℕ → A → Type 0) → List ℕ → A → Type 0
Element tag Content bytes x = (body : List ℕ) × IsElement bytes tag body × Content body x

-- first what spells x, then such bytes
abbrev pub Then : {A : Type 0} → (List ℕ → A → Type 0) → A → (List ℕ → Type 0) → List ℕ → Type 0
Then P x Rest bytes = (first others : List ℕ) × (bytes ≡ first ++ others) × P first x × Rest others

-- first, where it is not left out, an element with this tag; what follows does not begin with its tag where it is
abbrev pub Given : {A : Type 0} → ℕ → (List ℕ → A → Type 0) → List ℕ → List ℕ → Option A → Type 0
Given tag Content first others (Some x) = Element tag Content first x
Given tag Content first others None = (first ≡ []) × (slice_get others 0 ≢ Some tag)

abbrev pub ThenMaybe : {A : Type 0} → ℕ → (List ℕ → A → Type 0) → Option A → (List ℕ → Type 0) → List ℕ → Type 0
ThenMaybe tag Content x Rest bytes = (first others : List ℕ) × (bytes ≡ first ++ others) × Given tag Content first others x × Rest others

abbrev pub Nothing : List ℕ → Type 0
Nothing bytes = bytes ≡ []

-- one after the other, each a value (SEQUENCE OF and SET OF)
pub data Each {A : Type 0} (P : List ℕ → A → Type 0) : List ℕ → List A → Type 0 where
  none : Each P [] []
  next : (first others : List ℕ) (x : A) (xs : List A) → P first x → Each P others xs → Each P (first ++ others) (x ∷ xs)

-- elements that nobody knows, as many as there are
abbrev pub IsSomeElement : List ℕ → Unit {0} → Type 0
IsSomeElement bytes u = (tag : ℕ) × (body : List ℕ) × IsElement bytes tag body

abbrev pub Unknown : List ℕ → Type 0
Unknown bytes = (all : List (Unit {0})) × Each IsSomeElement bytes all

-- ---- contents of leaves

abbrev pub Octets : List ℕ → List ℕ → Type 0
Octets body x = body ≡ x

abbrev pub Integer : List ℕ → ℤ → Type 0
Integer body z = integer_of body ≡ Some z

abbrev pub Boolean : List ℕ → Bool → Type 0
Boolean body b = boolean_of body ≡ Some b

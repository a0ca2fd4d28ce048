-- What holds of the reading of requests and of their spellings, whatever bytes follow.
use Rattle.std.specs.Prelude.{◌≡◌, ℕ, ◌≤◌, List, [], ◌++◌, length, Ok, Err}
use Rattle.ldap_types.specs.declared.request.Request.{Request}
use Rattle.ber_core.specs.declared.fault.NotLdapWhy.{NotLdapWhy}
use Rattle.ber_core.specs.Window.{Fault}
use Rattle.ldap_requests.specs.Grammar.{request_at}
use Rattle.ldap_requests.specs.Spelling.{Spells}

-- a request that was read is read again, with the same size
abbrev pub StaysRead : Type 0
StaysRead = (limit n : ℕ) (bytes more : List ℕ) (r : Request) → request_at limit bytes ≡ Ok (r, n) → request_at limit (bytes ++ more) ≡ Ok (r, n)

-- bytes that are at fault stay at fault, with the same place and reason
abbrev pub StaysAtFault : Type 0
StaysAtFault = (limit place : ℕ) (bytes more : List ℕ) (why : NotLdapWhy) → request_at limit bytes ≡ Err (Fault place why) → request_at limit (bytes ++ more) ≡ Err (Fault place why)

-- bytes that are a whole message are one in one way, and are no proper prefix of bytes that are one
abbrev pub NoneIsPrefix : Type 0
NoneIsPrefix = (limit : ℕ) (bytes more : List ℕ) (r s : Request) → request_at limit bytes ≡ Ok (r, length bytes) → request_at limit (bytes ++ more) ≡ Ok (s, length (bytes ++ more)) → (more ≡ []) × (r ≡ s)

-- ---- spellings

-- every spelling of a request that has at most so many bytes is read, with its size
abbrev pub EverySpellingIsRead : Type 0
EverySpellingIsRead = (limit : ℕ) (bytes more : List ℕ) (r : Request) → Spells bytes r → length bytes ≤ limit → request_at limit (bytes ++ more) ≡ Ok (r, length bytes)

-- bytes spell one request at most
abbrev pub OneRequest : Type 0
OneRequest = (bytes : List ℕ) (r s : Request) → Spells bytes r → Spells bytes s → r ≡ s

-- no spelling is a proper prefix of another
abbrev pub NoSpellingIsPrefix : Type 0
NoSpellingIsPrefix = (bytes more : List ℕ) (r s : Request) → Spells bytes r → Spells (bytes ++ more) s → (more ≡ []) × (r ≡ s)

-- no request of at most so many bytes stands at the front
abbrev pub HasNoRequest : ℕ → List ℕ → Type 0
HasNoRequest limit bytes = (whole rest : List ℕ) (r : Request) → Spells whole r → length whole ≤ limit → bytes ≡ whole ++ rest → ⊥

-- however the bytes go on, none does
abbrev pub BeginsNoRequest : ℕ → List ℕ → Type 0
BeginsNoRequest limit bytes = (more : List ℕ) → HasNoRequest limit (bytes ++ more)

-- What replies and their bytes are to one another.
use Rattle.std.specs.Prelude.{◌≡◌, ◌≢◌, ℕ, List, [], ◌++◌, length, Ok, Err}
use Rattle.ldap_types.specs.declared.reply.Reply.{Reply}
use Rattle.ber_core.specs.declared.fault.NotLdapWhy.{NotLdapWhy}
use Rattle.ber_core.specs.Window.{More, Fault}
use Rattle.ldap_replies.specs.Form.{reply_bytes, IsInRange}
use Rattle.ldap_replies.specs.Grammar.{reply_at}

-- what is written is read back, whatever bytes follow
abbrev pub IsReadBack : Type 0
IsReadBack = (r : Reply) (rest : List ℕ) → IsInRange r → reply_at 2097152 (reply_bytes r ++ rest) ≡ Ok (r, length (reply_bytes r))

-- a proper front of a reply's bytes wants more
abbrev pub FrontWantsMore : Type 0
FrontWantsMore = (r : Reply) (front rest : List ℕ) → IsInRange r → reply_bytes r ≡ front ++ rest → rest ≢ [] → reply_at 2097152 front ≡ Err More

-- bytes are those of one reply at most, and no proper front of another's
abbrev pub NoneIsPrefix : Type 0
NoneIsPrefix = (r s : Reply) (more : List ℕ) → IsInRange r → IsInRange s → reply_bytes r ++ more ≡ reply_bytes s → (more ≡ []) × (r ≡ s)

-- bytes that are at fault stay at fault, with the same place and reason
abbrev pub StaysAtFault : Type 0
StaysAtFault = (limit place : ℕ) (bytes more : List ℕ) (why : NotLdapWhy) → reply_at limit bytes ≡ Err (Fault place why) → reply_at limit (bytes ++ more) ≡ Err (Fault place why)

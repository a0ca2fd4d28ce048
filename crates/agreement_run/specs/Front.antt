-- What stands in front of bytes that were read.
use Rattle.std.specs.Prelude.{◌≡◌, ℕ, List, ◌++◌}
use Rattle.ldap_types.specs.declared.reply.Reply.{Reply}
use Rattle.ldap_replies.specs.Form.{reply_bytes, IsInRange}

-- these bytes are those of this reply, and then these others
pub record BeginsWith (bytes : List ℕ) (r : Reply) (rest : List ℕ) : Type 0 where
  pub spelled : bytes ≡ reply_bytes r ++ rest
  pub in_range : IsInRange r

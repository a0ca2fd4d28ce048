-- Replies, read element by element from the front (RFC 4511, section 4), in the writer's form alone:
-- each length and each integer in the fewest bytes, and no element after the last known one.
use Rattle.std.specs.Prelude.{ℕ, ◌+◌, ◌-◌, ℤ, pos, negsuc, ◌==◌, ◌||◌, nat_lt, List, length, Option, Some, None, Bool, Result, Ok, Err, if◌then◌else◌}
use Rattle.ber_core.specs.Element.{shortest_length}
use Rattle.ber_core.specs.Number.{shortest_integer}
use Rattle.ldap_types.specs.declared.reply.Reply.{Reply}
use Rattle.ldap_types.specs.declared.reply.ReplyOp.{ReplyOp}
use Rattle.ldap_types.specs.declared.reply.ReplyOp.TheVariants as op
use Rattle.ldap_types.specs.declared.reply.LdapResult.{LdapResult}
use Rattle.ldap_types.specs.declared.request.RawAttr.{RawAttr}
use Rattle.ber_core.specs.declared.fault.NotLdapWhy.TheVariants as why
use Rattle.ber_core.specs.Window.{Stop, Fault, Window, Reading, ◌>>=◌, refused, tag_here, open_as, octets, int, ended, many, in_range, ranged, outermost}

-- ---- elements in the writer's form

-- how many bytes the tag and the length of so much content have as they are written
abbrev pub header_bytes : ℕ → ℕ
header_bytes content = 1 + length (shortest_length content)

-- What is inside the element here and what is after it: its tag is this one, and its length has no
-- longer form than the writer's.
unfoldable pub open_exact : ℕ → Window → Result (Window × Window) Stop
open_exact tag w = do
  o ← open_as tag w
  if o.0.at - w.at == header_bytes o.0.left then Ok o else refused w

-- such an element, with such a content
unfoldable pub exact : {A : Type 0} → ℕ → (Window → Result A Stop) → Window → Reading A
exact tag content w = do
  o ← open_exact tag w
  x ← content o.0
  Ok (x, o.1)

-- the same, which may be left out: it stands here if its tag does
unfoldable pub exact_optional : {A : Type 0} → ℕ → (Window → Result A Stop) → Window → Reading (Option A)
exact_optional tag content w = if w.left == 0 then Ok (None, w) else (do
  t ← tag_here w
  if t == tag then (exact tag content w >>= λ x. Ok (Some x.0, x.1)) else Ok (None, w))

-- ---- leaves

abbrev pub text : Window → Reading (List ℕ)
text = exact 0x04 octets

-- an integer in the fewest bytes
unfoldable pub exact_int : Window → Result ℤ Stop
exact_int w = do
  z ← int w
  if w.left == length (shortest_integer z) then Ok z else Err (Fault w.start why.Shape)

unfoldable pub message_id : Window → Result ℕ Stop
message_id w = exact_int w >>= λ z. ranged why.Id w.start (in_range 0 z)

-- a number of 32 bits
abbrev pub in_32_bits : ℤ → Option ℕ
in_32_bits (pos n) = if nat_lt 4294967295 n then None else Some n
in_32_bits (negsuc n) = None

unfoldable pub result_code : Window → Result ℕ Stop
result_code w = exact_int w >>= λ z. ranged why.Shape w.start (in_32_bits z)

-- ---- operations, from what is inside them

-- the parts that each result begins with
unfoldable pub ldap_result : Window → Reading LdapResult
ldap_result w = do
  code ← exact 0x0a result_code w
  matched ← text code.1
  message ← text matched.1
  Ok (record { code = record { number = code.0 }; matched = matched.0; text = message.0 }, message.1)

-- a result alone
unfoldable pub result_inside : Window → Result LdapResult Stop
result_inside w = do
  r ← ldap_result w
  over ← ended r.1
  Ok r.0

unfoldable pub attribute_inside : Window → Result RawAttr Stop
attribute_inside w = do
  name ← text w
  vals ← exact 0x31 (many text) name.1
  over ← ended vals.1
  Ok (record { name = name.0; vals = vals.0 })

abbrev pub attribute : Window → Reading RawAttr
attribute = exact 0x30 attribute_inside

unfoldable pub entry_inside : Window → Result ReplyOp Stop
entry_inside w = do
  name ← text w
  attrs ← exact 0x30 (many attribute) name.1
  over ← ended attrs.1
  Ok (op.Entry name.0 attrs.0)

unfoldable pub extended_inside : Window → Result ReplyOp Stop
extended_inside w = do
  r ← ldap_result w
  oid ← exact_optional 0x8a octets r.1
  value ← exact_optional 0x8b octets oid.1
  over ← ended value.1
  Ok (op.Extended r.0 oid.0 value.0)

-- ---- the message

abbrev pub is_reply_tag : ℕ → Bool
is_reply_tag tag = tag == 0x61 || tag == 0x64 || tag == 0x65 || tag == 0x67 || tag == 0x69 || tag == 0x6b || tag == 0x6d || tag == 0x6f || tag == 0x78

-- what is inside the operation with this tag
unfoldable pub op_inside : ℕ → Window → Result ReplyOp Stop
op_inside tag w =
    if tag == 0x61 then (result_inside w >>= λ r. Ok (op.Bind r))
    else if tag == 0x64 then entry_inside w
    else if tag == 0x65 then (result_inside w >>= λ r. Ok (op.Done r))
    else if tag == 0x67 then (result_inside w >>= λ r. Ok (op.Modify r))
    else if tag == 0x69 then (result_inside w >>= λ r. Ok (op.Add r))
    else if tag == 0x6b then (result_inside w >>= λ r. Ok (op.Delete r))
    else if tag == 0x6d then (result_inside w >>= λ r. Ok (op.Rename r))
    else if tag == 0x6f then (result_inside w >>= λ r. Ok (op.Compare r))
    else extended_inside w

-- one of the operations stands here
unfoldable pub operation : Window → Reading ReplyOp
operation w = do
  tag ← tag_here w
  o ← (if is_reply_tag tag then open_exact tag w else Err (Fault w.at why.Op))
  op ← op_inside tag o.0
  Ok (op, o.1)

unfoldable pub reply_inside : Window → Result Reply Stop
reply_inside w = do
  id ← exact 0x02 message_id w
  op ← operation id.1
  over ← ended op.1
  Ok (record { id = id.0; op = op.0 })

-- The reply at the front of the bytes, and how many bytes it has; or More; or the first fault.
unfoldable pub reply_at : ℕ → List ℕ → Result (Reply × ℕ) Stop
reply_at limit bytes = do
  o ← outermost (open_exact 0x30 (record { start = 0; at = 0; left = limit; bytes = bytes }))
  r ← reply_inside o.0
  Ok (r, o.1.at)

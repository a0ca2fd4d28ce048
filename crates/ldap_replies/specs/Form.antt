-- The bytes of a reply (RFC 4511, section 4 and appendix B). Each length and each integer has the
-- fewest bytes that it can have, so a reply has one spelling.
use Rattle.std.specs.Prelude.{ℕ, ◌≤◌, ◌<◌, ◌^◌, pos, List, [], ◌++◌, length, Option, Some, None}
use Rattle.std.specs.List.{flat_map}
use Rattle.ber_core.specs.Element.{element}
use Rattle.ber_core.specs.Number.{shortest_integer}
use Rattle.ldap_types.specs.declared.reply.Reply.{Reply}
use Rattle.ldap_types.specs.declared.reply.ReplyOp.{ReplyOp}
use Rattle.ldap_types.specs.declared.reply.ReplyOp.TheVariants as op
use Rattle.ldap_types.specs.declared.reply.LdapResult.{LdapResult}
use Rattle.ldap_types.specs.declared.request.RawAttr.{RawAttr}

-- ---- leaves

-- LDAPString, LDAPDN, LDAPOID, AttributeDescription and AttributeValue: all OCTET STRING
abbrev pub octet_string : List ℕ → List ℕ
octet_string bytes = element 0x04 bytes

-- INTEGER
abbrev pub integer : ℕ → List ℕ
integer n = element 0x02 (shortest_integer (pos n))

-- ENUMERATED
abbrev pub enumerated : ℕ → List ℕ
enumerated n = element 0x0a (shortest_integer (pos n))

-- what may be left out
abbrev pub optional : ℕ → Option (List ℕ) → List ℕ
optional tag None = []
optional tag (Some bytes) = element tag bytes

-- ---- parts

-- COMPONENTS OF LDAPResult, without a referral (section 4.1.9)
unfoldable pub ldap_result : LdapResult → List ℕ
ldap_result r = enumerated r.code.number ++ octet_string r.matched ++ octet_string r.text

-- PartialAttribute: a type and a set of values, in their order (section 4.1.7)
unfoldable pub partial_attribute : RawAttr → List ℕ
partial_attribute a = element 0x30 (octet_string a.name ++ element 0x31 (flat_map octet_string a.vals))

-- PartialAttributeList (section 4.5.2)
abbrev pub partial_attribute_list : List RawAttr → List ℕ
partial_attribute_list attrs = element 0x30 (flat_map partial_attribute attrs)

-- ---- the message

-- protocolOp: BindResponse, SearchResultEntry, SearchResultDone, ModifyResponse, AddResponse,
-- DelResponse, ModifyDNResponse, CompareResponse, ExtendedResponse
abbrev pub protocol_op : ReplyOp → List ℕ
protocol_op (op.Bind r) = element 0x61 (ldap_result r)
protocol_op (op.Entry name attrs) = element 0x64 (octet_string name ++ partial_attribute_list attrs)
protocol_op (op.Done r) = element 0x65 (ldap_result r)
protocol_op (op.Modify r) = element 0x67 (ldap_result r)
protocol_op (op.Add r) = element 0x69 (ldap_result r)
protocol_op (op.Delete r) = element 0x6b (ldap_result r)
protocol_op (op.Rename r) = element 0x6d (ldap_result r)
protocol_op (op.Compare r) = element 0x6f (ldap_result r)
protocol_op (op.Extended r oid value) = element 0x78 (ldap_result r ++ optional 0x8a oid ++ optional 0x8b value)

-- LDAPMessage, without controls (section 4.1.1)
unfoldable pub reply_bytes : Reply → List ℕ
reply_bytes r = element 0x30 (integer r.id ++ protocol_op r.op)

-- ---- which replies are read back

-- the number of the result's code, and 0 for an entry, which has none
abbrev pub code_number : ReplyOp → ℕ
code_number (op.Bind r) = r.code.number
code_number (op.Entry name attrs) = 0
code_number (op.Done r) = r.code.number
code_number (op.Modify r) = r.code.number
code_number (op.Add r) = r.code.number
code_number (op.Delete r) = r.code.number
code_number (op.Rename r) = r.code.number
code_number (op.Compare r) = r.code.number
code_number (op.Extended r oid value) = r.code.number

-- The id is one of a message, the code has 32 bits, and the message is within the limit.
pub record IsInRange (r : Reply) : Type 0 where
  pub id : r.id ≤ 2147483647
  pub code : code_number r.op < 2 ^ 32
  pub within : length (reply_bytes r) ≤ 2097152

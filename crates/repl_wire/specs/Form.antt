-- The bytes of the messages that suppliers and consumers send each other: extended requests and their answers
-- (RFC 4511, section 4.12), whose names and values are this program's own. Each length and each integer has the
-- fewest bytes that it can have.
use Rattle.std.specs.Prelude.{ℕ, pos, List, [], ◌++◌, codes, Some, None}
use Rattle.std.specs.List.{flat_map}
use Rattle.ber_core.specs.Element.{element}
use Rattle.ber_core.specs.Number.{shortest_integer}
use Rattle.repl_data.specs.declared.csn.Csn.{Csn}
use Rattle.repl_data.specs.Text.{csn_bytes}
use Rattle.ldap_types.specs.declared.request.Request.{Request}
use Rattle.ldap_types.specs.declared.request.Op.TheVariants.{Extended}
use Rattle.ldap_types.specs.declared.reply.Reply.{Reply}
use Rattle.ldap_types.specs.declared.reply.ReplyOp.TheVariants as reply_op
use Rattle.ldap_replies.specs.Form.{reply_bytes}
use Rattle.vector_core.specs.declared.answers.Start.{Start}
use Rattle.repl_wire.specs.declared.session.End.{End}

-- ---- the parts

abbrev pub octet_string : List ℕ → List ℕ
octet_string bytes = element 0x04 bytes

abbrev pub integer : ℕ → List ℕ
integer n = element 0x02 (shortest_integer (pos n))

-- SEQUENCE OF OCTET STRING: the ten bytes of each CSN, in rising order of replica id
unfoldable pub vector_value : List Csn → List ℕ
vector_value csns = element 0x30 (flat_map (λ (c : Csn). octet_string (csn_bytes c)) csns)

-- ---- extended requests

-- the name of a start, and that of an end
unfoldable pub start_name : List ℕ
start_name = codes "2.999.389.1"

unfoldable pub end_name : List ℕ
end_name = codes "2.999.389.2"

-- the request with this name and this value
abbrev pub extended : ℕ → List ℕ → List ℕ → Request
extended id name value = record { id = id; op = Extended name (Some value); controls = [] }

-- ExtendedRequest ::= [APPLICATION 23] SEQUENCE { requestName [0], requestValue [1] }, in its message
unfoldable pub extended_bytes : ℕ → List ℕ → List ℕ → List ℕ
extended_bytes id name value = element 0x30 (integer id ++ element 0x77 (element 0x80 name ++ element 0x81 value))

-- ---- a start: SEQUENCE { suffix OCTET STRING, rid INTEGER, vector SEQUENCE OF OCTET STRING }

unfoldable pub start_value : Start → List ℕ
start_value s = element 0x30 (octet_string s.suffix ++ integer s.rid ++ vector_value s.front)

abbrev pub start_request : ℕ → Start → Request
start_request id s = extended id start_name (start_value s)

abbrev pub start_bytes : ℕ → Start → List ℕ
start_bytes id s = extended_bytes id start_name (start_value s)

-- ---- its answer: the code 0, and the consumer's vector as the value

abbrev pub started_reply : ℕ → List Csn → Reply
started_reply id vector = record {
  id = id;
  op = reply_op.Extended (record { code = record { number = 0 }; matched = []; text = [] }) None (Some (vector_value vector));
}

abbrev pub started_bytes : ℕ → List Csn → List ℕ
started_bytes id vector = reply_bytes (started_reply id vector)

-- ---- an end: INTEGER rid

unfoldable pub end_value : End → List ℕ
end_value e = integer e.rid

abbrev pub end_request : ℕ → End → Request
end_request id e = extended id end_name (end_value e)

abbrev pub end_bytes : ℕ → End → List ℕ
end_bytes id e = extended_bytes id end_name (end_value e)

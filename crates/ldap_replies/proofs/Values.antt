-- Small values of the definitions, by computation.
use Rattle.std.proofs.Common.{◌≡◌, ℕ, List, [], ◌∷◌, take, Some, None, Result, Ok, Err, refl}
use Rattle.std.specs.Prelude.{codes}
use Rattle.ber_core.specs.declared.fault.BerWhy.TheVariants as ber_why
use Rattle.ber_core.specs.Element.{shortest_length, element}
use Rattle.ber_core.specs.Number.{least_number, integer, drop_needless, shortest_integer}
use Rattle.ber_core.specs.Reading.{header_within, header_at}
use Rattle.ldap_types.specs.declared.reply.Reply.{Reply}
use Rattle.ldap_types.specs.declared.reply.ReplyOp.TheVariants as op
use Rattle.ldap_types.specs.declared.reply.LdapResult.{LdapResult}
use Rattle.ber_core.specs.declared.fault.NotLdapWhy.TheVariants as why
use Rattle.ber_core.specs.Window.{Stop, More, Fault, tag_in, open_here, open_as, octets, int, ended, many_from}
use Rattle.ldap_replies.specs.Form.{ldap_result, partial_attribute, reply_bytes}
use Rattle.ldap_replies.specs.Grammar as grammar

abbrev reading : List ℕ → Result (Reply × ℕ) Stop
reading bytes = grammar.reply_at 2097152 bytes

-- a result of this code, with empty texts
abbrev plain : ℕ → LdapResult
plain number = record { code = record { number = number }; matched = []; text = [] }

-- ---- what is written

-- the notice of disconnection (RFC 4511, section 4.4.1)
abbrev notice : Reply
notice = record { id = 0; op = op.Extended (plain 2) (Some (codes "1.3.6.1.4.1.1466.20036")) None }

abbrev notice_bytes : List ℕ
notice_bytes = 0x30 ∷ 0x24 ∷ 0x02 ∷ 0x01 ∷ 0x00 ∷ 0x78 ∷ 0x1f ∷ 0x0a ∷ 0x01 ∷ 0x02 ∷ 0x04 ∷ 0x00 ∷ 0x04 ∷ 0x00 ∷ 0x8a ∷ 0x16 ∷ 0x31 ∷ 0x2e ∷ 0x33 ∷ 0x2e ∷ 0x36 ∷ 0x2e ∷ 0x31 ∷ 0x2e ∷ 0x34 ∷ 0x2e ∷ 0x31 ∷ 0x2e ∷ 0x31 ∷ 0x34 ∷ 0x36 ∷ 0x36 ∷ 0x2e ∷ 0x32 ∷ 0x30 ∷ 0x30 ∷ 0x33 ∷ 0x36 ∷ []

the_notice_of_disconnection : reply_bytes notice ≡ notice_bytes
unfolding reply_bytes ldap_result partial_attribute element shortest_length shortest_integer drop_needless
the_notice_of_disconnection = refl

a_bind_that_was_accepted : reply_bytes (record { id = 1; op = op.Bind (plain 0) }) ≡ 0x30 ∷ 0x0c ∷ 0x02 ∷ 0x01 ∷ 0x01 ∷ 0x61 ∷ 0x07 ∷ 0x0a ∷ 0x01 ∷ 0x00 ∷ 0x04 ∷ 0x00 ∷ 0x04 ∷ 0x00 ∷ []
unfolding reply_bytes ldap_result partial_attribute element shortest_length shortest_integer drop_needless
a_bind_that_was_accepted = refl

a_code_of_two_bytes : reply_bytes (record { id = 3; op = op.Add (plain 128) }) ≡ 0x30 ∷ 0x0d ∷ 0x02 ∷ 0x01 ∷ 0x03 ∷ 0x69 ∷ 0x08 ∷ 0x0a ∷ 0x02 ∷ 0x00 ∷ 0x80 ∷ 0x04 ∷ 0x00 ∷ 0x04 ∷ 0x00 ∷ []
unfolding reply_bytes ldap_result partial_attribute element shortest_length shortest_integer drop_needless
a_code_of_two_bytes = refl

-- an entry of two attributes, of which the second has two values
abbrev entry : Reply
entry = record {
  id = 2;
  op =
      op.Entry (codes "dc=example") (
      record { name = codes "dc"; vals = codes "example" ∷ [] }
      ∷ record { name = codes "objectclass"; vals = codes "domain" ∷ codes "top" ∷ [] } ∷ []);
}

abbrev entry_bytes : List ℕ
entry_bytes = 0x30 ∷ 0x42 ∷ 0x02 ∷ 0x01 ∷ 0x02 ∷ 0x64 ∷ 0x3d ∷ 0x04 ∷ 0x0a ∷ 0x64 ∷ 0x63 ∷ 0x3d ∷ 0x65 ∷ 0x78 ∷ 0x61 ∷ 0x6d ∷ 0x70 ∷ 0x6c ∷ 0x65 ∷ 0x30 ∷ 0x2f ∷ 0x30 ∷ 0x0f ∷ 0x04 ∷ 0x02 ∷ 0x64 ∷ 0x63 ∷ 0x31 ∷ 0x09 ∷ 0x04 ∷ 0x07 ∷ 0x65 ∷ 0x78 ∷ 0x61 ∷ 0x6d ∷ 0x70 ∷ 0x6c ∷ 0x65 ∷ 0x30 ∷ 0x1c ∷ 0x04 ∷ 0x0b ∷ 0x6f ∷ 0x62 ∷ 0x6a ∷ 0x65 ∷ 0x63 ∷ 0x74 ∷ 0x63 ∷ 0x6c ∷ 0x61 ∷ 0x73 ∷ 0x73 ∷ 0x31 ∷ 0x0d ∷ 0x04 ∷ 0x06 ∷ 0x64 ∷ 0x6f ∷ 0x6d ∷ 0x61 ∷ 0x69 ∷ 0x6e ∷ 0x04 ∷ 0x03 ∷ 0x74 ∷ 0x6f ∷ 0x70 ∷ []

an_entry_with_values : reply_bytes entry ≡ entry_bytes
unfolding reply_bytes ldap_result partial_attribute element shortest_length shortest_integer drop_needless
an_entry_with_values = refl

an_entry_with_types_alone : reply_bytes (record { id = 2; op = op.Entry (codes "dc=a") (record { name = codes "dc"; vals = [] } ∷ []) }) ≡ 0x30 ∷ 0x15 ∷ 0x02 ∷ 0x01 ∷ 0x02 ∷ 0x64 ∷ 0x10 ∷ 0x04 ∷ 0x04 ∷ 0x64 ∷ 0x63 ∷ 0x3d ∷ 0x61 ∷ 0x30 ∷ 0x08 ∷ 0x30 ∷ 0x06 ∷ 0x04 ∷ 0x02 ∷ 0x64 ∷ 0x63 ∷ 0x31 ∷ 0x00 ∷ []
unfolding reply_bytes ldap_result partial_attribute element shortest_length shortest_integer drop_needless
an_entry_with_types_alone = refl

a_value_without_a_name : reply_bytes (record { id = 2; op = op.Extended (plain 0) None (Some (0x30 ∷ 0x00 ∷ [])) }) ≡ 0x30 ∷ 0x10 ∷ 0x02 ∷ 0x01 ∷ 0x02 ∷ 0x78 ∷ 0x0b ∷ 0x0a ∷ 0x01 ∷ 0x00 ∷ 0x04 ∷ 0x00 ∷ 0x04 ∷ 0x00 ∷ 0x8b ∷ 0x02 ∷ 0x30 ∷ 0x00 ∷ []
unfolding reply_bytes ldap_result partial_attribute element shortest_length shortest_integer drop_needless
a_value_without_a_name = refl

-- ---- what is read

the_notice_is_read : reading notice_bytes ≡ Ok (notice, 38)
unfolding grammar.reply_at grammar.open_exact grammar.exact grammar.exact_optional grammar.exact_int grammar.message_id grammar.result_code grammar.ldap_result grammar.result_inside grammar.attribute_inside grammar.entry_inside grammar.extended_inside grammar.op_inside grammar.operation grammar.reply_inside open_as open_here tag_in octets int ended many_from header_at header_within least_number integer shortest_length shortest_integer drop_needless
the_notice_is_read = refl

the_notice_without_its_last_two_bytes : reading (take 36 notice_bytes) ≡ Err More
unfolding grammar.reply_at grammar.open_exact grammar.exact grammar.exact_optional grammar.exact_int grammar.message_id grammar.result_code grammar.ldap_result grammar.result_inside grammar.attribute_inside grammar.entry_inside grammar.extended_inside grammar.op_inside grammar.operation grammar.reply_inside open_as open_here tag_in octets int ended many_from header_at header_within least_number integer shortest_length shortest_integer drop_needless
the_notice_without_its_last_two_bytes = refl

the_entry_is_read : reading entry_bytes ≡ Ok (entry, 68)
unfolding grammar.reply_at grammar.open_exact grammar.exact grammar.exact_optional grammar.exact_int grammar.message_id grammar.result_code grammar.ldap_result grammar.result_inside grammar.attribute_inside grammar.entry_inside grammar.extended_inside grammar.op_inside grammar.operation grammar.reply_inside open_as open_here tag_in octets int ended many_from header_at header_within least_number integer shortest_length shortest_integer drop_needless
the_entry_is_read = refl

a_longer_length_than_needed : reading (0x30 ∷ 0x81 ∷ 0x0c ∷ []) ≡ Err (Fault 0 why.Shape)
unfolding grammar.reply_at grammar.open_exact grammar.exact grammar.exact_optional grammar.exact_int grammar.message_id grammar.result_code grammar.ldap_result grammar.result_inside grammar.attribute_inside grammar.entry_inside grammar.extended_inside grammar.op_inside grammar.operation grammar.reply_inside open_as open_here tag_in octets int ended many_from header_at header_within least_number integer shortest_length shortest_integer drop_needless
a_longer_length_than_needed = refl

a_longer_length_whose_last_digit_is_missing : reading (0x30 ∷ 0x82 ∷ 0x00 ∷ []) ≡ Err More
unfolding grammar.reply_at grammar.open_exact grammar.exact grammar.exact_optional grammar.exact_int grammar.message_id grammar.result_code grammar.ldap_result grammar.result_inside grammar.attribute_inside grammar.entry_inside grammar.extended_inside grammar.op_inside grammar.operation grammar.reply_inside open_as open_here tag_in octets int ended many_from header_at header_within least_number integer shortest_length shortest_integer drop_needless
a_longer_length_whose_last_digit_is_missing = refl

a_length_above_the_limit : reading (0x30 ∷ 0x84 ∷ 0x7f ∷ []) ≡ Err (Fault 0 why.TooLarge)
unfolding grammar.reply_at grammar.open_exact grammar.exact grammar.exact_optional grammar.exact_int grammar.message_id grammar.result_code grammar.ldap_result grammar.result_inside grammar.attribute_inside grammar.entry_inside grammar.extended_inside grammar.op_inside grammar.operation grammar.reply_inside open_as open_here tag_in octets int ended many_from header_at header_within least_number integer shortest_length shortest_integer drop_needless
a_length_above_the_limit = refl

an_id_with_a_needless_byte : reading (0x30 ∷ 0x0d ∷ 0x02 ∷ 0x02 ∷ 0x00 ∷ 0x01 ∷ []) ≡ Err (Fault 2 why.Shape)
unfolding grammar.reply_at grammar.open_exact grammar.exact grammar.exact_optional grammar.exact_int grammar.message_id grammar.result_code grammar.ldap_result grammar.result_inside grammar.attribute_inside grammar.entry_inside grammar.extended_inside grammar.op_inside grammar.operation grammar.reply_inside open_as open_here tag_in octets int ended many_from header_at header_within least_number integer shortest_length shortest_integer drop_needless
an_id_with_a_needless_byte = refl

an_id_below_zero : reading (0x30 ∷ 0x0c ∷ 0x02 ∷ 0x01 ∷ 0xff ∷ []) ≡ Err (Fault 2 why.Id)
unfolding grammar.reply_at grammar.open_exact grammar.exact grammar.exact_optional grammar.exact_int grammar.message_id grammar.result_code grammar.ldap_result grammar.result_inside grammar.attribute_inside grammar.entry_inside grammar.extended_inside grammar.op_inside grammar.operation grammar.reply_inside open_as open_here tag_in octets int ended many_from header_at header_within least_number integer shortest_length shortest_integer drop_needless
an_id_below_zero = refl

a_request : reading (0x30 ∷ 0x0c ∷ 0x02 ∷ 0x01 ∷ 0x01 ∷ 0x60 ∷ []) ≡ Err (Fault 5 why.Op)
unfolding grammar.reply_at grammar.open_exact grammar.exact grammar.exact_optional grammar.exact_int grammar.message_id grammar.result_code grammar.ldap_result grammar.result_inside grammar.attribute_inside grammar.entry_inside grammar.extended_inside grammar.op_inside grammar.operation grammar.reply_inside open_as open_here tag_in octets int ended many_from header_at header_within least_number integer shortest_length shortest_integer drop_needless
a_request = refl

a_code_in_two_bytes : reading (0x30 ∷ 0x0d ∷ 0x02 ∷ 0x01 ∷ 0x01 ∷ 0x61 ∷ 0x08 ∷ 0x0a ∷ 0x02 ∷ 0x00 ∷ 0x00 ∷ []) ≡ Err (Fault 7 why.Shape)
unfolding grammar.reply_at grammar.open_exact grammar.exact grammar.exact_optional grammar.exact_int grammar.message_id grammar.result_code grammar.ldap_result grammar.result_inside grammar.attribute_inside grammar.entry_inside grammar.extended_inside grammar.op_inside grammar.operation grammar.reply_inside open_as open_here tag_in octets int ended many_from header_at header_within least_number integer shortest_length shortest_integer drop_needless
a_code_in_two_bytes = refl

a_referral : reading (0x30 ∷ 0x0e ∷ 0x02 ∷ 0x01 ∷ 0x01 ∷ 0x61 ∷ 0x09 ∷ 0x0a ∷ 0x01 ∷ 0x00 ∷ 0x04 ∷ 0x00 ∷ 0x04 ∷ 0x00 ∷ 0xa3 ∷ []) ≡ Err (Fault 14 why.Shape)
unfolding grammar.reply_at grammar.open_exact grammar.exact grammar.exact_optional grammar.exact_int grammar.message_id grammar.result_code grammar.ldap_result grammar.result_inside grammar.attribute_inside grammar.entry_inside grammar.extended_inside grammar.op_inside grammar.operation grammar.reply_inside open_as open_here tag_in octets int ended many_from header_at header_within least_number integer shortest_length shortest_integer drop_needless
a_referral = refl

controls : reading (0x30 ∷ 0x0e ∷ 0x02 ∷ 0x01 ∷ 0x01 ∷ 0x61 ∷ 0x07 ∷ 0x0a ∷ 0x01 ∷ 0x00 ∷ 0x04 ∷ 0x00 ∷ 0x04 ∷ 0x00 ∷ 0xa0 ∷ []) ≡ Err (Fault 14 why.Shape)
unfolding grammar.reply_at grammar.open_exact grammar.exact grammar.exact_optional grammar.exact_int grammar.message_id grammar.result_code grammar.ldap_result grammar.result_inside grammar.attribute_inside grammar.entry_inside grammar.extended_inside grammar.op_inside grammar.operation grammar.reply_inside open_as open_here tag_in octets int ended many_from header_at header_within least_number integer shortest_length shortest_integer drop_needless
controls = refl

one_byte_left : reading (0x30 ∷ 0x0d ∷ 0x02 ∷ 0x01 ∷ 0x01 ∷ 0x61 ∷ 0x07 ∷ 0x0a ∷ 0x01 ∷ 0x00 ∷ 0x04 ∷ 0x00 ∷ 0x04 ∷ 0x00 ∷ []) ≡ Err (Fault 14 (why.Ber ber_why.TooLarge))
unfolding grammar.reply_at grammar.open_exact grammar.exact grammar.exact_optional grammar.exact_int grammar.message_id grammar.result_code grammar.ldap_result grammar.result_inside grammar.attribute_inside grammar.entry_inside grammar.extended_inside grammar.op_inside grammar.operation grammar.reply_inside open_as open_here tag_in octets int ended many_from header_at header_within least_number integer shortest_length shortest_integer drop_needless
one_byte_left = refl

a_missing_text : reading (0x30 ∷ 0x0a ∷ 0x02 ∷ 0x01 ∷ 0x01 ∷ 0x61 ∷ 0x05 ∷ 0x0a ∷ 0x01 ∷ 0x00 ∷ 0x04 ∷ 0x00 ∷ []) ≡ Err (Fault 5 why.Shape)
unfolding grammar.reply_at grammar.open_exact grammar.exact grammar.exact_optional grammar.exact_int grammar.message_id grammar.result_code grammar.ldap_result grammar.result_inside grammar.attribute_inside grammar.entry_inside grammar.extended_inside grammar.op_inside grammar.operation grammar.reply_inside open_as open_here tag_in octets int ended many_from header_at header_within least_number integer shortest_length shortest_integer drop_needless
a_missing_text = refl

a_result_without_its_last_byte : reading (0x30 ∷ 0x0c ∷ 0x02 ∷ 0x01 ∷ 0x01 ∷ 0x61 ∷ 0x07 ∷ 0x0a ∷ 0x01 ∷ 0x00 ∷ 0x04 ∷ 0x00 ∷ 0x04 ∷ []) ≡ Err More
unfolding grammar.reply_at grammar.open_exact grammar.exact grammar.exact_optional grammar.exact_int grammar.message_id grammar.result_code grammar.ldap_result grammar.result_inside grammar.attribute_inside grammar.entry_inside grammar.extended_inside grammar.op_inside grammar.operation grammar.reply_inside open_as open_here tag_in octets int ended many_from header_at header_within least_number integer shortest_length shortest_integer drop_needless
a_result_without_its_last_byte = refl

-- Worked cases of reading, computed from the definitions, and the spellings that they show.
use Rattle.std.proofs.Common.{◌≡◌, ℕ, List, [], ◌∷◌, length, Some, None, true, false, pos, Ok, Err, refl, subst, arith}
use Rattle.std.proofs.lemmas.List.{take_all}
use Rattle.ber_core.specs.Number.{least_number, integer}
use Rattle.ber_core.specs.Reading.{header_within, header_at}
use Rattle.ber_core.specs.declared.fault.BerWhy.TheVariants as ber_why
use Rattle.ldap_types.specs.declared.request.Request.{Request}
use Rattle.ldap_types.specs.declared.request.Op.TheVariants as op
use Rattle.ldap_types.specs.declared.request.Filter.TheVariants as filter
use Rattle.ber_core.specs.declared.fault.NotLdapWhy.TheVariants as why
use Rattle.ber_core.specs.Window.{Fault, More, tag_in, open_here, open_as, octets, int, boolean, element, skip_one, skip_from, ended, many_from, optional, run_from}
use Rattle.ldap_requests.specs.Grammar.{count, message_id, unbind_inside, delete_inside, pieces, substrings_inside, simple_inside, filter_inside, filter_at, search_inside, op_inside, operation, control_inside, request_inside, request_at}
use Rattle.ldap_requests.specs.Spelling.{Spells}
use Rattle.ber_core.proofs.Sound.{value}
use Rattle.ldap_requests.proofs.SoundMessage.{request_sound}

-- what is read as a whole is a spelling
spelled : (bytes : List ℕ) (r : Request) → request_at 2097152 bytes ≡ Ok (r, length bytes) → Spells bytes r
spelled bytes r e =
    let k = value (request_sound 2097152 bytes) (r, length bytes) e in
    subst (λ (xs : List ℕ). Spells xs r) (take_all (length bytes) bytes (omega arith)) k.2

-- ---- an unbind with the id 9: in the fewest bytes, by a longer integer, by a longer length, with an unknown element after it

unbind : Request
unbind = record { id = 9; op = op.Unbind; controls = [] }

shortest : List ℕ
shortest = 0x30 ∷ 0x05 ∷ 0x02 ∷ 0x01 ∷ 0x09 ∷ 0x42 ∷ 0x00 ∷ []

shortest_read : request_at 2097152 shortest ≡ Ok (unbind, 7)
unfolding shortest unbind request_at request_inside message_id int octets element open_as open_here tag_in operation op_inside unbind_inside optional skip_from header_at header_within integer
shortest_read = refl

shortest_spells : Spells shortest unbind
unfolding shortest
shortest_spells = spelled shortest unbind shortest_read

longer_integer : List ℕ
longer_integer = 0x30 ∷ 0x06 ∷ 0x02 ∷ 0x02 ∷ 0x00 ∷ 0x09 ∷ 0x42 ∷ 0x00 ∷ []

longer_integer_read : request_at 2097152 longer_integer ≡ Ok (unbind, 8)
unfolding longer_integer unbind request_at request_inside message_id int octets element open_as open_here tag_in operation op_inside unbind_inside optional skip_from header_at header_within integer
longer_integer_read = refl

longer_integer_spells : Spells longer_integer unbind
unfolding longer_integer
longer_integer_spells = spelled longer_integer unbind longer_integer_read

longer_length : List ℕ
longer_length = 0x30 ∷ 0x82 ∷ 0x00 ∷ 0x05 ∷ 0x02 ∷ 0x01 ∷ 0x09 ∷ 0x42 ∷ 0x00 ∷ []

longer_length_read : request_at 2097152 longer_length ≡ Ok (unbind, 9)
unfolding longer_length unbind request_at request_inside message_id int octets element open_as open_here tag_in operation op_inside unbind_inside least_number optional skip_from header_at header_within integer
longer_length_read = refl

longer_length_spells : Spells longer_length unbind
unfolding longer_length
longer_length_spells = spelled longer_length unbind longer_length_read

unknown_after : List ℕ
unknown_after = 0x30 ∷ 0x07 ∷ 0x02 ∷ 0x01 ∷ 0x09 ∷ 0x42 ∷ 0x00 ∷ 0x05 ∷ 0x00 ∷ []

unknown_after_read : request_at 2097152 unknown_after ≡ Ok (unbind, 9)
unfolding unknown_after unbind request_at request_inside message_id int octets element open_as open_here tag_in operation op_inside unbind_inside skip_one optional skip_from header_at header_within integer
unknown_after_read = refl

unknown_after_spells : Spells unknown_after unbind
unfolding unknown_after
unknown_after_spells = spelled unknown_after unbind unknown_after_read

-- ---- a delete of x with the critical control 1.2, both followed by unknown elements

delete : Request
delete = record { id = 3; op = op.Delete (0x78 ∷ []); controls = record { oid = 0x31 ∷ 0x2e ∷ 0x32 ∷ []; critical = true; value = None } ∷ [] }

with_control : List ℕ
with_control = 0x30 ∷ 0x16 ∷ 0x02 ∷ 0x01 ∷ 0x03 ∷ 0x4a ∷ 0x01 ∷ 0x78 ∷ 0xa0 ∷ 0x0c ∷ 0x30 ∷ 0x0a ∷ 0x04 ∷ 0x03 ∷ 0x31 ∷ 0x2e ∷ 0x32 ∷ 0x01 ∷ 0x01 ∷ 0x01 ∷ 0x05 ∷ 0x00 ∷ 0x05 ∷ 0x00 ∷ []

with_control_read : request_at 2097152 with_control ≡ Ok (delete, 24)
unfolding with_control delete request_at request_inside message_id int octets element open_as open_here tag_in operation op_inside delete_inside control_inside boolean many_from skip_one optional skip_from header_at header_within integer
with_control_read = refl

with_control_spells : Spells with_control delete
unfolding with_control
with_control_spells = spelled with_control delete with_control_read

-- ---- a search for (cn=a*b*c)

search : Request
search = record {
  id = 2;
  op = op.Search (record {
    base = [];
    scope = pos 2;
    deref = pos 0;
    size_limit = 0;
    time_limit = 0;
    types_only = false;
    filter = filter.Substrings (0x63 ∷ 0x6e ∷ []) (Some (0x61 ∷ [])) ((0x62 ∷ []) ∷ []) (Some (0x63 ∷ []));
    attrs = [];
  });
  controls = [];
}

substrings : List ℕ
substrings = 0x30 ∷ 0x29 ∷ 0x02 ∷ 0x01 ∷ 0x02 ∷ 0x63 ∷ 0x24 ∷ 0x04 ∷ 0x00 ∷ 0x0a ∷ 0x01 ∷ 0x02 ∷ 0x0a ∷ 0x01 ∷ 0x00 ∷ 0x02 ∷ 0x01 ∷ 0x00 ∷ 0x02 ∷ 0x01 ∷ 0x00 ∷ 0x01 ∷ 0x01 ∷ 0x00 ∷ 0xa4 ∷ 0x0f ∷ 0x04 ∷ 0x02 ∷ 0x63 ∷ 0x6e ∷ 0x30 ∷ 0x09 ∷ 0x80 ∷ 0x01 ∷ 0x61 ∷ 0x81 ∷ 0x01 ∷ 0x62 ∷ 0x82 ∷ 0x01 ∷ 0x63 ∷ 0x30 ∷ 0x00 ∷ []

substrings_read : request_at 2097152 substrings ≡ Ok (search, 43)
unfolding substrings search request_at request_inside message_id int octets element open_as open_here tag_in operation op_inside search_inside count boolean many_from filter_at filter_inside simple_inside substrings_inside pieces run_from ended optional skip_from header_at header_within integer
substrings_read = refl

substrings_spells : Spells substrings search
unfolding substrings
substrings_spells = spelled substrings search substrings_read

-- ---- what is no request, and what may still become one

another_tag : request_at 2097152 (0x31 ∷ 0x00 ∷ []) ≡ Err (Fault 0 why.Shape)
unfolding request_at open_as tag_in
another_tag = refl

no_more_yet : request_at 2097152 (0x30 ∷ []) ≡ Err More
unfolding request_at open_as open_here tag_in header_at header_within
no_more_yet = refl

-- no bytes make this a message, since two are too few for what a search must have; but no element of it is at fault yet
no_room : request_at 2097152 (0x30 ∷ 0x05 ∷ 0x02 ∷ 0x01 ∷ 0x01 ∷ 0x63 ∷ []) ≡ Err More
unfolding request_at request_inside message_id int octets element open_as open_here tag_in operation header_at header_within integer
no_room = refl

id_zero : request_at 2097152 (0x30 ∷ 0x05 ∷ 0x02 ∷ 0x01 ∷ 0x00 ∷ 0x42 ∷ 0x00 ∷ []) ≡ Err (Fault 2 why.Id)
unfolding request_at request_inside message_id int octets element open_as open_here tag_in operation op_inside optional skip_from header_at header_within integer
id_zero = refl

no_request : request_at 2097152 (0x30 ∷ 0x05 ∷ 0x02 ∷ 0x01 ∷ 0x01 ∷ 0x61 ∷ 0x00 ∷ []) ≡ Err (Fault 5 why.Op)
unfolding request_at request_inside message_id int octets element open_as open_here tag_in operation op_inside optional skip_from header_at header_within integer
no_request = refl

inner_too_large : request_at 2097152 (0x30 ∷ 0x05 ∷ 0x02 ∷ 0x04 ∷ []) ≡ Err (Fault 2 (why.Ber ber_why.TooLarge))
unfolding request_at request_inside message_id int octets element open_as open_here tag_in operation op_inside optional skip_from header_at header_within integer
inner_too_large = refl

message_too_large : request_at 2097152 (0x30 ∷ 0x83 ∷ 0x20 ∷ 0x00 ∷ 0x00 ∷ []) ≡ Err (Fault 0 why.TooLarge)
unfolding request_at request_inside message_id int octets element open_as open_here tag_in operation op_inside least_number optional skip_from header_at header_within integer
message_too_large = refl

-- Small values of the definitions, by computation.
use Rattle.std.proofs.Common.{◌≡◌, ℕ, [], ◌∷◌, take, replicate, Ok, Err, Some, None, refl}
use Rattle.std.specs.Prelude.{pos, negsuc}
use Rattle.ber_core.specs.declared.fault.BerFault.TheVariants.{More, Bad}
use Rattle.ber_core.specs.declared.fault.BerWhy.TheVariants.{LongTag, Indefinite, LengthForm, TooLarge}
use Rattle.ber_core.specs.Number.{least_number, integer, integer_of, boolean_of, drop_needless, shortest_integer}
use Rattle.ber_core.specs.Element.{shortest_length, element}
use Rattle.ber_core.specs.Reading.{header_within, header_at, element_at}

abbrev limit : ℕ
limit = 2097152

-- ---- elements

a_longer_length_than_needed : element_at limit (0x04 ∷ 0x82 ∷ 0x00 ∷ 0x01 ∷ 0x41 ∷ []) ≡ Ok (record { tag = 4; body = 0x41 ∷ []; size = 5 })
unfolding element_at header_at header_within least_number
a_longer_length_than_needed = refl

one_byte_is_missing : element_at limit (0x04 ∷ 0x02 ∷ 0x41 ∷ []) ≡ Err (More 1)
unfolding element_at header_at header_within
one_byte_is_missing = refl

the_indefinite_length : element_at limit (0x04 ∷ 0x80 ∷ []) ≡ Err (Bad 1 Indefinite)
unfolding element_at header_at header_within
the_indefinite_length = refl

nine_digits : element_at limit (0x04 ∷ 0x89 ∷ []) ≡ Err (Bad 1 LengthForm)
unfolding element_at header_at header_within
nine_digits = refl

a_long_tag : element_at limit (0x1f ∷ 0x00 ∷ []) ≡ Err (Bad 0 LongTag)
unfolding element_at header_at header_within
a_long_tag = refl

digits_that_may_be_zeros : element_at limit (0x04 ∷ 0x83 ∷ 0x01 ∷ []) ≡ Err (More 65538)
unfolding element_at header_at header_within least_number
digits_that_may_be_zeros = refl

too_large_by_the_first_digit : element_at limit (0x04 ∷ 0x84 ∷ 0x7f ∷ []) ≡ Err (Bad 0 TooLarge)
unfolding element_at header_at header_within least_number
too_large_by_the_first_digit = refl

at_the_limit : element_at 5 (0x04 ∷ 0x03 ∷ []) ≡ Err (More 3)
unfolding element_at header_at header_within
at_the_limit = refl

above_the_limit : element_at 4 (0x04 ∷ 0x03 ∷ []) ≡ Err (Bad 0 TooLarge)
unfolding element_at header_at header_within
above_the_limit = refl

-- one byte is no element, so the fault is there before that byte is
no_room_for_an_element : element_at 1 [] ≡ Err (Bad 0 TooLarge)
unfolding element_at header_at header_within
no_room_for_an_element = refl

a_header_without_its_content : header_at limit (0x30 ∷ 0x81 ∷ 0xc8 ∷ []) ≡ Ok (record { tag = 0x30; size = 3; content = 200 })
unfolding header_at header_within least_number
a_header_without_its_content = refl

-- ---- what is written

zero_is_one_byte : element 2 (shortest_integer (pos 0)) ≡ 0x02 ∷ 0x01 ∷ 0x00 ∷ []
unfolding element shortest_length shortest_integer drop_needless
zero_is_one_byte = refl

a_zero_stands_before_a_set_bit : element 2 (shortest_integer (pos 128)) ≡ 0x02 ∷ 0x02 ∷ 0x00 ∷ 0x80 ∷ []
unfolding element shortest_length shortest_integer drop_needless
a_zero_stands_before_a_set_bit = refl

minus_one_is_one_byte : element 2 (shortest_integer (negsuc 0)) ≡ 0x02 ∷ 0x01 ∷ 0xff ∷ []
unfolding element shortest_length shortest_integer drop_needless
minus_one_is_one_byte = refl

two_hundred_bytes : take 3 (element 4 (let b : ℕ = 65 in replicate 200 b)) ≡ 0x04 ∷ 0x81 ∷ 0xc8 ∷ []
unfolding element shortest_length
two_hundred_bytes = refl

-- ---- integers and truth values

minus_129 : integer_of (0xff ∷ 0x7f ∷ []) ≡ Some (negsuc 128)
unfolding integer
minus_129 = refl

needless_bytes_in_front : integer_of (0xff ∷ 0xff ∷ 0x80 ∷ []) ≡ Some (negsuc 127)
unfolding integer
needless_bytes_in_front = refl

nine_bytes : integer_of (0 ∷ 0 ∷ 0 ∷ 0 ∷ 0 ∷ 0 ∷ 0 ∷ 0 ∷ 1 ∷ []) ≡ None
unfolding integer
nine_bytes = refl

any_byte_but_zero_is_true : boolean_of (0x01 ∷ []) ≡ boolean_of (0xff ∷ [])
any_byte_but_zero_is_true = refl

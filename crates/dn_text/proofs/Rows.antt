-- Names, by computation.
use Rattle.std.proofs.Common.{◌≡◌, [], ◌∷◌, Ok, Err, codes, refl}
use Rattle.attr_keys.specs.Name.{bad_from}
use Rattle.attr_keys.specs.Table.{types, type_of, key_of, kind_of}
use Rattle.attr_keys.specs.Value.{bad_value, bad_number_from, prepared, value_key}
use Rattle.dn_text.specs.declared.fault.DnFault.TheVariants.{BadDn}
use Rattle.dn_text.specs.declared.fault.DnWhy.TheVariants.{Char, HexForm, Empty, NoEquals, Twice, Value}
use Rattle.dn_text.specs.Split.{bare_len, pieces_from, space_count, kept_from}
use Rattle.dn_text.specs.Escape.{escapes_from, value_from}
use Rattle.dn_text.specs.Reading.{attr_in, value_in, without_equals, part_in, parts_in, rdn_in, rdns_in, dn_in}

pub empty_name : dn_in [] ≡ Ok (record { rdns = [] })
unfolding dn_in
empty_name = refl

pub no_equals : dn_in (codes "cn") ≡ Err (BadDn 2 NoEquals)
unfolding dn_in rdns_in rdn_in parts_in part_in without_equals bare_len pieces_from space_count escapes_from
no_equals = refl

pub hex_form : dn_in (codes "cn=#0441") ≡ Err (BadDn 3 HexForm)
unfolding dn_in rdns_in rdn_in parts_in part_in attr_in value_in bare_len pieces_from space_count kept_from bad_from
hex_form = refl

pub empty_rdn : dn_in (codes "uidnumber=1,") ≡ Err (BadDn 12 Empty)
unfolding dn_in rdns_in rdn_in parts_in part_in attr_in value_in without_equals bare_len pieces_from space_count kept_from bad_from types type_of key_of kind_of value_from bad_value bad_number_from prepared value_key
empty_rdn = refl

pub twice : dn_in (codes "uidnumber=1 + UIDNumber=2") ≡ Err (BadDn 14 Twice)
unfolding dn_in rdns_in rdn_in parts_in part_in attr_in value_in without_equals bare_len pieces_from space_count kept_from bad_from types type_of key_of kind_of value_from bad_value bad_number_from prepared value_key
twice = refl

pub bad_value_place : dn_in (codes "uidnumber= 007 ,dc=x") ≡ Err (BadDn 11 Value)
unfolding dn_in rdns_in rdn_in parts_in part_in attr_in value_in without_equals bare_len pieces_from space_count kept_from bad_from types type_of key_of kind_of value_from bad_value bad_number_from prepared value_key
bad_value_place = refl

pub open_escape : dn_in (codes "mobile=1\\2") ≡ Err (BadDn 8 Char)
unfolding dn_in rdns_in rdn_in parts_in part_in attr_in value_in without_equals bare_len pieces_from space_count kept_from bad_from types type_of key_of kind_of value_from bad_value bad_number_from prepared value_key
open_escape = refl

-- the escaped space at the end stays, and the parts come in order of attribute
pub escaped : dn_in (codes "uidnumber=-5 + mobile= \\2B1\\  ") ≡ Ok (record {
  rdns = (record {
    avas =
        record { attr = record { name = codes "mobile" }; val = record { key = codes "+1"; spelled = codes "+1 " } }
        ∷ record { attr = record { name = codes "uidnumber" }; val = record { key = codes "-5"; spelled = codes "-5" } }
        ∷ [];
  }) ∷ [];
})
unfolding dn_in rdns_in rdn_in parts_in part_in attr_in value_in without_equals bare_len pieces_from space_count kept_from bad_from types type_of key_of kind_of value_from bad_value bad_number_from prepared value_key
escaped = refl

-- Worked rows, by computation.
use Rattle.std.proofs.Common.{◌≡◌, ℕ, List, [], ◌∷◌, ◌++◌, take, Ok, Err, refl}
use Rattle.std.specs.Prelude.{codes}
use Rattle.ber_core.specs.declared.fault.BerWhy.TheVariants as ber_why
use Rattle.ber_core.specs.Element.{shortest_length, element}
use Rattle.ber_core.specs.Number.{least_number, drop_needless, shortest_integer}
use Rattle.ber_core.specs.Reading.{header_within, header_at, element_at}
use Rattle.repl_data.specs.declared.csn.Csn.{Csn}
use Rattle.repl_data.specs.declared.change.Change.{Change}
use Rattle.repl_data.specs.declared.change.ModKind.TheVariants as mod_kind
use Rattle.repl_data.specs.declared.change.Body.TheVariants as body
use Rattle.row_bytes.specs.declared.fault.RowWhy.TheVariants as why
use Rattle.row_bytes.specs.Form.{val_bytes, ava_bytes, attr_bytes, mod_bytes, row_of}
use Rattle.row_bytes.specs.Place.{At, tag_in, open_here, open_as, open_exact, exact, ended, many_from}
use Rattle.row_bytes.specs.Grammar as grammar

abbrev made : ℕ → Csn
made second = record { time = second; seq = 0; rid = 1; sub = 0 }

-- ---- a deletion

abbrev deletion : Change
deletion = record { csn = made 101; target = record { csn = made 100 }; body = body.Del }

abbrev deletion_bytes : List ℕ
deletion_bytes = 0x30 ∷ 0x1d ∷ 0x02 ∷ 0x01 ∷ 0x01 ∷ 0x04 ∷ 0x0a ∷ 0x00 ∷ 0x00 ∷ 0x00 ∷ 0x65 ∷ 0x00 ∷ 0x00 ∷ 0x00 ∷ 0x01 ∷ 0x00 ∷ 0x00 ∷ 0x04 ∷ 0x0a ∷ 0x00 ∷ 0x00 ∷ 0x00 ∷ 0x64 ∷ 0x00 ∷ 0x00 ∷ 0x00 ∷ 0x01 ∷ 0x00 ∷ 0x00 ∷ 0x83 ∷ 0x00 ∷ []

a_deletion : row_of deletion ≡ deletion_bytes
unfolding row_of val_bytes ava_bytes attr_bytes mod_bytes element shortest_length shortest_integer drop_needless
a_deletion = refl

the_deletion_is_read : grammar.row_at deletion_bytes ≡ Ok deletion
unfolding grammar.row_at grammar.row_inside grammar.body_here grammar.body_inside grammar.add_inside grammar.mods_inside grammar.ren_inside grammar.del_inside grammar.mod_inside grammar.attr_inside grammar.ava_inside grammar.val_inside grammar.version_inside grammar.kind_inside grammar.csn_inside exact open_exact open_as open_here tag_in ended many_from element_at header_at header_within least_number shortest_length
the_deletion_is_read = refl

the_deletion_without_its_last_byte : grammar.row_at (take 30 deletion_bytes) ≡ Err (At 0 (why.Ber ber_why.TooLarge))
unfolding grammar.row_at grammar.row_inside grammar.body_here grammar.body_inside grammar.add_inside grammar.mods_inside grammar.ren_inside grammar.del_inside grammar.mod_inside grammar.attr_inside grammar.ava_inside grammar.val_inside grammar.version_inside grammar.kind_inside grammar.csn_inside exact open_exact open_as open_here tag_in ended many_from element_at header_at header_within least_number shortest_length
the_deletion_without_its_last_byte = refl

bytes_after_the_deletion : grammar.row_at (deletion_bytes ++ 0x05 ∷ 0x00 ∷ []) ≡ Err (At 31 why.Shape)
unfolding grammar.row_at grammar.row_inside grammar.body_here grammar.body_inside grammar.add_inside grammar.mods_inside grammar.ren_inside grammar.del_inside grammar.mod_inside grammar.attr_inside grammar.ava_inside grammar.val_inside grammar.version_inside grammar.kind_inside grammar.csn_inside exact open_exact open_as open_here tag_in ended many_from element_at header_at header_within least_number shortest_length
bytes_after_the_deletion = refl

-- ---- modifications of each kind

abbrev modified : Change
modified = record {
  csn = made 101;
  target = record { csn = made 100 };
  body =
      body.Mod (
      record { kind = mod_kind.Replace; attr = record { name = codes "sn" }; vals = record { key = codes "b"; spelled = codes "B" } ∷ [] }
      ∷ record { kind = mod_kind.Delete; attr = record { name = codes "cn" }; vals = [] }
      ∷ record { kind = mod_kind.Add; attr = record { name = codes "l" }; vals = [] } ∷ []);
}

abbrev modified_bytes : List ℕ
modified_bytes = (0x30 ∷ 0x45 ∷ 0x02 ∷ 0x01 ∷ 0x01 ∷ 0x04 ∷ 0x0a ∷ 0x00 ∷ 0x00 ∷ 0x00 ∷ 0x65 ∷ 0x00 ∷ 0x00 ∷ 0x00 ∷ 0x01 ∷ 0x00 ∷ 0x00 ∷ 0x04 ∷ 0x0a ∷ 0x00 ∷ 0x00 ∷ 0x00 ∷ 0x64 ∷ 0x00 ∷ 0x00 ∷ 0x00 ∷ 0x01 ∷ 0x00 ∷ 0x00 ∷ [])
    ++ 0xa1 ∷ 0x28 ∷ 0x30 ∷ 0x11 ∷ 0x02 ∷ 0x01 ∷ 0x02 ∷ 0x04 ∷ 0x02 ∷ 0x73 ∷ 0x6e ∷ 0x30 ∷ 0x08 ∷ 0x30 ∷ 0x06 ∷ 0x04 ∷ 0x01 ∷ 0x62 ∷ 0x04 ∷ 0x01 ∷ 0x42 ∷ 0x30 ∷ 0x09 ∷ 0x02 ∷ 0x01 ∷ 0x01 ∷ 0x04 ∷ 0x02 ∷ 0x63 ∷ 0x6e ∷ 0x30 ∷ 0x00 ∷ 0x30 ∷ 0x08 ∷ 0x02 ∷ 0x01 ∷ 0x00 ∷ 0x04 ∷ 0x01 ∷ 0x6c ∷ 0x30 ∷ 0x00 ∷ []

modifications : row_of modified ≡ modified_bytes
unfolding row_of val_bytes ava_bytes attr_bytes mod_bytes element shortest_length shortest_integer drop_needless
modifications = refl

the_modifications_are_read : grammar.row_at modified_bytes ≡ Ok modified
unfolding grammar.row_at grammar.row_inside grammar.body_here grammar.body_inside grammar.add_inside grammar.mods_inside grammar.ren_inside grammar.del_inside grammar.mod_inside grammar.attr_inside grammar.ava_inside grammar.val_inside grammar.version_inside grammar.kind_inside grammar.csn_inside exact open_exact open_as open_here tag_in ended many_from element_at header_at header_within least_number shortest_length
the_modifications_are_read = refl

-- How a vector is written: one text for each entry.
use Rattle.std.specs.Prelude.{◌≡◌, ◌≢◌, ℕ, ◌<◌, List, ◌++◌, map, codes, length, slice_index_or}
use Rattle.std.specs.List.{All}
use Rattle.std.specs.Fmt.{decimal}
use Rattle.repl_data.specs.declared.csn.Csn.{Csn}
use Rattle.repl_data.specs.Order.{zero_csn}
use Rattle.repl_data.specs.Text.{IsInRange, csn_text}

-- what stands before the CSN: the replica id and the name of its node
unfoldable pub replica_text : ℕ → List ℕ
replica_text rid = codes "{replica " ++ decimal rid ++ codes " ldap://node" ++ decimal rid ++ codes "} "

-- the text of one entry
abbrev pub entry_text : Csn → List ℕ
entry_text csn = replica_text csn.rid ++ csn_text csn

-- a CSN that a text may have: its parts are in range, and its replica id is that of a supplier
pub record IsEntry (csn : Csn) : Type 0 where
  pub in_range : IsInRange csn
  pub from_1 : 0 < csn.rid
  pub to_65534 : csn.rid < 65535

-- the texts of these CSNs, no two of one replica
pub record IsVectorText (texts : List (List ℕ)) (csns : List Csn) : Type 0 where
  pub spelled : texts ≡ map entry_text csns
  pub entries : All IsEntry csns
  pub distinct : (i j : ℕ) → i < j → j < length csns → (slice_index_or csns i zero_csn).rid ≢ (slice_index_or csns j zero_csn).rid

-- THE ROOT ENTRY, which tells of the server (RFC 4512, section 5.1), and the entry of the update vector. They stand in
-- no set of changes.
use Rattle.std.specs.Prelude.{ℕ, false, List, [], ◌∷◌, ◌++◌, map, codes, unwrap_or}
use Rattle.repl_data.specs.declared.csn.Uid.{Uid}
use Rattle.repl_data.specs.declared.change.Val.{Val}
use Rattle.repl_data.specs.declared.change.Rdn.{Rdn}
use Rattle.repl_data.specs.declared.change.Shown.{Shown}
use Rattle.repl_data.specs.declared.change.ShownEntry.{ShownEntry}
use Rattle.repl_data.specs.Order.{suffix_id, bytes_cmp, in_order_by}
use Rattle.repl_data.specs.Stamps.{text_val}
use Rattle.repl_data.specs.Text.{joined, rdn_text}
use Rattle.repl_data.specs.View.{key_named, operational, tombstone_class}
use Rattle.attr_keys.specs.declared.kind.Kind.TheVariants.{Dir}
use Rattle.filter_truth.specs.Truth.{value_of}

-- a value with the key of its text, and of bytes that are no text with these bytes
abbrev pub directory_val : List ℕ → Val
directory_val text = record { key = unwrap_or (value_of Dir text) text; spelled = text }

abbrev pub shown_attr : List ℕ → List Val → Shown
shown_attr name vals = record { attr = key_named name; vals = vals; operational = false }

-- the suffix that it holds, its class, and the version of the protocol
abbrev pub root_entry : List ℕ → ShownEntry
root_entry suffix = record {
  id = suffix_id;
  dn = [];
  attrs =
      shown_attr (codes "namingcontexts") (directory_val suffix ∷ [])
      ∷ shown_attr (codes "objectclass") (text_val (codes "top") ∷ [])
      ∷ shown_attr (codes "supportedldapversion") (text_val (codes "3") ∷ []) ∷ [];
}

-- the id that the entry of the vector shows. (As an id it has the greatest CSN, which nobody draws.)
abbrev pub vector_id : List ℕ
vector_id = codes "ffffffff-ffffffff-ffffffff-ffffffff"

abbrev pub vector_uid : Uid
vector_uid = record { csn = record { time = 4294967295; seq = 65535; rid = 65535; sub = 65535 } }

abbrev pub vector_rdn : Rdn
vector_rdn = record { avas = record { attr = key_named (codes "nsuniqueid"); val = text_val vector_id } ∷ [] }

-- the texts of the vector in order of key, its id and its classes
abbrev pub vector_vals : List (List ℕ) → List Val
vector_vals vector = in_order_by (λ (v : Val). v.key) bytes_cmp (map directory_val vector)

abbrev pub vector_attrs : List (List ℕ) → List Shown
vector_attrs vector =
    operational (codes "nsds50ruv") (vector_vals vector)
    ++ (operational (codes "nsuniqueid") (text_val vector_id ∷ [])
    ++ shown_attr (codes "objectclass") (tombstone_class ∷ text_val (codes "top") ∷ []) ∷ [])

abbrev pub vector_entry : List ℕ → List (List ℕ) → ShownEntry
vector_entry suffix vector = record {
  id = vector_uid;
  dn = joined (codes ",") (rdn_text vector_rdn ∷ suffix ∷ []);
  attrs = vector_attrs vector;
}

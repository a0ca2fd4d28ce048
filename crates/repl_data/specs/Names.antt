-- SHOWN NAMES: which of the present entries with one parent and one RDN key has the name.
use Rattle.std.specs.Prelude.{ℕ, Bool, not, ◌&&◌, ◌||◌, List, codes, if◌then◌else◌}
use Rattle.std.specs.List.{list_any}
use Rattle.repl_data.specs.declared.csn.Uid.{Uid}
use Rattle.repl_data.specs.declared.change.Ava.{Ava}
use Rattle.repl_data.specs.declared.change.Rdn.{Rdn}
use Rattle.repl_data.specs.Order.{csn_lt, same_rdn, rdn_key, put_by, bytes_cmp, bytes_eq}
use Rattle.repl_data.specs.Text.{uid_text}
use Rattle.repl_data.specs.Stamps.{text_val}
use Rattle.repl_data.specs.Facts.{EntryFacts}
use Rattle.repl_data.specs.Presence.{is_live, is_child}

-- whether a and b contend for one name
abbrev pub contends_with : EntryFacts → EntryFacts → Bool
contends_with a b = is_child a.parent b && same_rdn a.rdn b.rdn

-- a live entry before glue, and then the one whose name has the lesser CSN
abbrev pub is_before : EntryFacts → EntryFacts → Bool
is_before a b = (is_live a && not (is_live b)) || ((is_live a || not (is_live b)) && csn_lt a.named b.named)

-- whether e has its name among the present entries: no other contender is before it
abbrev pub has_name : List EntryFacts → EntryFacts → Bool
has_name present e = not (list_any (λ f. contends_with e f && is_before f e) present)

abbrev pub id_ava : Uid → Ava
id_ava u = record { attr = record { name = codes "nsuniqueid" }; val = text_val (uid_text u) }

-- the id joined to a relative name
abbrev pub with_id : Uid → Rdn → Rdn
with_id u rdn = record { avas = put_by (λ (a : Ava). a.attr.name) bytes_cmp (id_ava u) rdn.avas }

abbrev pub shown_rdn : List EntryFacts → EntryFacts → Rdn
shown_rdn present e = if has_name present e then e.rdn else with_id e.id e.rdn

-- whether a name has a part of its own for the id
abbrev pub is_id_part : List ℕ × List ℕ → Bool
is_id_part p = bytes_eq p.0 (codes "nsuniqueid")

abbrev pub has_id : Rdn → Bool
has_id rdn = list_any is_id_part (rdn_key rdn)

-- NAMES BY THEIR KEYS: what a view and a name contest make of a name, which is looked at by its keys alone.
use Rattle.std.specs.Prelude.{◌&&◌, List, Option, option_map, filter}
use Rattle.repl_data.specs.declared.csn.Uid.{Uid}
use Rattle.repl_data.specs.declared.change.Rdn.{Rdn}
use Rattle.repl_data.specs.Order.{same_rdn}
use Rattle.repl_data.specs.Facts.{EntryFacts}
use Rattle.repl_data.specs.Presence.{is_child}
use Rattle.repl_data.specs.View.{DirectoryView}
use Rattle.dn_text.specs.declared.name.Dn.{Dn}
use Rattle.dn_text.specs.Reading.{dn_in}
use Rattle.dn_text.specs.declared.place.Place.{Place}
use Rattle.dn_text.specs.Names.{rdns_above, place_of}

-- where a name leads in a view, if it is the suffix or below it
abbrev pub place_of_name : DirectoryView → Dn → Option Place
place_of_name v name = option_map (place_of v) (rdns_above (dn_in v.suffix) name)

-- of these present entries, those that contend for this RDN below the parent
abbrev pub contenders_for : List EntryFacts → Uid → Rdn → List EntryFacts
contenders_for present parent rdn = filter (λ (e : EntryFacts). is_child parent e && same_rdn e.rdn rdn) present

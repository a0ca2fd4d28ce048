-- A view grows by an entry that is added: which names the others lose to it, and how it shows itself.
use Rattle.std.specs.Prelude.{◌≡◌, Bool, true, false, not, ◌&&◌, List, [], ◌∷◌, map, if◌then◌else◌}
use Rattle.std.specs.List.{list_any, AllByRecursion}
use Rattle.std.specs.Ordering.{is_lt}
use Rattle.std.specs.declared.cmp.Ordering.TheVariants.{Less}
use Rattle.repl_data.specs.declared.change.Rdn.{Rdn}
use Rattle.repl_data.specs.declared.change.Body.{Body}
use Rattle.repl_data.specs.declared.change.Body.TheVariants.{Add}
use Rattle.repl_data.specs.declared.change.Change.{Change}
use Rattle.repl_data.specs.declared.change.Suffix.{Suffix}
use Rattle.repl_data.specs.declared.csn.Uid.{Uid}
use Rattle.repl_data.specs.Order.{uid_cmp, uid_eq, same_rdn, put_by}
use Rattle.repl_data.specs.Facts.{EntryFacts, attrs_shown, own_facts}
use Rattle.repl_data.specs.Presence.{is_live, is_child}
use Rattle.repl_data.specs.Names.{with_id}
use Rattle.repl_data.specs.View.{DirectoryView, PresentEntry, is_shown_below, lost_name}

-- the change adds its target
abbrev pub adds_entry : Body → Bool
adds_entry (Add parent rdn attrs) = true
adds_entry _ = false

abbrev pub is_add : Change → Bool
is_add c = adds_entry c.body

-- what a change says alone of its target, which is not the suffix entry
abbrev pub no_suffix : Suffix
no_suffix = record { name = []; rdn = record { avas = [] } }

unfoldable pub facts_alone : Change → EntryFacts
facts_alone c = own_facts no_suffix c.target (c ∷ [])

-- the new entry f takes the name of the entry e: it contends for it and has the lower id
unfoldable pub gives_way : EntryFacts → PresentEntry → Bool
gives_way f e = is_child e.parent f && same_rdn e.name f.rdn && is_lt (uid_cmp f.id e.id)

-- the entry e keeps the name that the new entry f contends for
unfoldable pub stands_before : EntryFacts → PresentEntry → Bool
stands_before f e = is_shown_below f.parent e && same_rdn f.rdn e.name && is_lt (uid_cmp e.id f.id)

-- the entry loses to f the name that it shows
unfoldable pub yields : EntryFacts → PresentEntry → Bool
yields f e = gives_way f e && not (lost_name e)

-- the name with the id joined to it
abbrev pub joined_name : PresentEntry → Rdn
joined_name e = with_id e.id e.name

abbrev pub joined : PresentEntry → PresentEntry
joined e = record e { shown = joined_name e }

unfoldable pub renamed : EntryFacts → PresentEntry → PresentEntry
renamed f e = if yields f e then joined e else e

-- the new entry, where it contends with none and among those that are present
unfoldable pub fresh : EntryFacts → PresentEntry
fresh f = record { id = f.id; parent = f.parent; name = f.rdn; shown = f.rdn; is_glue = not (is_live f); attrs = attrs_shown f }

unfoldable pub placed : EntryFacts → List PresentEntry → PresentEntry
placed f present = if list_any (stands_before f) present then joined (fresh f) else fresh f

abbrev pub id_of : PresentEntry → Uid
id_of e = e.id

-- the view with the new entry at its place by id
abbrev pub grown : EntryFacts → DirectoryView → DirectoryView
grown f v = record v { present = map (renamed f) (put_by id_of uid_cmp (placed f v.present) v.present) }

-- each id is below all later ones
abbrev pub HasRisingIds : List PresentEntry → Type 0
HasRisingIds [] = Unit {0}
HasRisingIds (e ∷ es) = AllByRecursion (λ d. uid_cmp e.id d.id ≡ Less) es × HasRisingIds es

-- an entry has the id
abbrev pub is_among_present : List PresentEntry → Uid → Bool
is_among_present present u = list_any (λ (e : PresentEntry). uid_eq e.id u) present

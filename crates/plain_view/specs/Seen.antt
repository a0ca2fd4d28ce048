-- What the program's own types stand for.
use Rattle.plain_view.specs.declared.acts.Act.{Act as OwnedAct}
use Rattle.plain_view.specs.declared.acts.Act.TheVariants.{Adds as OwnedAdds, Deletes as OwnedDeletes, Clears as OwnedClears}
use Rattle.std.specs.Prelude.{Bool, ◌&&◌, not}
use Rattle.repl_data.specs.Names.{shown_rdn}
use Rattle.repl_data.specs.Presence.{is_live}
use Rattle.repl_data.specs.View.{PresentEntry, Tombstone}
use Rattle.std.specs.Prelude.{List}
use Rattle.repl_data.specs.declared.change.Attr.{Attr}
use Rattle.repl_data.specs.declared.change.Shown.{Shown}
use Rattle.repl_data.specs.Facts.{EntryFacts, attrs_shown}
use Rattle.repl_data.specs.Names.{contends_with, is_before}
use Rattle.repl_data.specs.Stamps.{Act, Adds, Deletes, Clears}

-- the act that a kept one is
abbrev pub act_of : OwnedAct → Act
act_of (OwnedAdds stamp attr val) = Adds stamp attr val
act_of (OwnedDeletes stamp attr val) = Deletes stamp attr val
act_of (OwnedClears stamp attr) = Clears stamp attr

-- the entry loses its name to another one
unfoldable pub loses_to : EntryFacts → EntryFacts → Bool
loses_to e f = contends_with e f && is_before f e

-- an attribute that is kept to be shown
abbrev pub kept : Shown → Attr
kept s = record { attr = s.attr; vals = s.vals }

-- an entry of the view, by what is known of it
unfoldable pub present_entry : List EntryFacts → EntryFacts → PresentEntry
present_entry present e = record { id = e.id; parent = e.parent; name = e.rdn; shown = shown_rdn present e; is_glue = not (is_live e); attrs = attrs_shown e }

unfoldable pub tombstone : EntryFacts → Tombstone
tombstone e = record { id = e.id; parent = e.parent; name = e.rdn; attrs = attrs_shown e }

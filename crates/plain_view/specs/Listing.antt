-- What is sorted for the answers that stand in order of name.
use Rattle.std.specs.Prelude.{reverse}
use Rattle.repl_data.specs.View.{DirectoryView, PresentEntry, path_of, present_shown}
use Rattle.plain_view.specs.declared.view.Child.{Child}
use Rattle.plain_view.specs.declared.view.Listed.{Listed}

-- a child with what orders it
abbrev pub child : PresentEntry → Child
child e = record { shown = e.shown; id = e.id }

-- a present entry with its relative names from the suffix down
unfoldable pub listed : DirectoryView → PresentEntry → Listed
listed v e = record { path = reverse (path_of v e.id); shown = present_shown v e }

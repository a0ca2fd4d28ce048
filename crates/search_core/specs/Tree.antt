-- WHICH VIEWS ARE SEARCHED: a tree of names, in which the attributes of each entry stand in order of name. The view of
-- a closed set of changes is such.
use Rattle.std.specs.Prelude.{ℕ, List}
use Rattle.std.specs.List.{AllByRecursion}
use Rattle.repl_data.specs.declared.change.Attr.{Attr}
use Rattle.repl_data.specs.Ordered.{Rises}
use Rattle.repl_data.specs.View.{DirectoryView, PresentEntry, Tombstone}
use Rattle.view_walk.specs.Tree.{IsNamedTree}

abbrev pub attr_name : Attr → List ℕ
attr_name a = a.attr.name

abbrev pub HasRisingAttrs : PresentEntry → Type 0
HasRisingAttrs e = Rises attr_name e.attrs

abbrev pub HadRisingAttrs : Tombstone → Type 0
HadRisingAttrs e = Rises attr_name e.attrs

pub record IsTree (v : DirectoryView) : Type 0 where
  pub names : IsNamedTree v
  pub attrs : AllByRecursion HasRisingAttrs v.present
  pub gone : AllByRecursion HadRisingAttrs v.gone

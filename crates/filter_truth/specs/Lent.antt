-- WHAT AN ENTRY SHOWS, looked at where it is kept, and what can't be told without making it.
use Rattle.std.specs.Prelude.{ℕ, Bool, true, false, ◌&&◌, List, [], ◌≡◌, codes, Option, Some, None}
use Rattle.std.specs.List.{list_any}
use Rattle.repl_data.specs.declared.change.Shown.{Shown}
use Rattle.repl_data.specs.declared.change.ShownEntry.{ShownEntry}
use Rattle.repl_data.specs.declared.csn.Uid.{Uid}
use Rattle.repl_data.specs.declared.view.Standing.{Standing}
use Rattle.repl_data.specs.Order.{bytes_eq}
use Rattle.repl_data.specs.Text.{uid_text}
use Rattle.repl_data.specs.View.{DirectoryView, entry_of, tombstone_of}
use Rattle.repl_data.specs.Lent.{standing_of}
use Rattle.filter_truth.specs.declared.test.Test.{Test}
use Rattle.filter_truth.specs.declared.test.Test.TheVariants.{Any}
use Rattle.filter_truth.specs.declared.test.Assertion.{Assertion}
use Rattle.filter_truth.specs.declared.prepared.Prepared.{Prepared, fold-Prepared}
use Rattle.filter_truth.specs.declared.prepared.Prepared.TheOpen.{Prepared-F}
use Rattle.filter_truth.specs.Truth.{Shows, shows}

abbrev pub attrs_of : Option ShownEntry → List Shown
attrs_of None = []
attrs_of (Some e) = e.attrs

-- what the present entry of this id shows, and nothing where there is none
abbrev pub shown_at : DirectoryView → Uid → Shows
shown_at v u = shows (attrs_of (entry_of v u))

-- what the tombstone of this id shows, and nothing where there is none
abbrev pub gone_shown_at : DirectoryView → Uid → Shows
gone_shown_at v u = shows (attrs_of (tombstone_of v u))

-- whether the text of an id passes, where there is one
abbrev pub id_passes : (List ℕ → Bool) → Option Uid → Bool
id_passes test None = false
id_passes test (Some u) = test (uid_text u)

-- ---- what can't be told without making it: the printed name that an entry lost

abbrev pub lost_of : Option Standing → Bool
lost_of None = false
lost_of (Some s) = s.lost

abbrev pub has_lost : DirectoryView → Uid → Bool
has_lost v u = lost_of (standing_of v u)

-- whether a test looks at the value
abbrev pub looks : Test → Bool
looks Any = false
looks _ = true

-- whether an assertion looks at the values that tell of lost names
abbrev pub looks_at_names : Assertion → Bool
looks_at_names a = bytes_eq a.attr.name (codes "nsds5replconflict") && looks a.test

-- whether one inside the filter does
abbrev pub names_step : Prepared-F Bool → Bool
names_step (Prepared-F.And inside) = list_any (λ b. b) inside
names_step (Prepared-F.Or inside) = list_any (λ b. b) inside
names_step (Prepared-F.Not b) = b
names_step (Prepared-F.Asserts a) = looks_at_names a
names_step Prepared-F.Unreadable = false
names_step Prepared-F.Nowhere = false

unfoldable pub asks_names : Prepared → Bool
asks_names p = fold-Prepared Bool names_step p

-- the entry lost its name, and the filter looks at the values that tell of it
pub record IsUntold (v : DirectoryView) (u : Uid) (names : Bool) : Type 0 where
  pub lost : has_lost v u ≡ true
  pub asked : names ≡ true

-- A compare by what a search finds is a compare by the rules.
use Rattle.std.specs.Prelude.{◌≡◌, ℕ, false, List}
use Rattle.repl_data.specs.Check.{is_empty}
use Rattle.repl_data.specs.View.{DirectoryView}
use Rattle.ldap_types.specs.declared.request.Control.{Control}
use Rattle.ldap_rules.specs.Compare.{compare_verdict}
use Rattle.search_core.specs.Search.{search}
use Rattle.search_core.specs.Tree.{IsTree}
use Rattle.conn_core.specs.Serving.{either, compare_on}

-- on every view that may be searched, below a suffix that is not the empty name, whatever its vector is
abbrev pub ComparesByRules : Type 0
ComparesByRules =
    (v : DirectoryView) (vector : List (List ℕ)) (controls : List Control) (object name value : List ℕ) → IsTree v → is_empty v.suffix ≡ false →
    compare_on (search v vector) controls object name value ≡ either (compare_verdict v controls object name value)

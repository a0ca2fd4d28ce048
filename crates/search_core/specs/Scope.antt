-- THE SCOPE of a search (RFC 4511, section 4.5.1.2), with the entries in it in the order of a listing.
use Rattle.std.specs.Prelude.{ℤ, pos, List, [], ◌∷◌, Option, Some, None, if◌then◌else◌}
use Rattle.std.specs.Ordering.{int_eq}
use Rattle.repl_data.specs.declared.csn.Uid.{Uid}
use Rattle.repl_data.specs.View.{DirectoryView, children_of}
use Rattle.view_walk.specs.Walk.{subtree}
use Rattle.search_core.specs.declared.scope.Scope.{Scope}
use Rattle.search_core.specs.declared.scope.Scope.TheVariants.{Base, Children, Subtree}

abbrev pub scope_of : ℤ → Option Scope
scope_of scope =
    if int_eq scope (pos 0) then Some Base
    else if int_eq scope (pos 1) then Some Children
    else if int_eq scope (pos 2) then Some Subtree
    else None

-- the base, its children by the RDNs that they show, or the base with all below it, parents first
abbrev pub in_scope : DirectoryView → Scope → Uid → List Uid
in_scope v Base base = base ∷ []
in_scope v Children base = children_of v base
in_scope v Subtree base = subtree v base

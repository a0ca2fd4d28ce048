use Rattle.std.proofs.Common.{◌≡◌, take}
use Rattle.search_core.specs.Selection.{keys_of}
use Rattle.search_core.proofs.selection.keys_of.Given as goal

abbrev pub invariant-loop-name : goal.invariant-loop-name
invariant-loop-name l = l.keys ≡ keys_of (take l.name-index l.names)

use Rattle.std.proofs.Common.{◌≡◌, ◌++◌, flat_map}
use Rattle.urp_tree.specs.Changes.{changes_of}
use Rattle.urp_tree.proofs.changed.listed.Given as goal

abbrev pub invariant-loop-id : goal.invariant-loop-id
invariant-loop-id l = l.list ++ flat_map (changes_of l.rows l.new) l.id-iterator ≡ flat_map (changes_of l.rows l.new) l.places.entries

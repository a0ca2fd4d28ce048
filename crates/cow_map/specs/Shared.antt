-- What is behind an `Arc` that may be missing.
use Rattle.std.specs.Prelude.{List, [], Option, None, Some}
use Rattle.std.specs.declared.vec.Vec.{Vec}
use Rattle.std.specs.declared.sync.Arc.{Arc}
use Rattle.std.specs.Arc.{arc_value}

-- the items of a shared vector, and none where there is no vector
abbrev pub shared_items : {X A : Type 0} → Option (Arc (Vec X A) A) → List X
shared_items None = []
shared_items (Some vector) = (arc_value vector).items

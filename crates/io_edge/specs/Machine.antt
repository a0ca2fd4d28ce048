-- Which answers of a feed leave a machine that has ended.
use Rattle.std.specs.Prelude.{Bool, true, false, Result, Ok}
use Rattle.io_edge.specs.declared.edge.NoMemory.{NoMemory}
use Rattle.io_edge.specs.declared.machine.Fed.{Fed}
use Rattle.io_edge.specs.declared.machine.Fed.TheVariants.{Running}

-- all but one: more may come
abbrev pub ends : Result Fed NoMemory → Bool
ends (Ok Running) = false
ends _ = true

-- A CSN above all changes of a list.
use Rattle.std.specs.Prelude.{◌≡◌, true, List}
use Rattle.std.specs.List.{AllByRecursion}
use Rattle.repl_data.specs.declared.csn.Csn.{Csn}
use Rattle.repl_data.specs.declared.change.Change.{Change}
use Rattle.repl_data.specs.Order.{csn_lt}

abbrev pub IsAbove : Csn → List Change → Type 0
IsAbove c xs = AllByRecursion (λ (d : Change). csn_lt d.csn c ≡ true) xs

-- The greatest of a list of CSNs.
use Rattle.std.specs.Prelude.{List}
use Rattle.repl_data.specs.declared.csn.Csn.{Csn}
use Rattle.repl_data.specs.Order.{csn_max, greatest as greatest_stamp}

-- the greater of two
abbrev pub later_of : Csn → Csn → Csn
later_of = csn_max

-- The greatest of a list, and zero where the list is empty. (It is that of `repl_data`, which a proof opens where it has to.)
unfoldable pub greatest : List Csn → Csn
greatest = greatest_stamp

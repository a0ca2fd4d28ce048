use Rattle.std.proofs.Common.{rules}
use Rattle.attr_keys.specs.Table.{types}
use Rattle.attr_keys.proofs.Rows.{row-found}
use Rattle.attr_keys.proofs.table.row_of.Goals as goal

pub returns : goal.returns
unfolding types
returns c = search (rules, row-found)

use Rattle.search_core.proofs.Askings.{and_told, alone_told}
use Rattle.search_core.proofs.dead.asks_tombstones.Goals as goal

pub returns-in-And : goal.returns-in-And
returns-in-And c = and_told c.any_is_it.result c.args.filter.now c.in-And.inside c.as_slice.result.now c.in-And.is c.as_slice.ensures c.any_is_it.ensures

pub returns-in_default : goal.returns-in_default
returns-in_default c = alone_told c.is_it.result c.args.filter.now (λ fs e. c.in_default.not-And fs e) c.is_it.ensures

use Rattle.std.proofs.Common.{sym}
use Rattle.search_core.proofs.Askings.{it_told, it_is_not}
use Rattle.search_core.proofs.dead.is_it.Goals as goal

pub returns-in-Equality : goal.returns-in-Equality
returns-in-Equality c =
    it_told c.names_class.result c.args.filter.now c.in-Equality.name c.in-Equality.value c.as_slice.result.now c.as_slice-in-Equality.result.now c.in-Equality.is c.as_slice.ensures c.as_slice-in-Equality.ensures c.names_class.ensures

pub returns-in_default : goal.returns-in_default
returns-in_default c = sym (it_is_not c.args.filter.now (λ name value e. c.in_default.not-Equality name value e))

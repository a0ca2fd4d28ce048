use Rattle.std.proofs.Common.{◌<◌, length, get_or, sym, ◌∙◌}
use Rattle.std.proofs.lemmas.List.{get_or_default}
use Rattle.repl_data.specs.Order.{zero_csn}
use Rattle.pending_core.proofs.Rising.{first_least, not_0}
use Rattle.pending_core.proofs.pending.least_of.Goals as goal

pub returns : goal.returns
returns c =
    let l : 0 < length c.args.held.now = not_0 (length c.args.held.now) (sym c.is_empty.ensures ∙ c.if-is_empty.false) in
    ((0, l, get_or_default c.args.held.now 0 (get_or c.args.held.now 0 zero_csn) zero_csn l), first_least c.args.held.now c.requires l)

use Rattle.std.proofs.Common.{◌∙◌}
use Rattle.std.proofs.lemmas.List.{get_or_default}
use Rattle.repl_data.specs.Order.{zero_csn}
use Rattle.pending_core.proofs.pending.contains_in.Goals as goal

pub returns : goal.returns
returns c = (
  λ t. let h = c.stands_at.ensures.0 t in (c.place_of-at.result, h.0, get_or_default c.args.held.now c.place_of-at.result c.args.csn zero_csn h.0 ∙ h.1),
  λ h. c.stands_at.ensures.1 (c.place_of-at.ensures.found h),
)

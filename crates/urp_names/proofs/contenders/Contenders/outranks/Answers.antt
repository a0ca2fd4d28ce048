use Rattle.std.proofs.Common.{Option, sym, ap, ◌∙◌}
use Rattle.std.specs.Prelude.{None, Some}
use Rattle.std.specs.Option.{option_copied}
use Rattle.urp_names.proofs.Least.{any_before}
use Rattle.urp_names.proofs.contenders.Contenders.outranks.Goals as goal

pub returns-in-Some : goal.returns-in-Some
returns-in-Some c = λ id.
    c.comes_before.ensures
    ∙ any_before (record { id = id; glue = c.args.glue; named = c.args.named }) c.args.self.now.who (Some c.in-Some.first.now) (sym (ap option_copied c.in-Some.is) ∙ c.first.ensures)

pub returns-in-None : goal.returns-in-None
returns-in-None c = λ id.
    any_before (record { id = id; glue = c.args.glue; named = c.args.named }) c.args.self.now.who None (sym (ap option_copied c.in-None.is) ∙ c.first.ensures)

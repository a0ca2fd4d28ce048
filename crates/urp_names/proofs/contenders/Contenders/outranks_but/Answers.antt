use Rattle.std.proofs.Common.{Option, sym, ap, ◌∙◌}
use Rattle.std.specs.Prelude.{None, Some}
use Rattle.std.specs.Option.{option_copied}
use Rattle.urp_names.specs.Contending.{without}
use Rattle.urp_names.proofs.Least.{any_before}
use Rattle.urp_names.proofs.contenders.Contenders.outranks_but.Goals as goal

pub returns-in-Some : goal.returns-in-Some
returns-in-Some c =
    c.comes_before.ensures
    ∙ any_before (record { id = c.args.id; glue = c.args.glue; named = c.args.named }) (without c.args.id c.args.self.now.who) (Some c.in-Some.first.now) (sym (ap option_copied c.in-Some.is) ∙ c.first_but.ensures)

pub returns-in-None : goal.returns-in-None
returns-in-None c =
    any_before (record { id = c.args.id; glue = c.args.glue; named = c.args.named }) (without c.args.id c.args.self.now.who) None (sym (ap option_copied c.in-None.is) ∙ c.first_but.ensures)

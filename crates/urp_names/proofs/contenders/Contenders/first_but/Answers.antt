use Rattle.std.proofs.Common.{not, ap, ◌∙◌}
use Rattle.std.specs.Prelude.{find}
use Rattle.repl_data.specs.Order.{uid_eq}
use Rattle.urp_names.specs.declared.contenders.Contender.{Contender}
use Rattle.urp_names.specs.Contending.{Contending, least_of, without}
use Rattle.urp_names.proofs.Ranks.{first_others}
use Rattle.urp_names.proofs.contenders.Contenders.first_but.Goals as goal

pub returns : goal.returns
returns c =
    c.first_other.ensures ∙ ap (find (λ (x : Contender). not (uid_eq x.id c.args.id))) (c.as_slice.ensures.value ∙ c.self.invariant.0)
    ∙ first_others c.args.id c.self.inside.cells.items c.self.invariant.1 ∙ ap (λ (s : Contending). least_of (without c.args.id s.who)) c.self.view_is

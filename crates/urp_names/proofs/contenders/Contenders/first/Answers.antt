use Rattle.std.proofs.Common.{slice_get, List, ap, ◌∙◌}
use Rattle.urp_names.specs.declared.contenders.Contender.{Contender}
use Rattle.urp_names.specs.Contending.{Contending, least_of}
use Rattle.urp_names.proofs.Ranks.{first_at}
use Rattle.urp_names.proofs.contenders.Contenders.first.Goals as goal

pub returns : goal.returns
returns c =
    c.first.ensures.value ∙ ap (λ (xs : List Contender). slice_get xs 0) (c.as_slice.ensures.value ∙ c.self.invariant.0)
    ∙ first_at c.self.inside.cells.items c.self.invariant.1 ∙ ap (λ (s : Contending). least_of s.who) c.self.view_is

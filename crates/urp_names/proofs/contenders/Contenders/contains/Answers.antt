use Rattle.std.proofs.Common.{◌≡◌, List, Some, None, slice_get, sym, ap, subst, ◌∙◌}
use Rattle.std.specs.Prelude.{is_some}
use Rattle.urp_names.specs.declared.contenders.Contender.{Contender}
use Rattle.urp_names.specs.Contending.{Contending, IsCut, contends, of_id}
use Rattle.urp_names.proofs.Ranks.{lower, at_cut}
use Rattle.urp_names.proofs.contenders.Contenders.contains.Goals as goal

pub returns-in-Some : goal.returns-in-Some
returns-in-Some c =
    let cut = subst (λ (xs : List Contender). IsCut (lower c.args.id) xs c.count_below-at.result) c.as_slice.ensures.value c.count_below-at.ensures.cut in
    let is = ap (λ (xs : List Contender). of_id c.args.id (slice_get xs c.count_below-at.result)) (sym c.as_slice-2.ensures.value) ∙ sym c.found.ensures ∙ c.in-Some.is in
    sym (at_cut c.args.id c.self.inside.cells.items c.count_below-at.result c.self.invariant.1 cut ∙ ap is_some is) ∙ ap (λ (s : Contending). contends c.args.id s.who) c.self.view_is

pub returns-in-None : goal.returns-in-None
returns-in-None c =
    let cut = subst (λ (xs : List Contender). IsCut (lower c.args.id) xs c.count_below-at.result) c.as_slice.ensures.value c.count_below-at.ensures.cut in
    let is = ap (λ (xs : List Contender). of_id c.args.id (slice_get xs c.count_below-at.result)) (sym c.as_slice-2.ensures.value) ∙ sym c.found.ensures ∙ c.in-None.is in
    sym (at_cut c.args.id c.self.inside.cells.items c.count_below-at.result c.self.invariant.1 cut ∙ ap is_some is) ∙ ap (λ (s : Contending). contends c.args.id s.who) c.self.view_is

use Rattle.std.proofs.Common.{◌≡◌, List, [], not, true, false, take, sym, ap, subst, ◌∙◌}
use Rattle.std.specs.List.{AllByRecursion}
use Rattle.std.specs.Option.{option_copied}
use Rattle.repl_data.specs.Order.{uid_eq}
use Rattle.urp_names.specs.declared.contenders.Contender.{Contender}
use Rattle.urp_names.specs.Contending.{Contending, IsCut, by_rank, comes_before, is_beaten, IsFront, without, contends}
use Rattle.urp_names.proofs.Ranks.{front_is, front_all, front_none}
use Rattle.urp_names.proofs.contenders.Contenders.front.Goals as goal

pub returns-in-Some-clause-first : goal.returns-in-Some-clause-first
returns-in-Some-clause-first c =
    let who : List Contender = c.args.self.now.who in
    let ranks : c.as_slice-ranked.result.now ≡ by_rank who = c.as_slice-ranked.ensures.value ∙ c.self.invariant.0 ∙ ap (λ (s : Contending). by_rank s.who) c.self.view_is in
    let cut = subst (λ (xs : List Contender). IsCut (λ (x : Contender). not (comes_before c.in-Some.first.now x)) xs c.count_front.result) ranks c.count_front.ensures.cut in
    subst (AllByRecursion (IsFront c.args.id who)) (sym (c.first_ones.ensures ∙ ap (take c.count_front.result) ranks))
    (front_is c.args.id who c.in-Some.first.now (sym (ap option_copied c.in-Some.is) ∙ c.first_but.ensures) c.count_front.result cut)

pub returns-in-Some-clause-all : goal.returns-in-Some-clause-all
returns-in-Some-clause-all c =
    let who : List Contender = c.args.self.now.who in
    let ranks : c.as_slice-ranked.result.now ≡ by_rank who = c.as_slice-ranked.ensures.value ∙ c.self.invariant.0 ∙ ap (λ (s : Contending). by_rank s.who) c.self.view_is in
    let cut = subst (λ (xs : List Contender). IsCut (λ (x : Contender). not (comes_before c.in-Some.first.now x)) xs c.count_front.result) ranks c.count_front.ensures.cut in
    subst (λ (xs : List Contender). AllByRecursion (λ (x : Contender). uid_eq x.id c.args.id ≡ false → is_beaten (without c.args.id who) x ≡ false → contends x.id xs ≡ true) who) (sym (c.first_ones.ensures ∙ ap (take c.count_front.result) ranks))
    (front_all c.args.id who c.in-Some.first.now (sym (ap option_copied c.in-Some.is) ∙ c.first_but.ensures) c.count_front.result cut)

pub returns-in-None-clause-all : goal.returns-in-None-clause-all
returns-in-None-clause-all c = front_none c.args.id c.args.self.now.who [] (sym (ap option_copied c.in-None.is) ∙ c.first_but.ensures)

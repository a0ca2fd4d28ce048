use Rattle.std.proofs.Common.{◌≡◌, Bool, cond, max, sym, ap, ◌∙◌}
use Rattle.urp_names.specs.Contending.{Contending}
use Rattle.urp_names.proofs.Ranks.{ok_more}
use Rattle.urp_names.proofs.contenders.Contenders.make_place.Goals as goal

pub returns-then-contains-clause-ok : goal.returns-then-contains-clause-ok
returns-then-contains-clause-ok c =
    ap (λ (b : Bool). record c.args.self.now { spare = cond b c.args.self.now.spare (max c.args.self.now.spare 1) }) (sym (sym c.contains.ensures ∙ c.if-contains.true))

pub returns-clause-ok : goal.returns-clause-ok
returns-clause-ok c =
    ok_more c.reserve.result
    (λ h. h ∙ ap (λ (b : Bool). record c.args.self.now { spare = cond b c.args.self.now.spare (max c.args.self.now.spare 1) }) (sym (sym c.contains.ensures ∙ c.if-contains.false)))
    c.reserve.ensures.ok

use Rattle.std.proofs.Common.{List, sym, ap, subst, ◌∙◌}
use Rattle.std.proofs.lemmas.Result.{err_from_is_err_and}
use Rattle.repl_data.specs.declared.change.Mod.{Mod}
use Rattle.rule_values.specs.declared.fault.Refusal.TheVariants.{NoModification, TooManyModifications}
use Rattle.rule_values.specs.Refusing.{refuse_if, Fails}
use Rattle.rule_values.specs.Having.{held}
use Rattle.rule_values.specs.Modify.{ended}
use Rattle.rule_values.proofs.ModSteps.{made_stops, made_ends, made_done}
use Rattle.rule_values.proofs.modify.modifications.Goals as goal

pub returns-in_err-mods : goal.returns-in_err-mods
returns-in_err-mods c =
    let p = err_from_is_err_and c.from_residual-in_err-mods.result c.from_residual-in_err-mods.ensures.1 in
    rw (p.1, p.2) (made_stops c.args.name.now c.args.own.now c.args.given.now c.new-touched.result c.in_err-mods.field-0.0
    (ap (λ b. refuse_if b NoModification) (sym c.is_empty.ensures) ∙ c.in_ok-refuse_if.ensures)
    (ap (λ b. refuse_if b TooManyModifications) (sym c.has_too_many.ensures) ∙ c.in_ok-refuse_if-2.ensures)
    c.new-touched.ensures c.in_err-mods.ensures.gives)

pub returns-in_err-ended : goal.returns-in_err-ended
returns-in_err-ended c =
    let p = err_from_is_err_and c.from_residual-in_err-ended.result c.from_residual-in_err-ended.ensures.1 in
    rw (p.1, p.2) (made_ends c.args.name.now c.args.own.now c.args.given.now c.new-touched.result c.carried.new.touched c.in_ok-mods.mods c.in_err-ended.field-0.0
    (ap (λ b. refuse_if b NoModification) (sym c.is_empty.ensures) ∙ c.in_ok-refuse_if.ensures)
    (ap (λ b. refuse_if b TooManyModifications) (sym c.has_too_many.ensures) ∙ c.in_ok-refuse_if-2.ensures)
    c.new-touched.ensures c.in_ok-mods.ensures.gives c.in_ok-mods.ensures.after
    (subst (λ (ms : List Mod). Fails c.in_err-ended.field-0.0 (ended c.args.name.now (held c.args.own.now c.carried.new.touched) ms)) c.as_slice.ensures c.in_err-ended.ensures))

pub returns : goal.returns
returns c =
    made_done c.args.name.now c.args.own.now c.args.given.now c.new-touched.result c.carried.new.touched c.in_ok-mods.mods c.in_ok-body.body
    (ap (λ b. refuse_if b NoModification) (sym c.is_empty.ensures) ∙ c.in_ok-refuse_if.ensures)
    (ap (λ b. refuse_if b TooManyModifications) (sym c.has_too_many.ensures) ∙ c.in_ok-refuse_if-2.ensures)
    c.new-touched.ensures c.in_ok-mods.ensures.gives c.in_ok-mods.ensures.after
    (ap (λ (ms : List Mod). ended c.args.name.now (held c.args.own.now c.carried.new.touched) ms) (sym c.as_slice.ensures) ∙ c.in_ok-ended.ensures)
    c.in_ok-body.ensures

use Rattle.std.proofs.Common.{sym, ap, ◌∙◌}
use Rattle.repl_data.specs.Check.{either_fault, first_fault, faults_of_frame, faults_of_body}
use Rattle.repl_data.proofs.CheckLaws.{first_fault-append, light}
use Rattle.repl_data.proofs.faults.fault.Goals as goal

pub body_fault-requires : goal.body_fault-requires
body_fault-requires c = light c.args.change.now (sym c.in-None.is ∙ c.frame_fault.ensures)

pub returns-in-Some : goal.returns-in-Some
returns-in-Some c =
    sym (first_fault-append (faults_of_frame c.args.change.now) (faults_of_body c.args.change.now.body)
    ∙ ap (λ o. either_fault o (first_fault (faults_of_body c.args.change.now.body))) (sym c.frame_fault.ensures ∙ c.in-Some.is))

pub returns-in-None : goal.returns-in-None
returns-in-None c =
    c.body_fault.ensures
    ∙ sym (first_fault-append (faults_of_frame c.args.change.now) (faults_of_body c.args.change.now.body)
    ∙ ap (λ o. either_fault o (first_fault (faults_of_body c.args.change.now.body))) (sym c.frame_fault.ensures ∙ c.in-None.is))

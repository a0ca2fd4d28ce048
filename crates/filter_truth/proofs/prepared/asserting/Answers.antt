use Rattle.std.proofs.Common.{sym, ap, ◌∙◌}
use Rattle.filter_truth.specs.Truth.{told}
use Rattle.filter_truth.specs.Prepared.{maybe_meant}
use Rattle.filter_truth.proofs.Equations.{ready-Asserts, ready-Unreadable}
use Rattle.filter_truth.proofs.prepared.asserting.Goals as goal

pub returns-in-Some : goal.returns-in-Some
returns-in-Some c = λ shown. ready-Asserts shown c.in-Some.asserted ∙ ap (λ a. told shown (maybe_meant a)) (sym c.in-Some.is)

pub returns-in-None : goal.returns-in-None
returns-in-None c = λ shown. ready-Unreadable shown ∙ ap (λ a. told shown (maybe_meant a)) (sym c.in-None.is)

use Rattle.std.proofs.Common.{sym, ap, ◌∙◌}
use Rattle.std.specs.Option.{option_map}
use Rattle.repl_data.specs.declared.change.AttrKey.{AttrKey}
use Rattle.filter_truth.specs.declared.test.Test.TheVariants.{Any}
use Rattle.filter_truth.specs.Three.{of_bool}
use Rattle.filter_truth.specs.Truth.{attr_of, is_there}
use Rattle.filter_truth.proofs.Equations.{ready-Asserts, ready-Nowhere}
use Rattle.filter_truth.proofs.prepared.present.Goals as goal

pub returns-in-Some : goal.returns-in-Some
returns-in-Some c = λ shown.
    ready-Asserts shown (record { attr = c.in-Some.attr; test = Any })
    ∙ ap (λ o. of_bool (is_there shown o)) (sym (ap (option_map (λ (a : AttrKey). a.name)) c.in-Some.is) ∙ c.in_ok-attr.ensures ∙ ap attr_of c.as_slice.ensures)

pub returns-in-None : goal.returns-in-None
returns-in-None c = λ shown.
    ready-Nowhere shown
    ∙ ap (λ o. of_bool (is_there shown o)) (sym (ap (option_map (λ (a : AttrKey). a.name)) c.in-None.is) ∙ c.in_ok-attr.ensures ∙ ap attr_of c.as_slice.ensures)

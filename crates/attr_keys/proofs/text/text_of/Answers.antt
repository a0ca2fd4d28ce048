use Rattle.attr_keys.proofs.Texts.{bad_text-good, bad_text-spaces, bad_text-none}
use Rattle.std.proofs.Common.{ap, sym, ◌∙◌, Some}
use Rattle.attr_keys.proofs.text.text_of.Goals as goal

pub returns-then-has_text : goal.returns-then-has_text
returns-then-has_text c =
    (c.in-Ok.ensures.cases.0, bad_text-good _ _ c.in-Ok.ensures.cases.1 c.has_text.ensures c.if-has_text.true)

pub returns-else-has_text : goal.returns-else-has_text
returns-else-has_text c = bad_text-spaces _ _ c.in-Ok.ensures.cases.1 c.has_text.ensures c.if-has_text.false

pub returns-in-Err : goal.returns-in-Err
returns-in-Err c = bad_text-none _ c.in-Err.ensures.cases.0 ∙ ap Some (sym c.utf8_fault.ensures)

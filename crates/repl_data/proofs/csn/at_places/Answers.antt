use Rattle.std.proofs.Common.{sym, ap, ◌∙◌, length, Some}
use Rattle.repl_data.proofs.Bytes.{length-uid_text, time_read, middle_read, sub_read, all_read}
use Rattle.repl_data.proofs.csn.at_places.Goals as goal

pub returns-then-text-ne35 : goal.returns-then-text-ne35
returns-then-text-ne35 c = λ u h is. absurd (c.if-text-ne35.true (ap length is ∙ length-uid_text u))

pub returns-in_default : goal.returns-in_default
returns-in_default c = λ u h is. let read = time_read u c.args.text.now is in absurd (c.in_default.not-Some _ (c.four.ensures ∙ read))

pub returns-in_default-four : goal.returns-in_default-four
returns-in_default-four c = λ u h is. let read = middle_read u c.args.text.now is in absurd (c.in_default-four.not-Some _ (c.four-2.ensures ∙ read))

pub returns-in_default-two : goal.returns-in_default-two
returns-in_default-two c = λ u h is. let read = sub_read u c.args.text.now is in absurd (c.in_default-two.not-Some _ (c.two.ensures ∙ read))

pub returns : goal.returns
returns c = λ u h is.
    ap Some (c.from_bytes.ensures ∙ all_read u c.args.text.now c.in-Some.time c.in-Some-four.middle c.in-Some-two.sub h is
    (sym c.four.ensures ∙ c.in-Some.is) (sym c.four-2.ensures ∙ c.in-Some-four.is) (sym c.two.ensures ∙ c.in-Some-two.is))

use Rattle.std.proofs.Common.{refl, sym, ◌∙◌}
use Rattle.repl_data.specs.Order.{bytes_eq}
use Rattle.search_core.proofs.Gives.{class_yes, class_no, class_bad}
use Rattle.search_core.proofs.dead.class_attr.Goals as goal

pub returns-then-same_bytes : goal.returns-then-same_bytes
returns-then-same_bytes c =
    class_yes c.args.name.now c.in-Ok.attr.name c.in-Ok.ensures.key (c.in-Ok.ensures.ok refl)
    (sym (λ i. bytes_eq (c.as_slice.ensures i) (c.as_slice-in-Ok.ensures i)) ∙ sym c.same_bytes.ensures ∙ c.if-same_bytes.true)

pub returns-else-same_bytes : goal.returns-else-same_bytes
returns-else-same_bytes c =
    class_no c.args.name.now c.in-Ok.attr.name c.in-Ok.ensures.key (c.in-Ok.ensures.ok refl)
    (sym (λ i. bytes_eq (c.as_slice.ensures i) (c.as_slice-in-Ok.ensures i)) ∙ sym c.same_bytes.ensures ∙ c.if-same_bytes.false)

pub returns-in-Err-BadName : goal.returns-in-Err-BadName
returns-in-Err-BadName c = class_bad c.args.name.now c.in-Err-BadName.field-0-0 ((c.attr_key.ensures.bad c.in-Err-BadName.field-0-0).0 (cc))

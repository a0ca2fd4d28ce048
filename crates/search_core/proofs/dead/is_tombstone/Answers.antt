use Rattle.std.proofs.Common.{refl, ap, ◌∙◌}
use Rattle.std.specs.Prelude.{codes}
use Rattle.repl_data.specs.Order.{bytes_eq}
use Rattle.attr_keys.specs.Table.{kind_of}
use Rattle.search_core.proofs.Gives.{class_kind, value_yes, value_no, value_fault}
use Rattle.search_core.proofs.dead.is_tombstone.Goals as goal

pub returns-in-Ok : goal.returns-in-Ok
returns-in-Ok c =
    c.same_bytes.ensures ∙ (λ i. bytes_eq (c.as_slice.ensures i) (c.as_slice-in-Ok.ensures i))
    ∙ value_yes (kind_of c.args.attr.now.name) c.args.value.now c.in-Ok.key (codes "nstombstone") (ap kind_of c.requires ∙ class_kind) c.in-Ok.ensures.key (c.in-Ok.ensures.ok refl)

pub returns-in-Err-BadValue : goal.returns-in-Err-BadValue
returns-in-Err-BadValue c =
    value_no (kind_of c.args.attr.now.name) c.args.value.now (codes "nstombstone") c.in-Err-BadValue.field-0-0 (ap kind_of c.requires ∙ class_kind)
    (value_fault _ c.in-Err-BadValue.field-0 c.in-Err-BadValue.field-0-0 c.in-Err-BadValue.field-0-is c.in-Err-BadValue.ensures.err)

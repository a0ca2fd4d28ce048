use Rattle.std.proofs.Common.{sym, ap, ◌∙◌, codes}
use Rattle.repl_data.specs.declared.change.AttrKey.{AttrKey}
use Rattle.repl_data.specs.Stamps.{text_val}
use Rattle.stamp_entry.specs.First.{given_first, given_parts}
use Rattle.stamp_entry.proofs.Front.{front_suffix}
use Rattle.stamp_entry.proofs.root.root_attrs.Goals as goal

pub returns-clause-given : goal.returns-clause-given
returns-clause-given c =
    let class : AttrKey = record { name = codes "objectclass" } in
    c.in_ok-give_parts.ensures.given ∙ (λ i. given_parts (c.as_slice.ensures i) (c.in_ok-give_classes.ensures.given i))
    ∙ ap (λ attrs. given_parts c.args.suffix.now.rdn.avas (given_first class (text_val (codes "top")) (given_first class (text_val (codes "domain")) attrs))) c.new-attrs.ensures
    ∙ sym (front_suffix c.args.suffix.now class (text_val (codes "top")) (text_val (codes "domain")))

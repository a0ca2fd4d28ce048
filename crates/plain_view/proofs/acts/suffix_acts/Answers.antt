use Rattle.std.proofs.Common.{◌++◌, ◌∷◌, [], map, ap, ◌∙◌, append_assoc}
use Rattle.repl_data.specs.declared.change.Ava.{Ava}
use Rattle.std.specs.Prelude.{codes}
use Rattle.repl_data.specs.Order.{zero_csn}
use Rattle.repl_data.specs.Stamps.{Adds, text_val}
use Rattle.plain_view.specs.Seen.{act_of}
use Rattle.plain_view.proofs.acts.suffix_acts.Goals as goal

pub returns : goal.returns
returns c =
    let class = c.in_ok-class.ensures ∙ c.as_slice-2.ensures in
    let top = c.in_ok-top.ensures ∙ ap text_val c.as_slice-3.ensures in
    let domain = c.in_ok-domain.ensures ∙ ap text_val c.as_slice-4.ensures in
    c.in_ok-add_value-2.ensures
    ∙ (λ i. c.in_ok-add_value.ensures i ++ Adds c.zero-3.result c.in_ok-class.class c.in_ok-domain.domain ∷ [])
    ∙ (λ i. (c.in_ok-add_parts.ensures i ++ Adds c.zero-2.result c.in_ok-class.class c.in_ok-top.top ∷ []) ++ Adds c.zero-3.result c.in_ok-class.class c.in_ok-domain.domain ∷ [])
    ∙ (λ i. ((map act_of (c.new-acts.ensures i) ++ map (λ (a : Ava). Adds (c.zero.ensures i) a.attr a.val) (c.as_slice.ensures i)) ++ Adds (c.zero-2.ensures i) (record { name = class i }) (top i) ∷ []) ++ Adds (c.zero-3.ensures i) (record { name = class i }) (domain i) ∷ [])
    ∙ append_assoc (map (λ (a : Ava). Adds zero_csn a.attr a.val) c.args.suffix.now.rdn.avas)
    (Adds zero_csn (record { name = codes "objectclass" }) (text_val (codes "top")) ∷ [])
    (Adds zero_csn (record { name = codes "objectclass" }) (text_val (codes "domain")) ∷ [])

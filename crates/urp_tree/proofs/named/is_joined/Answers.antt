use Rattle.std.proofs.Common.{◌≡◌, List, map, sym, ap, subst, ◌∙◌, is_eq}
use Rattle.std.specs.Prelude.{insert}
use Rattle.std.specs.List.{list_any}
use Rattle.repl_data.specs.declared.change.Ava.{Ava}
use Rattle.repl_data.specs.Order.{bytes_cmp, part_key, rdn_key_cmp, put_by}
use Rattle.repl_data.specs.Names.{id_ava}
use Rattle.urp_tree.proofs.IdNames.{is_id, any_part, joined, joined_is}
use Rattle.urp_tree.proofs.named.is_joined.Goals as goal

pub returns : goal.returns
returns c = λ u none spelled.
    let at = c.id_place-at.result in
    let text = c.args.text.now in
    c.is_joined_at.ensures
    ∙ (λ i. is_eq (rdn_key_cmp (joined (c.as_slice-2.ensures i) at text) (map part_key (c.as_slice-3.ensures i))))
    ∙ joined_is u c.args.own.now c.args.rdn.now at text spelled
    (subst (λ (parts : List Ava). put_by (λ (a : Ava). a.attr.name) bytes_cmp (id_ava u) parts ≡ insert parts at (id_ava u)) c.as_slice.ensures
    (c.id_place-at.ensures.put u (ap (list_any is_id) c.as_slice.ensures ∙ sym (any_part c.args.own.now.avas) ∙ none)))

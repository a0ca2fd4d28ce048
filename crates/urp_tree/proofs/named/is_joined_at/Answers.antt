use Rattle.std.proofs.Common.{◌≡◌, Bool, codes, map, take, drop, ◌+◌, sym, ap, ◌∙◌, is_eq}
use Rattle.std.specs.Prelude.{◌&&◌, ◌≤◌}
use Rattle.repl_data.specs.declared.change.Ava.{Ava}
use Rattle.repl_data.specs.Order.{part_key, part_cmp, rdn_key_cmp}
use Rattle.urp_tree.proofs.IdNames.{joined_pieces, joined_short, rest_is}
use Rattle.urp_tree.proofs.named.is_joined_at.Goals as goal

pub returns-then-parts-at : goal.returns-then-parts-at
returns-then-parts-at c = sym (joined_short c.args.own.now c.args.parts.now c.args.at c.args.text.now c.requires c.if-parts-at.true)

pub returns : goal.returns
returns c =
    let at = c.args.at in
    let own = c.args.own.now in
    let parts = c.args.parts.now in
    let here : Ava = c.index-parts-at.result in
    let front : Bool = is_eq (rdn_key_cmp (map part_key (take at own)) (map part_key (take at parts))) in
    let rest : Bool = is_eq (rdn_key_cmp (map part_key (drop at own)) (map part_key (drop (at + 1) parts))) in
    c.and-2.ensures
    ∙ (λ i. (c.is_eq-front.ensures ∙ ap is_eq c.compare_parts.ensures) i && (c.and.ensures ∙ (λ j. c.has_text-part.ensures j && (c.is_eq-rest.ensures ∙ ap is_eq (c.compare_parts-2.ensures ∙ (λ k. rdn_key_cmp (map part_key (rest_is at own k)) (map part_key (rest_is (at + 1) parts k))))) j)) i)
    ∙ ap (λ (a : Ava). front && (is_eq (part_cmp (codes "nsuniqueid", c.args.text.now) (part_key a)) && rest)) c.index-parts-at.is
    ∙ sym (joined_pieces own parts at c.args.text.now here c.requires c.if-parts-at.false)

use Rattle.std.proofs.Common.{sym, ap, ◌∙◌, arith, get_or}
use Rattle.std.proofs.lemmas.List.{get_or_default}
use Rattle.repl_data.specs.Order.{bytes_eq}
use Rattle.repl_data.proofs.KeyPlaces.{at_from, gap_from, is_above, is_same}
use Rattle.repl_data.proofs.sorted.place_of.Goals.{else-at-items-via-then-at-items+else-same_bytes, else-at-items-via-else-at-items}
use Rattle.repl_data.proofs.sorted.place_of.Goals as goal

pub returns-then-same_bytes-clause-place : goal.returns-then-same_bytes-clause-place
returns-then-same_bytes-clause-place g c =
    let l = c.if-at-items.true in
    at_from g.T.Keyed.key_of c.args.key.now c.args.items.now c.count_below-at.result (λ i d m. c.count_below-at.ensures.parted.0 i d (omega arith) m) l (λ d.
    ap g.T.Keyed.key_of (get_or_default c.args.items.now c.count_below-at.result d c.index-items-at.result l ∙ sym c.index-items-at.is)
    ∙ is_same (g.T.Keyed.key_of c.index-items-at.result) c.args.key.now (ap (λ k. bytes_eq k c.args.key.now) (sym c.key.ensures) ∙ sym c.same_bytes.ensures ∙ c.if-same_bytes.true))

pub returns-else-at-items-clause-place : goal.returns-else-at-items-clause-place
returns-else-at-items-clause-place g c =
    gap_from g.T.Keyed.key_of c.args.key.now c.args.items.now c.count_below-at.result (λ i d m. c.count_below-at.ensures.parted.0 i d (omega arith) m) c.count_below-at.ensures.within (λ d l.
    is_above (g.T.Keyed.key_of (get_or c.args.items.now c.count_below-at.result d)) c.args.key.now (c.count_below-at.ensures.parted.1 c.count_below-at.result d (omega arith) l)
    (elim c.else-at-items.branch [
      | else-at-items-via-then-at-items+else-same_bytes w ↦
          ap (λ x. bytes_eq (g.T.Keyed.key_of x) c.args.key.now) (get_or_default c.args.items.now c.count_below-at.result d w.index-items-at.result l ∙ sym w.index-items-at.is)
          ∙ ap (λ k. bytes_eq k c.args.key.now) (sym w.key.ensures) ∙ sym w.same_bytes.ensures ∙ w.if-same_bytes.false
      | else-at-items-via-else-at-items w ↦ absurd (omega (arith, w.if-at-items.false))
    ]))

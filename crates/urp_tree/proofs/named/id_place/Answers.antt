use Rattle.std.proofs.Common.{◌≡◌, length, arith, codes, sym, ap, ◌∙◌}
use Rattle.repl_data.specs.declared.change.Ava.{Ava}
use Rattle.repl_data.specs.Order.{bytes_cmp}
use Rattle.repl_data.specs.Names.{id_ava}
use Rattle.urp_names.proofs.Places.{put_less, put_greater}
use Rattle.urp_tree.proofs.IdNames.{is_id, none_at, tied_is_id, put_end}
use Rattle.urp_tree.proofs.named.id_place.Goals as goal
use Rattle.repl_data.proofs.Bools.{never}

pub returns-in-Equal-clause-put : goal.returns-in-Equal-clause-put
returns-in-Equal-clause-put c = λ u none.
    let here : Ava = c.index-parts-at.result in
    never _ (tied_is_id here (sym c.compare_id_to.ensures ∙ c.in-Equal.is)) (ap is_id c.index-parts-at.is ∙ none_at c.args.parts.now c.loop-at.at here none c.loop-at-test.true)

pub returns-in-Less-clause-put : goal.returns-in-Less-clause-put
returns-in-Less-clause-put c = λ u none.
    let here : Ava = c.index-parts-at.result in
    put_less (λ (a : Ava). a.attr.name) bytes_cmp (id_ava u) c.args.parts.now c.loop-at.at here (c.loop-at.invariant u) c.loop-at-test.true
    (ap (λ (a : Ava). bytes_cmp (codes "nsuniqueid") a.attr.name) (sym c.index-parts-at.is) ∙ sym c.compare_id_to.ensures ∙ c.in-Less.is)

pub returns-clause-put : goal.returns-clause-put
returns-clause-put c = λ u none.
    let end : c.loop-at.at ≡ length c.args.parts.now = omega (arith, c.loop-at-test.false, c.loop-at.auto.at-end) in
    put_end (id_ava u) c.args.parts.now c.loop-at.at end (c.loop-at.invariant u)

pub loop-at-preserved : goal.loop-at-preserved
loop-at-preserved c = λ u.
    let here : Ava = c.index-parts-at.result in
    put_greater (λ (a : Ava). a.attr.name) bytes_cmp (id_ava u) c.args.parts.now c.loop-at.at here (c.loop-at.invariant u) c.loop-at-test.true
    (ap (λ (a : Ava). bytes_cmp (codes "nsuniqueid") a.attr.name) (sym c.index-parts-at.is) ∙ sym c.compare_id_to.ensures ∙ c.in-Greater.is)

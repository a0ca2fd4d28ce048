use Rattle.std.proofs.Common.{sym, ◌∙◌, subst}
use Rattle.repl_data.specs.Ordered.{Rises, IsAt, IsGap}
use Rattle.repl_data.proofs.KeyPlaces.{put_at, put_gap, put_rises}
use Rattle.repl_data.proofs.sorted.put_by_key.Goals as goal

pub returns-in-Ok-clause-value : goal.returns-in-Ok-clause-value
returns-in-Ok-clause-value g c =
    c.set.ensures
    ∙ sym (put_at g.T.Keyed.key_of c.args.item c.args.items.now c.in-Ok.at (subst (λ k. IsAt g.T.Keyed.key_of k c.args.items.now c.in-Ok.at) c.key.ensures (subst (λ xs. IsAt g.T.Keyed.key_of c.key.result.now xs c.in-Ok.at) c.as_slice.ensures c.in-Ok.ensures.place)))

pub returns-in-Ok-clause-ordered : goal.returns-in-Ok-clause-ordered
returns-in-Ok-clause-ordered g c =
    subst (Rises g.T.Keyed.key_of)
    (sym (c.set.ensures
    ∙ sym (put_at g.T.Keyed.key_of c.args.item c.args.items.now c.in-Ok.at (subst (λ k. IsAt g.T.Keyed.key_of k c.args.items.now c.in-Ok.at) c.key.ensures (subst (λ xs. IsAt g.T.Keyed.key_of c.key.result.now xs c.in-Ok.at) c.as_slice.ensures c.in-Ok.ensures.place)))))
    (put_rises g.T.Keyed.key_of c.args.item c.args.items.now c.requires)

pub returns-in_ok-insert-in-Err-clause-value : goal.returns-in_ok-insert-in-Err-clause-value
returns-in_ok-insert-in-Err-clause-value g c =
    c.in_ok-insert-in-Err.ensures.ok
    ∙ sym (put_gap g.T.Keyed.key_of c.args.item c.args.items.now c.in-Err.at (subst (λ k. IsGap g.T.Keyed.key_of k c.args.items.now c.in-Err.at) c.key.ensures (subst (λ xs. IsGap g.T.Keyed.key_of c.key.result.now xs c.in-Err.at) c.as_slice.ensures c.in-Err.ensures.place)))

pub returns-in_ok-insert-in-Err-clause-ordered : goal.returns-in_ok-insert-in-Err-clause-ordered
returns-in_ok-insert-in-Err-clause-ordered g c =
    subst (Rises g.T.Keyed.key_of)
    (sym (c.in_ok-insert-in-Err.ensures.ok
    ∙ sym (put_gap g.T.Keyed.key_of c.args.item c.args.items.now c.in-Err.at (subst (λ k. IsGap g.T.Keyed.key_of k c.args.items.now c.in-Err.at) c.key.ensures (subst (λ xs. IsGap g.T.Keyed.key_of c.key.result.now xs c.in-Err.at) c.as_slice.ensures c.in-Err.ensures.place)))))
    (put_rises g.T.Keyed.key_of c.args.item c.args.items.now c.requires)

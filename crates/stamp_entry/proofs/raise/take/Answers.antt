use Rattle.std.proofs.Common.{sym, ap, subst, ◌∙◌}
use Rattle.repl_data.specs.Order.{bytes_cmp, put_by}
use Rattle.repl_data.specs.Facts.{AttrFacts}
use Rattle.repl_data.specs.Ordered.{IsAt, IsGap}
use Rattle.stamp_entry.specs.Ordered.{attr_name, HasRisingVals, AreOrdered}
use Rattle.repl_data.proofs.KeyPlaces.{at_key, all_get}
use Rattle.stamp_entry.proofs.Places.{AreOrdered-removed}
use Rattle.stamp_entry.proofs.Taken.{taken_at, taken_gap, put_rest}
use Rattle.stamp_entry.proofs.raise.take.Goals as goal

pub returns-in-Ok-clause-attr : goal.returns-in-Ok-clause-attr
returns-in-Ok-clause-attr c =
    taken_at c.args.attr.now c.args.attrs.now c.in-Ok.at c.remove.result (subst (λ k. IsAt attr_name k c.args.attrs.now c.in-Ok.at) c.as_slice-2.ensures (subst (λ xs. IsAt attr_name c.as_slice-2.result.now xs c.in-Ok.at) c.as_slice.ensures c.in-Ok.ensures.place)) c.remove.ensures.item

pub returns-in-Ok-clause-name : goal.returns-in-Ok-clause-name
returns-in-Ok-clause-name c =
    at_key attr_name c.args.attr.now.name c.args.attrs.now c.in-Ok.at c.remove.result (subst (λ k. IsAt attr_name k c.args.attrs.now c.in-Ok.at) c.as_slice-2.ensures (subst (λ xs. IsAt attr_name c.as_slice-2.result.now xs c.in-Ok.at) c.as_slice.ensures c.in-Ok.ensures.place)) c.remove.ensures.item

pub returns-in-Ok-clause-vals : goal.returns-in-Ok-clause-vals
returns-in-Ok-clause-vals c = all_get HasRisingVals c.args.attrs.now c.in-Ok.at c.remove.result c.requires.1 c.remove.ensures.item

pub returns-in-Ok-clause-rest : goal.returns-in-Ok-clause-rest
returns-in-Ok-clause-rest c = λ x e.
    ap (put_by attr_name bytes_cmp x) c.remove.ensures.rest
    ∙ put_rest c.args.attr.now c.args.attrs.now c.in-Ok.at c.requires (subst (λ k. IsAt attr_name k c.args.attrs.now c.in-Ok.at) c.as_slice-2.ensures (subst (λ xs. IsAt attr_name c.as_slice-2.result.now xs c.in-Ok.at) c.as_slice.ensures c.in-Ok.ensures.place)) x e

pub returns-in-Ok-clause-ordered : goal.returns-in-Ok-clause-ordered
returns-in-Ok-clause-ordered c = subst AreOrdered (sym c.remove.ensures.rest) (AreOrdered-removed c.args.attrs.now c.in-Ok.at c.requires)

pub returns-in_ok-blank-in-Err-clause-attr : goal.returns-in_ok-blank-in-Err-clause-attr
returns-in_ok-blank-in-Err-clause-attr c =
    c.in_ok-blank-in-Err.ensures
    ∙ taken_gap c.args.attr.now c.args.attrs.now c.in-Err.field-0 c.requires (subst (λ k. IsGap attr_name k c.args.attrs.now c.in-Err.field-0) c.as_slice-2.ensures (subst (λ xs. IsGap attr_name c.as_slice-2.result.now xs c.in-Err.field-0) c.as_slice.ensures c.in-Err.ensures.place))

pub returns-in_ok-blank-in-Err-clause-name : goal.returns-in_ok-blank-in-Err-clause-name
returns-in_ok-blank-in-Err-clause-name c = ap (λ (a : AttrFacts). a.attr.name) c.in_ok-blank-in-Err.ensures

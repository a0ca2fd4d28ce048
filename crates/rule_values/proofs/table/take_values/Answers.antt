use Rattle.std.proofs.Common.{subst, sym, ◌∙◌, ap}
use Rattle.repl_data.specs.View.{put_attr}
use Rattle.repl_data.specs.Ordered.{Rises, IsAt, IsGap}
use Rattle.repl_data.proofs.KeyPlaces.{put_removed, Rises-removed}
use Rattle.rule_values.specs.Having.{attr_name}
use Rattle.rule_values.proofs.Places.{vals_at_place, vals_at_gap}
use Rattle.rule_values.proofs.table.take_values.Goals as goal

pub returns-in-Ok-clause-value : goal.returns-in-Ok-clause-value
returns-in-Ok-clause-value c =
    c.into_vals.ensures
    ∙ vals_at_place c.args.attr.now.name c.args.attrs.now c.in-Ok.at c.remove.result c.requires
    (subst (λ xs. IsAt attr_name c.args.attr.now.name xs c.in-Ok.at) c.as_slice.ensures (subst (λ k. IsAt attr_name k c.as_slice.result.now c.in-Ok.at) c.as_slice-2.ensures c.in-Ok.ensures.place))
    c.remove.ensures.item

pub returns-in-Ok-clause-put : goal.returns-in-Ok-clause-put
returns-in-Ok-clause-put c = λ vals.
    ap (put_attr (record { attr = c.args.attr.now; vals = vals })) c.remove.ensures.rest
    ∙ put_removed attr_name (record { attr = c.args.attr.now; vals = vals }) c.args.attrs.now c.in-Ok.at c.requires
    (subst (λ xs. IsAt attr_name c.args.attr.now.name xs c.in-Ok.at) c.as_slice.ensures (subst (λ k. IsAt attr_name k c.as_slice.result.now c.in-Ok.at) c.as_slice-2.ensures c.in-Ok.ensures.place))

pub returns-in-Ok-clause-ordered : goal.returns-in-Ok-clause-ordered
returns-in-Ok-clause-ordered c = subst (Rises attr_name) (sym c.remove.ensures.rest) (Rises-removed attr_name c.args.attrs.now c.in-Ok.at c.requires)

pub returns-in-Err-clause-value : goal.returns-in-Err-clause-value
returns-in-Err-clause-value c =
    c.new.ensures ∙ vals_at_gap c.args.attr.now.name c.args.attrs.now c.in-Err.field-0 c.requires
    (subst (λ xs. IsGap attr_name c.args.attr.now.name xs c.in-Err.field-0) c.as_slice.ensures (subst (λ k. IsGap attr_name k c.as_slice.result.now c.in-Err.field-0) c.as_slice-2.ensures c.in-Err.ensures.place))

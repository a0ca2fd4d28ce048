use Rattle.std.proofs.Common.{◌∙◌, sym}
use Rattle.conn_core.proofs.Searched.{compares_critical, compares_nothing, compares_unasked, compares_by}
use Rattle.conn_core.proofs.looking.serve_compare.Goals as goal

pub returns-then-has_critical-clause-served : goal.returns-then-has_critical-clause-served
returns-then-has_critical-clause-served g c =
    compares_critical _ c.args.controls.now c.args.object.now c.args.name.now c.args.value.now c.args.node.now c.result_of.result (sym c.has_critical.ensures ∙ c.if-has_critical.true) c.result_of.ensures

pub returns-then-has_nothing-clause-served : goal.returns-then-has_nothing-clause-served
returns-then-has_nothing-clause-served g c =
    compares_nothing _ c.args.controls.now c.args.object.now c.args.name.now c.args.value.now c.args.node.now c.result_of-then-has_nothing.result
    (sym c.has_critical.ensures ∙ c.if-has_critical.false) (sym c.has_nothing.ensures ∙ c.if-has_nothing.true) c.result_of-then-has_nothing.ensures

pub returns-in_default-clause-served : goal.returns-in_default-clause-served
returns-in_default-clause-served g c =
    compares_unasked _ c.args.controls.now c.args.object.now c.args.name.now c.args.value.now c.args.node.now c.result_of-in_default.result c.result_of-in_default.ensures

pub returns-clause-served : goal.returns-clause-served
returns-clause-served g c =
    compares_by _ c.args.controls.now c.args.object.now c.args.name.now c.args.value.now c.in-Ok.request c.args.node.now c.compare_by.new.node c.compare_by.result
    (sym c.has_critical.ensures ∙ c.if-has_critical.false) (sym c.has_nothing.ensures ∙ c.if-has_nothing.false) c.in-Ok.ensures c.compare_by.ensures.searched

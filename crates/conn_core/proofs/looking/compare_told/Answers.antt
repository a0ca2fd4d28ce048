use Rattle.std.proofs.Common.{inl, inr}
use Rattle.conn_core.proofs.Searched.{compared_so}
use Rattle.conn_core.proofs.looking.compare_told.Goals as goal

pub returns-in-Ok-compare_result : goal.returns-in-Ok-compare_result
returns-in-Ok-compare_result c =
    compared_so c.args.answer _ c.args.name.now c.args.value.now c.in-Ok-compare_result.told c.in-Ok.is (inl c.in-Ok-compare_result.ensures)

pub returns-in-Err-compare_result : goal.returns-in-Err-compare_result
returns-in-Err-compare_result c =
    compared_so c.args.answer _ c.args.name.now c.args.value.now c.result_of.result c.in-Ok.is (inr c.result_of.ensures)

pub returns-in-Err : goal.returns-in-Err
returns-in-Err c =
    compared_so c.args.answer _ c.args.name.now c.args.value.now c.result_of-in-Err.result c.in-Err.is c.result_of-in-Err.ensures

use Rattle.std.proofs.Common.{sym, ◌∙◌, arith}
use Rattle.dn_text.proofs.Values.{escapes_go_on, escapes_stop}
use Rattle.dn_text.proofs.escape.check_escapes.Goals as goal

pub returns-in-Err : goal.returns-in-Err
returns-in-Err c =
    sym (c.loop-at.invariant ∙ escapes_stop c.loop-at.state c.in-Err.e c.args.start c.loop-at.at c.args.text.now (omega arith) (sym c.in-Err.ensures))

pub loop-at-preserved : goal.loop-at-preserved
loop-at-preserved c =
    c.loop-at.invariant ∙ escapes_go_on c.loop-at.state c.in-Ok.next c.in-Ok.field-0-1 c.args.start c.loop-at.at c.args.text.now (omega arith) (sym c.in-Ok.ensures)

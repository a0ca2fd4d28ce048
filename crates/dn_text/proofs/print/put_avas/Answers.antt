use Rattle.std.proofs.Common.{codes, arith}
use Rattle.std.proofs.lemmas.List.{take_rest}
use Rattle.std.proofs.lemmas.Result.{IfOk-weaker}
use Rattle.repl_data.specs.Text.{ava_text}
use Rattle.dn_text.proofs.Prints.{joined_both}
use Rattle.dn_text.proofs.print.put_avas.Goals as goal

pub returns-in_ok-put_ava-in-len1-up : goal.returns-in_ok-put_ava-in-len1-up
returns-in_ok-put_ava-in-len1-up c =
    IfOk-weaker c.put_more_avas.result _ _
    (λ u e. joined_both ava_text (codes "+") c.args.avas.now c.first-item.result c.args.out.now c.put_ava.new.out c.put_more_avas.new.out _ (omega arith) c.first-item.is (take_rest c.args.avas.now 1) c.in_ok-put_ava-in-len1-up.ensures e)
    c.put_more_avas.ensures

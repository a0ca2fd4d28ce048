use Rattle.std.proofs.Common.{codes, arith}
use Rattle.std.proofs.lemmas.List.{take_rest}
use Rattle.std.proofs.lemmas.Result.{IfOk-weaker}
use Rattle.repl_data.specs.declared.change.Rdn.{Rdn}
use Rattle.repl_data.specs.Text.{rdn_text}
use Rattle.dn_text.specs.Print.{in_order}
use Rattle.dn_text.proofs.Prints.{joined_both}
use Rattle.dn_text.proofs.print.put_rdns.Goals as goal

pub returns-in_ok-put_rdn-in-len1-up : goal.returns-in_ok-put_rdn-in-len1-up
returns-in_ok-put_rdn-in-len1-up c =
    IfOk-weaker c.put_more_rdns.result _ _
    (λ u e. joined_both (λ (r : Rdn). rdn_text (in_order r)) (codes ",") c.args.rdns.now c.first-item.result c.args.out.now c.put_rdn.new.out c.put_more_rdns.new.out _ (omega arith) c.first-item.is (take_rest c.args.rdns.now 1) c.in_ok-put_rdn-in-len1-up.ensures e)
    c.put_more_rdns.ensures

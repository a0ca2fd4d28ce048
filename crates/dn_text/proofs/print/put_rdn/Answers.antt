use Rattle.std.proofs.Common.{List, ◌++◌, map, codes, sym, ap, ◌∙◌}
use Rattle.std.proofs.lemmas.Result.{IfOk-weaker}
use Rattle.repl_data.specs.declared.change.Ava.{Ava}
use Rattle.repl_data.specs.Text.{ava_text, joined}
use Rattle.dn_text.specs.Print.{is_rising}
use Rattle.dn_text.proofs.Rising.{rising-same}
use Rattle.dn_text.proofs.print.put_rdn.Goals as goal

pub returns-then-is_rising : goal.returns-then-is_rising
returns-then-is_rising c =
    IfOk-weaker c.put_avas.result _ _
    (λ u e. e ∙ ap (λ (avas : List Ava). c.args.out.now ++ joined (codes "+") (map ava_text avas)) (c.as_slice-avas.ensures ∙ sym (rising-same c.args.rdn.now.avas (ap is_rising (sym c.as_slice-avas.ensures) ∙ sym c.if-is_rising.ensures))))
    c.put_avas.ensures

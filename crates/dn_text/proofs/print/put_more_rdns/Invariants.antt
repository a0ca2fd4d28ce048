use Rattle.std.proofs.Common.{◌≡◌, ◌++◌, map, drop, codes}
use Rattle.repl_data.specs.declared.change.Rdn.{Rdn}
use Rattle.repl_data.specs.Text.{rdn_text}
use Rattle.dn_text.specs.Print.{each_after, in_order}
use Rattle.dn_text.proofs.print.put_more_rdns.Given as goal

abbrev pub invariant-loop-rdn : goal.invariant-loop-rdn
invariant-loop-rdn l =
    l.initial.out ++ each_after (codes ",") (map (λ (r : Rdn). rdn_text (in_order r)) l.rdns)
    ≡ l.out ++ each_after (codes ",") (map (λ (r : Rdn). rdn_text (in_order r)) (drop l.rdn-index l.rdns))

use Rattle.std.proofs.Common.{◌≡◌, ◌++◌, take}
use Rattle.std.specs.Prelude.{flat_map, codes}
use Rattle.repl_data.specs.declared.change.Rdn.{Rdn}
use Rattle.repl_data.specs.Text.{rdn_text}
use Rattle.shown_entry.proofs.text.dn_text.Given as goal

abbrev pub invariant-loop-rdn : goal.invariant-loop-rdn
invariant-loop-rdn l = l.out ≡ flat_map (λ (r : Rdn). rdn_text r ++ codes ",") (take l.rdn-index l.rdns)

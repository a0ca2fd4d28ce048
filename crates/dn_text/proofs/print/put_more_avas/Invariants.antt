use Rattle.std.proofs.Common.{◌≡◌, ◌++◌, map, drop, codes}
use Rattle.repl_data.specs.Text.{ava_text}
use Rattle.dn_text.specs.Print.{each_after}
use Rattle.dn_text.proofs.print.put_more_avas.Given as goal

abbrev pub invariant-loop-ava : goal.invariant-loop-ava
invariant-loop-ava l = l.initial.out ++ each_after (codes "+") (map ava_text l.avas) ≡ l.out ++ each_after (codes "+") (map ava_text (drop l.ava-index l.avas))

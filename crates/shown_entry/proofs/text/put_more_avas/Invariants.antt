use Rattle.std.proofs.Common.{◌≡◌, ◌++◌, take}
use Rattle.std.specs.Prelude.{flat_map, codes}
use Rattle.repl_data.specs.declared.change.Ava.{Ava}
use Rattle.repl_data.specs.Text.{ava_text}
use Rattle.shown_entry.proofs.text.put_more_avas.Given as goal

abbrev pub invariant-loop-a : goal.invariant-loop-a
invariant-loop-a l = l.out ≡ l.initial.out ++ flat_map (λ (a : Ava). codes "+" ++ ava_text a) (take l.a-index l.avas)

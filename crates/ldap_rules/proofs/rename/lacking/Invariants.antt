use Rattle.std.proofs.Common.{◌≡◌, take}
use Rattle.std.specs.Prelude.{filter, not}
use Rattle.repl_data.specs.declared.change.Ava.{Ava}
use Rattle.repl_data.specs.Facts.{is_in_name}
use Rattle.ldap_rules.proofs.rename.lacking.Given as goal

abbrev pub invariant-loop-ava : goal.invariant-loop-ava
invariant-loop-ava l = record {
  so_far : l.lacking ≡ filter (λ (a : Ava). not (is_in_name l.new a.attr a.val.key)) (take l.ava-index l.parts);
}

use Rattle.std.specs.Prelude.{not}
use Rattle.repl_data.specs.declared.change.Ava.{Ava}
use Rattle.repl_data.specs.Facts.{is_in_name}
use Rattle.ldap_rules.proofs.Rdns.{one_more}
use Rattle.ldap_rules.proofs.rename.lacking.Goals as goal

pub loop-ava-preserved : goal.loop-ava-preserved
loop-ava-preserved c = record {
  so_far = one_more (λ (a : Ava). not (is_in_name c.args.new.now a.attr a.val.key)) c.args.parts.now c.loop-ava.lacking c.put_lacking.new.lacking c.loop-ava.ava-index c.ava-item.result c.loop-ava-test.true c.ava-item.is c.loop-ava.invariant.so_far c.in_ok-put_lacking.ensures;
}

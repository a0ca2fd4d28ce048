use Rattle.std.proofs.Common.{◌≡◌, drop}
use Rattle.std.specs.Prelude.{fold}
use Rattle.repl_data.specs.Ordered.{Rises}
use Rattle.rule_values.specs.Having.{attr_name}
use Rattle.rule_values.specs.Listed.{with_part}
use Rattle.rule_values.proofs.attributes.with_name.Given as goal

abbrev pub invariant-loop-ava : goal.invariant-loop-ava
invariant-loop-ava l = record {
  ordered : Rises attr_name l.attrs;
  so_far : fold with_part l.attrs (drop l.ava-index l.rdn.avas) ≡ fold with_part l.fn.before l.rdn.avas;
}

use Rattle.std.proofs.Common.{◌≡◌, [], drop}
use Rattle.repl_data.specs.Ordered.{Rises}
use Rattle.rule_values.specs.Having.{attr_name}
use Rattle.rule_values.specs.Listed.{attributes_beside}
use Rattle.rule_values.proofs.attributes.attributes.Given as goal

abbrev pub invariant-loop-one : goal.invariant-loop-one
invariant-loop-one l = record {
  ordered : Rises attr_name l.attrs;
  so_far : attributes_beside l.attrs (drop l.one-index l.given) ≡ attributes_beside [] l.given;
}

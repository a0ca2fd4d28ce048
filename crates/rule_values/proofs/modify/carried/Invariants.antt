use Rattle.std.proofs.Common.{◌≡◌, drop}
use Rattle.std.specs.Prelude.{fold}
use Rattle.repl_data.specs.Ordered.{Rises}
use Rattle.rule_values.specs.Having.{attr_name, held}
use Rattle.rule_values.specs.Modify.{after, carried}
use Rattle.rule_values.proofs.ModSteps.{rest_of}
use Rattle.rule_values.proofs.modify.carried.Given as goal

abbrev pub invariant-loop-one : goal.invariant-loop-one
invariant-loop-one l = record {
  ordered : Rises attr_name l.touched;
  so_far : rest_of (held l.own l.touched) l.mods (drop l.one-index l.given) ≡ carried (held l.own l.fn.touched) l.given;
  is : held l.own l.touched ≡ fold after (held l.own l.fn.touched) l.mods;
}

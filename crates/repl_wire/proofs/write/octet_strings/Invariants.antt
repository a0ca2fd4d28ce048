use Rattle.std.proofs.Common.{◌≡◌, take}
use Rattle.std.specs.List.{flat_map}
use Rattle.repl_data.specs.declared.change.Val.{Val}
use Rattle.repl_wire.specs.Form.{octet_string}
use Rattle.repl_wire.proofs.write.octet_strings.Given as goal

abbrev pub invariant-loop-val : goal.invariant-loop-val
invariant-loop-val l = l.out ≡ flat_map (λ (v : Val). octet_string v.spelled) (take l.val-index l.vals)

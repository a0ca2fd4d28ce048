use Rattle.std.proofs.Common.{◌≡◌, take}
use Rattle.std.specs.List.{flat_map}
use Rattle.repl_data.specs.declared.csn.Csn.{Csn}
use Rattle.repl_data.specs.Text.{csn_bytes}
use Rattle.repl_wire.specs.Form.{octet_string}
use Rattle.repl_wire.proofs.vector.csn_elements.Given as goal

abbrev pub invariant-loop-csn : goal.invariant-loop-csn
invariant-loop-csn l = l.out ≡ flat_map (λ (c : Csn). octet_string (csn_bytes c)) (take l.csn-index l.csns)

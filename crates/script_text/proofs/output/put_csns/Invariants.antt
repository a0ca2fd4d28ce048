use Rattle.std.proofs.Common.{◌≡◌, ◌++◌, map, take}
use Rattle.repl_data.specs.Text.{csn_text}
use Rattle.script_text.proofs.output.put_csns.Given as goal

abbrev pub invariant-loop-csn : goal.invariant-loop-csn
invariant-loop-csn l = l.words ≡ l.fn.words ++ map csn_text (take l.csn-index l.csns)

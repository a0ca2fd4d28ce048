use Rattle.std.proofs.Common.{ap, arith, length}
use Rattle.vector_core.proofs.Texts.{last_slice, long-entry_text}
use Rattle.vector_core.proofs.text.last_csn.Goals as goal

pub returns-then-text-lt20-clause-last : goal.returns-then-text-lt20-clause-last
returns-then-text-lt20-clause-last c = λ csn p e. let l = long-entry_text csn p in let f = ap length e in absurd (omega arith)

pub returns-clause-last : goal.returns-clause-last
returns-clause-last c = λ csn p e. c.read.ensures.again csn p (last_slice csn p c.args.text.now e)

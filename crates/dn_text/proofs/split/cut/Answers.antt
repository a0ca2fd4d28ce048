use Rattle.std.proofs.Common.{false, sym, arith}
use Rattle.dn_text.proofs.Pieces.{pieces-parts, pieces-whole}
use Rattle.dn_text.proofs.split.cut.Goals as goal

pub returns-then-len-text-clause-whole : goal.returns-then-len-text-clause-whole
returns-then-len-text-clause-whole c = λ at. pieces-whole c.args.by false at c.args.text.now (omega arith)

pub returns-clause-parts : goal.returns-clause-parts
returns-clause-parts c = λ at. pieces-parts c.args.by false at c.args.text.now c.bare_len-len.result (sym c.bare_len-len.ensures.value) (omega arith)

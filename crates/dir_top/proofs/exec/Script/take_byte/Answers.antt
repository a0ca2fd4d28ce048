use Rattle.std.proofs.Common.{ℕ, [], ◌∷◌, ◌++◌, sym, subst, ◌∙◌}
use Rattle.dir_top.specs.Output.{lines_of}
use Rattle.dir_top.specs.Running.{Reads}
use Rattle.dir_top.proofs.Runs.{ends_line, after_line, before_feed-ended, content_of-ended, grows_too_long}
use Rattle.dir_top.proofs.exec.Script.take_byte.Goals as goal

pub returns-then-byte-eq10-clause-run : goal.returns-then-byte-eq10-clause-run
returns-then-byte-eq10-clause-run g c = λ whole rest old reads.
    let ended = subst (λ (b : ℕ). Reads whole (b ∷ rest) c.args.self.now old (g.K.Sink.contents c.args.sink.now)) c.if-byte-eq10.true reads in
    after_line whole rest c.end_line.new.self old _ c.end_line.result _
    (c.end_line.ensures.run whole (c.args.self.now.line ++ 10 ∷ []) (lines_of rest) old (before_feed-ended c.args.self.now.line reads.part) (content_of-ended c.args.self.now.line reads.part) (ends_line whole rest c.args.self.now old _ ended))
    c.end_line.ensures.emptied

pub returns-then-len-eq-LENGTH_LIMIT-clause-run : goal.returns-then-len-eq-LENGTH_LIMIT-clause-run
returns-then-len-eq-LENGTH_LIMIT-clause-run g c = λ whole rest old reads.
    let found = grows_too_long whole c.args.byte rest c.args.self.now old _ c.if-byte-eq10.false (sym c.len.ensures ∙ c.if-len-eq-LENGTH_LIMIT.true) reads in
    c.long_line.ensures.run whole found.0 found.1 old _ found.3 found.2

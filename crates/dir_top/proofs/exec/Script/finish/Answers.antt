use Rattle.std.proofs.Common.{[]}
use Rattle.dir_top.proofs.Runs.{ends_last, is_done, is_done_at_once, before_feed-last, content_of-last}
use Rattle.dir_top.proofs.exec.Script.finish.Goals as goal

pub returns-then-is_empty-clause-run : goal.returns-then-is_empty-clause-run
returns-then-is_empty-clause-run g c = λ whole old reads. is_done_at_once whole c.args.self.now old _ (c.is_empty.ensures.0 c.if-is_empty.true) reads

pub returns-in-Ok-clause-run : goal.returns-in-Ok-clause-run
returns-in-Ok-clause-run g c = λ whole old reads.
    is_done whole c.end_line.new.self old _
    (c.in-Ok.ensures.run whole c.args.self.now.line [] old (before_feed-last c.args.self.now.line reads.part) (content_of-last c.args.self.now.line reads.part)
    (ends_last whole c.args.self.now old _ (λ e. let t = c.is_empty.ensures.1 e in cc) reads))

pub returns-in-Err-clause-run : goal.returns-in-Err-clause-run
returns-in-Err-clause-run g c = λ whole old reads.
    c.in-Err.ensures.run whole c.args.self.now.line [] old (before_feed-last c.args.self.now.line reads.part) (content_of-last c.args.self.now.line reads.part)
    (ends_last whole c.args.self.now old _ (λ e. let t = c.is_empty.ensures.1 e in cc) reads)

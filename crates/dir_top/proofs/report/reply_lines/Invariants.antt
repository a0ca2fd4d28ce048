use Rattle.std.proofs.Common.{◌≡◌, ◌++◌, length}
use Rattle.dir_top.specs.Report.{reply_lines as lines_of}
use Rattle.dir_top.proofs.report.reply_lines.Given as goal

abbrev pub invariant-loop-reply : goal.invariant-loop-reply
invariant-loop-reply l = (lines_of l.c l.initial.conn.replies ≡ l.text ++ lines_of l.c l.conn.replies) × (l.conn ≡ record l.initial.conn { replies = l.conn.replies })

abbrev pub decreases-loop-reply : goal.decreases-loop-reply
decreases-loop-reply l = length l.conn.replies

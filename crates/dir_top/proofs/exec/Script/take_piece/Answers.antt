use Rattle.std.proofs.Common.{◌+◌, ◌++◌, drop, arith}
use Rattle.dir_top.proofs.Runs.{reads_at, reads_all}
use Rattle.dir_top.proofs.exec.Script.take_piece.Goals as goal

pub returns-in-Err-clause-run : goal.returns-in-Err-clause-run
returns-in-Err-clause-run g c = λ whole rest old reads.
    c.in-Err.ensures.run whole (drop (c.loop-byte.byte-index + 1) c.args.piece.now ++ rest) old (reads_at whole c.args.piece.now c.loop-byte.byte-index rest c.loop-byte.self old _ c.loop-byte-test.true (c.loop-byte.invariant.2 whole rest old reads))

pub loop-byte-preserved : goal.loop-byte-preserved
loop-byte-preserved g c = (
  c.in_default.ensures.within,
  omega (arith, c.loop-byte.invariant.1, c.take_byte.ensures.later),
  λ whole rest old reads.
      c.in_default.ensures.run whole (drop (c.loop-byte.byte-index + 1) c.args.piece.now ++ rest) old (reads_at whole c.args.piece.now c.loop-byte.byte-index rest c.loop-byte.self old _ c.loop-byte-test.true (c.loop-byte.invariant.2 whole rest old reads)),
)

pub returns-clause-run : goal.returns-clause-run
returns-clause-run g c = λ whole rest old reads. reads_all whole c.args.piece.now c.loop-byte.byte-index rest c.loop-byte.self old _ c.loop-byte-test.false (c.loop-byte.invariant.2 whole rest old reads)

use Rattle.std.proofs.Common.{◌∙◌, ap, arith}
use Rattle.conn_core.specs.Waiting.{waiting}
use Rattle.conn_core.specs.declared.conn.Conn.{Conn}
use Rattle.conn_core.proofs.Taking.{taken_same, taken_copied, taken_all}
use Rattle.conn_core.proofs.rest.Rest.take.Goals as goal

pub loop-count-preserved : goal.loop-count-preserved
loop-count-preserved c = record {
  taken =
      let more = c.loop-count-test.true in
      taken_copied (waiting c.args.self.now c.args.conn.now.replies) c.args.out.now c.loop-count.out c.refill.new.self c.refill.new.conn.replies c.loop-count.count c.copy-count.result c.copy-count.new.out c.copy-count.new.self
      (taken_same (waiting c.args.self.now c.args.conn.now.replies) c.args.out.now c.loop-count.out c.loop-count.self c.refill.new.self c.loop-count.conn.replies c.refill.new.conn.replies c.loop-count.count c.loop-count.invariant.taken c.refill.ensures.bytes)
      (omega (arith, more)) c.copy-count.ensures.count c.copy-count.ensures.moved c.copy-count.ensures.rest;
  others = c.refill.ensures.others ∙ ap (λ (x : Conn). record x { replies = c.refill.new.conn.replies }) c.loop-count.invariant.others;
}

pub returns-else-refill-clause-count : goal.returns-else-refill-clause-count
returns-else-refill-clause-count c =
    let all = taken_all (waiting c.args.self.now c.args.conn.now.replies) c.args.out.now c.loop-count.out c.loop-count.self c.loop-count.conn.replies c.loop-count.count c.loop-count.invariant.taken (c.refill.ensures.none c.if-refill.false) in
    let within = c.loop-count.invariant.taken.within in
    let fits = c.loop-count.invariant.taken.fits in
    omega (arith, all, within, fits)

use Rattle.std.proofs.Common.{sym, ap, map, Option}
use Rattle.ldap_types.specs.declared.reply.ReplyOp.{ReplyOp}
use Rattle.conn_core.specs.Serving.{entry_bytes, sent, reply_to}
use Rattle.conn_core.proofs.Joined.{join_none, join_response, part_more, part_first}
use Rattle.conn_core.proofs.conn.Conn.reply.Goals as goal

pub returns-in-Err-clause-err : goal.returns-in-Err-clause-err
returns-in-Err-clause-err c =
    let r = c.args.request.now in
    part_more (map (entry_bytes r.id) c.args.answer.entries) (sent r.id (reply_to r.op c.args.answer.result)) c.args.self.now c.send_entries.new.self c.in-Err.ensures.err

pub returns-in_default-reply_to-clause-ok : goal.returns-in_default-reply_to-clause-ok
returns-in_default-reply_to-clause-ok c =
    let r = c.args.request.now in
    join_none c.args.self.now c.send_entries.new.self (map (entry_bytes r.id) c.args.answer.entries) (sent r.id (reply_to r.op c.args.answer.result))
    (ap (λ (x : Option ReplyOp). sent r.id x) (sym c.in_default-reply_to.ensures)) c.in_default.ensures.ok

pub returns-in-Err-send-clause-err : goal.returns-in-Err-send-clause-err
returns-in-Err-send-clause-err c =
    let r = c.args.request.now in
    part_first (map (entry_bytes r.id) c.args.answer.entries) (sent r.id (reply_to r.op c.args.answer.result)) c.args.self.now c.send_entries.new.self c.send.new.self
    c.in_default.ensures.ok c.in-Err-send.ensures.err

pub returns-clause-ok : goal.returns-clause-ok
returns-clause-ok c =
    let r = c.args.request.now in
    join_response c.args.self.now c.send_entries.new.self c.send.new.self (map (entry_bytes r.id) c.args.answer.entries) r.id (reply_to r.op c.args.answer.result) c.in-Some.op
    (sym c.in-Some.ensures) c.in_default.ensures.ok c.in_default-send.ensures.ok

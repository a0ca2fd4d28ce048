use Rattle.conn_core.proofs.Notices.{notice_by}
use Rattle.conn_core.proofs.reply.notice.Goals as goal

pub returns : goal.returns
returns c = notice_by c.bytes_of.result c.result_of.result c.in_ok-oid.oid c.result_of.ensures c.in_ok-oid.ensures c.bytes_of.ensures

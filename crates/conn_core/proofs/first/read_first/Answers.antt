use Rattle.std.proofs.Common.{sym, ◌∙◌}
use Rattle.conn_core.proofs.Streams.{as_first, size_within}
use Rattle.conn_core.proofs.first.read_first.Goals as goal

pub returns-then-is_unbind : goal.returns-then-is_unbind
returns-then-is_unbind c = (c.in-Ok.request, c.in-Ok.size, as_first c.args.bytes.now _ c.in-Ok.ensures.exact, sym c.is_unbind.ensures ∙ c.if-is_unbind.true)

pub returns-else-is_unbind : goal.returns-else-is_unbind
returns-else-is_unbind c =
    let first = as_first c.args.bytes.now _ c.in-Ok.ensures.exact in
    let within = size_within c.args.bytes.now c.in-Ok.request c.in-Ok.size first in
    (first, sym c.is_unbind.ensures ∙ c.if-is_unbind.false, within.0, within.1)

pub returns-in-Err-More : goal.returns-in-Err-More
returns-in-Err-More c = as_first c.args.bytes.now _ (rw c.in-Err-More.field-0-is at c.in-Err-More.ensures.exact)

pub returns-in-Err-NotLdap : goal.returns-in-Err-NotLdap
returns-in-Err-NotLdap c = (c.in-Err-NotLdap._why, as_first c.args.bytes.now _ (rw c.in-Err-NotLdap.field-0-is at c.in-Err-NotLdap.ensures.exact))

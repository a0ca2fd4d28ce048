-- The messages of a session, from requests and replies.
use Rattle.std.specs.Prelude.{ℕ, ◌==◌, List, bytes_eq, Option, Some, None, Result, Ok, if◌then◌else◌}
use Rattle.repl_data.specs.declared.csn.Csn.{Csn}
use Rattle.ldap_types.specs.declared.request.Request.{Request}
use Rattle.ldap_types.specs.declared.request.Op.{Op}
use Rattle.ldap_types.specs.declared.request.Op.TheVariants as op
use Rattle.ldap_types.specs.declared.reply.Reply.{Reply}
use Rattle.ldap_types.specs.declared.reply.ReplyOp.{ReplyOp}
use Rattle.ldap_types.specs.declared.reply.ReplyOp.TheVariants as reply_op
use Rattle.vector_core.specs.declared.answers.Start.{Start}
use Rattle.repl_wire.specs.declared.fault.WireFault.{WireFault}
use Rattle.repl_wire.specs.declared.fault.WireWhy.TheVariants as why
use Rattle.repl_wire.specs.declared.session.End.{End}
use Rattle.repl_wire.specs.Fault.{◌>>=◌, bad, in_value}
use Rattle.repl_wire.specs.Form.{start_name, end_name}
use Rattle.repl_wire.specs.Value.{start_at, started_at, end_at}

abbrev pub given : Option (List ℕ) → Result (List ℕ) WireFault
given (Some value) = Ok value
given None = bad 0 why.NoValue

-- the value of an extended request of this name
abbrev pub value_of : List ℕ → Op → Result (List ℕ) WireFault
value_of name (op.Extended oid value) = if bytes_eq oid name then given value else bad 0 why.Op
value_of name _ = bad 0 why.Op

-- the start that a request is, or the first fault. Controls are not looked at
unfoldable pub start_of : Request → Result Start WireFault
start_of r = value_of start_name r.op >>= λ value. in_value (start_at value)

-- the end that a request is
unfoldable pub end_of : Request → Result End WireFault
end_of r = value_of end_name r.op >>= λ value. in_value (end_at value)

-- the value of an extended answer with the code 0; its texts and its name are not looked at
abbrev pub answer_of : ReplyOp → Result (List ℕ) WireFault
answer_of (reply_op.Extended r oid value) = if r.code.number == 0 then given value else bad 0 why.Code
answer_of _ = bad 0 why.Op

-- the vector of a consumer that accepted a start
unfoldable pub started_of : Reply → Result (List Csn) WireFault
started_of r = answer_of r.op >>= λ value. in_value (started_at value)

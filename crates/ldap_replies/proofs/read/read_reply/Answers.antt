use Rattle.std.proofs.Common.{◌∙◌, ap, arith}
use Rattle.ldap_replies.specs.Grammar.{reply_at}
use Rattle.ldap_replies.proofs.BackMessage.{reply_back}
use Rattle.ldap_replies.proofs.FoundMessage.{written_by, within_by, only_by}
use Rattle.ldap_replies.proofs.read.read_reply.Goals as goal

pub returns-clause-found : goal.returns-clause-found
returns-clause-found c = written_by c.args.input.now c.find_reply.result (λ i. omega (arith, c.type_inv.input i)) c.find_reply.ensures

pub returns-clause-within : goal.returns-clause-within
returns-clause-within c = within_by c.args.input.now c.find_reply.result (λ i. omega (arith, c.type_inv.input i)) c.find_reply.ensures

pub returns-clause-only : goal.returns-clause-only
returns-clause-only c r rest i is = only_by c.args.input.now c.find_reply.result _ c.find_reply.ensures (ap (reply_at 2097152) is ∙ reply_back r rest i)

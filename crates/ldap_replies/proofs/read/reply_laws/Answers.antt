use Rattle.ldap_replies.proofs.BackMessage.{reply_back}
use Rattle.ldap_replies.proofs.Stay.{fault_once, front_wants_more, none_is_prefix}
use Rattle.ldap_replies.proofs.read.reply_laws.Goals as goal

pub returns-clause-again : goal.returns-clause-again
returns-clause-again c = reply_back

pub returns-clause-front : goal.returns-clause-front
returns-clause-front c = front_wants_more

pub returns-clause-no_prefix : goal.returns-clause-no_prefix
returns-clause-no_prefix c = none_is_prefix

pub returns-clause-fault_stays : goal.returns-clause-fault_stays
returns-clause-fault_stays c = fault_once

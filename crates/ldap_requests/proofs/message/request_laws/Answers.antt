use Rattle.ldap_requests.proofs.StableMessage.{request_again, fault_once, none_is_prefix}
use Rattle.ldap_requests.proofs.CompleteMessage.{spelled_is_read, one_request, no_spelling_is_prefix}
use Rattle.ldap_requests.proofs.message.request_laws.Goals as goal

pub returns-clause-request_stays : goal.returns-clause-request_stays
returns-clause-request_stays c = request_again

pub returns-clause-fault_stays : goal.returns-clause-fault_stays
returns-clause-fault_stays c = fault_once

pub returns-clause-no_prefix : goal.returns-clause-no_prefix
returns-clause-no_prefix c = none_is_prefix

pub returns-clause-spelling_read : goal.returns-clause-spelling_read
returns-clause-spelling_read c = spelled_is_read

pub returns-clause-one_request : goal.returns-clause-one_request
returns-clause-one_request c = one_request

pub returns-clause-no_spelling_is_prefix : goal.returns-clause-no_spelling_is_prefix
returns-clause-no_spelling_is_prefix c = no_spelling_is_prefix

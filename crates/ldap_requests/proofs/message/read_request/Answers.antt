use Rattle.ldap_requests.proofs.SoundMessage.{spelled_by, within_by}
use Rattle.ldap_requests.proofs.CompleteMessage.{only_by, more_by, bad_by}
use Rattle.ldap_requests.proofs.message.read_request.Goals as goal

pub returns-clause-found : goal.returns-clause-found
returns-clause-found c = spelled_by c.args.input.now c.find_request.result c.find_request.ensures

pub returns-clause-within : goal.returns-clause-within
returns-clause-within c = within_by c.args.input.now c.find_request.result c.find_request.ensures

pub returns-clause-only : goal.returns-clause-only
returns-clause-only c = only_by c.args.input.now c.find_request.result c.find_request.ensures

pub returns-clause-more : goal.returns-clause-more
returns-clause-more c = more_by c.args.input.now c.find_request.result c.find_request.ensures

pub returns-clause-bad : goal.returns-clause-bad
returns-clause-bad c = bad_by c.args.input.now c.find_request.result c.find_request.ensures

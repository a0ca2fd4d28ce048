use Rattle.dn_text.proofs.Found.{found-by, only-by}
use Rattle.dn_text.proofs.name.read_dn.Goals as goal

pub returns-clause-found : goal.returns-clause-found
returns-clause-found c = found-by c.args.text.now c.find_dn.result c.find_dn.ensures

pub returns-clause-only : goal.returns-clause-only
returns-clause-only c = only-by c.args.text.now c.find_dn.result c.find_dn.ensures

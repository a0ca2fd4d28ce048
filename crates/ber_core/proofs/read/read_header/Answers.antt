use Rattle.ber_core.proofs.Readers.{header-found, header-only, header-more, header-bad}
use Rattle.ber_core.proofs.read.read_header.Goals as goal

pub returns-clause-found : goal.returns-clause-found
returns-clause-found c = header-found c.args.limit c.args.input.now c.find_header.result c.find_header.ensures.exact

pub returns-clause-only : goal.returns-clause-only
returns-clause-only c = header-only c.args.limit c.args.input.now c.find_header.result c.find_header.ensures.exact

pub returns-clause-more : goal.returns-clause-more
returns-clause-more c = header-more c.args.limit c.args.input.now c.find_header.result c.find_header.ensures.exact

pub returns-clause-bad : goal.returns-clause-bad
returns-clause-bad c = header-bad c.args.limit c.args.input.now c.find_header.result c.find_header.ensures.exact

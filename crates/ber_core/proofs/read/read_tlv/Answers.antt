use Rattle.ber_core.proofs.Readers.{element-found, element-within, element-only, element-more, element-bad}
use Rattle.ber_core.proofs.read.read_tlv.Goals as goal

pub returns-clause-found : goal.returns-clause-found
returns-clause-found c = element-found c.args.limit c.args.input.now c.find_element.result c.find_element.ensures.exact

pub returns-clause-within : goal.returns-clause-within
returns-clause-within c = element-within c.args.limit c.args.input.now c.find_element.result c.find_element.ensures.exact

pub returns-clause-only : goal.returns-clause-only
returns-clause-only c = element-only c.args.limit c.args.input.now c.find_element.result c.find_element.ensures.exact

pub returns-clause-more : goal.returns-clause-more
returns-clause-more c = element-more c.args.limit c.args.input.now c.find_element.result c.find_element.ensures.exact

pub returns-clause-bad : goal.returns-clause-bad
returns-clause-bad c = element-bad c.args.limit c.args.input.now c.find_element.result c.find_element.ensures.exact

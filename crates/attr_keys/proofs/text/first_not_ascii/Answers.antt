use Rattle.attr_keys.proofs.Texts.{ascii-if_none}
use Rattle.attr_keys.proofs.text.first_not_ascii.Goals as goal

pub returns-clause-ascii : goal.returns-clause-ascii
returns-clause-ascii c = ascii-if_none c.args.value.now _ c.first_from_128.ensures

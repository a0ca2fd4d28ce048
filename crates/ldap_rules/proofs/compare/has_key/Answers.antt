use Rattle.std.proofs.Common.{◌∙◌}
use Rattle.ldap_rules.proofs.Shows.{any_key}
use Rattle.ldap_rules.proofs.compare.has_key.Goals as goal

pub returns : goal.returns
returns c = c.is_any_key.ensures ∙ any_key c.args.key.now c.args.vals.now

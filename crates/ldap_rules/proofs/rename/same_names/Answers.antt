use Rattle.std.proofs.Common.{ap, ◌∙◌, is_eq}
use Rattle.ldap_rules.proofs.Rdns.{compared_keys}
use Rattle.ldap_rules.proofs.rename.same_names.Goals as goal

pub returns : goal.returns
returns c = c.is_eq.ensures ∙ ap is_eq c.cmp.ensures ∙ compared_keys c.args.a.now c.args.b.now

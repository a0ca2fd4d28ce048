use Rattle.std.proofs.Common.{◌∙◌, ap, sym, map, Ok, List}
use Rattle.repl_data.specs.declared.change.Val.{Val}
use Rattle.ldap_rules.specs.Compare.{told}
use Rattle.ldap_rules.proofs.Shows.{shown_told}
use Rattle.ldap_rules.proofs.compare.compared.Goals as goal

pub returns : goal.returns
returns c =
    shown_told c.args.shown.now c.args.name.now c.args.value.now c.in_ok-attr.attr c.in-Some.one.now c.in_ok-val-in-Some.val c.in_ok-attr.ensures c.in-Some.ensures c.in_ok-val-in-Some.ensures
    ∙ ap Ok (sym (c.told.ensures ∙ ap (λ (vals : List Val). told c.in_ok-val-in-Some.val.key (map (λ (v : Val). v.key) vals)) c.as_slice.ensures))

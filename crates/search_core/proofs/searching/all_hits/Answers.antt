use Rattle.std.proofs.Common.{sym, ap, subst, ◌∙◌}
use Rattle.dn_text.specs.Reading.{dn_in}
use Rattle.dn_text.specs.Case.{Gives}
use Rattle.dn_text.specs.Names.{rdns_above}
use Rattle.dn_text.specs.Names.{read_object, within}
use Rattle.search_core.specs.Search.{is_root, hits_below}
use Rattle.search_core.proofs.Lists.{hits_from}
use Rattle.search_core.proofs.searching.all_hits.Goals as goal

pub returns : goal.returns
returns g c =
    subst (Gives c.hits_below.result)
    (sym (hits_from (g.V.View.view c.args.view.now) c.args.vector.now c.args.request.now c.in_ok-scope.scope c.in_ok-name.name c.in_ok-rdns.rdns c.in_ok-scope.ensures
    (ap (λ t. read_object (dn_in t)) (sym c.as_slice.ensures) ∙ c.in_ok-name.ensures)
    (ap (λ rs. is_root rs c.in_ok-scope.scope) (sym c.as_slice-2.ensures) ∙ sym c.is_root.ensures ∙ c.if-is_root.false)
    (ap (λ s. within (rdns_above (dn_in s) c.in_ok-name.name)) (sym c.suffix_name-2.ensures) ∙ c.in_ok-rdns.ensures)))
    (subst (λ rs. Gives c.hits_below.result (hits_below (g.V.View.view c.args.view.now) c.args.vector.now c.args.request.now c.in_ok-scope.scope rs)) c.as_slice-3.ensures c.hits_below.ensures)

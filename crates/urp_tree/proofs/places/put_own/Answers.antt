use Rattle.std.proofs.Common.{◌≡◌, Bool, None, Some, true, false, refl, sym, ap, ◌∙◌}
use Rattle.std.specs.BTreeMap.{get}
use Rattle.repl_data.specs.Order.{uid_cmp, uid_eq, suffix_id}
use Rattle.urp_tree.proofs.Placed.{on_ok, own_stays}
use Rattle.urp_tree.proofs.places.put_own.Goals as goal

pub returns-clause-places : goal.returns-clause-places
returns-clause-places c =
    on_ok c.put_place.result
    (λ h ds root rest are. h ds (c.place.ensures ∙ own_stays _ ds c.args.id c.args.places.now root rest (sym c.contains_key.ensures ∙ c.if-contains_key.false)) are)
    c.put_place.ensures.places

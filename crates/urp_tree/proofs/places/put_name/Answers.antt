use Rattle.std.proofs.Common.{◌≡◌, ◌+◌, List, [], ◌∷◌, ◌++◌, Option, None, Some, true, false, take, slice_get, sym, ap, subst, ◌∙◌}
use Rattle.std.specs.List.{AllByRecursion}
use Rattle.std.specs.Option.{option_copied}
use Rattle.urp_names.specs.declared.contenders.Contender.{Contender}
use Rattle.urp_names.specs.Contending.{IsFront, IsInFront}
use Rattle.urp_tree.specs.Index.{who_at, wanting}
use Rattle.urp_tree.specs.Walk.{children_in}
use Rattle.urp_tree.proofs.Placed.{on_ok, who_none}
use Rattle.urp_tree.proofs.Fronts.{names_placed, names_covered, none_covered}
use Rattle.urp_tree.proofs.places.put_name.Goals as goal

pub returns-in-Some-clause-places : goal.returns-in-Some-clause-places
returns-in-Some-clause-places c =
    let who = (c.requires.tree.indexed c.args.parent c.in-Some.row.now (sym c.row_of.ensures ∙ ap option_copied c.in-Some.is)).who c.args.rdn.now in
    on_ok c.put_front.result
    (λ h ds rises turns are.
    h ds
    (names_placed c.args.parent c.args.rdn.now c.args.id (option_copied c.args.entered) (children_in c.args.rows.now) ds turns rises c.front.result.now
    (subst (λ (xs : List Contender). AllByRecursion (IsFront c.args.id xs) c.front.result.now) who c.front.ensures.first))
    are)
    c.put_front.ensures.places

pub returns-in-Some-clause-covers : goal.returns-in-Some-clause-covers
returns-in-Some-clause-covers c =
    let who = (c.requires.tree.indexed c.args.parent c.in-Some.row.now (sym c.row_of.ensures ∙ ap option_copied c.in-Some.is)).who c.args.rdn.now in
    on_ok c.put_front.result
    (λ h ds turns.
    names_covered c.args.parent c.args.rdn.now c.args.id (option_copied c.args.entered) (children_in c.args.rows.now) ds turns c.put_front.new.places c.front.result.now
    (subst (λ (xs : List Contender). AllByRecursion (IsInFront c.args.id xs c.front.result.now) xs) who c.front.ensures.all) h)
    c.put_front.ensures.covers

pub returns-in-None-clause-covers : goal.returns-in-None-clause-covers
returns-in-None-clause-covers c = λ ds turns.
    none_covered c.args.parent c.args.rdn.now c.args.id (option_copied c.args.entered) (children_in c.args.rows.now) ds c.args.places.now
    (who_none c.args.rows.now c.requires.tree c.seat_count-seats.ensures.ordered c.args.parent c.args.rdn.now (sym c.row_of.ensures ∙ ap option_copied c.in-None.is)) turns

use Rattle.std.proofs.Common.{◌≡◌, ◌+◌, List, [], ◌∷◌, ◌++◌, Option, None, Some, true, false, take, slice_get, sym, ap, subst, ◌∙◌}
use Rattle.std.specs.Option.{option_copied}
use Rattle.urp_names.specs.declared.contenders.Contender.{Contender}
use Rattle.urp_names.specs.Contending.{without}
use Rattle.urp_tree.specs.Index.{contender}
use Rattle.urp_tree.specs.Placed.{is_beaten}
use Rattle.urp_tree.proofs.Placed.{who_none}
use Rattle.urp_tree.proofs.places.loses_after.Goals as goal

pub returns-in-Some : goal.returns-in-Some
returns-in-Some c =
    let who = (c.requires.indexed c.args.child.now.parent c.in-Some.row.now (sym c.row_of.ensures ∙ ap option_copied c.in-Some.is)).who c.args.child.now.rdn in
    c.loses_but.ensures ∙ ap (λ (xs : List Contender). is_beaten (without c.args.child.now.id xs) (contender c.args.child.now)) who

pub returns-in-None : goal.returns-in-None
returns-in-None c =
    ap (λ (xs : List Contender). is_beaten (without c.args.child.now.id xs) (contender c.args.child.now))
    (sym (who_none c.args.rows.now c.requires c.seat_count-seats.ensures.ordered c.args.child.now.parent c.args.child.now.rdn (sym c.row_of.ensures ∙ ap option_copied c.in-None.is)))

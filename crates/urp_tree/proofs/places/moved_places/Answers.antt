use Rattle.std.proofs.Common.{◌≡◌, List, ◌∷◌, [], Option, true, None, Some, sym, ap, subst, ◌∙◌}
use Rattle.std.specs.Prelude.{is_some}
use Rattle.std.specs.Option.{option_copied}
use Rattle.std.specs.BTreeMap.{get}
use Rattle.repl_data.specs.declared.csn.Uid.{Uid}
use Rattle.repl_data.specs.Order.{uid_cmp}
use Rattle.urp_tree.specs.declared.child.Child.{Child}
use Rattle.urp_tree.specs.declared.step.Step.{Step}
use Rattle.urp_tree.specs.declared.step.Step.TheVariants.{Enter, Leave}
use Rattle.urp_tree.specs.Rows.{facts_in}
use Rattle.urp_tree.specs.Index.{HasRisingIds}
use Rattle.urp_tree.specs.Walk.{children_in, stepped}
use Rattle.urp_tree.specs.Placed.{Turns, IsMoved}
use Rattle.urp_tree.proofs.Settled.{rising_children}
use Rattle.urp_tree.proofs.Placed.{steps_rise, stays, name_kept, no_places}
use Rattle.urp_tree.proofs.Turned.{move_turned}
use Rattle.urp_tree.proofs.places.moved_places.Goals as goal

pub returns-clause-places : goal.returns-clause-places
returns-clause-places c =
    let a : Child = c.args.old.now in
    let b : Child = c.args.new.now in
    let cs : List Child = children_in c.args.rows.now in
    let ss : List Step = Leave a ∷ Enter b ∷ [] in
    let rises : HasRisingIds cs = rising_children (facts_in c.args.rows.now.entries) c.requires.tree.rises in
    let up : HasRisingIds (stepped ss cs) = steps_rise ss cs rises in
    let moved : IsMoved cs (stepped ss cs) a b = move_turned c.requires.trues.0 cs a b rises c.requires.trues.1 c.requires.same in
    c.in_ok-put_entered.ensures.places (stepped ss cs) up moved.came
    (c.in_ok-put_name.ensures.places (stepped ss cs) up (subst (λ (o : Option Child). Turns a.parent a.rdn a.id o cs (stepped ss cs)) (sym c.again.ensures) moved.left) (no_places c.new-places.result (stepped ss cs) c.new-places.ensures.empty))

pub returns-clause-rest : goal.returns-clause-rest
returns-clause-rest c =
    let a : Child = c.args.old.now in
    let b : Child = c.args.new.now in
    let cs : List Child = children_in c.args.rows.now in
    let ss : List Step = Leave a ∷ Enter b ∷ [] in
    let rises : HasRisingIds cs = rising_children (facts_in c.args.rows.now.entries) c.requires.tree.rises in
    let moved : IsMoved cs (stepped ss cs) a b = move_turned c.requires.trues.0 cs a b rises c.requires.trues.1 c.requires.same in
    let came = c.in_ok-put_entered.ensures.covers (stepped ss cs) moved.came in
    let left = c.in_ok-put_name.ensures.covers (stepped ss cs) (subst (λ (o : Option Child). Turns a.parent a.rdn a.id o cs (stepped ss cs)) (sym c.again.ensures) moved.left) in
    stays c.requires.trues.0 ss cs rises c.requires.trues.1 c.put_entered.new.places (
      record {
        own = subst (λ (u : Uid). is_some (get uid_cmp c.put_entered.new.places u) ≡ true) (sym c.requires.same) came.own;
        name = name_kept cs (stepped ss cs) c.put_name.new.places c.put_entered.new.places a.parent a.rdn a.id c.in_ok-put_entered.ensures.keeps left;
      },
      (came, tt),
    )

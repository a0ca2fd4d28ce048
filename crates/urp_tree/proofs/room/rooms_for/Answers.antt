use Rattle.std.proofs.Common.{◌≡◌, ℕ, ◌+◌, List, [], ◌∷◌, ◌++◌, take, sym, ap, subst, ◌∙◌}
use Rattle.std.specs.List.{AllByRecursion}
use Rattle.std.proofs.lemmas.List.{take_more}
use Rattle.urp_tree.specs.declared.step.Step.{Step}
use Rattle.urp_tree.specs.Climb.{RoomFor}
use Rattle.urp_tree.proofs.CanWalk.{rooms_all, rooms_last}
use Rattle.urp_tree.proofs.room.rooms_for.Goals as goal

pub loop-s-preserved : goal.loop-s-preserved
loop-s-preserved c =
    let ss : List Step = c.args.steps.now in
    let i : ℕ = c.loop-s.s-index in
    let s : Step = c.s-item.result in
    let more : take (i + 1) ss ≡ take i ss ++ s ∷ [] = take_more ss i s c.loop-s-test.true ∙ ap (λ (t : Step). take i ss ++ t ∷ []) (sym c.s-item.is) in
    record {
      facts = c.room_for.ensures.facts ∙ c.loop-s.invariant.facts;
      tree = c.room_for.ensures.tree;
      rooms =
          subst (AllByRecursion (RoomFor c.room_for.new.rows)) (sym more)
          (rooms_last c.room_for.new.rows (take i ss) s (rooms_all c.loop-s.rows c.room_for.new.rows c.room_for.ensures.kept (take i ss) c.loop-s.invariant.rooms) c.in_ok-room_for.ensures.room);
    }

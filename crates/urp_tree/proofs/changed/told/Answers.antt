use Rattle.std.proofs.Common.{◌≡◌, List, ℕ, ◌++◌, flat_map, Option, sym, ap, subst, ◌∙◌, append-nil, append_assoc}
use Rattle.repl_data.specs.declared.csn.Uid.{Uid}
use Rattle.repl_data.specs.View.{view_of_facts}
use Rattle.urp_tree.specs.declared.row.Row.{Row}
use Rattle.urp_tree.specs.declared.changed.Changed.{Changed}
use Rattle.urp_tree.specs.Rows.{facts_in}
use Rattle.urp_tree.specs.Moves.{IsViewMove, empty_view, told_seat}
use Rattle.urp_tree.proofs.Differ.{all_told_move}
use Rattle.urp_tree.proofs.changed.told.Goals as goal

pub loop-id-preserved : goal.loop-id-preserved
loop-id-preserved c =
    ap (λ (cs : List Changed). cs ++ flat_map (told_seat c.args.rows.now) c.next.new.self) c.in_ok-push_told.ensures
    ∙ append_assoc c.loop-id.list (told_seat c.args.rows.now (c.in-Some.id.now, c.in-Some.seat.now)) (flat_map (told_seat c.args.rows.now) c.next.new.self)
    ∙ ap (λ (xs : List (Uid × Option Row)). c.loop-id.list ++ flat_map (told_seat c.args.rows.now) xs) (sym c.in-Some.ensures.steps)
    ∙ c.loop-id.invariant

pub returns : goal.returns
returns c = λ suffix.
    let all : c.loop-id.list ≡ flat_map (told_seat c.args.rows.now) c.args.rows.now.entries =
    sym (append-nil c.loop-id.list)
    ∙ ap (λ (xs : List (Uid × Option Row)). c.loop-id.list ++ flat_map (told_seat c.args.rows.now) xs) (sym c.in-None.ensures.steps.0)
    ∙ c.loop-id.invariant in
    subst (IsViewMove (empty_view suffix) (view_of_facts suffix (facts_in c.args.rows.now.entries))) (sym all)
    (all_told_move c.args.rows.now c.requires c.seat_count-seats.ensures.ordered suffix)

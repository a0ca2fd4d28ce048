use Rattle.std.proofs.Common.{suc, length, sym, subst}
use Rattle.urp_tree.specs.Rows.{facts_in}
use Rattle.urp_tree.specs.Climb.{IsWay}
use Rattle.urp_tree.proofs.Fits.{on_each, way_moves, way_goes, way_comes, way_rests}
use Rattle.urp_tree.proofs.way.way_from.Goals as goal

pub returns-then-shows-2 : goal.returns-then-shows-2
returns-then-shows-2 c =
    on_each c.moving.result
    (λ ss h. subst (IsWay (suc (length (facts_in c.args.rows.now.entries))) (facts_in c.args.rows.now.entries) c.args.new.now) (sym h)
    (way_moves c.args.rows.now c.requires.tree c.requires.ordered c.args.row.now c.args.new.now c.requires.row c.requires.child c.requires.below c.requires.same_parent
    (c.shows.ensures.yes c.if-shows.true) (c.shows-then-shows.ensures.yes c.if-shows-2.true)))
    c.moving.ensures

pub returns-then-shows : goal.returns-then-shows
returns-then-shows c =
    on_each c.going.result
    (λ ss h. way_goes c.args.rows.now c.requires.tree c.requires.ordered c.args.row.now c.args.new.now c.requires.row c.requires.child c.requires.below c.requires.same_parent ss
    (c.shows.ensures.yes c.if-shows.true) (c.shows-then-shows.ensures.no c.if-shows-2.false) h)
    c.going.ensures

pub returns-then-shows-3 : goal.returns-then-shows-3
returns-then-shows-3 c =
    on_each c.coming.result
    (λ ss h. way_comes c.args.rows.now c.requires.tree c.requires.ordered c.args.row.now c.args.new.now c.requires.row c.requires.child c.requires.below c.requires.same_parent ss
    (c.shows.ensures.no c.if-shows.false) (c.shows-2.ensures.yes c.if-shows-3.true) h)
    c.coming.ensures

pub returns : goal.returns
returns c =
    subst (IsWay (suc (length (facts_in c.args.rows.now.entries))) (facts_in c.args.rows.now.entries) c.args.new.now) (sym c.new.ensures)
    (way_rests c.args.rows.now c.requires.tree c.requires.ordered c.args.row.now c.args.new.now c.requires.row c.requires.child c.requires.below c.requires.same_parent
    (c.shows.ensures.no c.if-shows.false) (c.shows-2.ensures.no c.if-shows-3.false))

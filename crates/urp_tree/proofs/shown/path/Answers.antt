use Rattle.std.proofs.Common.{List, [], ◌++◌, refl, sym, ap, ◌∙◌, append-nil}
use Rattle.repl_data.specs.declared.change.Rdn.{Rdn}
use Rattle.repl_data.specs.View.{view_of_facts, path_of}
use Rattle.urp_tree.specs.Rows.{facts_in}
use Rattle.urp_tree.proofs.Paths.{path_up, path_less, path_parent, path_more, path_end}
use Rattle.urp_tree.proofs.shown.path.Goals as goal

pub shown_name-requires-clause-parent : goal.shown_name-requires-clause-parent
shown_name-requires-clause-parent c =
    path_parent c.args.rows.now c.requires.tree c.seat_count-seats.ensures.ordered [] c.loop-entry.at c.in-Some.entry.now c.in-Some.ensures c.loop-entry.invariant.there c.in-Some.entry.now.parent refl

pub loop-entry-preserved : goal.loop-entry-preserved
loop-entry-preserved c = record {
  there = path_up c.args.rows.now c.requires.tree c.seat_count-seats.ensures.ordered [] c.loop-entry.at c.in-Some.entry.now c.in-Some.ensures c.loop-entry.invariant.there c.above-at.result c.above-at.ensures;
  more = λ suffix.
      ap (λ (p : List Rdn). p ++ path_of (view_of_facts suffix (facts_in c.args.rows.now.entries)) c.above-at.result) c.in_ok-push.ensures.ok
      ∙ path_more c.args.rows.now c.requires.tree c.seat_count-seats.ensures.ordered suffix c.loop-entry.at c.in-Some.entry.now c.in-Some.ensures c.loop-entry.invariant.there c.above-at.result c.above-at.ensures
      c.loop-entry.path c.in_ok-name.name (path_of (view_of_facts suffix (facts_in c.args.rows.now.entries)) c.args.id) c.in_ok-name.ensures (c.loop-entry.invariant.more suffix);
}

pub loop-entry-smaller : goal.loop-entry-smaller
loop-entry-smaller c =
    path_less c.args.rows.now c.requires.tree c.seat_count-seats.ensures.ordered [] c.loop-entry.at c.in-Some.entry.now c.in-Some.ensures c.loop-entry.invariant.there c.above-at.result c.above-at.ensures

pub returns : goal.returns
returns c = λ suffix.
    sym (append-nil c.loop-entry.path)
    ∙ ap (λ (p : List Rdn). c.loop-entry.path ++ p) (sym (path_end c.args.rows.now c.requires.tree c.seat_count-seats.ensures.ordered suffix c.loop-entry.at c.in_default.ensures c.loop-entry.invariant.there))
    ∙ c.loop-entry.invariant.more suffix

use Rattle.std.proofs.Common.{[], ◌∷◌, ◌++◌, sym, ap, subst, ◌∙◌, append_assoc, append-nil}
use Rattle.urp_tree.specs.declared.child.Child.{Child}
use Rattle.urp_tree.specs.Rows.{facts_in}
use Rattle.urp_tree.specs.Walk.{children_in}
use Rattle.urp_tree.specs.Climb.{IsChain}
use Rattle.urp_tree.proofs.Chains.{link, chain_end, parent_there, parent_lower}
use Rattle.urp_tree.proofs.way.chain.Goals as goal

pub loop-entry-preserved : goal.loop-entry-preserved
loop-entry-preserved c =
    let weak = c.in-Some.ensures in
    let child : Child = c.in_ok-child.child in
    record {
      there = parent_there c.args.children c.args.rows.now c.requires.tree c.requires.ordered c.loop-entry.at c.in-Some.entry.now child weak c.in_ok-child.ensures;
      more = λ rest h.
          subst (IsChain c.args.children (facts_in c.args.rows.now.entries) (children_in c.args.rows.now) c.args.from)
          (sym (ap (λ cs. cs ++ rest) c.in_ok-push.ensures.ok ∙ append_assoc c.loop-entry.chain (child ∷ []) rest))
          (c.loop-entry.invariant.more (child ∷ rest) (link c.args.children c.args.rows.now c.requires.tree c.requires.ordered c.loop-entry.at c.in-Some.entry.now child rest weak c.in_ok-child.ensures h));
    }

pub loop-entry-smaller : goal.loop-entry-smaller
loop-entry-smaller c =
    parent_lower c.args.children c.args.rows.now c.requires.tree c.requires.ordered c.loop-entry.at c.in-Some.entry.now c.in_ok-child.child c.in-Some.ensures c.in_ok-child.ensures

pub returns : goal.returns
returns c =
    subst (IsChain c.args.children (facts_in c.args.rows.now.entries) (children_in c.args.rows.now) c.args.from) (append-nil c.loop-entry.chain)
    (c.loop-entry.invariant.more [] (chain_end c.args.children c.args.rows.now c.requires.tree c.requires.ordered c.loop-entry.at (λ r h. c.in_default.ensures r h) c.loop-entry.invariant.there))

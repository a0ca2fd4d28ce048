use Rattle.std.proofs.Common.{[], ◌∷◌, ◌++◌, ap, ◌∙◌}
use Rattle.repl_data.specs.Presence.{present_of, is_among_entries}
use Rattle.repl_data.specs.View.{view_of_facts, path_of}
use Rattle.urp_tree.specs.Rows.{facts_in}
use Rattle.urp_tree.proofs.shown.contested_path.Goals as goal

pub path-requires-clause-there : goal.path-requires-clause-there
path-requires-clause-there c = ap (is_among_entries (present_of (facts_in c.args.rows.now.entries))) c.above-up.ensures ∙ c.requires.parent

pub returns : goal.returns
returns c = λ suffix.
    c.in_ok-append.ensures
    ∙ (λ i. c.in_ok-push.ensures.ok i ++ c.in_ok-more.ensures suffix i)
    ∙ (λ i. (c.new-names.ensures i ++ c.in_ok-own.ensures i ∷ []) ++ path_of (view_of_facts suffix (facts_in c.args.rows.now.entries)) (c.above-up.ensures i))

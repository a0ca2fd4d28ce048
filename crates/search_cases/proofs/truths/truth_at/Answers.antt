use Rattle.std.proofs.Common.{◌≡◌, sym, subst, ◌∙◌}
use Rattle.std.specs.Prelude.{IfOk}
use Rattle.repl_data.specs.View.{entry_of}
use Rattle.search_cases.proofs.truths.truth_at.Goals as goal

pub truth-requires : goal.truth-requires
truth-requires c =
    c.entry_laws.ensures.present c.args.view.now c.args.id c.in-Some.entry
    (sym (subst (λ r. IfOk r (λ e. e ≡ entry_of c.args.view.now c.args.id)) c.in_ok-found.ensures.ok c.entry.ensures) ∙ c.in-Some.is)

use Rattle.std.proofs.Common.{ℕ, List, [], ◌∷◌, ◌++◌, sym, ap, subst, ◌∙◌, append-nil, append_assoc}
use Rattle.repl_data.specs.declared.change.Val.{Val}
use Rattle.repl_data.specs.Ordered.{Rises}
use Rattle.rule_values.specs.Having.{val_key}
use Rattle.rule_values.specs.Entries.{vals_of}
use Rattle.rule_values.proofs.SetLemmas.{vals_rise}
use Rattle.rule_values.proofs.spelled.into_list.Goals as goal

pub loop-whole-preserved : goal.loop-whole-preserved
loop-whole-preserved c =
    ap (λ (vs : List Val). vs ++ vals_of c.next.new.self) (c.in_ok-push.ensures.ok ∙ ap (λ (k : List ℕ). c.loop-whole.vals ++ record { key = k; spelled = c.in-Some.text } ∷ []) c.into_key-key.ensures)
    ∙ append_assoc c.loop-whole.vals (record { key = c.in-Some.whole; spelled = c.in-Some.text } ∷ []) (vals_of c.next.new.self)
    ∙ ap (λ (es : List (List ℕ × List ℕ)). c.loop-whole.vals ++ vals_of es) (sym c.in-Some.ensures.steps)
    ∙ c.loop-whole.invariant

pub returns-clause-value : goal.returns-clause-value
returns-clause-value c =
    sym (append-nil c.loop-whole.vals)
    ∙ ap (λ (es : List (List ℕ × List ℕ)). c.loop-whole.vals ++ vals_of es) (sym c.in-None.ensures.steps.0)
    ∙ c.loop-whole.invariant

pub returns-clause-rises : goal.returns-clause-rises
returns-clause-rises c =
    subst (Rises val_key)
    (sym (sym (append-nil c.loop-whole.vals)
    ∙ ap (λ (es : List (List ℕ × List ℕ)). c.loop-whole.vals ++ vals_of es) (sym c.in-None.ensures.steps.0)
    ∙ c.loop-whole.invariant))
    (vals_rise c.args.spelled.entries c.len-count.ensures.ordered)

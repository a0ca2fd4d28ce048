use Rattle.std.proofs.Common.{ℕ, List, [], ◌∷◌, ◌++◌, sym, ap, ◌∙◌, append-nil, append_assoc}
use Rattle.repl_data.specs.declared.change.Val.{Val}
use Rattle.rule_values.specs.Entries.{vals_of}
use Rattle.rule_values.proofs.spelled.to_list.Goals as goal

pub loop-whole-preserved : goal.loop-whole-preserved
loop-whole-preserved c =
    ap (λ (vs : List Val). vs ++ vals_of c.next.new.self) (c.in_ok-push.ensures.ok ∙ ap (λ (v : Val). c.loop-whole.vals ++ v ∷ []) c.in_ok-copy_value.ensures)
    ∙ append_assoc c.loop-whole.vals (record { key = c.in-Some.whole.now; spelled = c.in-Some.text.now } ∷ []) (vals_of c.next.new.self)
    ∙ ap (λ (es : List (List ℕ × List ℕ)). c.loop-whole.vals ++ vals_of es) (sym c.in-Some.ensures.steps)
    ∙ c.loop-whole.invariant

pub returns : goal.returns
returns c =
    sym (append-nil c.loop-whole.vals)
    ∙ ap (λ (es : List (List ℕ × List ℕ)). c.loop-whole.vals ++ vals_of es) (sym c.in-None.ensures.steps.0)
    ∙ c.loop-whole.invariant

use Rattle.std.proofs.Common.{ap, ◌∙◌}
use Rattle.std.specs.Prelude.{is_some}
use Rattle.repl_data.specs.View.{put_val}
use Rattle.rule_values.specs.Listed.{has_key}
use Rattle.rule_values.specs.Entries.{vals_of}
use Rattle.rule_values.proofs.SetLemmas.{vals_put, vals_has}
use Rattle.rule_values.proofs.spelled.put.Goals as goal

pub returns-clause-put : goal.returns-clause-put
returns-clause-put c =
    ap vals_of c.in_ok-old.ensures.entries
    ∙ vals_put c.of.result c.args.val.spelled c.args.spelled.now.entries
    ∙ ap (λ k. put_val (record { key = k; spelled = c.args.val.spelled }) (vals_of c.args.spelled.now.entries)) c.of.ensures

pub returns-clause-was : goal.returns-clause-was
returns-clause-was c =
    c.is_some.ensures ∙ ap is_some c.in_ok-old.ensures.old
    ∙ vals_has c.of.result c.args.spelled.now.entries
    ∙ ap (λ k. has_key k (vals_of c.args.spelled.now.entries)) c.of.ensures

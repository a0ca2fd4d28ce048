use Rattle.std.proofs.Common.{◌∙◌, ◌<◌, sym, ap, subst, drop, List, ℕ, Option, []}
use Rattle.std.specs.Option.{unwrap_or}
use Rattle.conn_core.proofs.Taking.{some_left}
use Rattle.conn_core.proofs.rest.Rest.is_empty.Goals as goal

pub returns-then-self-len-clause-some : goal.returns-then-self-len-clause-some
returns-then-self-len-clause-some c _ none =
    some_left c.self.inside.sent c.in-Some.reply c.args.self.now (subst (λ (n : ℕ). c.self.inside.sent < n) c.len.ensures c.if-self-len.true)
    (sym (ap (λ (x : Option (List ℕ)). drop c.self.inside.sent (unwrap_or x [])) c.in-Some.is) ∙ c.self.view_is) none

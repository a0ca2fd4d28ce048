use Rattle.std.proofs.Common.{◌≡◌, ◌-◌, ◌∙◌, ap, arith, get_or, unwrap_or, Option}
use Rattle.std.proofs.lemmas.Option.{unwrap_or-slice_get}
use Rattle.dir_top.specs.declared.state.Connection.{Connection}
use Rattle.dir_top.specs.declared.state.Connection.TheVariants.{Closed}
use Rattle.dir_top.proofs.state.State.connection.Goals as goal

pub returns : goal.returns
returns c =
    let connections = c.args.self.now.connections in
    let place : c.from.result ≡ c.args.c - 1 = omega arith in
    ap (λ (o : Option Connection). unwrap_or o Closed) c.get.ensures.value
    ∙ unwrap_or-slice_get connections c.from.result Closed
    ∙ ap (λ i. get_or connections i Closed) place

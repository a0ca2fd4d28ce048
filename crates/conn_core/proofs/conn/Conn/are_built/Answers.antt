use Rattle.std.proofs.Common.{List, sym, ap, refl}
use Rattle.std.specs.List.{list_all}
use Rattle.ldap_types.specs.declared.request.Request.{Request}
use Rattle.io_edge.specs.declared.machine.Fed.TheVariants.{Running}
use Rattle.conn_core.specs.Serving.{is_built}
use Rattle.conn_core.proofs.Builts.{none_at_end}
use Rattle.conn_core.proofs.conn.Conn.are_built.Goals as goal

pub returns-then-waits-clause-built : goal.returns-then-waits-clause-built
returns-then-waits-clause-built c requests left fed s =
    sym (ap (λ (x : List Request). list_all is_built x) (none_at_end requests c.args.self.now.held left fed Running s (c.if-waits.ensures.more refl)))

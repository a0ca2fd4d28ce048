use Rattle.std.proofs.Common.{◌≡◌, subst}
use Rattle.world_core.proofs.Outcomes.{if_ok}
use Rattle.conn_core.proofs.Cuts.{has_one_stream}
use Rattle.dir_top.specs.Client.{Client, has_built as is_all_built}
use Rattle.dir_top.proofs.client.Client.has_built.Goals as goal

pub returns-clause-built : goal.returns-clause-built
returns-clause-built c = if_ok c.are_built.result _ _ (λ built h. subst (λ (x : Client). built ≡ is_all_built x) c.self.view_is (h _ _ _ (has_one_stream.is _))) c.are_built.ensures.built

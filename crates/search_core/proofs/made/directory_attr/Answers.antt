use Rattle.std.proofs.Common.{◌≡◌, subst}
use Rattle.std.specs.Prelude.{IfOk}
use Rattle.search_core.proofs.Vals.{ruv_named}
use Rattle.search_core.proofs.made.directory_attr.Goals as goal

pub returns : goal.returns
returns c = ruv_named c.attr_named.result (subst (λ n. IfOk c.attr_named.result (λ t. t ≡ record { name = n })) c.as_slice.ensures c.attr_named.ensures)

use Rattle.std.proofs.Common.{◌≡◌, ◌++◌, take, drop}
use Rattle.repl_data.specs.declared.csn.Uid.{Uid}
use Rattle.repl_data.specs.declared.change.Ava.{Ava}
use Rattle.repl_data.specs.Order.{put_by, bytes_cmp}
use Rattle.repl_data.specs.Names.{id_ava}
use Rattle.urp_tree.proofs.named.id_place.Given as goal

abbrev pub invariant-loop-at : goal.invariant-loop-at
invariant-loop-at l =
    (u : Uid) → put_by (λ (a : Ava). a.attr.name) bytes_cmp (id_ava u) l.parts ≡ take l.at l.parts ++ put_by (λ (a : Ava). a.attr.name) bytes_cmp (id_ava u) (drop l.at l.parts)

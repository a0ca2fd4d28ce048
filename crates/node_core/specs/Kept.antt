-- What stands beside a node's own parts.
use Rattle.std.specs.Prelude.{◌≡◌, ℕ, false, List, Some, Ok}
use Rattle.std.specs.List.{AllByRecursion}
use Rattle.repl_data.specs.declared.csn.Csn.{Csn}
use Rattle.repl_data.specs.declared.csn.Uid.{Uid}
use Rattle.repl_data.specs.declared.change.Change.{Change}
use Rattle.repl_data.specs.declared.change.Suffix.{Suffix}
use Rattle.repl_data.specs.declared.change.Update.{Update}
use Rattle.repl_data.specs.Closed.{IsArrival}
use Rattle.repl_data.specs.Facts.{all_facts}
use Rattle.repl_data.specs.Text.{IsInRange}
use Rattle.urp_tree.specs.Known.{Known}
use Rattle.vector_core.specs.declared.answers.Applied.TheVariants.{Taken}
use Rattle.vector_core.specs.Vector.{HasEntries}
use Rattle.change_log.specs.Log.{csns_of}
use Rattle.node_core.specs.Node.{Node}
use Rattle.node_core.specs.Steps.{csn_for, apply_answer}
use Rattle.node_core.specs.Sound.{IsSoundNode}

-- The node is sound, and what it has taken came each after what it needs. Beside it stands the greatest CSN of each originator
-- that it has taken.
pub record IsKept (n : Node) (heads : List Csn) : Type 0 where
  pub sound : IsSoundNode n
  pub arrival : IsArrival n.taken
  pub entries : HasEntries heads (csns_of n.taken)

-- a CSN that a commit takes for a pending one: the same, or a newly drawn one
pub record IsChosen (n : Node) (old new : Csn) : Type 0 where
  pub id : Uid
  pub now : ℕ
  pub chosen : csn_for n old id now ≡ Some new

-- a change of an update that is to be taken
pub record IsNext (n : Node) (c : Change) : Type 0 where
  pub from : ℕ
  pub update : Update
  pub now : ℕ
  pub change : update.change ≡ c
  pub answer : apply_answer n from update now false ≡ Ok Taken

-- the tree of the changes, whose CSNs are within their 80 bits
pub record IsShown (suffix : Suffix) (taken : List Change) (tree : Known) : Type 0 where
  pub named : tree.suffix ≡ suffix.name
  pub facts : tree.facts ≡ all_facts suffix taken
  pub within : AllByRecursion (λ (c : Change). IsInRange c.csn) taken

use Rattle.view_walk.proofs.Within.{within_suffix, within_step}
use Rattle.view_walk.proofs.Subtrees.{subtree_step, subtree_whole}
use Rattle.view_walk.proofs.Levels.{one_level}
use Rattle.view_walk.proofs.Closed.{closed_tree}
use Rattle.view_walk.proofs.laws.walk_laws.Goals as goal

pub returns-clause-suffix : goal.returns-clause-suffix
returns-clause-suffix c v base t = within_suffix v t base

pub returns-clause-within : goal.returns-clause-within
returns-clause-within c v base e t m r = within_step v t base e m r

pub returns-clause-step : goal.returns-clause-step
returns-clause-step c v u t there = subtree_step v t u there

pub returns-clause-level : goal.returns-clause-level
returns-clause-level c v u t = one_level v t u

pub returns-clause-whole : goal.returns-clause-whole
returns-clause-whole c v t = subtree_whole v t

pub returns-clause-closed : goal.returns-clause-closed
returns-clause-closed c = closed_tree

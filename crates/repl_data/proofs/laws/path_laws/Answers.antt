use Rattle.repl_data.proofs.Paths.{path_of_suffix, path_of_step, path_key_step, parent_first, siblings_by_key}
use Rattle.repl_data.proofs.laws.path_laws.Goals as goal

pub returns-clause-suffix : goal.returns-clause-suffix
returns-clause-suffix c = path_of_suffix

pub returns-clause-step : goal.returns-clause-step
returns-clause-step c = path_of_step

pub returns-clause-key : goal.returns-clause-key
returns-clause-key c = path_key_step

pub returns-clause-parent_first : goal.returns-clause-parent_first
returns-clause-parent_first c = parent_first

pub returns-clause-siblings : goal.returns-clause-siblings
returns-clause-siblings c = siblings_by_key

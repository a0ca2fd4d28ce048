use Rattle.repl_data.proofs.NamesDiffer.{shown_differ}
use Rattle.repl_data.proofs.NamesClosed.{closed_differ}
use Rattle.repl_data.proofs.laws.name_laws.Goals as goal

pub returns-clause-differ : goal.returns-clause-differ
returns-clause-differ c = closed_differ

pub returns-clause-of_entries : goal.returns-clause-of_entries
returns-clause-of_entries c = shown_differ

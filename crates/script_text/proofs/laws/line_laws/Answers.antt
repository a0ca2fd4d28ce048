use Rattle.script_text.proofs.Found.{read-spelled}
use Rattle.script_text.proofs.Read.{spelled-read}
use Rattle.script_text.proofs.Writes.{written-spells}
use Rattle.script_text.specs.Spelling.{line_text}
use Rattle.script_text.proofs.laws.line_laws.Goals as goal

pub returns-clause-spelled : goal.returns-clause-spelled
returns-clause-spelled c = spelled-read

pub returns-clause-found : goal.returns-clause-found
returns-clause-found c = read-spelled

pub returns-clause-written : goal.returns-clause-written
returns-clause-written c = written-spells

pub returns-clause-back : goal.returns-clause-back
returns-clause-back c = λ line w. spelled-read (line_text line) line (written-spells line w)

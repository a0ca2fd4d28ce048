use Rattle.dn_text.proofs.Found.{name-found}
use Rattle.dn_text.proofs.Keys.{same-above}
use Rattle.dn_text.proofs.Reread.{name-readable, read-again}
use Rattle.dn_text.proofs.RoundTrip.{printed-spells, printed-read}
use Rattle.dn_text.proofs.laws.dn_laws.Goals as goal

pub returns-clause-printed : goal.returns-clause-printed
returns-clause-printed c = printed-spells

pub returns-clause-back : goal.returns-clause-back
returns-clause-back c = printed-read

pub returns-clause-read : goal.returns-clause-read
returns-clause-read c = λ text dn e. name-readable text dn (name-found text dn e)

pub returns-clause-again : goal.returns-clause-again
returns-clause-again c = read-again

pub returns-clause-same : goal.returns-clause-same
returns-clause-same c = same-above

use Rattle.row_bytes.proofs.BackRow.{row_back}
use Rattle.row_bytes.proofs.Prefix.{none_is_prefix}
use Rattle.row_bytes.proofs.Order.{in_order}
use Rattle.row_bytes.proofs.Kept.{kept_again}
use Rattle.row_bytes.proofs.laws.row_laws.Goals as goal

pub returns-clause-again : goal.returns-clause-again
returns-clause-again c = row_back

pub returns-clause-no_prefix : goal.returns-clause-no_prefix
returns-clause-no_prefix c = none_is_prefix

pub returns-clause-order : goal.returns-clause-order
returns-clause-order c = in_order

pub returns-clause-kept : goal.returns-clause-kept
returns-clause-kept c = kept_again

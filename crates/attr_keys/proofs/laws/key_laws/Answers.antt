use Rattle.attr_keys.proofs.Again.{int-again, tel-again, oct-again}
use Rattle.attr_keys.proofs.NameKeys.{key_of-good}
use Rattle.attr_keys.proofs.NamesAgain.{key_of-again, single-key, single-keys}
use Rattle.attr_keys.proofs.Texts.{value_key-text}
use Rattle.attr_keys.proofs.TextsAgain.{ia5-again}
use Rattle.attr_keys.proofs.ExactAgain.{exact-again}
use Rattle.attr_keys.proofs.laws.key_laws.Goals as goal

pub returns-clause-name_again : goal.returns-clause-name_again
returns-clause-name_again c = key_of-again

pub returns-clause-integer_again : goal.returns-clause-integer_again
returns-clause-integer_again c = int-again

pub returns-clause-phone_again : goal.returns-clause-phone_again
returns-clause-phone_again c = tel-again

pub returns-clause-bytes_again : goal.returns-clause-bytes_again
returns-clause-bytes_again c = oct-again

pub returns-clause-text : goal.returns-clause-text
returns-clause-text c = value_key-text

pub returns-clause-name_key : goal.returns-clause-name_key
returns-clause-name_key c = key_of-good

pub returns-clause-ascii_again : goal.returns-clause-ascii_again
returns-clause-ascii_again c = ia5-again

pub returns-clause-exact_again : goal.returns-clause-exact_again
returns-clause-exact_again c = exact-again

pub returns-clause-single : goal.returns-clause-single
returns-clause-single c = single-key

pub returns-clause-single_names : goal.returns-clause-single_names
returns-clause-single_names c = single-keys

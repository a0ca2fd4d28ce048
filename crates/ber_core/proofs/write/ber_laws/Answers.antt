use Rattle.ber_core.proofs.Readers.{same_element}
use Rattle.ber_core.proofs.Written.{IsElement-element, shortest_length-shorter, integer_of-shortest_integer, shortest_integer-shorter}
use Rattle.ber_core.proofs.write.ber_laws.Goals as goal

pub returns-clause-one : goal.returns-clause-one
returns-clause-one c whole other rest others body content tag kind = same_element whole other rest others tag kind body content

pub returns-clause-written : goal.returns-clause-written
returns-clause-written c = IsElement-element

pub returns-clause-shortest : goal.returns-clause-shortest
returns-clause-shortest c = shortest_length-shorter

pub returns-clause-integer_again : goal.returns-clause-integer_again
returns-clause-integer_again c = integer_of-shortest_integer

pub returns-clause-shortest_integer : goal.returns-clause-shortest_integer
returns-clause-shortest_integer c = shortest_integer-shorter

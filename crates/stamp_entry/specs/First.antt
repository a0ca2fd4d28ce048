-- WHAT AN ENTRY HAS FROM THE START: values at the zero stamp, each put before those that were put.
use Rattle.std.specs.Prelude.{List}
use Rattle.repl_data.specs.declared.change.AttrKey.{AttrKey}
use Rattle.repl_data.specs.declared.change.Val.{Val}
use Rattle.repl_data.specs.declared.change.Ava.{Ava}
use Rattle.repl_data.specs.Order.{zero_csn, bytes_cmp, put_by, foldr}
use Rattle.repl_data.specs.Facts.{ValFacts, AttrFacts}
use Rattle.stamp_entry.specs.Ordered.{val_key, attr_name}
use Rattle.stamp_entry.specs.Raised.{attr_at}

abbrev pub first_val : Val → ValFacts
first_val v = record { key = v.key; spelled = v.spelled; up = zero_csn; down = zero_csn }

abbrev pub first_attr : Val → AttrFacts → AttrFacts
first_attr v a = record { attr = a.attr; whole = a.whole; vals = put_by val_key bytes_cmp (first_val v) a.vals }

-- a value more, and each part of a name, from the last to the first
abbrev pub given_first : AttrKey → Val → List AttrFacts → List AttrFacts
given_first t v attrs = put_by attr_name bytes_cmp (first_attr v (attr_at t attrs)) attrs

abbrev pub given_parts : List Ava → List AttrFacts → List AttrFacts
given_parts parts attrs = foldr (λ (a : Ava) rest. given_first a.attr a.val rest) attrs parts

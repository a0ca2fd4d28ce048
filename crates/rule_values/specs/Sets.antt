-- A set of values: a list in order of key until it is changed, and a map from keys to spellings from then on.
use Rattle.std.specs.Prelude.{List}
use Rattle.repl_data.specs.declared.change.Val.{Val}
use Rattle.repl_data.specs.Ordered.{Rises}
use Rattle.rule_values.specs.Having.{val_key}
use Rattle.rule_values.specs.declared.val_set.Kept.{Kept}
use Rattle.rule_values.specs.declared.val_set.Kept.TheVariants as kept
use Rattle.rule_values.specs.Entries.{vals_of}

abbrev pub vals_in : Kept → List Val
vals_in (kept.Rising vals) = vals
vals_in (kept.Tree tree) = vals_of tree.entries

abbrev pub IsKept : Kept → Type 0
IsKept (kept.Rising vals) = Rises val_key vals
IsKept (kept.Tree tree) = Unit {0}

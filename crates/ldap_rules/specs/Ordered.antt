-- ORDER: attributes stand in rising order of name, and the values of each in rising order of key.
use Rattle.std.specs.Prelude.{ℕ, List}
use Rattle.repl_data.specs.declared.change.Val.{Val}
use Rattle.repl_data.specs.declared.change.Attr.{Attr}
pub use Rattle.repl_data.specs.Ordered.{Rises}

abbrev pub val_key : Val → List ℕ
val_key v = v.key

abbrev pub attr_name : Attr → List ℕ
attr_name a = a.attr.name

abbrev pub own_key : List ℕ → List ℕ
own_key key = key

-- How many attributes there are, counted along a list: so many different keys so far, and so many names that
-- can't be read.
use Rattle.std.specs.Prelude.{ℕ, ◌+◌, List, [], ◌∷◌, length, if◌then◌else◌}
use Rattle.repl_data.specs.Order.{bytes_cmp, put_by}
use Rattle.attr_keys.specs.Table.{key_of}
use Rattle.ldap_types.specs.declared.request.RawAttr.{RawAttr}
use Rattle.rule_values.specs.Listed.{is_name}

abbrev pub own_key : List ℕ → List ℕ
own_key key = key

abbrev pub put_key : List ℕ → List (List ℕ) → List (List ℕ)
put_key = put_by own_key bytes_cmp

unfoldable pub counted_on : List (List ℕ) → ℕ → List RawAttr → ℕ
counted_on keys unread [] = length keys + unread
counted_on keys unread (a ∷ more) =
    if is_name a then counted_on (put_key (key_of a.name) keys) unread more else counted_on keys (unread + 1) more

-- The bytes of replies that wait to be sent.
use Rattle.std.specs.Prelude.{ℕ, List, ◌++◌}
use Rattle.std.specs.List.{concat}

-- the rest of a reply that was begun, and then the replies, one behind the other
abbrev pub waiting : List ℕ → List (List ℕ) → List ℕ
waiting rest replies = rest ++ concat replies

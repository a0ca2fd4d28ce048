-- THE CHANGES OF ONE ENTRY, as they may have come before another one.
use Rattle.std.specs.Prelude.{◌≡◌, List, IsTrue}
use Rattle.std.specs.List.{list_all}
use Rattle.repl_data.specs.declared.csn.Uid.{Uid}
use Rattle.repl_data.specs.declared.change.Change.{Change}
use Rattle.repl_data.specs.Order.{uid_eq}
use Rattle.repl_data.specs.Closed.{is_sound, IsIn}

-- changes of the entry u, each well formed, none of which shares its CSN with the change c, unless it is c
pub record IsHistory (u : Uid) (own : List Change) (c : Change) : Type 0 where
  pub sound : IsTrue (list_all is_sound own)
  pub target : IsTrue (list_all (λ (d : Change). uid_eq d.target u) own)
  pub one : (d : Change) → IsIn d own → d.csn ≡ c.csn → d ≡ c

-- The ids that changes add, asked one change at a time.
use Rattle.std.proofs.Common.{◌≡◌, List, [], ◌∷◌, refl, ap, ◌∙◌}
use Rattle.std.specs.Prelude.{◌||◌, ◌++◌}
use Rattle.std.specs.List.{list_any}
use Rattle.std.proofs.lemmas.List.Folds.{list_any-append}
use Rattle.repl_data.specs.declared.csn.Uid.{Uid}
use Rattle.repl_data.specs.declared.change.Change.{Change}
use Rattle.repl_data.specs.Order.{uid_eq}
use Rattle.repl_data.specs.Facts.{added_ids, ids_added}

pub added_any : (id : Uid) (changes : List Change) → list_any (uid_eq id) (added_ids changes) ≡ list_any (λ (c : Change). list_any (uid_eq id) (ids_added c.target c.body)) changes
added_any id [] = refl
added_any id (c ∷ cs) =
    list_any-append (uid_eq id) (ids_added c.target c.body) (added_ids cs)
    ∙ ap (λ b. list_any (uid_eq id) (ids_added c.target c.body) || b) (added_any id cs)

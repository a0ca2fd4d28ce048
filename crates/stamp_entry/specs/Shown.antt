-- WHAT SHOWS of an entry, without derived attributes.
use Rattle.std.specs.Prelude.{Bool, not, ◌&&◌, ◌||◌, List, map}
use Rattle.std.specs.List.{list_any}
use Rattle.repl_data.specs.declared.change.AttrKey.{AttrKey}
use Rattle.repl_data.specs.declared.change.Val.{Val}
use Rattle.repl_data.specs.declared.change.Rdn.{Rdn}
use Rattle.repl_data.specs.declared.change.Shown.{Shown}
use Rattle.repl_data.specs.Facts.{EntryFacts, ValFacts, is_held, shows_before, attrs_shown}
use Rattle.repl_data.specs.View.{user}

-- the other value is held, and shows before the value
unfoldable pub gives_way : Rdn → AttrKey → ValFacts → ValFacts → Bool
gives_way rdn t v w = is_held rdn t w && shows_before rdn t w v

-- the value is held, and no other one shows before it where only one is to show
unfoldable pub shows_among : {X : Type 0} → (X → ValFacts) → Rdn → AttrKey → Bool → List X → X → Bool
shows_among facts rdn t single vals v =
    is_held rdn t (facts v) && (not single || not (list_any (λ w. gives_way rdn t (facts v) (facts w)) vals))

-- a value without its stamps
abbrev pub val_of : ValFacts → Val
val_of v = record { key = v.key; spelled = v.spelled }

-- the user attributes that show
abbrev pub users_shown : EntryFacts → List Shown
users_shown e = map user (attrs_shown e)

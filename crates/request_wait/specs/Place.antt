-- A place in the bytes of a message, and what reading comes to from there on.
use Rattle.std.specs.Prelude.{ℕ, ◌+◌, ◌-◌, List, [], ◌∷◌, drop}
use Rattle.ber_core.specs.Window.{Window, ◌>>=◌}
use Rattle.request_wait.specs.declared.place.Place.{Place}
use Rattle.request_wait.specs.declared.part.Part.{Part}
use Rattle.request_wait.specs.Inside.{Outcome, done, inside}

-- the place in these bytes
abbrev pub seen : List ℕ → Place → Window
seen bytes p = record { start = p.start; at = p.at; left = p.end - p.at; bytes = drop p.at bytes }

-- what reading comes to from the place to the end of the element around it
abbrev pub read_from : Place → List ℕ → Outcome
read_from p bytes = inside p.part (seen bytes p)

-- what reading comes to at these places, the last first
abbrev pub read_all : List Place → List ℕ → Outcome
read_all [] bytes = done
read_all (p ∷ ps) bytes = read_all ps bytes >>= λ u. read_from p bytes

-- the place of a window, where this is still to be read
abbrev pub place_at : Part → Window → Place
place_at part w = record { part = part; start = w.start; at = w.at; end = w.at + w.left }

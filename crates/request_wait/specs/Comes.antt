-- What comes of looking at the first element of a place.
use Rattle.std.specs.Prelude.{◌≡◌, ℕ, List, ◌++◌, Err}
use Rattle.ber_core.specs.Window.{Window, More, ◌>>=◌}
use Rattle.request_wait.specs.declared.place.Place.{Place}
use Rattle.request_wait.specs.declared.next.Next.{Next}
use Rattle.request_wait.specs.declared.next.Next.TheVariants as next
use Rattle.request_wait.specs.Inside.{Outcome, done}
use Rattle.request_wait.specs.Place.{seen, read_from}

abbrev pub Comes : Next → (Window → Outcome) → Place → List ℕ → Type 0
Comes next.Waits read p bytes = read (seen bytes p) ≡ Err More
Comes next.Unsure read p bytes = Unit {0}
Comes (next.Goes here) read p bytes = (more : List ℕ) → read (seen (bytes ++ more) p) ≡ read_from here (bytes ++ more)
Comes (next.Enters inner rest) read p bytes = (more : List ℕ) → read (seen (bytes ++ more) p) ≡ (read_from inner (bytes ++ more) >>= λ u. read_from rest (bytes ++ more))
Comes next.Leaves read p bytes = (more : List ℕ) → read (seen (bytes ++ more) p) ≡ done

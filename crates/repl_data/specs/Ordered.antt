-- Lists in rising order of a key of bytes, and the place of a key among them.
use Rattle.std.specs.Prelude.{◌≡◌, ℕ, zero, suc, List, [], ◌∷◌}
use Rattle.std.specs.List.{AllByRecursion}
use Rattle.std.specs.declared.cmp.Ordering.TheVariants.{Less}
use Rattle.repl_data.specs.Order.{bytes_cmp}

-- each key is below all later ones
abbrev pub Rises : {X : Type 0} → (X → List ℕ) → List X → Type 0
Rises key [] = Unit {0}
Rises key (x ∷ xs) = AllByRecursion (λ y. bytes_cmp (key x) (key y) ≡ Less) xs × Rises key xs

-- the item at this place has the key, and those before it are below
abbrev pub IsAt : {X : Type 0} → (X → List ℕ) → List ℕ → List X → ℕ → Type 0
IsAt key k [] n = ⊥
IsAt key k (x ∷ xs) zero = key x ≡ k
IsAt key k (x ∷ xs) (suc n) = (bytes_cmp (key x) k ≡ Less) × IsAt key k xs n

-- the key would stand at this place: the items before it are below the key, and the one there is above it
abbrev pub IsGap : {X : Type 0} → (X → List ℕ) → List ℕ → List X → ℕ → Type 0
IsGap key k [] zero = Unit {0}
IsGap key k [] (suc n) = ⊥
IsGap key k (x ∷ xs) zero = bytes_cmp k (key x) ≡ Less
IsGap key k (x ∷ xs) (suc n) = (bytes_cmp (key x) k ≡ Less) × IsGap key k xs n

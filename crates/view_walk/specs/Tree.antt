-- WHAT MAKES A VIEW A TREE OF NAMES. The view of a closed set of changes is one.
use Rattle.std.specs.Prelude.{◌≡◌, ◌⊎◌, Bool, true, List, [], ◌∷◌}
use Rattle.std.specs.List.{AllByRecursion, list_any}
use Rattle.std.specs.declared.cmp.Ordering.TheVariants.{Less}
use Rattle.repl_data.specs.declared.csn.Uid.{Uid}
use Rattle.repl_data.specs.Order.{uid_cmp, uid_eq, suffix_id, rdn_key}
use Rattle.repl_data.specs.View.{DirectoryView, PresentEntry, is_shown_below}

-- an item stands in a list
abbrev pub IsAmong : {X : Type 0} → X → List X → Type 0
IsAmong x [] = ⊥
IsAmong x (y ∷ ys) = (x ≡ y) ⊎ IsAmong x ys

-- an entry of this id is present
abbrev pub is_present : DirectoryView → Uid → Bool
is_present v u = list_any (λ (e : PresentEntry). uid_eq e.id u) v.present

-- each id is below all later ones
abbrev pub AreRising : List PresentEntry → Type 0
AreRising [] = Unit {0}
AreRising (e ∷ es) = AllByRecursion (λ (f : PresentEntry). uid_cmp e.id f.id ≡ Less) es × AreRising es

-- an entry is the suffix entry, or its parent's id is below its own
abbrev pub HasParentBelow : PresentEntry → Type 0
HasParentBelow e = (uid_eq e.id suffix_id ≡ true) ⊎ (uid_cmp e.parent e.id ≡ Less)

-- an entry is the suffix entry, or its parent is present
abbrev pub HasParentThere : DirectoryView → PresentEntry → Type 0
HasParentThere v e = (uid_eq e.id suffix_id ≡ true) ⊎ (is_present v e.parent ≡ true)

-- the suffix entry and below it entries with their parents, of which no two siblings show one RDN
pub record IsNamedTree (v : DirectoryView) : Type 0 where
  pub rising : AreRising v.present
  pub below : AllByRecursion HasParentBelow v.present
  pub root : is_present v suffix_id ≡ true
  pub there : AllByRecursion (HasParentThere v) v.present
  pub apart : (u : Uid) (e f : PresentEntry) → IsAmong e v.present → IsAmong f v.present → is_shown_below u e ≡ true → is_shown_below u f ≡ true → rdn_key e.shown ≡ rdn_key f.shown → e.id ≡ f.id

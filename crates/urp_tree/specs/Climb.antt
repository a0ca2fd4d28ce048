-- THE STEPS OF A PLAN: the ancestors that an entry takes along when it goes, or brings along when it comes.
use Rattle.std.specs.Prelude.{◌≡◌, ◌≢◌, ◌⊎◌, Bool, ℕ, ◌≤◌, ◌<◌, true, false, List, [], ◌∷◌, ◌++◌, length, filter, find, Option, Some, IfSome}
use Rattle.std.specs.List.{AllByRecursion}
use Rattle.std.specs.BTreeMap.{BTreeMap}
use Rattle.repl_data.specs.declared.csn.Uid.{Uid}
use Rattle.repl_data.specs.Order.{uid_eq}
use Rattle.repl_data.specs.declared.change.Body.{Body}
use Rattle.repl_data.specs.declared.change.Body.TheVariants.{Mod as Modify}
use Rattle.repl_data.specs.Facts.{EntryFacts}
use Rattle.repl_data.specs.Presence.{is_live}
use Rattle.urp_tree.specs.declared.child.Child.{Child}
use Rattle.urp_tree.specs.declared.row.Row.{Row}
use Rattle.urp_tree.specs.declared.step.Step.{Step}
use Rattle.urp_tree.specs.declared.step.Step.TheVariants.{Enter, Leave}
use Rattle.urp_tree.specs.Index.{stands_below, spare_at}
use Rattle.urp_tree.specs.Rows.{row_at}
use Rattle.urp_tree.specs.Walk.{child_of, child_in, children_of_facts, stepped, step_of, IsTrueOf}
use Rattle.urp_tree.specs.Known.{put_fact}

-- how many of some children stand below an entry
abbrev pub count_below : Uid → List Child → ℕ
count_below u cs = length (filter (stands_below u) cs)

abbrev pub IsFound : List EntryFacts → Uid → EntryFacts → Type 0
IsFound es u e = find (λ (x : EntryFacts). uid_eq u x.id) es ≡ Some e

-- from an entry upward, those that are not live and have n present children
abbrev pub IsChain : ℕ → List EntryFacts → List Child → Uid → List Child → Type 0
IsChain n es cs u [] = (e : EntryFacts) × IsFound es u e × ((is_live e ≡ true) ⊎ (count_below u cs ≢ n))
IsChain n es cs u (c ∷ chain) = (e : EntryFacts) × IsFound es u e × (c ≡ child_of e) × (is_live e ≡ false) × (count_below u cs ≡ n) × IsChain n es cs c.parent chain

-- they go from the lowest ancestor up, and come from the highest down
abbrev pub leaves : List Child → List Step
leaves [] = []
leaves (c ∷ cs) = Leave c ∷ leaves cs

abbrev pub enters : List Child → List Step
enters [] = []
enters (c ∷ cs) = enters cs ++ Enter c ∷ []

-- each step tells the truth of the children when it comes, and these are no more than n
abbrev pub AreTrue : ℕ → List Child → List Step → Type 0
AreTrue n cs [] = Unit {0}
AreTrue n cs (s ∷ ss) = IsTrueOf cs s × (length cs ≤ n) × AreTrue n (step_of s cs) ss

-- who enters, enters below another parent than those after it
abbrev pub IsApart : Uid → Step → Type 0
IsApart p (Enter c) = uid_eq p c.parent ≡ false
IsApart p (Leave c) = Unit {0}

abbrev pub AreApart : List Step → Type 0
AreApart [] = Unit {0}
AreApart (Enter c ∷ ss) = AllByRecursion (IsApart c.parent) ss × AreApart ss
AreApart (Leave c ∷ ss) = AreApart ss

-- each step is about another parent than those after it, and who leaves does not come back
abbrev pub IsBehindEnter : Uid → Step → Type 0
IsBehindEnter p s = uid_eq p (child_in s).parent ≡ false

abbrev pub IsBehindLeave : Uid → Step → Type 0
IsBehindLeave p (Enter c) = ⊥
IsBehindLeave p (Leave c) = uid_eq p c.parent ≡ false

abbrev pub AreLone : List Step → Type 0
AreLone [] = Unit {0}
AreLone (Enter c ∷ ss) = AllByRecursion (IsBehindEnter c.parent) ss × AreLone ss
AreLone (Leave c ∷ ss) = AllByRecursion (IsBehindLeave c.parent) ss × AreLone ss

-- one child moves
abbrev pub IsPair : Child → Child → List Step → Type 0
IsPair a b ss = ss ≡ Leave a ∷ Enter b ∷ []

abbrev pub IsMove : List Step → Type 0
IsMove ss = (a : Child) × (b : Child) × (a.id ≡ b.id) × IsPair a b ss

-- there is room for who enters
abbrev pub RoomFor : BTreeMap Uid (Option Row) → Step → Type 0
RoomFor rows (Enter c) = IfSome (row_at rows c.parent) (λ (r : Row). 0 < spare_at r.names c.rdn)
RoomFor rows (Leave c) = Unit {0}

-- steps that lead to the children after an entry is put
pub record IsWay (n : ℕ) (es : List EntryFacts) (e : EntryFacts) (ss : List Step) : Type 0 where
  pub leads : stepped ss (children_of_facts es) ≡ children_of_facts (put_fact e es)
  pub trues : AreTrue n (children_of_facts es) ss
  pub apart : AreApart ss
  pub form : AreLone ss ⊎ IsMove ss

-- in the rows: an entry that is not live and has just so many present children, and an id that has none such
pub record IsWeakAt (n : ℕ) (rows : BTreeMap Uid (Option Row)) (u : Uid) (e : EntryFacts) : Type 0 where
  pub row : Row
  pub there : row_at rows u ≡ Some row
  pub entry : row.entry ≡ e
  pub dead : is_live e ≡ false
  pub children : row.children ≡ n

abbrev pub IsStrongAt : ℕ → BTreeMap Uid (Option Row) → Uid → Type 0
IsStrongAt n rows u = (r : Row) → row_at rows u ≡ Some r → (is_live r.entry ≡ true) ⊎ (r.children ≢ n)

-- an old child goes, and then its ancestors; ancestors come, and then a new child
abbrev pub GoesBy : List EntryFacts → List Child → EntryFacts → List Step → Type 0
GoesBy es cs d ss = (chain : List Child) × IsChain 1 es cs d.parent chain × (ss ≡ Leave (child_of d) ∷ leaves chain)

abbrev pub ComesBy : List EntryFacts → List Child → EntryFacts → List Step → Type 0
ComesBy es cs e ss = (chain : List Child) × IsChain 0 es cs e.parent chain × (ss ≡ enters chain ++ Enter (child_of e) ∷ [])

-- whether an entry shows with so many present children
abbrev pub Shows : EntryFacts → ℕ → Type 0
Shows e n = (is_live e ≡ true) ⊎ (0 < n)

abbrev pub Hides : EntryFacts → ℕ → Type 0
Hides e n = (is_live e ≡ false) × (n ≡ 0)

-- whether a change is a modify
abbrev pub is_modify : Body → Bool
is_modify (Modify mods) = true
is_modify _ = false

-- WHERE AN ENTRY STANDS: nowhere, or present, and then whether another one has the name that it contends for.
use Rattle.std.specs.Prelude.{◌≡◌, ◌||◌, Bool, true, false, not, List, [], ◌∷◌, find, Option, Some, None, option_map, is_some, if◌then◌else◌}
use Rattle.std.specs.List.{list_any, AllByRecursion}
use Rattle.std.specs.BTreeMap.{BTreeMap, get}
use Rattle.repl_data.specs.declared.csn.Uid.{Uid}
use Rattle.repl_data.specs.declared.change.Rdn.{Rdn}
use Rattle.repl_data.specs.Order.{uid_eq, uid_cmp, suffix_id}
use Rattle.urp_names.specs.declared.contenders.Contender.{Contender}
use Rattle.urp_names.specs.Contending.{comes_before, put_one, without}
use Rattle.urp_tree.specs.declared.child.Child.{Child}
use Rattle.urp_tree.specs.declared.step.Step.{Step}
use Rattle.urp_tree.specs.declared.step.Step.TheVariants.{Enter, Leave}
use Rattle.urp_tree.specs.Index.{contender, wants, wanting}
use Rattle.urp_tree.specs.Walk.{child_in}

abbrev pub at_child : List Child → Uid → Option Child
at_child cs u = find (λ (c : Child). uid_eq c.id u) cs

-- whether one of some contenders comes before another
abbrev pub is_beaten : List Contender → Contender → Bool
is_beaten who c = list_any (λ (d : Contender). comes_before d c) who

abbrev pub loses_in : List Child → Child → Bool
loses_in cs c = is_beaten (wanting c.parent c.rdn cs) (contender c)

abbrev pub place_in : List Child → Uid → Option Bool
place_in cs u = option_map (loses_in cs) (at_child cs u)

abbrev pub same_bool : Bool → Bool → Bool
same_bool a b = if a then b else not b

abbrev pub same_place : Option Bool → Option Bool → Bool
same_place None None = true
same_place None (Some b) = false
same_place (Some a) None = false
same_place (Some a) (Some b) = same_bool a b

-- who comes to a name, and whether it comes before c
abbrev pub beats : Option Child → Contender → Bool
beats None c = false
beats (Some d) c = comes_before (contender d) c

abbrev pub with_entered : Option Child → List Contender → List Contender
with_entered None who = who
with_entered (Some d) who = put_one (contender d) who

abbrev pub HasId : Uid → Option Child → Type 0
HasId u None = Unit {0}
HasId u (Some d) = d.id ≡ u

-- a name that the entry of an id leaves, if it is there, and one of that id comes to, from the children cs to ds
pub record Turns (parent : Uid) (rdn : Rdn) (u : Uid) (entered : Option Child) (cs ds : List Child) : Type 0 where
  pub who : wanting parent rdn ds ≡ with_entered entered (without u (wanting parent rdn cs))
  pub own : HasId u entered

-- what a step does to its name, where no other step does anything to it
abbrev pub IsTurned : List Child → List Child → Step → Type 0
IsTurned cs ds (Enter c) = Turns c.parent c.rdn c.id (Some c) cs ds
IsTurned cs ds (Leave c) = Turns c.parent c.rdn c.id None cs ds × (None ≡ place_in ds c.id)

-- and a move to the names of the child as it was and as it is
pub record IsMoved (cs ds : List Child) (a b : Child) : Type 0 where
  pub left : Turns a.parent a.rdn a.id (if wants a.parent a.rdn b then Some b else None) cs ds
  pub came : Turns b.parent b.rdn b.id (Some b) cs ds

-- who goes by the first step of a move, and who comes by the second
abbrev pub left_of : Option Step → Option Child
left_of None = None
left_of (Some (Enter c)) = None
left_of (Some (Leave c)) = Some c

abbrev pub came_of : Option Step → Option Child
came_of None = None
came_of (Some (Enter c)) = Some c
came_of (Some (Leave c)) = None

-- places by id that are those among some children
abbrev pub ArePlaces : List Child → BTreeMap Uid (Option Bool) → Type 0
ArePlaces ds places = (u : Uid) (place : Option Bool) → get uid_cmp places u ≡ Some place → place ≡ place_in ds u

-- who has no place stands where it stood
abbrev pub LeavesRest : List Child → List Child → BTreeMap Uid (Option Bool) → Type 0
LeavesRest cs ds places = (u : Uid) → uid_eq u suffix_id ≡ false → get uid_cmp places u ≡ None → place_in cs u ≡ place_in ds u

-- one of another id than u that stays has the name unless the one that comes beats it
abbrev pub StaysSo : List Child → Option Child → Uid → Contender → Type 0
StaysSo ds entered u c = uid_eq c.id u ≡ false → Some (beats entered c) ≡ place_in ds c.id

-- there is a place for each of some contenders but the one of the id u
abbrev pub HasPlaces : BTreeMap Uid (Option Bool) → Uid → List Contender → Type 0
HasPlaces places u who = AllByRecursion (λ (c : Contender). uid_eq c.id u ≡ false → is_some (get uid_cmp places c.id) ≡ true) who

abbrev pub KeepsPlaces : BTreeMap Uid (Option Bool) → BTreeMap Uid (Option Bool) → Type 0
KeepsPlaces old new = (u : Uid) → is_some (get uid_cmp old u) ≡ true → is_some (get uid_cmp new u) ≡ true

-- and for each that no other comes before
abbrev pub HasFront : BTreeMap Uid (Option Bool) → Uid → List Contender → Type 0
HasFront places u who = AllByRecursion (λ (c : Contender). uid_eq c.id u ≡ false → is_beaten who c ≡ false → is_some (get uid_cmp places c.id) ≡ true) who

-- of those that contend for a name before or after
pub record Covers (cs ds : List Child) (places : BTreeMap Uid (Option Bool)) (parent : Uid) (rdn : Rdn) (u : Uid) : Type 0 where
  pub before : HasFront places u (wanting parent rdn cs)
  pub after : HasFront places u (wanting parent rdn ds)

pub record CoversStep (cs ds : List Child) (places : BTreeMap Uid (Option Bool)) (s : Step) : Type 0 where
  pub own : is_some (get uid_cmp places (child_in s).id) ≡ true
  pub name : Covers cs ds places (child_in s).parent (child_in s).rdn (child_in s).id

-- WHERE ENTRIES STAND among the children, and who contends for a name, before and after steps.
use Rattle.std.proofs.Common.{◌≡◌, ℕ, zero, suc, arith, ◌+◌, ◌<◌, List, [], ◌∷◌, ◌++◌, map, filter, length, get_or, take, drop, Bool, true, false, cond, not, Option, Some, None, Result, Ok, Err, OnOk, refl, sym, ap, subst, ◌∙◌, inl, inr}
use Rattle.std.specs.Prelude.{◌&&◌, ◌||◌, find, option_map, is_some}
use Rattle.std.specs.List.{AllByRecursion, list_any}
use Rattle.std.proofs.lemmas.List.{take_more}
use Rattle.std.proofs.lemmas.List.Folds.{list_any-append}
use Rattle.std.specs.Map.{lookup}
use Rattle.std.specs.BTreeMap.{BTreeMap, get, is_at, Updates, IsOrdered as HasOrderedKeys}
use Rattle.std.specs.Ordering.{is_eq}
use Rattle.std.specs.declared.cmp.Ordering.{Ordering}
use Rattle.std.specs.declared.cmp.Ordering.TheVariants.{Less, Equal, Greater}
use Rattle.repl_data.specs.declared.csn.Uid.{Uid}
use Rattle.repl_data.specs.declared.change.Rdn.{Rdn}
use Rattle.repl_data.specs.Order.{uid_cmp, uid_eq, suffix_id, same_rdn, by_order}
use Rattle.repl_data.specs.Facts.{EntryFacts}
use Rattle.repl_data.specs.Presence.{present_of, is_among_entries}
use Rattle.repl_data.specs.Names.{has_name}
use Rattle.repl_data.proofs.Orders.{uid_exact}
use Rattle.urp_names.specs.declared.contenders.Contender.{Contender}
use Rattle.urp_names.specs.Contending.{contends, put_one, without}
use Rattle.urp_tree.specs.declared.child.Child.{Child}
use Rattle.urp_tree.specs.declared.row.Row.{Row}
use Rattle.urp_tree.specs.declared.step.Step.{Step}
use Rattle.urp_tree.specs.declared.step.Step.TheVariants.{Enter, Leave}
use Rattle.urp_tree.specs.Index.{contender, stands_below, wants, wanting, put_child, without_child, is_among_children, HasRisingIds, IsOneOf}
use Rattle.urp_tree.specs.Rows.{row_at, facts_in}
use Rattle.urp_tree.specs.Walk.{child_of, child_in, children_of_facts, children_in, step_of, stepped, IsTrueOf}
use Rattle.urp_tree.specs.Known.{IsTree}
use Rattle.urp_tree.specs.Climb.{AreTrue}
use Rattle.urp_tree.specs.Placed.{at_child, is_beaten, loses_in, place_in, ArePlaces, HasFront, KeepsPlaces, LeavesRest, Covers, CoversStep}
use Rattle.urp_tree.proofs.Children.{wanting_put, wanting_without, wanting_kept, wanting_same}
use Rattle.urp_tree.proofs.Walks.{rises_step}
use Rattle.urp_tree.proofs.Settled.{children_none, others_none}
use Rattle.urp_tree.proofs.Fits.{no_row, row_id}
use Rattle.urp_tree.proofs.Seen.{IsOnly, at_id, find_map, found_only, found_none, only}
use Rattle.urp_tree.proofs.Lost.{lost_same, same_itself}
use Rattle.repl_data.proofs.Bools.{cases, never}
use Rattle.repl_data.proofs.Known.{same_id, eq_turned, own_id}
use Rattle.repl_data.proofs.Paths.{all_present}

both : {G : Type 0} (a b : Bool) → (a && b) ≡ true → (a ≡ true → b ≡ true → G) → G
both true b h f = f refl h
both false b h f = let e : false ≡ true = h in cc

-- THE PLACE of an entry, by its facts
pub place_present : (es : List EntryFacts) (u : Uid) (f : EntryFacts) → IsOnly u f es → is_among_entries (present_of es) u ≡ true → place_in (children_of_facts es) u ≡ Some (not (has_name (present_of es) f))
place_present es u f o h =
    ap (option_map (loses_in (children_of_facts es)))
    (find_map (λ (c : Child). uid_eq c.id u) child_of (present_of es)
    ∙ ap (option_map child_of) (found_only u f (present_of es) (all_present (λ (e : EntryFacts). uid_eq e.id u ≡ true → e ≡ f) es o) h))
    ∙ ap Some (lost_same f (present_of es))

pub place_absent : (es : List EntryFacts) (u : Uid) → is_among_entries (present_of es) u ≡ false → place_in (children_of_facts es) u ≡ None
place_absent es u h =
    ap (option_map (loses_in (children_of_facts es)))
    (find_map (λ (c : Child). uid_eq c.id u) child_of (present_of es) ∙ ap (option_map child_of) (found_none u (present_of es) h))

pub none_among : (u : Uid) (es : List EntryFacts) → AllByRecursion (λ (e : EntryFacts). uid_eq e.id u ≡ false) es → is_among_entries es u ≡ false
none_among u [] h = refl
none_among u (e ∷ es) h = ap (λ b. b || is_among_entries es u) h.0 ∙ none_among u es h.1

-- WHO CONTENDS
none_want : (parent : Uid) (rdn : Rdn) (cs : List Child) → AllByRecursion (λ (c : Child). stands_below parent c ≡ false) cs → wanting parent rdn cs ≡ []
none_want parent rdn [] h = refl
none_want parent rdn (c ∷ cs) h = ap (λ b. map contender (cond (b && same_rdn rdn c.rdn) (c ∷ filter (wants parent rdn) cs) (filter (wants parent rdn) cs))) h.0 ∙ none_want parent rdn cs h.1

module _ (rows : BTreeMap Uid (Option Row)) (tree : IsTree rows None []) (ordered : HasOrderedKeys uid_cmp rows) where
  abbrev facts : List EntryFacts
  facts = facts_in rows.entries

  pub who_none : (parent : Uid) (rdn : Rdn) → row_at rows parent ≡ None → wanting parent rdn (children_in rows) ≡ []
  who_none parent rdn none =
      none_want parent rdn (children_in rows)
      (children_none parent (present_of facts) (all_present (λ (x : EntryFacts). stands_below parent (child_of x) ≡ false) facts (others_none parent facts facts (no_row rows tree ordered parent none) tree.rooted)))

  pub place_row : (u : Uid) (r : Row) → row_at rows u ≡ Some r → is_among_entries (present_of facts) r.entry.id ≡ true → place_in (children_in rows) u ≡ Some (not (has_name (present_of facts) r.entry))
  place_row u r there h =
      place_present facts u r.entry (only rows tree ordered u r there) (subst (λ v. is_among_entries (present_of facts) v ≡ true) (row_id rows tree ordered u r there) h)

pub who_enters : (parent : Uid) (rdn : Rdn) (c : Child) (cs : List Child) → HasRisingIds cs → IsTrueOf cs (Enter c) → wants parent rdn c ≡ true → put_one (contender c) (wanting parent rdn cs) ≡ wanting parent rdn (put_child c cs)
who_enters parent rdn c cs r t h = sym (wanting_put parent rdn c cs r t.0 ∙ ap (λ b. cond b (put_one (contender c) (wanting parent rdn cs)) (wanting parent rdn cs)) h)

pub who_aside : (parent : Uid) (rdn : Rdn) (c : Child) (cs : List Child) → HasRisingIds cs → IsTrueOf cs (Enter c) → wants parent rdn c ≡ false → wanting parent rdn (put_child c cs) ≡ wanting parent rdn cs
who_aside parent rdn c cs r t h = wanting_put parent rdn c cs r t.0 ∙ ap (λ b. cond b (put_one (contender c) (wanting parent rdn cs)) (wanting parent rdn cs)) h

pub who_stays : (parent : Uid) (rdn : Rdn) (s : Step) (cs : List Child) → HasRisingIds cs → IsTrueOf cs s → wants parent rdn (child_in s) ≡ false → wanting parent rdn (step_of s cs) ≡ wanting parent rdn cs
who_stays parent rdn (Enter c) cs r t h = who_aside parent rdn c cs r t h
who_stays parent rdn (Leave c) cs r t h = wanting_kept parent rdn c cs r t.0 h

pub who_leaves : (parent : Uid) (rdn : Rdn) (c : Child) (cs : List Child) → without c.id (wanting parent rdn cs) ≡ wanting parent rdn (without_child c.id cs)
who_leaves parent rdn c cs = sym (wanting_without parent rdn c.id cs)

abbrev pub touches : Uid → Rdn → Step → Bool
touches parent rdn s = wants parent rdn (child_in s)

pub on_ok : {A E : Type 0} {P Q : Type 0} (r : Result A E) → (P → Q) → OnOk r P → OnOk r Q
on_ok (Ok x) f h = f h
on_ok (Err x) f h = h

-- a name that no step touches
pub untouched : (n : ℕ) (parent : Uid) (rdn : Rdn) (ss : List Step) (cs : List Child) → HasRisingIds cs → AreTrue n cs ss → list_any (touches parent rdn) ss ≡ false → wanting parent rdn (stepped ss cs) ≡ wanting parent rdn cs
untouched n parent rdn [] cs r t h = refl
untouched n parent rdn (s ∷ ss) cs r t h =
    neither (touches parent rdn s) (list_any (touches parent rdn) ss) h
    (λ a b. untouched n parent rdn ss (step_of s cs) (rises_step s cs r) t.2 b ∙ who_stays parent rdn s cs r t.0 a)
  where
    neither : {G : Type 0} (a b : Bool) → (a || b) ≡ false → (a ≡ false → b ≡ false → G) → G
    neither true b h f = let e : true ≡ false = h in cc
    neither false b h f = f refl h

-- A CHILD is found by its id where ids rise
later_not : (c d : Child) (cs : List Child) → AllByRecursion (λ (e : Child). uid_cmp c.id e.id ≡ Less) cs → IsOneOf d cs → uid_eq c.id d.id ≡ false
later_not c d [] h m = elim m [ ]
later_not c d (e ∷ cs) h (inl m) = ap (λ (x : Child). uid_eq c.id x.id) m ∙ ap is_eq h.0
later_not c d (e ∷ cs) h (inr m) = later_not c d cs h.1 m

pub found_member : (c : Child) (cs : List Child) → HasRisingIds cs → IsOneOf c cs → at_child cs c.id ≡ Some c
found_member c [] r m = elim m [ ]
found_member c (d ∷ cs) r (inl m) =
    ap (λ (x : Child). cond (uid_eq x.id c.id) (Some x) (at_child cs c.id)) (sym m) ∙ ap (λ b. cond b (Some c) (at_child cs c.id)) (own_id c.id)
found_member c (d ∷ cs) r (inr m) = ap (λ b. cond b (Some d) (at_child cs c.id)) (later_not d c cs r.0 m) ∙ found_member c cs r.1 m

-- one that is found is there with this id
pub found_there : (u : Uid) (c : Child) (cs : List Child) → at_child cs u ≡ Some c → IsOneOf c cs × (c.id ≡ u)
found_there u c [] h = let e : ◌≡◌ {A = Option Child} None (Some c) = h in cc
found_there u c (d ∷ cs) h = by (uid_eq d.id u) refl h (found_there u c cs)
  where
    by : (b : Bool) → uid_eq d.id u ≡ b → cond b (Some d) (at_child cs u) ≡ Some c → (at_child cs u ≡ Some c → IsOneOf c cs × (c.id ≡ u)) → IsOneOf c (d ∷ cs) × (c.id ≡ u)
    by true e k more = let is : c ≡ d = (let f : Some d ≡ Some c = k in cc) in (inl is, ap (λ (x : Child). x.id) is ∙ same_id d.id u e)
    by false e k more = let m = more k in (inr m.0, m.1)

-- WHO WANTS A NAME contends for it, and who contends for it is there

-- a contender with this id is a child that wants the name
abbrev pub Wanted : Uid → Rdn → Uid → List Child → Type 0
Wanted parent rdn u cs = (c : Child) × IsOneOf c cs × (wants parent rdn c ≡ true) × (c.id ≡ u)

pub contends_wants : (parent : Uid) (rdn : Rdn) (u : Uid) (cs : List Child) → contends u (wanting parent rdn cs) ≡ true → Wanted parent rdn u cs
contends_wants parent rdn u [] h = let e : false ≡ true = h in cc
contends_wants parent rdn u (d ∷ cs) h = by (wants parent rdn d) refl h (contends_wants parent rdn u cs)
  where
    later : Wanted parent rdn u cs → Wanted parent rdn u (d ∷ cs)
    later w = (w.0, inr w.1, w.2, w.3)

    own : wants parent rdn d ≡ true → (b : Bool) → uid_eq d.id u ≡ b → (b || contends u (wanting parent rdn cs)) ≡ true → (contends u (wanting parent rdn cs) ≡ true → Wanted parent rdn u cs) → Wanted parent rdn u (d ∷ cs)
    own w true e k more = (d, inl refl, w, same_id d.id u e)
    own w false e k more = later (more k)

    by : (b : Bool) → wants parent rdn d ≡ b → contends u (map contender (cond b (d ∷ filter (wants parent rdn) cs) (filter (wants parent rdn) cs))) ≡ true → (contends u (wanting parent rdn cs) ≡ true → Wanted parent rdn u cs) → Wanted parent rdn u (d ∷ cs)
    by true w k more = own w (uid_eq d.id u) refl k more
    by false w k more = later (more k)

-- its own name
pub wants_own : (cs : List Child) (parent : Uid) (rdn : Rdn) (c : Child) → wants parent rdn c ≡ true → wanting c.parent c.rdn cs ≡ wanting parent rdn cs
wants_own cs parent rdn c h =
    both (stands_below parent c) (same_rdn rdn c.rdn) h
    (λ a b. both (uid_eq c.parent parent) (not (uid_eq c.id suffix_id)) a
    (λ p q. ap (λ v. wanting v c.rdn cs) (same_id c.parent parent p) ∙ sym (wanting_same parent rdn c.rdn cs b)))

-- the place of one that wants a name
pub place_wanting : (parent : Uid) (rdn : Rdn) (c : Child) (cs : List Child) → HasRisingIds cs → IsOneOf c cs → wants parent rdn c ≡ true → place_in cs c.id ≡ Some (is_beaten (wanting parent rdn cs) (contender c))
place_wanting parent rdn c cs r m h =
    ap (option_map (loses_in cs)) (found_member c cs r m) ∙ ap (λ who. Some (is_beaten who (contender c))) (wants_own cs parent rdn c h)

-- PLACES BY ID, with one more
module _ (a b : BTreeMap Uid (Option Bool)) (k : Uid) (v : Option Bool) (up : Updates uid_cmp a b k (Some v)) where
  pub one_place : (ds : List Child) → v ≡ place_in ds k → ArePlaces ds a → ArePlaces ds b
  one_place ds own are u place h =
      cases (uid_eq k u)
      (λ e. let is : v ≡ place = (let f : Some v ≡ Some place = sym (up.1) ∙ subst (λ w. get uid_cmp b w ≡ Some place) (sym (same_id k u e)) h in cc) in
      sym is ∙ own ∙ ap (place_in ds) (same_id k u e))
      (λ e. are u place (sym (up.2 u e) ∙ h))

  pub keeps_one : KeepsPlaces a b
  keeps_one u h =
      cases (uid_eq k u)
      (λ e. subst (λ w. is_some (get uid_cmp b w) ≡ true) (same_id k u e) (ap is_some up.1))
      (λ e. ap is_some (up.2 u e) ∙ h)

  pub has_one : is_some (get uid_cmp b k) ≡ true
  has_one = ap is_some up.1

pub no_places : (m : BTreeMap Uid (Option Bool)) (ds : List Child) → m.entries ≡ [] → ArePlaces ds m
no_places m ds h u place k = let f : ◌≡◌ {A = Option (Option Bool)} None (Some place) = sym (ap (lookup (is_at (uid_cmp u))) h) ∙ k in cc

-- THOSE THAT CONTEND
module _ (parent : Uid) (rdn : Rdn) where
  all_wanted : (P : Contender → Type 0) (cs : List Child) → ((c : Child) → IsOneOf c cs → wants parent rdn c ≡ true → P (contender c)) → AllByRecursion P (wanting parent rdn cs)
  all_wanted P [] f = tt
  all_wanted P (c ∷ cs) f = by (wants parent rdn c) refl (all_wanted P cs (λ d m w. f d (inr m) w))
    where
      by : (b : Bool) → wants parent rdn c ≡ b → AllByRecursion P (wanting parent rdn cs) → AllByRecursion P (map contender (cond b (c ∷ filter (wants parent rdn) cs) (filter (wants parent rdn) cs)))
      by true w more = (f c (inl refl) w, more)
      by false w more = more

  pub after_placed : (ds : List Child) → HasRisingIds ds → AllByRecursion (λ (c : Contender). place_in ds c.id ≡ Some (is_beaten (wanting parent rdn ds) c)) (wanting parent rdn ds)
  after_placed ds rises = all_wanted (λ (c : Contender). place_in ds c.id ≡ Some (is_beaten (wanting parent rdn ds) c)) ds (λ c m w. place_wanting parent rdn c ds rises m w)

  pub all_at_child : (P : Contender → Type 0) (c : Child) (cs : List Child) → AllByRecursion P (wanting parent rdn cs) → IsOneOf c cs → wants parent rdn c ≡ true → P (contender c)
  all_at_child P c [] h m w = elim m [ ]
  all_at_child P c (d ∷ cs) h (inl m) w = first (wants parent rdn d) (ap (wants parent rdn) (sym m) ∙ w) h
    where
      first : (b : Bool) → b ≡ true → AllByRecursion P (map contender (cond b (d ∷ filter (wants parent rdn) cs) (filter (wants parent rdn) cs))) → P (contender c)
      first true k g = subst (λ (x : Child). P (contender x)) (sym m) g.0
      first false k g = let e : false ≡ true = k in cc
  all_at_child P c (d ∷ cs) h (inr m) w = all_at_child P c cs (rest (wants parent rdn d) h) m w
    where
      rest : (b : Bool) → AllByRecursion P (map contender (cond b (d ∷ filter (wants parent rdn) cs) (filter (wants parent rdn) cs))) → AllByRecursion P (wanting parent rdn cs)
      rest true g = g.1
      rest false g = g

-- STEPS, one after the other
pub steps_rise : (ss : List Step) (cs : List Child) → HasRisingIds cs → HasRisingIds (stepped ss cs)
steps_rise [] cs h = h
steps_rise (s ∷ ss) cs h = steps_rise ss (step_of s cs) (rises_step s cs h)

-- A NAME THAT A STEP TOUCHES has its places
abbrev IsCovered : List Child → List Child → BTreeMap Uid (Option Bool) → Uid → Rdn → Type 0
IsCovered cs ds places parent rdn = (u : Uid) × (is_some (get uid_cmp places u) ≡ true) × Covers cs ds places parent rdn u

covered : (cs ds : List Child) (places : BTreeMap Uid (Option Bool)) (parent : Uid) (rdn : Rdn) (ss : List Step) → AllByRecursion (CoversStep cs ds places) ss → list_any (touches parent rdn) ss ≡ true → IsCovered cs ds places parent rdn
covered cs ds places parent rdn [] all h = let e : false ≡ true = h in cc
covered cs ds places parent rdn (s ∷ ss) all h = by (touches parent rdn s) refl h (covered cs ds places parent rdn ss all.1)
  where
    by : (b : Bool) → touches parent rdn s ≡ b → (b || list_any (touches parent rdn) ss) ≡ true → (list_any (touches parent rdn) ss ≡ true → IsCovered cs ds places parent rdn) → IsCovered cs ds places parent rdn
    by true w k more = (
      (child_in s).id,
      all.0.own,
      record {
        before = subst (HasFront places (child_in s).id) (wants_own cs parent rdn (child_in s) w) all.0.name.before;
        after = subst (HasFront places (child_in s).id) (wants_own ds parent rdn (child_in s) w) all.0.name.after;
      },
    )
    by false w k more = more k

stands_own : (c : Child) → uid_eq c.id suffix_id ≡ false → wants c.parent c.rdn c ≡ true
stands_own c n = ap (λ b. (b && not (uid_eq c.id suffix_id)) && same_rdn c.rdn c.rdn) (own_id c.parent) ∙ ap (λ b. not b && same_rdn c.rdn c.rdn) n ∙ same_itself c.rdn

-- WHO NEITHER COMES NOR GOES
put_other : (u : Uid) (c : Child) (cs : List Child) → uid_eq c.id u ≡ false → at_child (put_child c cs) u ≡ at_child cs u
put_other u c [] n = ap (λ b. cond b (Some c) None) n
put_other u c (d ∷ ds) n = by (uid_cmp c.id d.id) refl (put_other u c ds n)
  where
    by : (o : Ordering) → uid_cmp c.id d.id ≡ o → at_child (put_child c ds) u ≡ at_child ds u → at_child (by_order o (c ∷ d ∷ ds) (c ∷ ds) (d ∷ put_child c ds)) u ≡ at_child (d ∷ ds) u
    by Less k more = ap (λ b. cond b (Some c) (at_child (d ∷ ds) u)) n
    by Equal k more = ap (λ b. cond b (Some c) (at_child ds u)) n ∙ sym (ap (λ v. cond (uid_eq v u) (Some d) (at_child ds u)) (sym (uid_exact c.id d.id k)) ∙ ap (λ b. cond b (Some d) (at_child ds u)) n)
    by Greater k more = ap (λ o. cond (uid_eq d.id u) (Some d) o) more

without_other : (u v : Uid) (cs : List Child) → uid_eq v u ≡ false → at_child (without_child v cs) u ≡ at_child cs u
without_other u v [] n = refl
without_other u v (d ∷ ds) n = by (uid_eq d.id v) refl (without_other u v ds n)
  where
    by : (b : Bool) → uid_eq d.id v ≡ b → at_child (without_child v ds) u ≡ at_child ds u → at_child (cond (not b) (d ∷ without_child v ds) (without_child v ds)) u ≡ at_child (d ∷ ds) u
    by true k more = more ∙ sym (ap (λ w. cond (uid_eq w u) (Some d) (at_child ds u)) (same_id d.id v k) ∙ ap (λ b. cond b (Some d) (at_child ds u)) n)
    by false k more = ap (λ o. cond (uid_eq d.id u) (Some d) o) more

step_other : (u : Uid) (s : Step) (cs : List Child) → uid_eq (child_in s).id u ≡ false → at_child (step_of s cs) u ≡ at_child cs u
step_other u (Enter c) cs n = put_other u c cs n
step_other u (Leave c) cs n = without_other u c.id cs n

module _ (n : ℕ) (ss : List Step) (cs : List Child) (rises : HasRisingIds cs) (trues : AreTrue n cs ss) (places : BTreeMap Uid (Option Bool)) (covers : AllByRecursion (CoversStep cs (stepped ss cs) places) ss) where
  abbrev late : List Child
  late = stepped ss cs

  other_than : (u v : Uid) → get uid_cmp places u ≡ None → is_some (get uid_cmp places v) ≡ true → uid_eq v u ≡ false
  other_than u v none has = cases (uid_eq v u) (λ t. never (is_some (get uid_cmp places u)) (subst (λ x. is_some (get uid_cmp places x) ≡ true) (same_id v u t) has) (ap is_some none)) (λ f. f)

  same_child : (u : Uid) → get uid_cmp places u ≡ None → at_child late u ≡ at_child cs u
  same_child u none = all ss cs covers
    where
      all : (ts : List Step) (xs : List Child) → AllByRecursion (CoversStep cs late places) ts → at_child (stepped ts xs) u ≡ at_child xs u
      all [] xs h = refl
      all (t ∷ ts) xs h = all ts (step_of t xs) h.1 ∙ step_other u t xs (other_than u (child_in t).id none h.0.own)

  -- who has no place is beaten where its name is touched
  is_beaten_in : (u : Uid) (c : Child) (v : Uid) (xs : List Child) → get uid_cmp places u ≡ None → c.id ≡ u → is_some (get uid_cmp places v) ≡ true → HasFront places v (wanting c.parent c.rdn xs) → IsOneOf c xs → wants c.parent c.rdn c ≡ true
      → is_beaten (wanting c.parent c.rdn xs) (contender c) ≡ true
  is_beaten_in u c v xs none id has front m w =
      cases (is_beaten (wanting c.parent c.rdn xs) (contender c))
      (λ t. t)
      (λ f. never (is_some (get uid_cmp places u))
      (subst (λ x. is_some (get uid_cmp places x) ≡ true) id
      (all_at_child c.parent c.rdn (λ (x : Contender). uid_eq x.id v ≡ false → is_beaten (wanting c.parent c.rdn xs) x ≡ false → is_some (get uid_cmp places x.id) ≡ true) c xs front m w
      (ap (λ x. uid_eq x v) id ∙ eq_turned u v ∙ other_than u v none has) f))
      (ap is_some none))

  pub stays : LeavesRest cs late places
  stays u r none = by (at_child cs u) refl
    where
      by : (o : Option Child) → at_child cs u ≡ o → place_in cs u ≡ place_in late u
      by None e = ap (option_map (loses_in cs)) e ∙ sym (ap (option_map (loses_in late)) (same_child u none ∙ e))
      by (Some c) e =
          let m = found_there u c cs e in
          let l = found_there u c late (same_child u none ∙ e) in
          let own : wants c.parent c.rdn c ≡ true = stands_own c (ap (λ v. uid_eq v suffix_id) m.1 ∙ r) in
          let loses : loses_in cs c ≡ loses_in late c =
          cases (list_any (touches c.parent c.rdn) ss)
          (λ y. let k = covered cs late places c.parent c.rdn ss covers y in
          is_beaten_in u c k.0 cs none m.1 k.1 k.2.before m.0 own ∙ sym (is_beaten_in u c k.0 late none l.1 k.1 k.2.after l.0 own))
          (λ f. ap (λ who. is_beaten who (contender c)) (sym (untouched n c.parent c.rdn ss cs rises trues f))) in
          ap (option_map (loses_in cs)) e ∙ ap Some loses ∙ sym (ap (option_map (loses_in late)) (same_child u none ∙ e))

-- WITH MORE PLACES
front_kept : (a b : BTreeMap Uid (Option Bool)) → KeepsPlaces a b → (u : Uid) (all who : List Contender) → AllByRecursion (λ (c : Contender). uid_eq c.id u ≡ false → is_beaten all c ≡ false → is_some (get uid_cmp a c.id) ≡ true) who
    → AllByRecursion (λ (c : Contender). uid_eq c.id u ≡ false → is_beaten all c ≡ false → is_some (get uid_cmp b c.id) ≡ true) who
front_kept a b keeps u all [] h = tt
front_kept a b keeps u all (c ∷ cs) h = ((λ n k. keeps c.id (h.0 n k)), front_kept a b keeps u all cs h.1)

pub name_kept : (cs ds : List Child) (a b : BTreeMap Uid (Option Bool)) (parent : Uid) (rdn : Rdn) (u : Uid) → KeepsPlaces a b → Covers cs ds a parent rdn u → Covers cs ds b parent rdn u
name_kept cs ds a b parent rdn u keeps h = record {
  before = front_kept a b keeps u (wanting parent rdn cs) (wanting parent rdn cs) h.before;
  after = front_kept a b keeps u (wanting parent rdn ds) (wanting parent rdn ds) h.after;
}

pub covers_kept : (cs ds : List Child) (a b : BTreeMap Uid (Option Bool)) → KeepsPlaces a b → (ss : List Step) → AllByRecursion (CoversStep cs ds a) ss → AllByRecursion (CoversStep cs ds b) ss
covers_kept cs ds a b keeps [] h = tt
covers_kept cs ds a b keeps (s ∷ ss) h = (
  record { own = keeps (child_in s).id h.0.own; name = name_kept cs ds a b (child_in s).parent (child_in s).rdn (child_in s).id keeps h.0.name },
  covers_kept cs ds a b keeps ss h.1,
)

pub covers_last : (cs ds : List Child) (b : BTreeMap Uid (Option Bool)) (ss : List Step) (s : Step) → AllByRecursion (CoversStep cs ds b) ss → CoversStep cs ds b s → AllByRecursion (CoversStep cs ds b) (ss ++ s ∷ [])
covers_last cs ds b [] s h k = (k, tt)
covers_last cs ds b (t ∷ ss) s h k = (h.0, covers_last cs ds b ss s h.1 k)

-- the target, where it has no place yet
pub own_stays : (cs ds : List Child) (u : Uid) (places : BTreeMap Uid (Option Bool)) → (uid_eq u suffix_id ≡ true → place_in cs u ≡ place_in ds u) → LeavesRest cs ds places → is_some (get uid_cmp places u) ≡ false → place_in cs u ≡ place_in ds u
own_stays cs ds u places root rest none = cases (uid_eq u suffix_id) root (λ f. rest u f (nothing (get uid_cmp places u) none))
  where
    nothing : (o : Option (Option Bool)) → is_some o ≡ false → o ≡ None
    nothing None h = refl
    nothing (Some x) h = let e : true ≡ false = h in cc

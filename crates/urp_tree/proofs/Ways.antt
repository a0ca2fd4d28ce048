-- THE STEPS OF A PLAN lead to the children after it.
use Rattle.std.proofs.Common.{◌≡◌, ◌≢◌, ℕ, suc, ◌≤◌, List, [], ◌∷◌, ◌++◌, length, Bool, true, false, cond, not, refl, sym, ap, subst, ◌∙◌, inl, inr, arith}
use Rattle.std.specs.Prelude.{◌⊎◌, ◌&&◌, ◌||◌, filter}
use Rattle.std.specs.List.{AllByRecursion}
use Rattle.std.specs.Ordering.{is_eq, ordering_reverse}
use Rattle.std.specs.declared.cmp.Ordering.{Ordering}
use Rattle.std.specs.declared.cmp.Ordering.TheVariants.{Less, Equal, Greater}
use Rattle.std.proofs.lemmas.Cmp.{tied_itself}
use Rattle.repl_data.specs.declared.csn.Uid.{Uid}
use Rattle.repl_data.specs.Order.{uid_cmp, uid_eq, suffix_id, by_order}
use Rattle.repl_data.specs.Facts.{EntryFacts}
use Rattle.repl_data.specs.Presence.{is_live, HasParentBelow}
use Rattle.repl_data.proofs.Orders.{uid_total, split}
use Rattle.repl_data.proofs.InOrder.{put-Rises}
use Rattle.urp_tree.specs.declared.child.Child.{Child}
use Rattle.urp_tree.specs.declared.step.Step.{Step}
use Rattle.urp_tree.specs.declared.step.Step.TheVariants.{Enter, Leave}
use Rattle.urp_tree.specs.Index.{stands_below, is_among_children, put_child, without_child, HasRisingIds, IsOneOf}
use Rattle.urp_tree.specs.Walk.{child_of, stepped, step_of, child_in, IsTrueOf}
use Rattle.urp_tree.specs.Known.{put_fact, fact_id, HasRisingFacts}
use Rattle.urp_tree.specs.Climb.{count_below, IsFound, IsChain, leaves, enters, AreTrue, IsApart, AreApart, IsBehindEnter, IsBehindLeave, AreLone}
use Rattle.urp_tree.proofs.Children.{filter_put, put_back, without_fresh, only, fewer, filters}
use Rattle.urp_tree.proofs.Walks.{stepped_last}
use Rattle.urp_tree.proofs.Settled.{all_put}
use Rattle.urp_tree.proofs.Stays.{any_below}
use Rattle.urp_tree.proofs.Shield.{shown_by}
use Rattle.urp_tree.proofs.Levels.{held, StandsAt, AllAbove, AllBelow, id_at, all_at, found_at, at_put, any_held, unheld, held_shows, goes_up}
use Rattle.repl_data.proofs.Bools.{cases, either_second, either_turned, neither_then}
use Rattle.repl_data.proofs.Known.{above_id}

-- LISTS OF CHILDREN: how many stand below an entry, and whether one does
pub zero_any : (u : Uid) (cs : List Child) → count_below u cs ≡ 0 → any_below u cs ≡ false
zero_any u [] h = refl
zero_any u (c ∷ cs) h = by (stands_below u c) h (zero_any u cs)
  where
    by : (b : Bool) → length (cond b (c ∷ filter (stands_below u) cs) (filter (stands_below u) cs)) ≡ 0 → (count_below u cs ≡ 0 → any_below u cs ≡ false) → (b || any_below u cs) ≡ false
    by true k more = let e : suc (count_below u cs) ≡ 0 = k in absurd (omega (arith, e))
    by false k more = more k

pub none_zero : (u : Uid) (cs : List Child) → any_below u cs ≡ false → count_below u cs ≡ 0
none_zero u [] h = refl
none_zero u (c ∷ cs) h = by (stands_below u c) h (none_zero u cs)
  where
    by : (b : Bool) → (b || any_below u cs) ≡ false → (any_below u cs ≡ false → count_below u cs ≡ 0) → length (cond b (c ∷ filter (stands_below u) cs) (filter (stands_below u) cs)) ≡ 0
    by true k more = let e : true ≡ false = k in cc
    by false k more = more k

pub some_any : (u : Uid) (cs : List Child) → count_below u cs ≢ 0 → any_below u cs ≡ true
some_any u cs h = cases (any_below u cs) (λ t. t) (λ f. absurd (h (none_zero u cs f)))

pub among_without : (u : Uid) (cs : List Child) → is_among_children u (without_child u cs) ≡ false
among_without u [] = refl
among_without u (c ∷ cs) = by (uid_eq c.id u) refl (among_without u cs)
  where
    by : (b : Bool) → uid_eq c.id u ≡ b → is_among_children u (without_child u cs) ≡ false → is_among_children u (cond (not b) (c ∷ without_child u cs) (without_child u cs)) ≡ false
    by true e more = more
    by false e more = ap (λ t. t || is_among_children u (without_child u cs)) e ∙ more

-- one child less, below its parent and elsewhere
pub count_less : (u : Uid) (c : Child) (cs : List Child) → HasRisingIds cs → IsOneOf c cs → stands_below u c ≡ true → count_below u cs ≡ suc (count_below u (without_child c.id cs))
count_less u c cs r m h =
    sym (fewer (stands_below u) c cs r m h) ∙ ap (λ xs. suc (length xs)) (sym (filters (stands_below u) (λ (d : Child). not (uid_eq d.id c.id)) cs))

pub count_kept : (u : Uid) (c : Child) (cs : List Child) → HasRisingIds cs → IsOneOf c cs → stands_below u c ≡ false → count_below u cs ≡ count_below u (without_child c.id cs)
count_kept u c cs r m h =
    ap length (sym (without_fresh c.id (filter (stands_below u) cs) (only (stands_below u) c cs r m h)) ∙ sym (filters (stands_below u) (λ (d : Child). not (uid_eq d.id c.id)) cs))

any_put : (u : Uid) (c : Child) (cs : List Child) → is_among_children c.id cs ≡ false → any_below u (put_child c cs) ≡ (stands_below u c || any_below u cs)
any_put u c [] h = refl
any_put u c (d ∷ ds) h =
    neither_then (uid_eq d.id c.id) (is_among_children c.id ds) h (λ a b.
    split (uid_cmp c.id d.id)
    (λ k. ap (λ o. any_below u (by_order o (c ∷ d ∷ ds) (c ∷ ds) (d ∷ put_child c ds))) k)
    (λ k. let t : true ≡ false = sym (ap is_eq (uid_total.antisymm d.id c.id ∙ ap ordering_reverse k)) ∙ a in cc)
    (λ k. ap (λ o. any_below u (by_order o (c ∷ d ∷ ds) (c ∷ ds) (d ∷ put_child c ds))) k
    ∙ ap (λ t. stands_below u d || t) (any_put u c ds b) ∙ either_turned (stands_below u c) (stands_below u d) (any_below u ds)))

-- a child in the place of another of the same id and parent
pub any_swapped : (u : Uid) (a b : Child) (cs : List Child) → HasRisingIds cs → IsOneOf a cs → b.id ≡ a.id → b.parent ≡ a.parent → any_below u (put_child b (without_child a.id cs)) ≡ any_below u cs
any_swapped u a b cs r m i p =
    any_put u b (without_child a.id cs) (ap (λ v. is_among_children v (without_child a.id cs)) i ∙ among_without a.id cs)
    ∙ (λ j. (uid_eq (p j) u && not (uid_eq (i j) suffix_id)) || any_below u (without_child a.id cs))
    ∙ sym (any_put u a (without_child a.id cs) (among_without a.id cs))
    ∙ ap (any_below u) (put_back a cs r m)

pub without_put : (c : Child) (cs : List Child) → HasRisingIds cs → is_among_children c.id cs ≡ false → without_child c.id (put_child c cs) ≡ cs
without_put c cs r f =
    filter_put (λ (d : Child). not (uid_eq d.id c.id)) c cs r f
    ∙ ap (λ o. cond (not (is_eq o)) (put_child c (without_child c.id cs)) (without_child c.id cs)) (tied_itself uid_total c.id)
    ∙ without_fresh c.id cs f

-- WHAT SHOWS rises, and is no more than the entries
pub below_shown : (L : EntryFacts → Bool) (u : Uid) (es : List EntryFacts) → AllAbove u es → AllByRecursion (λ (c : Child). uid_cmp u c.id ≡ Less) (shown_by L es)
below_shown L u [] h = tt
below_shown L u (d ∷ above) h = by (L d || any_below d.id (shown_by L above)) (below_shown L u above h.1)
  where
    by : (b : Bool) → AllByRecursion (λ (c : Child). uid_cmp u c.id ≡ Less) (shown_by L above) → AllByRecursion (λ (c : Child). uid_cmp u c.id ≡ Less) (cond b (child_of d ∷ shown_by L above) (shown_by L above))
    by true more = (h.0, more)
    by false more = more

pub rising_shown : (L : EntryFacts → Bool) (es : List EntryFacts) → HasRisingFacts es → HasRisingIds (shown_by L es)
rising_shown L [] h = tt
rising_shown L (d ∷ above) h = by (L d || any_below d.id (shown_by L above)) (rising_shown L above h.1)
  where
    by : (b : Bool) → HasRisingIds (shown_by L above) → HasRisingIds (cond b (child_of d ∷ shown_by L above) (shown_by L above))
    by true more = (below_shown L d.id above h.0, more)
    by false more = more

pub few_shown : (L : EntryFacts → Bool) (es : List EntryFacts) → length (shown_by L es) ≤ length es
few_shown L [] = omega arith
few_shown L (d ∷ above) = by (L d || any_below d.id (shown_by L above)) (few_shown L above)
  where
    by : (b : Bool) → length (shown_by L above) ≤ length above → length (cond b (child_of d ∷ shown_by L above) (shown_by L above)) ≤ length (d ∷ above)
    by true h = omega arith
    by false h = omega arith

pub none_among : (L : EntryFacts → Bool) (u : Uid) (es : List EntryFacts) → AllAbove u es → is_among_children u (shown_by L es) ≡ false
none_among L u es h = by (shown_by L es) (below_shown L u es h)
  where
    by : (cs : List Child) → AllByRecursion (λ (c : Child). uid_cmp u c.id ≡ Less) cs → is_among_children u cs ≡ false
    by [] g = refl
    by (c ∷ cs) g = ap (λ o. is_eq o || is_among_children u cs) (uid_total.antisymm c.id u ∙ ap ordering_reverse g.0) ∙ by cs g.1

pub few_put : (e : EntryFacts) (es : List EntryFacts) → length (put_fact e es) ≤ suc (length es)
few_put e [] = omega arith
few_put e (d ∷ above) = by (uid_cmp e.id d.id) (few_put e above)
  where
    by : (o : Ordering) → length (put_fact e above) ≤ suc (length above) → length (by_order o (e ∷ d ∷ above) (e ∷ above) (d ∷ put_fact e above)) ≤ suc (suc (length above))
    by Less h = omega arith
    by Equal h = omega arith
    by Greater h = omega arith

pub few_without : (u : Uid) (cs : List Child) → length (without_child u cs) ≤ length cs
few_without u [] = omega arith
few_without u (c ∷ cs) = by (not (uid_eq c.id u)) (few_without u cs)
  where
    by : (b : Bool) → length (without_child u cs) ≤ length cs → length (cond b (c ∷ without_child u cs) (without_child u cs)) ≤ suc (length cs)
    by true h = omega arith
    by false h = omega arith

-- STEPS with one more behind
pub true_last : (n : ℕ) (ss : List Step) (s : Step) (cs : List Child) → AreTrue n cs ss → IsTrueOf (stepped ss cs) s → length (stepped ss cs) ≤ n → AreTrue n cs (ss ++ s ∷ [])
true_last n [] s cs h t l = (t, l, tt)
true_last n (x ∷ ss) s cs h t l = (h.0, h.1, true_last n ss s (step_of x cs) h.2 t l)

-- all below parents under this one
abbrev pub IsUnder : Uid → Step → Type 0
IsUnder u s = uid_cmp (child_in s).parent u ≡ Less

pub apart_last : (ss : List Step) (c : Child) → AreApart ss → AllByRecursion (IsUnder c.parent) ss → AreApart (ss ++ Enter c ∷ [])
apart_last [] c a h = (tt, tt)
apart_last (Enter d ∷ ss) c a h = (last ss a.0, apart_last ss c a.1 h.1)
  where
    last : (ts : List Step) → AllByRecursion (IsApart d.parent) ts → AllByRecursion (IsApart d.parent) (ts ++ Enter c ∷ [])
    last [] b = (ap is_eq h.0, tt)
    last (t ∷ ts) b = (b.0, last ts b.1)
apart_last (Leave d ∷ ss) c a h = apart_last ss c a h.1

under_last : (u : Uid) (ss : List Step) (s : Step) → AllByRecursion (IsUnder u) ss → IsUnder u s → AllByRecursion (IsUnder u) (ss ++ s ∷ [])
under_last u [] s h k = (k, tt)
under_last u (t ∷ ss) s h k = (h.0, under_last u ss s h.1 k)

under_more : (u v : Uid) (ss : List Step) → uid_cmp u v ≡ Less → AllByRecursion (IsUnder u) ss → AllByRecursion (IsUnder v) ss
under_more u v [] l h = tt
under_more u v (s ∷ ss) l h = (uid_total.trans (child_in s).parent u v h.0 l, under_more u v ss l h.1)

pub apart_leaves : (cs : List Child) → AreApart (leaves cs)
apart_leaves [] = tt
apart_leaves (c ∷ cs) = apart_leaves cs

abbrev IsComing : Step → Type 0
IsComing (Enter c) = Unit {0}
IsComing (Leave c) = ⊥

come_last : (ss : List Step) (c : Child) → AllByRecursion IsComing ss → AllByRecursion IsComing (ss ++ Enter c ∷ [])
come_last [] c h = (tt, tt)
come_last (s ∷ ss) c h = (h.0, come_last ss c h.1)

pub all_come : (chain : List Child) → AllByRecursion IsComing (enters chain)
all_come [] = tt
all_come (c ∷ chain) = come_last (enters chain) c (all_come chain)

lone_coming : (ss : List Step) → AllByRecursion IsComing ss → AreApart ss → AreLone ss
lone_coming [] h a = tt
lone_coming (Enter c ∷ ss) h a = (each ss h.1 a.0, lone_coming ss h.1 a.1)
  where
    each : (ts : List Step) → AllByRecursion IsComing ts → AllByRecursion (IsApart c.parent) ts → AllByRecursion (IsBehindEnter c.parent) ts
    each [] k b = tt
    each (Enter d ∷ ts) k b = (b.0, each ts k.1 b.1)
    each (Leave d ∷ ts) k b = elim k.0 [ ]
lone_coming (Leave c ∷ ss) h a = elim h.0 [ ]

-- those who come have names of their own
pub lone_enters : (chain : List Child) (c : Child) → AreApart (enters chain ++ Enter c ∷ []) → AreLone (enters chain ++ Enter c ∷ [])
lone_enters chain c a = lone_coming (enters chain ++ Enter c ∷ []) (come_last (enters chain) c (all_come chain)) a

pub behind_leave : (u : Uid) (cs : List Child) → AllByRecursion (IsUnder u) (leaves cs) → AllByRecursion (IsBehindLeave u) (leaves cs)
behind_leave u [] h = tt
behind_leave u (c ∷ cs) h = (ap is_eq (uid_total.antisymm u c.parent ∙ ap ordering_reverse h.0), behind_leave u cs h.1)

-- an entry that is no root stands below its parent
abbrev pub AreRootsLive : List EntryFacts → Type 0
AreRootsLive es = AllByRecursion (λ (e : EntryFacts). uid_eq e.id suffix_id ≡ true → is_live e ≡ true) es

dead_below : (f : EntryFacts) → HasParentBelow f → (uid_eq f.id suffix_id ≡ true → is_live f ≡ true) → is_live f ≡ false → (uid_cmp f.parent f.id ≡ Less) × (uid_eq f.id suffix_id ≡ false)
dead_below f (inl h) r d = let e : true ≡ false = sym (r h) ∙ d in cc
dead_below f (inr h) r d = (h, cases (uid_eq f.id suffix_id) (λ t. let e : true ≡ false = sym (r t) ∙ d in cc) (λ n. n))

pub below_parent : (f : EntryFacts) → uid_eq f.id suffix_id ≡ false → stands_below f.parent (child_of f) ≡ true
below_parent f h = λ i. is_eq (tied_itself uid_total f.parent i) && not (h i)

pub first_of_chain : (n : ℕ) (es : List EntryFacts) (cs : List Child) (u : Uid) (chain : List Child) → IsChain n es cs u chain → (e : EntryFacts) × IsFound es u e
first_of_chain n es cs u [] h = (h.0, h.1)
first_of_chain n es cs u (c ∷ chain) h = (h.0, h.1)

-- THE ANCESTORS, of an entry e that is put among the entries fs
module _ (e : EntryFacts) (fs : List EntryFacts) (rises : HasRisingFacts fs) (below : AllBelow fs) (roots : AreRootsLive fs) (own : HasParentBelow e) where
  abbrev pub after : List EntryFacts
  after = put_fact e fs

  pub rises_after : HasRisingFacts after
  rises_after = put-Rises uid_cmp uid_total fact_id e fs rises

  pub below_after : AllBelow after
  below_after = all_put HasParentBelow e fs own below

  pub few : (L : EntryFacts → Bool) → length (shown_by L after) ≤ suc (length fs)
  few L = omega (arith, few_shown L after, few_put e fs)

  pub stands : (u : Uid) (f : EntryFacts) → uid_cmp u e.id ≡ Less → IsFound fs u f → StandsAt u f fs × StandsAt u f after
  stands u f l h = let at = found_at u f fs rises h in (at, at_put e u f fs (above_id u e.id l) at)

  -- and have names of their own
  pub chain_under : (n : ℕ) (cs : List Child) (u : Uid) (chain : List Child) → IsChain n fs cs u chain → AllByRecursion (IsUnder u) (leaves chain) × AreLone (leaves chain)
  chain_under n cs u [] h = (tt, tt)
  chain_under n cs u (c ∷ chain) h =
      let f : EntryFacts = h.0 in
      let at = found_at u f fs rises h.1 in
      let low = dead_below f (all_at HasParentBelow u f fs at below) (all_at (λ (x : EntryFacts). uid_eq x.id suffix_id ≡ true → is_live x ≡ true) u f fs at roots) h.3 in
      let lower : uid_cmp f.parent u ≡ Less = subst (λ v. uid_cmp f.parent v ≡ Less) (id_at u f fs at) low.0 in
      let own : uid_cmp c.parent u ≡ Less = subst (λ (d : Child). uid_cmp d.parent u ≡ Less) (sym h.2) lower in
      let more = chain_under n cs c.parent chain h.5 in
      ((own, under_more c.parent u (leaves chain) own more.0), (behind_leave c.parent chain more.0, more.1))

  -- those that go: cs are the children before
  pub down : (cs : List Child) (u : Uid) (chain : List Child) → uid_cmp u e.id ≡ Less → IsChain 1 fs cs u chain
      → count_below u cs ≡ suc (count_below u (shown_by (held is_live u) after))
      → ((x : Uid) → uid_cmp x u ≡ Less → count_below x cs ≡ count_below x (shown_by (held is_live u) after))
      → AreTrue (suc (length fs)) (shown_by (held is_live u) after) (leaves chain) × (stepped (leaves chain) (shown_by (held is_live u) after) ≡ shown_by is_live after)
  down cs u [] l h one rest =
      let at = (stands u h.0 l h.1).1 in
      (tt, unheld is_live u h.0 after rises_after below_after at (reason h.2 ∙ refl))
    where
      reason : (is_live h.0 ≡ true) ⊎ (count_below u cs ≢ 1) → (is_live h.0 || any_below u (shown_by is_live after)) ≡ true
      reason (inl k) = ap (λ b. b || any_below u (shown_by is_live after)) k
      reason (inr k) =
          let at = (stands u h.0 l h.1).1 in
          either_second (is_live h.0) (any_below u (shown_by is_live after))
          (sym (any_held is_live u h.0 after rises_after below_after at)
          ∙ some_any u (shown_by (held is_live u) after) (λ z. k (one ∙ ap suc z)))
  down cs u (c ∷ chain) l h one rest =
      let f : EntryFacts = h.0 in
      let S : List Child = shown_by (held is_live u) after in
      let both = stands u f l h.1 in
      let is : f.id ≡ u = id_at u f fs both.0 in
      let low = dead_below f (all_at HasParentBelow u f fs both.0 below) (all_at (λ (x : EntryFacts). uid_eq x.id suffix_id ≡ true → is_live x ≡ true) u f fs both.0 roots) h.3 in
      let p : Uid = f.parent in
      let lower : uid_cmp p u ≡ Less = subst (λ v. uid_cmp p v ≡ Less) is low.0 in
      let chain' : IsChain 1 fs cs p chain = subst (λ (d : Child). IsChain 1 fs cs d.parent chain) h.2 h.5 in
      let g = first_of_chain 1 fs cs p chain chain' in
      let under : uid_cmp p e.id ≡ Less = uid_total.trans p u e.id lower l in
      let none : any_below u S ≡ false = zero_any u S (let k : suc (count_below u S) ≡ 1 = sym one ∙ h.4 in omega (arith, k)) in
      let member : IsOneOf (child_of f) S = held_shows is_live u f after below_after both.1 in
      let child : stands_below p (child_of f) ≡ true = below_parent f low.1 in
      let next : shown_by (held is_live p) after ≡ without_child u S =
      goes_up is_live u p f g.0 after rises_after below_after both.1 refl (stands p g.0 under g.1).1 lower child h.3 none in
      let rising : HasRisingIds S = rising_shown (held is_live u) after rises_after in
      let as_id : without_child (child_of f).id S ≡ without_child u S = ap (λ v. without_child v S) is in
      let more = down cs p chain under chain'
      (rest p lower ∙ count_less p (child_of f) S rising member child ∙ ap (λ ds. suc (count_below p ds)) (as_id ∙ sym next))
      (λ x k. rest x (uid_total.trans x p u k lower)
      ∙ count_kept x (child_of f) S rising member (ap (λ o. is_eq o && not (uid_eq f.id suffix_id)) (above_id x p k))
      ∙ ap (count_below x) (as_id ∙ sym next)) in
      let step : without_child c.id S ≡ shown_by (held is_live p) after = ap (λ (d : Child). without_child d.id S) h.2 ∙ as_id ∙ sym next in (
        (
          (subst (λ (d : Child). IsOneOf d S) (sym h.2) member, subst (λ (d : Child). stands_below d.parent d ≡ true) (sym h.2) child),
          few (held is_live u),
          subst (λ ds. AreTrue (suc (length fs)) ds (leaves chain)) (sym step) more.0,
        ),
        ap (stepped (leaves chain)) step ∙ more.1,
      )

  -- those that come: without the entry the children are those before
  abbrev pub dropped : EntryFacts → Bool
  dropped x = is_live x && not (uid_eq x.id e.id)

  and_yes : (a : Bool) → (a && true) ≡ a
  and_yes true = refl
  and_yes false = refl

  dropped_other : (x : EntryFacts) → uid_eq x.id e.id ≡ false → dropped x ≡ is_live x
  dropped_other x h = ap (λ b. is_live x && not b) h ∙ and_yes (is_live x)

  pub up : (cs : List Child) (u : Uid) (chain : List Child) → uid_cmp u e.id ≡ Less → shown_by dropped after ≡ cs → IsChain 0 fs cs u chain
      → AreTrue (suc (length fs)) cs (enters chain) × (stepped (enters chain) cs ≡ shown_by (held dropped u) after) × AreApart (enters chain) × AllByRecursion (IsUnder u) (enters chain)
  up cs u [] l was h =
      let at = (stands u h.0 l h.1).1 in
      let is : h.0.id ≡ u = id_at u h.0 after at in
      (tt, sym (unheld dropped u h.0 after rises_after below_after at (reason h.2) ∙ was), tt, tt)
    where
      reason : (is_live h.0 ≡ true) ⊎ (count_below u cs ≢ 0) → (dropped h.0 || any_below u (shown_by dropped after)) ≡ true
      reason (inl k) =
          let at = (stands u h.0 l h.1).1 in
          let is : h.0.id ≡ u = id_at u h.0 after at in
          ap (λ b. b || any_below u (shown_by dropped after)) (dropped_other h.0 (ap (λ v. uid_eq v e.id) is ∙ ap is_eq l) ∙ k)
      reason (inr k) = either_second (dropped h.0) (any_below u (shown_by dropped after)) (ap (any_below u) was ∙ some_any u cs k)
  up cs u (c ∷ chain) l was h =
      let f : EntryFacts = h.0 in
      let S : List Child = shown_by (held dropped u) after in
      let both = stands u f l h.1 in
      let is : f.id ≡ u = id_at u f fs both.0 in
      let low = dead_below f (all_at HasParentBelow u f fs both.0 below) (all_at (λ (x : EntryFacts). uid_eq x.id suffix_id ≡ true → is_live x ≡ true) u f fs both.0 roots) h.3 in
      let p : Uid = f.parent in
      let lower : uid_cmp p u ≡ Less = subst (λ v. uid_cmp p v ≡ Less) is low.0 in
      let chain' : IsChain 0 fs cs p chain = subst (λ (d : Child). IsChain 0 fs cs d.parent chain) h.2 h.5 in
      let g = first_of_chain 0 fs cs p chain chain' in
      let under : uid_cmp p e.id ≡ Less = uid_total.trans p u e.id lower l in
      let none : any_below u S ≡ false = any_held dropped u f after rises_after below_after both.1 ∙ ap (any_below u) was ∙ zero_any u cs h.4 in
      let member : IsOneOf (child_of f) S = held_shows dropped u f after below_after both.1 in
      let child : stands_below p (child_of f) ≡ true = below_parent f low.1 in
      let next : shown_by (held dropped p) after ≡ without_child u S =
      goes_up dropped u p f g.0 after rises_after below_after both.1 refl (stands p g.0 under g.1).1 lower child
      (dropped_other f (ap (λ v. uid_eq v e.id) is ∙ ap is_eq l) ∙ h.3) none in
      let rising : HasRisingIds S = rising_shown (held dropped u) after rises_after in
      let more = up cs p chain under was chain' in
      let stage : stepped (enters chain) cs ≡ without_child c.id S = more.1 ∙ next ∙ ap (λ v. without_child v S) (sym is) ∙ ap (λ (d : Child). without_child d.id S) (sym h.2) in
      let member' : IsOneOf c S = subst (λ (d : Child). IsOneOf d S) (sym h.2) member in (
        true_last (suc (length fs)) (enters chain) (Enter c) cs more.0
            (subst (λ ds. is_among_children c.id ds ≡ false) (sym stage) (among_without c.id S), subst (λ (d : Child). stands_below d.parent d ≡ true) (sym h.2) child)
            (subst (λ ds. length ds ≤ suc (length fs)) (sym more.1) (few (held dropped p))),
        stepped_last (enters chain) (Enter c) cs ∙ ap (put_child c) stage ∙ put_back c S rising member',
        apart_last (enters chain) c more.2 (subst (λ (d : Child). AllByRecursion (IsUnder d.parent) (enters chain)) (sym h.2) more.3),
        under_last u (enters chain) (Enter c) (under_more p u (enters chain) lower more.3) (subst (λ (d : Child). uid_cmp d.parent u ≡ Less) (sym h.2) lower),
      )

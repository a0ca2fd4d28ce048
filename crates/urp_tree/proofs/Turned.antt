-- WHAT STEPS DO TO THEIR NAMES, where each has one of its own, and where one child moves.
use Rattle.std.proofs.Common.{◌≡◌, ℕ, suc, arith, List, [], ◌∷◌, length, get_or, ◌<◌, zero, Bool, true, false, cond, not, Option, Some, None, refl, sym, ap, subst, ◌∙◌, inl, inr}
use Rattle.std.specs.Prelude.{◌⊎◌, ◌&&◌, ◌||◌, slice_get, option_map, is_some}
use Rattle.std.specs.List.{AllByRecursion, list_any}
use Rattle.std.specs.BTreeMap.{BTreeMap, get}
use Rattle.repl_data.specs.declared.csn.Uid.{Uid}
use Rattle.repl_data.specs.declared.change.Rdn.{Rdn}
use Rattle.repl_data.specs.Order.{uid_eq, suffix_id, same_rdn}
use Rattle.urp_names.specs.declared.contenders.Contender.{Contender}
use Rattle.urp_names.specs.Contending.{put_one, without}
use Rattle.urp_tree.specs.declared.child.Child.{Child}
use Rattle.urp_tree.specs.declared.step.Step.{Step}
use Rattle.urp_tree.specs.declared.step.Step.TheVariants.{Enter, Leave}
use Rattle.urp_tree.specs.Index.{contender, stands_below, wants, wanting, put_child, without_child, is_among_children, HasRisingIds}
use Rattle.urp_tree.specs.Walk.{child_in, step_of, stepped, IsTrueOf}
use Rattle.urp_tree.specs.Climb.{AreTrue, AreLone, IsBehindEnter, IsBehindLeave, IsPair, IsMove}
use Rattle.urp_tree.specs.Placed.{at_child, loses_in, place_in, with_entered, HasId, Turns, IsTurned, IsMoved, left_of, came_of}
use Rattle.urp_tree.proofs.Children.{wanting_put, without_fresh}
use Rattle.urp_tree.proofs.Walks.{rises_step, rises_without}
use Rattle.urp_tree.proofs.Ways.{among_without}
use Rattle.urp_tree.proofs.Lost.{same_itself}
use Rattle.urp_tree.proofs.Placed.{touches, untouched, who_enters, who_stays, who_leaves}
use Rattle.repl_data.proofs.Known.{eq_turned}

-- a step about another parent does nothing to a name
not_wanted : (p : Uid) (rdn : Rdn) (c : Child) → uid_eq p c.parent ≡ false → wants p rdn c ≡ false
not_wanted p rdn c h = ap (λ b. (b && not (uid_eq c.id suffix_id)) && same_rdn rdn c.rdn) (eq_turned c.parent p ∙ h)

quiet_enter : (p : Uid) (rdn : Rdn) (ss : List Step) → AllByRecursion (IsBehindEnter p) ss → list_any (touches p rdn) ss ≡ false
quiet_enter p rdn [] h = refl
quiet_enter p rdn (s ∷ ss) h = ap (λ b. b || list_any (touches p rdn) ss) (not_wanted p rdn (child_in s) h.0) ∙ quiet_enter p rdn ss h.1

as_enter : (p : Uid) (ss : List Step) → AllByRecursion (IsBehindLeave p) ss → AllByRecursion (IsBehindEnter p) ss
as_enter p [] h = tt
as_enter p (Enter c ∷ ss) h = elim h.0 [ ]
as_enter p (Leave c ∷ ss) h = (h.0, as_enter p ss h.1)

-- its own name
pub own_name : (c : Child) → stands_below c.parent c ≡ true → wants c.parent c.rdn c ≡ true
own_name c h = ap (λ b. b && same_rdn c.rdn c.rdn) h ∙ same_itself c.rdn

pub turned_name : (cs xs ds : List Child) (s : Step) → wanting (child_in s).parent (child_in s).rdn xs ≡ wanting (child_in s).parent (child_in s).rdn cs → IsTurned xs ds s → IsTurned cs ds s
turned_name cs xs ds (Enter c) h t = record { who = t.who ∙ ap (λ (who : List Contender). with_entered (Some c) (without c.id who)) h; own = refl }
turned_name cs xs ds (Leave c) h t = (record { who = t.0.who ∙ ap (λ (who : List Contender). without c.id who) h; own = tt }, t.1)

-- WHO IS GONE
fewer_among : (u v : Uid) (cs : List Child) → is_among_children u cs ≡ false → is_among_children u (without_child v cs) ≡ false
fewer_among u v [] h = refl
fewer_among u v (c ∷ cs) h = by (not (uid_eq c.id v)) (uid_eq c.id u) refl h (fewer_among u v cs)
  where
    by : (b a : Bool) → uid_eq c.id u ≡ a → (a || is_among_children u cs) ≡ false → (is_among_children u cs ≡ false → is_among_children u (without_child v cs) ≡ false) → is_among_children u (cond b (c ∷ without_child v cs) (without_child v cs)) ≡ false
    by b true e k more = let f : true ≡ false = k in cc
    by true false e k more = ap (λ x. x || is_among_children u (without_child v cs)) e ∙ more k
    by false false e k more = more k

stays_gone : (u p : Uid) (ss : List Step) (cs : List Child) → AllByRecursion (IsBehindLeave p) ss → is_among_children u cs ≡ false → is_among_children u (stepped ss cs) ≡ false
stays_gone u p [] cs h k = k
stays_gone u p (Enter c ∷ ss) cs h k = elim h.0 [ ]
stays_gone u p (Leave c ∷ ss) cs h k = stays_gone u p ss (without_child c.id cs) h.1 (fewer_among u c.id cs k)

not_found : (u : Uid) (cs : List Child) → is_among_children u cs ≡ false → at_child cs u ≡ None
not_found u [] h = refl
not_found u (c ∷ cs) h = by (uid_eq c.id u) h (not_found u cs)
  where
    by : (b : Bool) → (b || is_among_children u cs) ≡ false → (is_among_children u cs ≡ false → at_child cs u ≡ None) → cond b (Some c) (at_child cs u) ≡ None
    by true k more = let f : true ≡ false = k in cc
    by false k more = more k

-- EACH STEP WITH A NAME OF ITS OWN
behind : (cs ds : List Child) (s : Step) (ss : List Step) → HasRisingIds cs → IsTrueOf cs s → AllByRecursion (IsBehindEnter (child_in s).parent) ss → AllByRecursion (IsTurned (step_of s cs) ds) ss → AllByRecursion (IsTurned cs ds) ss
behind cs ds s [] r t h k = tt
behind cs ds s (x ∷ xs) r t h k = (
  turned_name cs (step_of s cs) ds x
      (who_stays (child_in x).parent (child_in x).rdn s cs r t (not_wanted (child_in x).parent (child_in x).rdn (child_in s) (eq_turned (child_in x).parent (child_in s).parent ∙ h.0))) k.0,
  behind cs ds s xs r t h.1 k.1,
)

pub lone_turned : (n : ℕ) (ss : List Step) (cs : List Child) → HasRisingIds cs → AreTrue n cs ss → AreLone ss → AllByRecursion (IsTurned cs (stepped ss cs)) ss
lone_turned n [] cs r t l = tt
lone_turned n (Enter c ∷ ss) cs r t l =
    let p : Uid = c.parent in
    let own : wants p c.rdn c ≡ true = own_name c t.0.1 in
    let up : HasRisingIds (put_child c cs) = rises_step (Enter c) cs r in
    let fresh : without c.id (wanting p c.rdn cs) ≡ wanting p c.rdn cs = who_leaves p c.rdn c cs ∙ ap (wanting p c.rdn) (without_fresh c.id cs t.0.0) in (
      record {
        who = untouched n p c.rdn ss (put_child c cs) up t.2 (quiet_enter p c.rdn ss l.0) ∙ sym (who_enters p c.rdn c cs r t.0 own) ∙ ap (put_one (contender c)) (sym fresh);
        own = refl;
      },
      behind cs (stepped ss (put_child c cs)) (Enter c) ss r t.0 l.0 (lone_turned n ss (put_child c cs) up t.2 l.1),
    )
lone_turned n (Leave c ∷ ss) cs r t l =
    let p : Uid = c.parent in
    let up : HasRisingIds (without_child c.id cs) = rises_step (Leave c) cs r in (
      (
        record {
          who = untouched n p c.rdn ss (without_child c.id cs) up t.2 (quiet_enter p c.rdn ss (as_enter p ss l.0)) ∙ sym (who_leaves p c.rdn c cs);
          own = tt;
        },
        sym (ap (option_map (loses_in (stepped ss (without_child c.id cs)))) (not_found c.id (stepped ss (without_child c.id cs)) (stays_gone c.id p ss (without_child c.id cs) l.0 (among_without c.id cs)))),
      ),
      behind cs (stepped ss (without_child c.id cs)) (Leave c) ss r t.0 (as_enter p ss l.0) (lone_turned n ss (without_child c.id cs) up t.2 l.1),
    )

pub turned_at : (cs ds : List Child) (ss : List Step) (i : ℕ) (s : Step) → AllByRecursion (IsTurned cs ds) ss → i < length ss → s ≡ get_or ss i s → IsTurned cs ds s
turned_at cs ds ss i s h l is = subst (IsTurned cs ds) (sym is) (at ss i s h l)
  where
    at : (ss : List Step) (i : ℕ) (s : Step) → AllByRecursion (IsTurned cs ds) ss → i < length ss → IsTurned cs ds (get_or ss i s)
    at [] i s h l = let k : i < 0 = l in absurd (omega arith)
    at (x ∷ xs) zero s h l = h.0
    at (x ∷ xs) (suc i) s h l = at xs i s h.1 (let k : suc i < suc (length xs) = l in omega arith)

-- ONE CHILD THAT MOVES
first_true : (n : ℕ) (cs : List Child) (s : Step) (ss : List Step) → AreTrue n cs (s ∷ ss) → IsTrueOf cs s
first_true n cs s ss h = h.0

rest_true : (n : ℕ) (cs : List Child) (s : Step) (ss : List Step) → AreTrue n cs (s ∷ ss) → AreTrue n (step_of s cs) ss
rest_true n cs s ss h = h.2

module _ (n : ℕ) (cs : List Child) (a b : Child) (r : HasRisingIds cs) (t : AreTrue n cs (Leave a ∷ Enter b ∷ [])) (same : a.id ≡ b.id) where
  abbrev left : Uid → Rdn → List Contender
  left p rdn = without a.id (wanting p rdn cs)

  comes : IsTrueOf (without_child a.id cs) (Enter b)
  comes = first_true n (without_child a.id cs) (Enter b) [] (rest_true n cs (Leave a) (Enter b ∷ []) t)

  turns : (p : Uid) (rdn : Rdn) → wanting p rdn (put_child b (without_child a.id cs)) ≡ cond (wants p rdn b) (put_one (contender b) (left p rdn)) (left p rdn)
  turns p rdn =
      wanting_put p rdn b (without_child a.id cs) (rises_without a.id cs r) comes.0
      ∙ ap (λ (who : List Contender). cond (wants p rdn b) (put_one (contender b) who) who) (sym (who_leaves p rdn a cs))

  as_with : (x : Bool) → cond x (put_one (contender b) (left a.parent a.rdn)) (left a.parent a.rdn) ≡ with_entered (cond x (Some b) None) (left a.parent a.rdn)
  as_with true = refl
  as_with false = refl

  has : (x : Bool) → HasId a.id (cond x (Some b) None)
  has true = sym same
  has false = tt

  pub move_turned : IsMoved cs (stepped (Leave a ∷ Enter b ∷ []) cs) a b
  move_turned = record {
    left = record { who = turns a.parent a.rdn ∙ as_with (wants a.parent a.rdn b); own = has (wants a.parent a.rdn b) };
    came = record {
      who = turns b.parent b.rdn ∙ ap (λ x. cond x (put_one (contender b) (left b.parent b.rdn)) (left b.parent b.rdn)) (own_name b comes.1)
          ∙ ap (λ v. put_one (contender b) (without v (wanting b.parent b.rdn cs))) same;
      own = refl;
    };
  }

-- WHICH STEPS ARE A MOVE
pub pair_is : (ss : List Step) (a b : Child) → length ss ≡ 2 → left_of (slice_get ss 0) ≡ Some a → came_of (slice_get ss 1) ≡ Some b → IsPair a b ss
pair_is [] a b l p q = let f : 0 ≡ 2 = l in absurd (omega (arith, f))
pair_is (s ∷ []) a b l p q = let f : 1 ≡ 2 = l in absurd (omega (arith, f))
pair_is (Leave c ∷ Enter d ∷ []) a b l p q = let e : c ≡ a = cc in let f : d ≡ b = cc in λ i. Leave (e i) ∷ Enter (f i) ∷ []
pair_is (Leave c ∷ Leave d ∷ []) a b l p q = let f : ◌≡◌ {A = Option Child} None (Some b) = q in cc
pair_is (Enter c ∷ s ∷ []) a b l p q = let f : ◌≡◌ {A = Option Child} None (Some a) = p in cc
pair_is (s ∷ t ∷ x ∷ ss) a b l p q = let f : suc (suc (suc (length ss))) ≡ 2 = l in absurd (omega (arith, f))

pub no_left : (ss : List Step) → left_of (slice_get ss 0) ≡ None → (a b : Child) → IsPair a b ss → ⊥
no_left ss h a b k = nothing (sym h ∙ ap (λ (xs : List Step). left_of (slice_get xs 0)) k)
  where
    nothing : ◌≡◌ {A = Option Child} None (Some a) → ⊥
    nothing e = cc

pub no_came : (ss : List Step) → came_of (slice_get ss 1) ≡ None → (a b : Child) → IsPair a b ss → ⊥
no_came ss h a b k = nothing (sym h ∙ ap (λ (xs : List Step). came_of (slice_get xs 1)) k)
  where
    nothing : ◌≡◌ {A = Option Child} None (Some b) → ⊥
    nothing e = cc

pub lone_form : (ss : List Step) → AreLone ss ⊎ IsMove ss → ((a b : Child) → IsPair a b ss → ⊥) → AreLone ss
lone_form ss (inl h) f = h
lone_form ss (inr m) f = absurd (f m.0 m.1 m.3)

pub move_form : (ss : List Step) (a b : Child) → AreLone ss ⊎ IsMove ss → IsPair a b ss → a.id ≡ b.id
move_form ss a b (inl h) is = elim (subst AreLone is h).0.0 [ ]
move_form ss a b (inr m) is = firsts (sym m.3 ∙ is)
  where
    firsts : Leave m.0 ∷ Enter m.1 ∷ [] ≡ Leave a ∷ Enter b ∷ [] → a.id ≡ b.id
    firsts e = let p : m.0 ≡ a = cc in let q : m.1 ≡ b = cc in ap (λ (c : Child). c.id) (sym p) ∙ m.2 ∙ ap (λ (c : Child). c.id) q

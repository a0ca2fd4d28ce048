-- WHAT A CHANGE DOES TO THE CHILDREN: an entry that is put among the facts moves, goes, comes or rests.
use Rattle.std.proofs.Common.{◌≡◌, suc, ◌≤◌, List, [], ◌∷◌, ◌++◌, length, Bool, true, false, cond, not, refl, sym, ap, subst, ◌∙◌, inl, inr, arith}
use Rattle.std.specs.Prelude.{◌⊎◌, ◌&&◌, ◌||◌}
use Rattle.std.specs.List.{AllByRecursion}
use Rattle.std.specs.Ordering.{is_eq}
use Rattle.std.specs.declared.cmp.Ordering.TheVariants.{Less, Equal, Greater}
use Rattle.repl_data.specs.declared.csn.Uid.{Uid}
use Rattle.repl_data.specs.Order.{uid_cmp, uid_eq, suffix_id, by_order}
use Rattle.repl_data.specs.Facts.{EntryFacts}
use Rattle.repl_data.specs.Presence.{is_live, HasParentBelow}
use Rattle.repl_data.proofs.Orders.{uid_exact, split}
use Rattle.urp_tree.specs.declared.child.Child.{Child}
use Rattle.urp_tree.specs.declared.step.Step.{Step}
use Rattle.urp_tree.specs.declared.step.Step.TheVariants.{Enter, Leave}
use Rattle.urp_tree.specs.Index.{stands_below, is_among_children, put_child, without_child, HasRisingIds, IsOneOf}
use Rattle.urp_tree.specs.Walk.{child_of, stepped}
use Rattle.urp_tree.specs.Known.{put_fact, HasRisingFacts}
use Rattle.urp_tree.specs.Climb.{count_below, IsChain, leaves, enters, AreTrue, AreApart, AreLone, IsMove, IsBehindLeave, IsWay}
use Rattle.urp_tree.proofs.Children.{put_back, without_fresh, put_lowest}
use Rattle.urp_tree.proofs.Walks.{stepped_last, rises_without}
use Rattle.urp_tree.proofs.Stays.{any_below, put_step}
use Rattle.urp_tree.proofs.Shield.{shown_by, shown_by_live, tail_none}
use Rattle.urp_tree.proofs.Stays.{Replaces, children_stay}
use Rattle.urp_tree.proofs.Levels.{held, StandsAt, AllAbove, AllBelow, the_one, id_at, self_put, own_none, lower_none, any_tail, same_shown, any_held, unheld, shown_at, held_shows, goes_up, none_held, is_held, not_held, at_above, greater, all_above_at}
use Rattle.urp_tree.proofs.Ways.{AreRootsLive, any_swapped, without_put, rising_shown, few_shown, few_without, none_among, below_shown, among_without, count_less, count_kept, true_last, apart_last, apart_leaves, below_parent, first_of_chain, rises_after, below_after, few, stands, down, up, chain_under, behind_leave, lone_enters}
use Rattle.repl_data.proofs.Bools.{cases, and_false, and_true}
use Rattle.repl_data.proofs.Known.{above_id, own_id}

-- AN ENTRY THAT SHOWED, with another in its place that is held: the child is swapped
pub put_held : (e d : EntryFacts) (fs : List EntryFacts) → HasRisingFacts fs → AllBelow fs → StandsAt e.id d fs → e.parent ≡ d.parent → (is_live d || any_below e.id (shown_by is_live fs)) ≡ true
    → shown_by (held is_live e.id) (put_fact e fs) ≡ put_child (child_of e) (without_child e.id (shown_by is_live fs))
put_held e d [] r b h p s = elim h [ ]
put_held e d (x ∷ above) r b (inl h) p s =
    let A : List Child = shown_by is_live above in
    let aa : AllAbove e.id above = at_above e.id x above h.0 r.0 in
    let same : shown_by (held is_live e.id) above ≡ A = none_held is_live e.id above aa in
    let at : x.id ≡ e.id = sym (uid_exact e.id x.id h.0) in
    let shows : (is_live x || any_below x.id A) ≡ true =
    (λ i. is_live (h.1 i) || any_below (at i) A) ∙ ap (λ t. is_live d || t) (sym (any_tail is_live e.id x above (own_none e.id x b.0 h.0))) ∙ s in
    ap (shown_by (held is_live e.id)) (put_step e x above Equal h.0)
    ∙ (λ i. cond (is_held is_live e.id e (own_id e.id) i || any_below e.id (same i)) (child_of e ∷ same i) (same i))
    ∙ sym (ap (λ t. put_child (child_of e) (without_child e.id (cond t (child_of x ∷ A) A))) shows
    ∙ ap (λ v. put_child (child_of e) (cond (not (uid_eq v e.id)) (child_of x ∷ without_child e.id A) (without_child e.id A))) at
    ∙ ap (λ t. put_child (child_of e) (cond (not t) (child_of x ∷ without_child e.id A) (without_child e.id A))) (own_id e.id)
    ∙ ap (put_child (child_of e)) (without_fresh e.id A (none_among is_live e.id above aa))
    ∙ put_lowest (child_of e) A (below_shown is_live e.id above aa))
put_held e d (x ∷ above) r b (inr h) p s =
    let A : List Child = shown_by is_live above in
    let W : List Child = without_child e.id A in
    let s' : (is_live d || any_below e.id A) ≡ true = ap (λ t. is_live d || t) (sym (any_tail is_live e.id x above (lower_none e.id x b.0 h.0))) ∙ s in
    let more : shown_by (held is_live e.id) (put_fact e above) ≡ put_child (child_of e) W = put_held e d above r.1 b.1 h.1 p s' in
    let is : d.id ≡ e.id = id_at e.id d above h.1 in
    let member : IsOneOf (child_of d) A = shown_at is_live e.id d above b.1 h.1 s' in
    let swapped : any_below x.id (put_child (child_of e) W) ≡ any_below x.id A =
    ap (λ v. any_below x.id (put_child (child_of e) (without_child v A))) (sym is) ∙ any_swapped x.id (child_of d) (child_of e) A (rising_shown is_live above r.1) member (sym is) p in
    let other : uid_eq x.id e.id ≡ false = ap is_eq (greater e.id x.id h.0) in
    ap (shown_by (held is_live e.id)) (put_step e x above Greater h.0)
    ∙ (λ i. cond (not_held is_live e.id x other i || any_below x.id (more i)) (child_of x ∷ more i) (more i))
    ∙ ap (λ t. cond (is_live x || t) (child_of x ∷ put_child (child_of e) W) (put_child (child_of e) W)) swapped
    ∙ by other (is_live x || any_below x.id A)
  where
    by : uid_eq x.id e.id ≡ false → (t : Bool) → cond t (child_of x ∷ put_child (child_of e) (without_child e.id (shown_by is_live above))) (put_child (child_of e) (without_child e.id (shown_by is_live above)))
        ≡ put_child (child_of e) (without_child e.id (cond t (child_of x ∷ shown_by is_live above) (shown_by is_live above)))
    by o true =
        let W : List Child = without_child e.id (shown_by is_live above) in
        sym (ap (λ t. put_child (child_of e) (cond (not t) (child_of x ∷ W) W)) o
        ∙ ap (λ q. by_order q (child_of e ∷ child_of x ∷ W) (child_of e ∷ W) (child_of x ∷ put_child (child_of e) W)) h.0)
    by o false = refl

-- AN ENTRY THAT DID NOT SHOW, and that is left out
abbrev pub leaves_out : Uid → EntryFacts → Bool
leaves_out u x = is_live x && not (uid_eq x.id u)

out_other : (u : Uid) (x : EntryFacts) → uid_eq x.id u ≡ false → leaves_out u x ≡ is_live x
out_other u x h = ap (λ b. is_live x && not b) h ∙ and_true (is_live x)

out_own : (u : Uid) (x : EntryFacts) → uid_eq x.id u ≡ true → leaves_out u x ≡ false
out_own u x h = ap (λ b. is_live x && not b) h ∙ and_false (is_live x)

out_above : (u : Uid) (es : List EntryFacts) → AllAbove u es → shown_by (leaves_out u) es ≡ shown_by is_live es
out_above u es h = same_shown is_live (leaves_out u) es (by es h)
  where
    by : (es : List EntryFacts) → AllAbove u es → AllByRecursion (λ e. leaves_out u e ≡ is_live e) es
    by [] h = tt
    by (e ∷ es) h = (out_other u e (ap is_eq (above_id u e.id h.0)), by es h.1)

-- none of these is live under this id
abbrev pub IsDeadAt : Uid → List EntryFacts → Type 0
IsDeadAt u es = AllByRecursion (λ (x : EntryFacts). uid_eq x.id u ≡ true → is_live x ≡ false) es

pub put_out : (e : EntryFacts) (fs : List EntryFacts) → HasRisingFacts fs → IsDeadAt e.id fs → any_below e.id (shown_by is_live fs) ≡ false → shown_by (leaves_out e.id) (put_fact e fs) ≡ shown_by is_live fs
put_out e [] r a n = ap (λ t. cond (t || false) (child_of e ∷ []) []) (out_own e.id e (own_id e.id))
put_out e (x ∷ above) r a n =
    split (uid_cmp e.id x.id)
    (λ k. let all : AllAbove e.id (x ∷ above) = (k, all_above_at e.id x.id above k r.0) in
    let same : shown_by (leaves_out e.id) (x ∷ above) ≡ shown_by is_live (x ∷ above) = out_above e.id (x ∷ above) all in
    ap (shown_by (leaves_out e.id)) (put_step e x above Less k)
    ∙ (λ i. cond (out_own e.id e (own_id e.id) i || any_below e.id (same i)) (child_of e ∷ same i) (same i))
    ∙ ap (λ t. cond t (child_of e ∷ shown_by is_live (x ∷ above)) (shown_by is_live (x ∷ above))) n)
    (λ k. let A : List Child = shown_by is_live above in
    let same : shown_by (leaves_out e.id) above ≡ A = out_above e.id above (at_above e.id x above k r.0) in
    let at : x.id ≡ e.id = sym (uid_exact e.id x.id k) in
    let none : any_below e.id A ≡ false = tail_none e.id (is_live x || any_below x.id A) (child_of x) A n in
    ap (shown_by (leaves_out e.id)) (put_step e x above Equal k)
    ∙ (λ i. cond (out_own e.id e (own_id e.id) i || any_below e.id (same i)) (child_of e ∷ same i) (same i))
    ∙ ap (λ t. cond t (child_of e ∷ A) A) none
    ∙ sym ((λ i. cond (a.0 (ap (λ v. uid_eq v e.id) at ∙ own_id e.id) i || any_below (at i) A) (child_of x ∷ A) A) ∙ ap (λ t. cond t (child_of x ∷ A) A) none))
    (λ k. let A : List Child = shown_by is_live above in
    let more : shown_by (leaves_out e.id) (put_fact e above) ≡ A = put_out e above r.1 a.1 (tail_none e.id (is_live x || any_below x.id A) (child_of x) A n) in
    ap (shown_by (leaves_out e.id)) (put_step e x above Greater k)
    ∙ (λ i. cond (out_other e.id x (ap is_eq (greater e.id x.id k)) i || any_below x.id (more i)) (child_of x ∷ more i) (more i)))

-- THE WAY of each
module _ (e : EntryFacts) (fs : List EntryFacts) (rises : HasRisingFacts fs) (below : AllBelow fs) (roots : AreRootsLive fs) (own : HasParentBelow e) where
  abbrev here : List Child
  here = shown_by is_live fs

  abbrev there : List EntryFacts
  there = put_fact e fs

  rising : HasRisingIds here
  rising = rising_shown is_live fs rises

  ups : HasRisingFacts there
  ups = rises_after e fs rises below roots own

  lows : AllBelow there
  lows = below_after e fs rises below roots own

  own_place : StandsAt e.id e there
  own_place = self_put e fs

  few_here : length here ≤ suc (length fs)
  few_here = omega (arith, few_shown is_live fs)

  by_way : (ss : List Step) → stepped ss here ≡ shown_by is_live there → AreTrue (suc (length fs)) here ss → AreApart ss → AreLone ss ⊎ IsMove ss → IsWay (suc (length fs)) fs e ss
  by_way ss l t a f = record {
    leads = ap (stepped ss) (sym (shown_by_live fs)) ∙ l ∙ shown_by_live there;
    trues = subst (λ cs. AreTrue (suc (length fs)) cs ss) (shown_by_live fs) t;
    apart = a;
    form = f;
  }

  -- nothing but the values changes
  pub same_way : (d : EntryFacts) → StandsAt e.id d fs → child_of e ≡ child_of d → IsWay (suc (length fs)) fs e []
  same_way d at same = record { leads = sym (children_stay e fs (replaces fs at)); trues = tt; apart = tt; form = inl tt }
    where
      replaces : (es : List EntryFacts) → StandsAt e.id d es → Replaces e es
      replaces [] h = h
      replaces (x ∷ above) (inl h) = inl (h.0, same ∙ ap child_of (sym h.1))
      replaces (x ∷ above) (inr h) = inr (h.0, replaces above h.1)

  -- every entry of the id is this one
  is_own : (P : EntryFacts → Type 0) → P e → (es : List EntryFacts) → AllByRecursion (λ (x : EntryFacts). uid_eq x.id e.id ≡ true → x ≡ e) es → ((x : EntryFacts) → uid_eq x.id e.id ≡ false → P x) → AllByRecursion P es
  is_own P p [] h f = tt
  is_own P p (x ∷ es) h f = (cases (uid_eq x.id e.id) (λ t. subst P (sym (h.0 t)) p) (λ n. f x n), is_own P p es h.1 f)

  -- a dead entry without present children
  pub rest_way : is_live e ≡ false → IsDeadAt e.id fs → any_below e.id here ≡ false → IsWay (suc (length fs)) fs e []
  rest_way dead gone none =
      by_way [] (sym (put_out e fs rises gone none)
      ∙ sym (same_shown (leaves_out e.id) is_live there (is_own (λ x. is_live x ≡ leaves_out e.id x) (dead ∙ sym (out_own e.id e (own_id e.id))) there (the_one e.id e there ups own_place) (λ x n. sym (out_other e.id x n))))) tt tt (inl tt)

  -- it showed before
  module _ (d : EntryFacts) (at : StandsAt e.id d fs) (parent : e.parent ≡ d.parent) (was : (is_live d || any_below e.id here) ≡ true) (child : uid_eq e.id suffix_id ≡ false) where
    is : d.id ≡ e.id
    is = id_at e.id d fs at

    member : IsOneOf (child_of d) here
    member = shown_at is_live e.id d fs below at was

    old_below : stands_below d.parent (child_of d) ≡ true
    old_below = below_parent d (ap (λ v. uid_eq v suffix_id) is ∙ child)

    swapped : shown_by (held is_live e.id) there ≡ put_child (child_of e) (without_child e.id here)
    swapped = put_held e d fs rises below at parent was

    same_any : any_below e.id (shown_by (held is_live e.id) there) ≡ any_below e.id here
    same_any =
        ap (any_below e.id) swapped ∙ ap (λ v. any_below e.id (put_child (child_of e) (without_child v here))) (sym is)
        ∙ any_swapped e.id (child_of d) (child_of e) here rising member (sym is) parent

    old_gone : without_child (child_of d).id here ≡ without_child e.id here
    old_gone = ap (λ v. without_child v here) is

    -- and shows after
    pub move_way : (is_live e || any_below e.id here) ≡ true → IsWay (suc (length fs)) fs e (Leave (child_of d) ∷ Enter (child_of e) ∷ [])
    move_way now =
        by_way (Leave (child_of d) ∷ Enter (child_of e) ∷ [])
        (ap (put_child (child_of e)) old_gone ∙ sym swapped
        ∙ unheld is_live e.id e there ups lows own_place (ap (λ t. is_live e || t) (sym (any_held is_live e.id e there ups lows own_place) ∙ same_any) ∙ now)) (
          (member, old_below),
          few_here,
          (
            (ap (is_among_children e.id) old_gone ∙ among_without e.id here, below_parent e child),
            omega (arith, few_here, few_without (child_of d).id here),
            tt,
          ),
        )
        (tt, tt)
        (inr (child_of d, child_of e, is, refl))

    -- and does not show after
    pub leave_way : is_live e ≡ false → any_below e.id here ≡ false → uid_cmp e.parent e.id ≡ Less → (chain : List Child) → IsChain 1 fs here e.parent chain → IsWay (suc (length fs)) fs e (Leave (child_of d) ∷ leaves chain)
    leave_way dead none lower chain is_chain =
        let q : Uid = e.parent in
        let g = first_of_chain 1 fs here q chain is_chain in
        let next : shown_by (held is_live q) there ≡ without_child e.id (shown_by (held is_live e.id) there) =
        goes_up is_live e.id q e g.0 there ups lows own_place refl (stands e fs rises below roots own q g.0 lower g.1).1 lower (below_parent e child) dead (same_any ∙ none) in
        let stage : without_child (child_of d).id here ≡ shown_by (held is_live q) there =
        old_gone ∙ sym (without_put (child_of e) (without_child e.id here) (rises_without e.id here rising) (among_without e.id here)) ∙ ap (without_child e.id) (sym swapped) ∙ sym next in
        let more =
        down e fs rises below roots own here q chain lower is_chain
        (count_less q (child_of d) here rising member (subst (λ v. stands_below v (child_of d) ≡ true) (sym parent) old_below) ∙ ap (λ ds. suc (count_below q ds)) stage)
        (λ x k. count_kept x (child_of d) here rising member (ap (λ v. uid_eq v x && not (uid_eq d.id suffix_id)) (sym parent) ∙ ap (λ o. is_eq o && not (uid_eq d.id suffix_id)) (above_id x q k)) ∙ ap (count_below x) stage) in
        by_way (Leave (child_of d) ∷ leaves chain)
        (ap (stepped (leaves chain)) stage ∙ more.1)
        ((member, old_below), few_here, subst (λ ds. AreTrue (suc (length fs)) ds (leaves chain)) (sym stage) more.0)
        (apart_leaves chain)
        (let lone = chain_under e fs rises below roots own 1 here q chain is_chain in
        inl (subst (λ v. AllByRecursion (IsBehindLeave v) (leaves chain)) parent (behind_leave q chain lone.0), lone.1))

  -- it did not show before, and is live
  pub enter_way : is_live e ≡ true → IsDeadAt e.id fs → any_below e.id here ≡ false → uid_cmp e.parent e.id ≡ Less → uid_eq e.id suffix_id ≡ false → (chain : List Child) → IsChain 0 fs here e.parent chain → IsWay (suc (length fs)) fs e (enters chain ++ Enter (child_of e) ∷ [])
  enter_way live gone none lower child chain is_chain =
      let q : Uid = e.parent in
      let L : EntryFacts → Bool = leaves_out e.id in
      let S : List Child = shown_by (held L e.id) there in
      let g = first_of_chain 0 fs here q chain is_chain in
      let was : shown_by L there ≡ here = put_out e fs rises gone none in
      let more = up e fs rises below roots own here q chain lower was is_chain in
      let next : shown_by (held L q) there ≡ without_child e.id S =
      goes_up L e.id q e g.0 there ups lows own_place refl (stands e fs rises below roots own q g.0 lower g.1).1 lower (below_parent e child) (out_own e.id e (own_id e.id))
      (any_held L e.id e there ups lows own_place ∙ ap (any_below e.id) was ∙ none) in
      let all : shown_by is_live there ≡ S =
      same_shown (held L e.id) is_live there
      (is_own (λ x. is_live x ≡ held L e.id x) (live ∙ sym (is_held L e.id e (own_id e.id))) there (the_one e.id e there ups own_place) (λ x n. sym (not_held L e.id x n ∙ out_other e.id x n))) in
      let stage : stepped (enters chain) here ≡ without_child e.id S = more.1 ∙ next in
      by_way (enters chain ++ Enter (child_of e) ∷ [])
      (stepped_last (enters chain) (Enter (child_of e)) here ∙ ap (put_child (child_of e)) stage
      ∙ put_back (child_of e) S (rising_shown (held L e.id) there ups) (held_shows L e.id e there lows own_place) ∙ sym all)
      (true_last (suc (length fs)) (enters chain) (Enter (child_of e)) here more.0
      (ap (is_among_children e.id) stage ∙ among_without e.id S, below_parent e child)
      (subst (λ ds. length ds ≤ suc (length fs)) (sym more.1) (few e fs rises below roots own (held L q))))
      (apart_last (enters chain) (child_of e) more.2 more.3)
      (inl (lone_enters chain (child_of e) (apart_last (enters chain) (child_of e) more.2 more.3)))

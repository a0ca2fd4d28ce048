-- What is known of the entries of a closed set: it stands in rising order of id, each parent below its child.
use Rattle.std.proofs.Common.{◌≡◌, ℕ, List, [], ◌∷◌, ◌++◌, refl, sym, ap, subst, ◌∙◌, inl, inr, ◌<◌, arith}
use Rattle.std.specs.Prelude.{Bool, true, false, cond, ◌||◌, ◌⊎◌, map, filter, flat_map, if◌then◌else◌}
use Rattle.std.specs.List.{AllByRecursion, list_any, list_all}
use Rattle.std.specs.declared.cmp.Ordering.{Ordering}
use Rattle.std.specs.declared.cmp.Ordering.TheVariants.{Less, Equal, Greater}
use Rattle.std.specs.Ordering.{ordering_reverse, nat_cmp, ordering_then}
use Rattle.repl_data.specs.declared.csn.Csn.{Csn}
use Rattle.repl_data.specs.declared.csn.Uid.{Uid}
use Rattle.repl_data.specs.declared.change.Body.{Body}
use Rattle.repl_data.specs.declared.change.Body.TheVariants.{Add, Mod as Modify, Ren, Del}
use Rattle.repl_data.specs.declared.change.Change.{Change}
use Rattle.repl_data.specs.declared.change.Suffix.{Suffix}
use Rattle.repl_data.specs.Order.{csn_cmp, csn_lt, csn_eq, uid_cmp, uid_eq, suffix_id, zero_csn, latest_or}
use Rattle.repl_data.specs.Check.{is_out_of_order, is_of_root}
use Rattle.repl_data.specs.Stamps.{of_entry}
use Rattle.repl_data.specs.Facts.{EntryFacts, entry_facts, deaths, parents_given, added_ids, ids_known, all_facts}
use Rattle.repl_data.specs.Closed.{is_sound, IsClosed}
use Rattle.std.specs.Cmp.{ranks}
use Rattle.std.proofs.lemmas.Cmp.{by_ranked}
use Rattle.repl_data.proofs.Orders.{split, csn_total, csn_exact, uid_total, uid_exact}
use Rattle.repl_data.proofs.InOrder.{Rises, in_order_by-Rises, is_equal}
use Rattle.repl_data.proofs.PresenceLaws.{present_of-rule, present_of-unique}
use Rattle.repl_data.specs.Presence.{is_live, is_child, present_of, HasParentBelow, ObeysRule, is_present_in}
use Rattle.repl_data.proofs.Loops.{all_append}
use Rattle.repl_data.proofs.Sound.{not_both, both_true, neither, not_false, sound_order, sound_root}
use Rattle.repl_data.proofs.KeyPlaces.{is_less}

abbrev id_of : EntryFacts → Uid
id_of e = e.id

-- in rising order of id
rises_all : (suffix : Suffix) (xs : List Change) (u : Uid) (vs : List Uid) → AllByRecursion (λ v. uid_cmp u v ≡ Less) vs → AllByRecursion (λ e. uid_cmp u e.id ≡ Less) (map (entry_facts suffix xs) vs)
rises_all suffix xs u [] h = tt
rises_all suffix xs u (v ∷ vs) h = (h.0, rises_all suffix xs u vs h.1)

rises_map : (suffix : Suffix) (xs : List Change) (vs : List Uid) → Rises uid_cmp uid_total (λ (u : Uid). u) vs → Rises uid_cmp uid_total id_of (map (entry_facts suffix xs) vs)
rises_map suffix xs [] h = tt
rises_map suffix xs (v ∷ vs) h = (rises_all suffix xs v vs h.0, rises_map suffix xs vs h.1)

pub all_facts-Rises : (suffix : Suffix) (xs : List Change) → Rises uid_cmp uid_total id_of (all_facts suffix xs)
all_facts-Rises suffix xs = rises_map suffix xs (ids_known xs) (in_order_by-Rises uid_cmp uid_total (λ (u : Uid). u) (suffix_id ∷ added_ids xs))

-- zero is below all others
pub no_number_below : (n : ℕ) → nat_cmp n 0 ≡ Less → ⊥
no_number_below n h = by_ranked (n < 0) (n ≡ 0) (0 < n) (nat_cmp n 0) (ranks n 0) (λ e l. omega arith) (λ e l. let d : Less ≡ Equal = sym h ∙ e in cc) (λ e l. let d : Less ≡ Greater = sym h ∙ e in cc)

then_less : (a b : Ordering) → ordering_then a b ≡ Less → (a ≡ Less) ⊎ (b ≡ Less)
then_less Less b h = inl refl
then_less Equal b h = inr h
then_less Greater b h = let d : Greater ≡ Less = h in cc

then_not : (n : ℕ) (b : Ordering) → (b ≡ Less → ⊥) → ordering_then (nat_cmp n 0) b ≡ Less → ⊥
then_not n b g h = elim (then_less _ _ h) [ inl e ↦ no_number_below n e | inr e ↦ g e ]

pub no_csn_below : (c : Csn) → csn_cmp c zero_csn ≡ Less → ⊥
no_csn_below c h = then_not c.time _ (then_not c.seq _ (then_not c.rid _ (no_number_below c.sub))) h

pub zero_least : (c : Csn) → (csn_cmp zero_csn c ≡ Less) ⊎ (zero_csn ≡ c)
zero_least c =
    split (csn_cmp zero_csn c) (λ e. inl e) (λ e. inr (csn_exact zero_csn c e))
    (λ e. absurd (no_csn_below c (csn_total.antisymm c zero_csn ∙ ap ordering_reverse e)))

-- what is chosen of a list is what is chosen or what else there is
latest_or-All : {X : Type 0} (P : X → Type 0) (none : Csn × X) (xs : List (Csn × X)) → P none.1 → AllByRecursion (λ x. P x.1) xs → P (latest_or none xs).1
latest_or-All P none [] h g = h
latest_or-All P none (x ∷ xs) h g = by (csn_lt x.0 (latest_or none xs).0) (latest_or-All P none xs h g.1)
  where
    by : (b : Bool) → P (latest_or none xs).1 → P (if b then latest_or none xs else x).1
    by true k = k
    by false k = g.0

-- a sound Add names a parent below it
parents_below : (c : Csn) (u : Uid) (b : Body) → is_out_of_order c u b ≡ false → AllByRecursion (λ (p : Csn × Uid). uid_cmp p.1 u ≡ Less) (parents_given c b)
parents_below c u (Add parent rdn attrs) h =
    let own : u.csn ≡ c = csn_exact u.csn c (is_equal _ (not_false _ (neither _ _ h).0)) in
    (subst (λ w. csn_cmp parent.csn w ≡ Less) (sym own) (is_less _ (not_false _ (neither _ _ h).1)), tt)
parents_below c u (Modify mods) h = tt
parents_below c u (Ren rdn dropped) h = tt
parents_below c u Del h = tt

-- each change of the entry u names a parent below u, if any
own_parents_below : (u : Uid) (xs : List Change) → list_all is_sound xs ≡ true → AllByRecursion (λ (p : Csn × Uid). uid_cmp p.1 u ≡ Less) (flat_map (λ (c : Change). parents_given c.csn c.body) (of_entry xs u))
own_parents_below u [] h = tt
own_parents_below u (c ∷ xs) h =
    let h' = both_true _ _ h in
    by (own_parents_below u xs h'.1) (uid_eq c.target u) (λ e. subst (λ w. AllByRecursion (λ (p : Csn × Uid). uid_cmp p.1 w ≡ Less) (parents_given c.csn c.body)) (uid_exact c.target u (is_equal _ e)) (parents_below c.csn c.target c.body (sound_order c h'.0))) refl
  where
    by : AllByRecursion (λ (p : Csn × Uid). uid_cmp p.1 u ≡ Less) (flat_map (λ (d : Change). parents_given d.csn d.body) (of_entry xs u))
        → (b : Bool) → (uid_eq c.target u ≡ true → AllByRecursion (λ (p : Csn × Uid). uid_cmp p.1 u ≡ Less) (parents_given c.csn c.body)) → uid_eq c.target u ≡ b
        → AllByRecursion (λ (p : Csn × Uid). uid_cmp p.1 u ≡ Less) (flat_map (λ (d : Change). parents_given d.csn d.body) (cond b (c ∷ of_entry xs u) (of_entry xs u)))
    by rest true own e = all_append _ (parents_given c.csn c.body) _ (own e) rest
    by rest false own e = rest

-- each entry but the suffix entry has its parent below it
pub entry_facts-below : (suffix : Suffix) (xs : List Change) (u : Uid) → list_all is_sound xs ≡ true → HasParentBelow (entry_facts suffix xs u)
entry_facts-below suffix xs u h =
    elim (zero_least u.csn) [
      | inl l ↦ inr (latest_or-All (λ p. uid_cmp p u ≡ Less) (zero_csn, suffix_id) _ l (own_parents_below u xs h))
      | inr e ↦ inl (subst (λ w. csn_eq w zero_csn ≡ true) e refl)
    ]

pub all_facts-below : (suffix : Suffix) (xs : List Change) → list_all is_sound xs ≡ true → AllByRecursion HasParentBelow (all_facts suffix xs)
all_facts-below suffix xs h = along (ids_known xs)
  where
    along : (us : List Uid) → AllByRecursion HasParentBelow (map (entry_facts suffix xs) us)
    along [] = tt
    along (u ∷ us) = (entry_facts-below suffix xs u h, along us)

-- in a closed set an entry is present exactly if it is live or has a present child
pub closed_presence : (suffix : Suffix) (xs : List Change) → IsClosed xs → AllByRecursion (λ e. is_present_in (all_facts suffix xs) e ≡ (is_live e || list_any (is_child e.id) (present_of (all_facts suffix xs)))) (all_facts suffix xs)
closed_presence suffix xs h = present_of-rule (all_facts suffix xs) (all_facts-Rises suffix xs) (all_facts-below suffix xs h.sound)

-- and no other choice obeys the rule
pub closed_presence-unique : (suffix : Suffix) (xs : List Change) (p : EntryFacts → Bool) → IsClosed xs
    → AllByRecursion (ObeysRule p (all_facts suffix xs)) (all_facts suffix xs) → filter p (all_facts suffix xs) ≡ present_of (all_facts suffix xs)
closed_presence-unique suffix xs p h = present_of-unique p (all_facts suffix xs) (all_facts-Rises suffix xs) (all_facts-below suffix xs h.sound)

-- the suffix entry has no death
pub no_deaths : (xs : List Change) → list_all is_sound xs ≡ true → flat_map (λ (c : Change). deaths c.csn c.body) (of_entry xs suffix_id) ≡ []
no_deaths [] h = refl
no_deaths (c ∷ xs) h =
    let h' = both_true _ _ h in
    by (uid_eq c.target suffix_id) refl (no_deaths xs h'.1) (of_body c.body (sound_root c h'.0))
  where
    of_body : (b : Body) → is_of_root c.target b ≡ false → uid_eq c.target suffix_id ≡ true → deaths c.csn b ≡ []
    of_body (Add parent rdn attrs) r own = refl
    of_body (Modify mods) r own = refl
    of_body (Ren rdn dropped) r own = refl
    of_body Del r own = absurd (not_both _ own r)

    by : (b : Bool) → uid_eq c.target suffix_id ≡ b → flat_map (λ (d : Change). deaths d.csn d.body) (of_entry xs suffix_id) ≡ []
        → (uid_eq c.target suffix_id ≡ true → deaths c.csn c.body ≡ [])
        → flat_map (λ (d : Change). deaths d.csn d.body) (cond b (c ∷ of_entry xs suffix_id) (of_entry xs suffix_id)) ≡ []
    by true own rest none = (λ i. none own i ++ rest i)
    by false own rest none = rest

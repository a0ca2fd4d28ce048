-- CHANGES ONE AFTER THE OTHER, in an order of arrival: what is known then is what their set says.
use Rattle.std.proofs.Common.{◌≡◌, List, [], ◌∷◌, ◌++◌, map, Bool, true, false, cond, not, refl, sym, ap, subst, ◌∙◌, append_assoc, append-nil}
use Rattle.std.specs.Prelude.{◌&&◌, ◌||◌, fold}
use Rattle.std.specs.List.{list_any}
use Rattle.repl_data.specs.declared.csn.Csn.{Csn}
use Rattle.repl_data.specs.declared.csn.Uid.{Uid}
use Rattle.repl_data.specs.declared.change.Body.{Body}
use Rattle.repl_data.specs.declared.change.Body.TheVariants.{Add, Mod as Modify, Ren, Del}
use Rattle.repl_data.specs.declared.change.Change.{Change}
use Rattle.repl_data.specs.declared.change.Suffix.{Suffix}
use Rattle.repl_data.specs.Order.{csn_eq, uid_eq}
use Rattle.repl_data.specs.Stamps.{of_entry}
use Rattle.repl_data.specs.Check.{is_out_of_order}
use Rattle.repl_data.specs.Facts.{added_ids, ids_added, entry_facts, all_facts}
use Rattle.repl_data.specs.Presence.{is_among_entries}
use Rattle.repl_data.specs.Closed.{all_differ, needed, IsArrival}
use Rattle.repl_data.proofs.Sound.{both_true, not_true, neither, sound_order}
use Rattle.repl_data.proofs.Arrival.{first_of_entry, begins_sound, begins_rooted}
use Rattle.stamp_entry.specs.Raised.{is_add}
use Rattle.urp_tree.specs.Known.{facts_with, facts_by}
use Rattle.urp_tree.proofs.Arrives.{facts_next, rooted_last, sound_all}
use Rattle.urp_tree.proofs.Fits.{not_root_add}
use Rattle.repl_data.proofs.Known.{eq_turned, known_ids}
use Rattle.urp_tree.proofs.Ready.{own_csn}

-- THE FIRST of some changes
any_first : (p : Csn → Bool) (xs ys : List Change) → list_any p (map (λ (d : Change). d.csn) (xs ++ ys)) ≡ false → list_any p (map (λ (d : Change). d.csn) xs) ≡ false
any_first p [] ys h = refl
any_first p (x ∷ xs) ys h =
    let both = neither (p x.csn) (list_any p (map (λ (d : Change). d.csn) (xs ++ ys))) h in
    ap (λ b. b || list_any p (map (λ (d : Change). d.csn) xs)) both.0 ∙ any_first p xs ys both.1

once_first : (xs ys : List Change) → all_differ (map (λ (d : Change). d.csn) (xs ++ ys)) ≡ true → all_differ (map (λ (d : Change). d.csn) xs) ≡ true
once_first [] ys h = refl
once_first (x ∷ xs) ys h =
    let both = both_true _ _ h in
    ap (λ b. not b && all_differ (map (λ (d : Change). d.csn) xs)) (any_first (csn_eq x.csn) xs ys (not_true _ both.0)) ∙ once_first xs ys both.1

pub arrival_first : (xs ys : List Change) → IsArrival (xs ++ ys) → IsArrival xs
arrival_first xs ys a = record { once = once_first xs ys a.once; sound = begins_sound xs ys a.sound; rooted = begins_rooted [] xs ys a.rooted }

facts_from : (suffix : Suffix) (before cs : List Change) → IsArrival (before ++ cs) → fold (λ es c. facts_with suffix c es) (all_facts suffix before) cs ≡ all_facts suffix (before ++ cs)
facts_from suffix before [] a = ap (all_facts suffix) (sym (append-nil before))
facts_from suffix before (c ∷ cs) a =
    let as_one : (before ++ c ∷ []) ++ cs ≡ before ++ c ∷ cs = append_assoc before (c ∷ []) cs in
    let a' : IsArrival ((before ++ c ∷ []) ++ cs) = subst IsArrival (sym as_one) a in
    ap (λ es. fold (λ es c. facts_with suffix c es) es cs) (facts_next suffix before c (arrival_first (before ++ c ∷ []) cs a'))
    ∙ facts_from suffix (before ++ c ∷ []) cs a'
    ∙ ap (all_facts suffix) as_one

pub facts_arrived : (suffix : Suffix) (cs : List Change) → IsArrival cs → facts_by suffix cs ≡ all_facts suffix cs
facts_arrived suffix cs a = facts_from suffix [] cs a

-- WHAT A PLAN NEEDS is there
any_ids : (suffix : Suffix) (xs : List Change) (u : Uid) (vs : List Uid) → is_among_entries (map (entry_facts suffix xs) vs) u ≡ list_any (λ (v : Uid). uid_eq v u) vs
any_ids suffix xs u [] = refl
any_ids suffix xs u (v ∷ vs) = ap (λ b. uid_eq v u || b) (any_ids suffix xs u vs)

any_turned : (u : Uid) (vs : List Uid) → list_any (λ (v : Uid). uid_eq v u) vs ≡ list_any (uid_eq u) vs
any_turned u [] = refl
any_turned u (v ∷ vs) = λ i. eq_turned v u i || any_turned u vs i

pub needed_there : (suffix : Suffix) (xs : List Change) (c : Change) → IsArrival (xs ++ c ∷ []) → is_among_entries (all_facts suffix xs) (needed c.target c.body) ≡ true
needed_there suffix xs c a = known_ids suffix xs (needed c.target c.body) ∙ rooted_last [] xs c a.rooted

not_added : (u : Uid) (xs : List Change) → of_entry xs u ≡ [] → list_any (uid_eq u) (added_ids xs) ≡ false
not_added u [] h = refl
not_added u (x ∷ xs) h = by (uid_eq x.target u) refl h (not_added u xs)
  where
    other : (b : Body) → uid_eq x.target u ≡ false → list_any (uid_eq u) (added_ids xs) ≡ false → list_any (uid_eq u) (ids_added x.target b ++ added_ids xs) ≡ false
    other (Add parent rdn attrs) n more = ap (λ b. b || list_any (uid_eq u) (added_ids xs)) (eq_turned u x.target ∙ n) ∙ more
    other (Modify mods) n more = more
    other (Ren rdn dropped) n more = more
    other Del n more = more

    by : (b : Bool) → uid_eq x.target u ≡ b → cond b (x ∷ of_entry xs u) (of_entry xs u) ≡ [] → (of_entry xs u ≡ [] → list_any (uid_eq u) (added_ids xs) ≡ false) → list_any (uid_eq u) (added_ids (x ∷ xs)) ≡ false
    by true e k more = let f : x ∷ of_entry xs u ≡ [] = k in cc
    by false e k more = other x.body e (more k)

pub added_new : (suffix : Suffix) (xs : List Change) (c : Change) → IsArrival (xs ++ c ∷ []) → is_add c.body ≡ true → is_among_entries (all_facts suffix xs) c.target ≡ false
added_new suffix xs c a add =
    let order : is_out_of_order c.csn c.target c.body ≡ false = sound_order c (sound_all xs c a.sound).1 in
    known_ids suffix xs c.target
    ∙ ap (λ b. b || list_any (uid_eq c.target) (added_ids xs)) (not_root_add c.csn c.target c.body order add)
    ∙ not_added c.target xs (first_of_entry xs c a (own_csn c.csn c.target c.body order add))

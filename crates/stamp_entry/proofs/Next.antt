-- One change more of an entry, an Add included, in whatever order they come.
use Rattle.std.proofs.Common.{◌≡◌, List, [], ◌∷◌, ◌++◌, refl, sym, ap, ◌∙◌, append_assoc, inl, inr, ◌⊎◌, append-nil}
use Rattle.std.specs.Prelude.{true, false, flat_map, if◌then◌else◌}
use Rattle.std.specs.List.{AllByRecursion, list_all}
use Rattle.std.specs.declared.cmp.Ordering.TheVariants.{Less, Greater}
use Rattle.std.specs.Ordering.{is_lt, is_eq, ordering_reverse}
use Rattle.std.proofs.lemmas.Cmp.{tied_itself}
use Rattle.repl_data.specs.declared.csn.Csn.{Csn}
use Rattle.repl_data.specs.declared.csn.Uid.{Uid}
use Rattle.repl_data.specs.declared.change.Rdn.{Rdn}
use Rattle.repl_data.specs.declared.change.Body.{Body}
use Rattle.repl_data.specs.declared.change.Body.TheVariants.{Add, Mod as Modify, Ren, Del}
use Rattle.repl_data.specs.declared.change.Change.{Change}
use Rattle.repl_data.specs.declared.change.Suffix.{Suffix}
use Rattle.repl_data.specs.Order.{csn_cmp, uid_eq, suffix_id, zero_csn, later, greatest, latest_or}
use Rattle.repl_data.specs.Stamps.{Act, body_acts, suffix_acts, acts_on}
use Rattle.repl_data.specs.Check.{is_out_of_order}
use Rattle.repl_data.specs.Closed.{is_sound, IsIn}
use Rattle.repl_data.specs.Facts.{EntryFacts, attrs_facts, names_given, parents_given, deaths, own_facts}
use Rattle.repl_data.proofs.Orders.{csn_total, csn_exact, uid_exact}
use Rattle.repl_data.proofs.InOrder.{is_equal}
use Rattle.repl_data.proofs.Steps.{flat_map-append}
use Rattle.repl_data.proofs.SameView.{stamp_of, from_all, body_acts_from}
use Rattle.repl_data.proofs.Sound.{sound_rid, sound_order, not_both, neither, not_false, both_true}
use Rattle.repl_data.proofs.Raised.{latest_or-append}
use Rattle.repl_data.proofs.OneChange.{attrs_facts-raised, above_zero, acts_above, named_one, dead_one}
use Rattle.stamp_entry.specs.Raised.{named_after, parent_after, dead_after, facts_after, raised_by, is_add}
use Rattle.stamp_entry.specs.History.{IsHistory}
use Rattle.stamp_entry.proofs.Same.{same_raised_by}

-- the parent: all Adds of one entry are one
later_same : (x : Csn × Uid) → later x x ≡ x
later_same x = ap (λ o. if is_lt o then x else x) (tied_itself csn_total x.0)

later_none : (none x : Csn × Uid) → csn_cmp none.0 x.0 ≡ Less → later x none ≡ x
later_none none x h = let g : csn_cmp x.0 none.0 ≡ Greater = csn_total.antisymm x.0 none.0 ∙ ap ordering_reverse h in ap (λ o. if is_lt o then none else x) g

latest_known : (none x : Csn × Uid) (xs : List (Csn × Uid)) → csn_cmp none.0 x.0 ≡ Less → AllByRecursion (λ p. p ≡ x) xs → (latest_or none xs ≡ none) ⊎ (latest_or none xs ≡ x)
latest_known none x [] h a = inl refl
latest_known none x (p ∷ ps) h a =
    inr (elim (latest_known none x ps h a.1) [
      | inl e ↦ (λ i. later (a.0 i) (e i)) ∙ later_none none x h
      | inr e ↦ (λ i. later (a.0 i) (e i)) ∙ later_same x
    ])

abbrev IsGiven : Csn → Body → Csn × Uid → Type 0
IsGiven c b p = (y : Uid) → parents_given c b ≡ (c, y) ∷ [] → p ≡ (c, y)

given : (c : Csn) (parent : Uid) (xs : List (Csn × Uid)) → AllByRecursion (λ (p : Csn × Uid). (y : Uid) → ◌≡◌ {A = List (Csn × Uid)} ((c, parent) ∷ []) ((c, y) ∷ []) → p ≡ (c, y)) xs → AllByRecursion (λ (p : Csn × Uid). p ≡ (c, parent)) xs
given c parent [] a = tt
given c parent (p ∷ ps) a = (a.0 parent refl, given c parent ps a.1)

parent_one : (none : Csn × Uid) (xs : List (Csn × Uid)) (c : Csn) (b : Body) → csn_cmp none.0 c ≡ Less → AllByRecursion (IsGiven c b) xs → (latest_or none (xs ++ (parents_given c b ++ []))).1 ≡ parent_after b (latest_or none xs).1
parent_one none xs c (Add parent rdn attrs) h a =
    ap (λ (p : Csn × Uid). p.1) (latest_or-append none xs (c, parent) h
    ∙ elim (latest_known none (c, parent) xs h (given c parent xs a)) [
      | inl e ↦ ap (λ w. later w (c, parent)) e ∙ ap (λ o. if is_lt o then (c, parent) else none) h
      | inr e ↦ ap (λ w. later w (c, parent)) e ∙ later_same (c, parent)
    ])
parent_one none xs c (Modify mods) h a = ap (λ ys. (latest_or none ys).1) (append-nil xs)
parent_one none xs c (Ren rdn dropped) h a = ap (λ ys. (latest_or none ys).1) (append-nil xs)
parent_one none xs c Del h a = ap (λ ys. (latest_or none ys).1) (append-nil xs)

-- a sound Add is the change of its entry's id
id_of : (c : Csn) (u : Uid) (b : Body) (y : Uid) → is_out_of_order c u b ≡ false → parents_given c b ≡ (c, y) ∷ [] → u.csn ≡ c
id_of c u (Add parent rdn attrs) y h e = csn_exact u.csn c (is_equal _ (not_false _ (neither _ _ h).0))
id_of c u (Modify mods) y h e = let f : ◌≡◌ {A = List (Csn × Uid)} [] ((c, y) ∷ []) = e in cc
id_of c u (Ren rdn dropped) y h e = let f : ◌≡◌ {A = List (Csn × Uid)} [] ((c, y) ∷ []) = e in cc
id_of c u Del y h e = let f : ◌≡◌ {A = List (Csn × Uid)} [] ((c, y) ∷ []) = e in cc

pub add_id : (c : Change) (y : Uid) → is_sound c ≡ true → parents_given c.csn c.body ≡ (c.csn, y) ∷ [] → c.target.csn ≡ c.csn
add_id c y h e = id_of c.csn c.target c.body y (sound_order c h) e

abbrev first : Csn × Uid → List (Csn × Uid) → Csn × Uid
first p [] = p
first p (q ∷ qs) = q

each : (c : Change) (d : Csn) (b : Body) (rest : List (Csn × Uid)) → ((y : Uid) → parents_given d b ≡ (d, y) ∷ [] → IsGiven c.csn c.body (d, y)) → AllByRecursion (IsGiven c.csn c.body) rest → AllByRecursion (IsGiven c.csn c.body) (parents_given d b ++ rest)
each c d (Add parent rdn attrs) rest f r = (f parent refl, r)
each c d (Modify mods) rest f r = r
each c d (Ren rdn dropped) rest f r = r
each c d Del rest f r = r

module _ (u : Uid) (c : Change) (h : is_sound c ≡ true) (t : c.target ≡ u) where
  one_add : (d : Change) → is_sound d ≡ true → uid_eq d.target u ≡ true → (d.csn ≡ c.csn → d ≡ c) → (y : Uid) → parents_given d.csn d.body ≡ (d.csn, y) ∷ [] → IsGiven c.csn c.body (d.csn, y)
  one_add d s g one y e = λ z f.
      let id : d.csn ≡ c.csn = sym (add_id d y s e) ∙ ap (λ w. w.csn) (uid_exact d.target u (is_equal _ g) ∙ sym t) ∙ add_id c z h f in
      let same : d ≡ c = one id in
      ap (first (d.csn, y)) (sym e ∙ ap (λ w. parents_given w.csn w.body) same ∙ f)

  all_given : (own : List Change) → list_all is_sound own ≡ true → list_all (λ (d : Change). uid_eq d.target u) own ≡ true → ((d : Change) → IsIn d own → d.csn ≡ c.csn → d ≡ c)
      → AllByRecursion (IsGiven c.csn c.body) (flat_map (λ (d : Change). parents_given d.csn d.body) own)
  all_given [] s g one = tt
  all_given (d ∷ ds) s g one =
      let s' = both_true _ _ s in
      let g' = both_true _ _ g in
      each c d.csn d.body (flat_map (λ (d : Change). parents_given d.csn d.body) ds) (one_add d s'.0 g'.0 (one d (inl refl))) (all_given ds s'.1 g'.1 (λ e i. one e (inr i)))

-- ONE CHANGE MORE
pub own_facts-next : (suffix : Suffix) (u : Uid) (own : List Change) (c : Change) → is_sound c ≡ true → c.target ≡ u → IsHistory u own c → facts_after c (own_facts suffix u own) ≡ own_facts suffix u (own ++ c ∷ [])
own_facts-next suffix u own c h t past =
    let above : csn_cmp zero_csn c.csn ≡ Less = above_zero c.csn c.csn (sound_rid c h) refl in
    let name = ap (latest_or (zero_csn, suffix.rdn)) (flat_map-append (λ (d : Change). names_given d.csn d.body) own (c ∷ [])) ∙ named_one (zero_csn, suffix.rdn) (flat_map (λ (d : Change). names_given d.csn d.body) own) c.csn c.body above in
    let parent = ap (λ ps. (latest_or (zero_csn, suffix_id) ps).1) (flat_map-append (λ (d : Change). parents_given d.csn d.body) own (c ∷ []))
    ∙ parent_one (zero_csn, suffix_id) (flat_map (λ (d : Change). parents_given d.csn d.body) own) c.csn c.body above (all_given u c h t own past.sound past.target past.one) in
    let dead = ap greatest (flat_map-append (λ (d : Change). deaths d.csn d.body) own (c ∷ [])) ∙ dead_one (flat_map (λ (d : Change). deaths d.csn d.body) own) c.csn c.body in
    let start : List Act = (if uid_eq u suffix_id then suffix_acts suffix else []) in
    let acts : acts_on suffix u (own ++ c ∷ []) ≡ acts_on suffix u own ++ body_acts c.csn c.body =
    ap (λ as_. start ++ as_) (flat_map-append (λ (d : Change). body_acts d.csn d.body) own (c ∷ []) ∙ ap (λ bs. flat_map (λ (d : Change). body_acts d.csn d.body) own ++ bs) (append-nil (body_acts c.csn c.body)))
    ∙ sym (append_assoc start (flat_map (λ (d : Change). body_acts d.csn d.body) own) (body_acts c.csn c.body)) in
    let attrs = ap attrs_facts acts ∙ attrs_facts-raised (acts_on suffix u own) (body_acts c.csn c.body) (acts_above c.csn (body_acts c.csn c.body) (sound_rid c h) (from_all stamp_of c.csn (body_acts c.csn c.body) (body_acts_from c.csn c.body)))
    ∙ same_raised_by (body_acts c.csn c.body) (attrs_facts (acts_on suffix u own)) in
    let all : own_facts suffix u (own ++ c ∷ []) ≡ facts_after c (own_facts suffix u own) = (λ i. record { id = u; parent = parent i; named = (name i).0; dead = dead i; rdn = (name i).1; attrs = attrs i }) in
    sym all

-- THE FIRST CHANGE, an Add
abbrev pub blank : Uid → Rdn → EntryFacts
blank u r = record { id = u; parent = suffix_id; named = zero_csn; dead = zero_csn; rdn = r; attrs = [] }

add_name : (k : Csn) (b : Body) (r : Rdn) → is_add b ≡ true → csn_cmp zero_csn k ≡ Less → (s : Rdn) → named_after k b (zero_csn, r) ≡ named_after k b (zero_csn, s)
add_name k (Add parent rdn attrs) r h z s = ap (λ o. if is_lt o then (k, rdn) else (zero_csn, r)) z ∙ sym (ap (λ o. if is_lt o then (k, rdn) else (zero_csn, s)) z)
add_name k (Modify mods) r h z s = absurd (not_both false h refl)
add_name k (Ren rdn dropped) r h z s = absurd (not_both false h refl)
add_name k Del r h z s = absurd (not_both false h refl)

some_parent : (k : Csn) (b : Body) → is_add b ≡ true → (y : Uid) × (parents_given k b ≡ (k, y) ∷ [])
some_parent k (Add parent rdn attrs) h = (parent, refl)
some_parent k (Modify mods) h = absurd (not_both false h refl)
some_parent k (Ren rdn dropped) h = absurd (not_both false h refl)
some_parent k Del h = absurd (not_both false h refl)

no_suffix : (u : Uid) → csn_cmp zero_csn u.csn ≡ Less → uid_eq u suffix_id ≡ false
no_suffix u h = let g : csn_cmp u.csn zero_csn ≡ Greater = csn_total.antisymm u.csn zero_csn ∙ ap ordering_reverse h in ap is_eq g

pub added_facts : (suffix : Suffix) (c : Change) (r : Rdn) → is_sound c ≡ true → is_add c.body ≡ true → facts_after c (blank c.target r) ≡ own_facts suffix c.target (c ∷ [])
added_facts suffix c r h g =
    let above : csn_cmp zero_csn c.csn ≡ Less = above_zero c.csn c.csn (sound_rid c h) refl in
    let given = some_parent c.csn c.body g in
    let id : c.target.csn ≡ c.csn = add_id c given.0 h given.1 in
    let other : uid_eq c.target suffix_id ≡ false = no_suffix c.target (ap (csn_cmp zero_csn) id ∙ above) in
    let name = add_name c.csn c.body r g above suffix.rdn in
    let start : facts_after c (blank c.target r) ≡ facts_after c (own_facts suffix c.target []) =
    (λ i. record { id = c.target; parent = parent_after c.body suffix_id; named = (name i).0; dead = dead_after c.csn c.body zero_csn; rdn = (name i).1; attrs = raised_by (attrs_facts ((if (sym other i) then suffix_acts suffix else []) ++ [])) (body_acts c.csn c.body) }) in
    start ∙ own_facts-next suffix c.target [] c h refl (record { sound = refl; target = refl; one = λ d m. absurd m })

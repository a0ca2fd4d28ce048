-- THE WAY UP from an entry that comes or goes: its ancestors that have no other reason to be present.
use Rattle.std.proofs.Common.{◌≡◌, List, [], ◌∷◌, Bool, true, false, cond, not, Option, Some, None, refl, sym, ap, subst, ◌∙◌, inl, inr}
use Rattle.std.specs.Prelude.{◌⊎◌, ◌&&◌, ◌||◌, find}
use Rattle.std.specs.List.{AllByRecursion}
use Rattle.std.specs.Ordering.{is_eq, ordering_reverse}
use Rattle.std.specs.declared.cmp.Ordering.TheVariants.{Less, Equal, Greater}
use Rattle.std.proofs.lemmas.Cmp.{tied_itself}
use Rattle.repl_data.specs.declared.csn.Uid.{Uid}
use Rattle.repl_data.specs.Order.{uid_cmp, uid_eq, suffix_id}
use Rattle.repl_data.specs.Facts.{EntryFacts}
use Rattle.repl_data.specs.Presence.{HasParentBelow}
use Rattle.repl_data.proofs.Orders.{uid_total, uid_exact, split}
use Rattle.repl_data.proofs.InOrder.{is_equal}
use Rattle.urp_tree.specs.declared.child.Child.{Child}
use Rattle.urp_tree.specs.Index.{stands_below, without_child, IsOneOf}
use Rattle.urp_tree.specs.Walk.{child_of}
use Rattle.urp_tree.specs.Known.{put_fact, HasRisingFacts}
use Rattle.urp_tree.proofs.Stays.{any_below, put_step}
use Rattle.urp_tree.proofs.Shield.{shown_by, IsOf, goes_shielded}
use Rattle.repl_data.proofs.Bools.{cases, and_false, either_second}
use Rattle.repl_data.proofs.Known.{above_id, own_id}

-- a choice of entries with one more
abbrev pub held : (EntryFacts → Bool) → Uid → EntryFacts → Bool
held B u e = B e || uid_eq e.id u

-- the entry has this id and stands among these, which rise
abbrev pub StandsAt : Uid → EntryFacts → List EntryFacts → Type 0
StandsAt u f [] = ⊥
StandsAt u f (d ∷ above) = ((uid_cmp u d.id ≡ Equal) × (d ≡ f)) ⊎ ((uid_cmp u d.id ≡ Greater) × StandsAt u f above)

abbrev pub AllAbove : Uid → List EntryFacts → Type 0
AllAbove u es = AllByRecursion (λ (e : EntryFacts). uid_cmp u e.id ≡ Less) es

abbrev pub AllBelow : List EntryFacts → Type 0
AllBelow es = AllByRecursion HasParentBelow es

pub greater : (u v : Uid) → uid_cmp u v ≡ Greater → uid_cmp v u ≡ Less
greater u v h = uid_total.antisymm v u ∙ ap ordering_reverse h

above_other : (u : Uid) (es : List EntryFacts) → AllAbove u es → AllByRecursion (λ (e : EntryFacts). uid_eq e.id u ≡ false) es
above_other u [] h = tt
above_other u (e ∷ es) h = (ap is_eq (above_id u e.id h.0), above_other u es h.1)

pub at_above : (u : Uid) (d : EntryFacts) (above : List EntryFacts) → uid_cmp u d.id ≡ Equal → AllAbove d.id above → AllAbove u above
at_above u d above e h = subst (λ (v : Uid). AllAbove v above) (sym (uid_exact u d.id e)) h

pub all_above_at : (u v : Uid) (es : List EntryFacts) → uid_cmp u v ≡ Less → AllAbove v es → AllAbove u es
all_above_at u v [] l h = tt
all_above_at u v (e ∷ es) l h = (uid_total.trans u v e.id l h.0, all_above_at u v es l h.1)

-- no other entry has the id
pub the_one : (u : Uid) (f : EntryFacts) (es : List EntryFacts) → HasRisingFacts es → StandsAt u f es → AllByRecursion (λ (e : EntryFacts). uid_eq e.id u ≡ true → e ≡ f) es
the_one u f [] r h = tt
the_one u f (d ∷ above) r (inl h) = (λ t. h.1, others above (above_other u above (at_above u d above h.0 r.0)))
  where
    others : (es : List EntryFacts) → AllByRecursion (λ (e : EntryFacts). uid_eq e.id u ≡ false) es → AllByRecursion (λ (e : EntryFacts). uid_eq e.id u ≡ true → e ≡ f) es
    others [] h = tt
    others (e ∷ es) h = ((λ t. let x : true ≡ false = sym t ∙ h.0 in cc), others es h.1)
the_one u f (d ∷ above) r (inr h) = ((λ t. let x : true ≡ false = sym t ∙ ap is_eq (greater u d.id h.0) in cc), the_one u f above r.1 h.1)

pub id_at : (u : Uid) (f : EntryFacts) (es : List EntryFacts) → StandsAt u f es → f.id ≡ u
id_at u f [] h = elim h [ ]
id_at u f (d ∷ above) (inl h) = ap (λ (e : EntryFacts). e.id) (sym h.1) ∙ sym (uid_exact u d.id h.0)
id_at u f (d ∷ above) (inr h) = id_at u f above h.1

pub all_at : (P : EntryFacts → Type 0) (u : Uid) (f : EntryFacts) (es : List EntryFacts) → StandsAt u f es → AllByRecursion P es → P f
all_at P u f [] h a = elim h [ ]
all_at P u f (d ∷ above) (inl h) a = subst P h.1 a.0
all_at P u f (d ∷ above) (inr h) a = all_at P u f above h.1 a.1

-- what is found by its id
pub found_at : (u : Uid) (f : EntryFacts) (es : List EntryFacts) → HasRisingFacts es → find (λ (e : EntryFacts). uid_eq u e.id) es ≡ Some f → StandsAt u f es
found_at u f [] r h = let e : ◌≡◌ {A = Option EntryFacts} None (Some f) = h in cc
found_at u f (d ∷ above) r h =
    split (uid_cmp u d.id)
    (λ e. let later : find (λ (x : EntryFacts). uid_eq u x.id) above ≡ Some f = sym (ap (λ o. cond (is_eq o) (Some d) (find (λ (x : EntryFacts). uid_eq u x.id) above)) e) ∙ h in
    let x : ◌≡◌ {A = Option EntryFacts} None (Some f) = sym (none above (all_above_at u d.id above e r.0)) ∙ later in cc)
    (λ e. let x : Some d ≡ Some f = sym (ap (λ o. cond (is_eq o) (Some d) (find (λ (x : EntryFacts). uid_eq u x.id) above)) e) ∙ h in
    let is : d ≡ f = cc in
    inl (e, is))
    (λ e. inr (e, found_at u f above r.1 (sym (ap (λ o. cond (is_eq o) (Some d) (find (λ (x : EntryFacts). uid_eq u x.id) above)) e) ∙ h)))
  where
    none : (es : List EntryFacts) → AllAbove u es → find (λ (x : EntryFacts). uid_eq u x.id) es ≡ None
    none [] a = refl
    none (e ∷ es) a = ap (λ o. cond (is_eq o) (Some e) (find (λ (x : EntryFacts). uid_eq u x.id) es)) a.0 ∙ none es a.1

-- an entry that is put leaves those of lower ids, and stands there itself

pub at_put : (e : EntryFacts) (u : Uid) (f : EntryFacts) (es : List EntryFacts) → uid_cmp e.id u ≡ Greater → StandsAt u f es → StandsAt u f (put_fact e es)
at_put e u f [] g h = elim h [ ]
at_put e u f (d ∷ above) g (inl h) =
    subst (StandsAt u f) (sym (put_step e d above Greater (subst (λ v. uid_cmp e.id v ≡ Greater) (uid_exact u d.id h.0) g))) (inl h)
at_put e u f (d ∷ above) g (inr h) =
    subst (StandsAt u f) (sym (put_step e d above Greater (above_id d.id e.id (uid_total.trans d.id u e.id (greater u d.id h.0) (greater e.id u g))))) (inr (h.0, at_put e u f above g h.1))

pub self_put : (e : EntryFacts) (es : List EntryFacts) → StandsAt e.id e (put_fact e es)
self_put e [] = inl (tied_itself uid_total e.id, refl)
self_put e (d ∷ above) =
    split (uid_cmp e.id d.id)
    (λ h. subst (StandsAt e.id e) (sym (put_step e d above Less h)) (inl (tied_itself uid_total e.id, refl)))
    (λ h. subst (StandsAt e.id e) (sym (put_step e d above Equal h)) (inl (tied_itself uid_total e.id, refl)))
    (λ h. subst (StandsAt e.id e) (sym (put_step e d above Greater h)) (inr (h, self_put e above)))

-- THE CHILDREN OF AN ENTRY stand behind it
pub lower_none : (u : Uid) (d : EntryFacts) → HasParentBelow d → uid_cmp u d.id ≡ Greater → stands_below u (child_of d) ≡ false
lower_none u d (inl h) g = ap (λ b. uid_eq d.parent u && not b) h ∙ and_false (uid_eq d.parent u)
lower_none u d (inr h) g = ap (λ o. is_eq o && not (uid_eq d.id suffix_id)) (uid_total.trans d.parent d.id u h (greater u d.id g))

pub own_none : (u : Uid) (d : EntryFacts) → HasParentBelow d → uid_cmp u d.id ≡ Equal → stands_below u (child_of d) ≡ false
own_none u d (inl h) g = ap (λ b. uid_eq d.parent u && not b) h ∙ and_false (uid_eq d.parent u)
own_none u d (inr h) g = ap (λ o. is_eq o && not (uid_eq d.id suffix_id)) (subst (λ v. uid_cmp d.parent v ≡ Less) (sym (uid_exact u d.id g)) h)

pub any_tail : (L : EntryFacts → Bool) (u : Uid) (d : EntryFacts) (above : List EntryFacts) → stands_below u (child_of d) ≡ false → any_below u (shown_by L (d ∷ above)) ≡ any_below u (shown_by L above)
any_tail L u d above h = by (L d || any_below d.id (shown_by L above))
  where
    by : (b : Bool) → any_below u (cond b (child_of d ∷ shown_by L above) (shown_by L above)) ≡ any_below u (shown_by L above)
    by true = ap (λ t. t || any_below u (shown_by L above)) h
    by false = refl

-- two choices that are the same
pub same_shown : (L M : EntryFacts → Bool) (es : List EntryFacts) → AllByRecursion (λ e. M e ≡ L e) es → shown_by M es ≡ shown_by L es
same_shown L M [] h = refl
same_shown L M (d ∷ above) h = λ i. cond (h.0 i || any_below d.id (same_shown L M above h.1 i)) (child_of d ∷ same_shown L M above h.1 i) (same_shown L M above h.1 i)

pub not_held : (B : EntryFacts → Bool) (u : Uid) (e : EntryFacts) → uid_eq e.id u ≡ false → held B u e ≡ B e
not_held B u e h = ap (λ b. B e || b) h ∙ by (B e)
  where
    by : (b : Bool) → (b || false) ≡ b
    by true = refl
    by false = refl

pub is_held : (B : EntryFacts → Bool) (u : Uid) (e : EntryFacts) → uid_eq e.id u ≡ true → held B u e ≡ true
is_held B u e h = ap (λ b. B e || b) h ∙ by (B e)
  where
    by : (b : Bool) → (b || true) ≡ true
    by true = refl
    by false = refl

pub none_held : (B : EntryFacts → Bool) (u : Uid) (es : List EntryFacts) → AllAbove u es → shown_by (held B u) es ≡ shown_by B es
none_held B u es h = same_shown B (held B u) es (by es (above_other u es h))
  where
    by : (es : List EntryFacts) → AllByRecursion (λ (e : EntryFacts). uid_eq e.id u ≡ false) es → AllByRecursion (λ e. held B u e ≡ B e) es
    by [] h = tt
    by (e ∷ es) h = (not_held B u e h.0, by es h.1)

-- below the entry that is held nothing else shows
pub any_held : (B : EntryFacts → Bool) (u : Uid) (f : EntryFacts) (es : List EntryFacts) → HasRisingFacts es → AllBelow es → StandsAt u f es → any_below u (shown_by (held B u) es) ≡ any_below u (shown_by B es)
any_held B u f [] r b h = refl
any_held B u f (d ∷ above) r b (inl h) =
    any_tail (held B u) u d above (own_none u d b.0 h.0)
    ∙ ap (any_below u) (none_held B u above (at_above u d above h.0 r.0))
    ∙ sym (any_tail B u d above (own_none u d b.0 h.0))
any_held B u f (d ∷ above) r b (inr h) =
    any_tail (held B u) u d above (lower_none u d b.0 h.0)
    ∙ any_held B u f above r.1 b.1 h.1
    ∙ sym (any_tail B u d above (lower_none u d b.0 h.0))

-- an entry that shows anyway
right_true : (a b c : Bool) → (a || b) ≡ true → (true || c) ≡ (a || b)
right_true a b c h = sym h

pub unheld : (B : EntryFacts → Bool) (u : Uid) (f : EntryFacts) (es : List EntryFacts) → HasRisingFacts es → AllBelow es → StandsAt u f es → (B f || any_below u (shown_by B es)) ≡ true → shown_by (held B u) es ≡ shown_by B es
unheld B u f [] r b h s = elim h [ ]
unheld B u f (d ∷ above) r b (inl h) s =
    let C : List Child = shown_by B above in
    let same : shown_by (held B u) above ≡ C = none_held B u above (at_above u d above h.0 r.0) in
    let at : d.id ≡ u = sym (uid_exact u d.id h.0) in
    let shows : (B d || any_below d.id C) ≡ true =
    (λ i. B (h.1 i) || any_below (at i) C) ∙ ap (λ t. B f || t) (sym (any_tail B u d above (own_none u d b.0 h.0))) ∙ s in
    (λ i. cond (is_held B u d (ap (λ v. uid_eq v u) at ∙ own_id u) i || any_below d.id (same i)) (child_of d ∷ same i) (same i))
    ∙ ap (λ t. cond t (child_of d ∷ C) C) (sym shows)
unheld B u f (d ∷ above) r b (inr h) s =
    let C : List Child = shown_by B above in
    let more : shown_by (held B u) above ≡ C = unheld B u f above r.1 b.1 h.1 (ap (λ t. B f || t) (sym (any_tail B u d above (lower_none u d b.0 h.0))) ∙ s) in
    λ i. cond (not_held B u d (ap is_eq (greater u d.id h.0)) i || any_below d.id (more i)) (child_of d ∷ more i) (more i)

-- an entry that shows is one of the children
pub shown_at : (L : EntryFacts → Bool) (u : Uid) (f : EntryFacts) (es : List EntryFacts) → AllBelow es → StandsAt u f es → (L f || any_below u (shown_by L es)) ≡ true → IsOneOf (child_of f) (shown_by L es)
shown_at L u f [] b h s = elim h [ ]
shown_at L u f (d ∷ above) b (inl h) s =
    let C : List Child = shown_by L above in
    let at : d.id ≡ u = sym (uid_exact u d.id h.0) in
    let shows : (L d || any_below d.id C) ≡ true =
    (λ i. L (h.1 i) || any_below (at i) C) ∙ ap (λ t. L f || t) (sym (any_tail L u d above (own_none u d b.0 h.0))) ∙ s in
    subst (λ t. IsOneOf (child_of f) (cond t (child_of d ∷ C) C)) (sym shows) (inl (ap child_of (sym h.1)))
shown_at L u f (d ∷ above) b (inr h) s =
    by (L d || any_below d.id (shown_by L above)) (shown_at L u f above b.1 h.1 (ap (λ t. L f || t) (sym (any_tail L u d above (lower_none u d b.0 h.0))) ∙ s))
  where
    by : (t : Bool) → IsOneOf (child_of f) (shown_by L above) → IsOneOf (child_of f) (cond t (child_of d ∷ shown_by L above) (shown_by L above))
    by true m = inr m
    by false m = m

pub held_shows : (B : EntryFacts → Bool) (u : Uid) (f : EntryFacts) (es : List EntryFacts) → AllBelow es → StandsAt u f es → IsOneOf (child_of f) (shown_by (held B u) es)
held_shows B u f es b h =
    shown_at (held B u) u f es b h
    (ap (λ t. t || any_below u (shown_by (held B u) es)) (is_held B u f (ap (λ v. uid_eq v u) (id_at u f es h) ∙ own_id u)))

any_of : (u : Uid) (c : Child) (cs : List Child) → IsOneOf c cs → stands_below u c ≡ true → any_below u cs ≡ true
any_of u c [] m h = elim m [ ]
any_of u c (d ∷ ds) (inl m) h = ap (λ t. t || any_below u ds) (ap (stands_below u) (sym m) ∙ h)
any_of u c (d ∷ ds) (inr m) h = either_second (stands_below u d) (any_below u ds) (any_of u c ds m h)

-- ONE LEVEL: an entry that is held, and has no reason of its own to show, goes where its parent is held instead
module _ (B : EntryFacts → Bool) (v q : Uid) (f g : EntryFacts) (es : List EntryFacts) (rises : HasRisingFacts es) (below : AllBelow es)
    (at : StandsAt v f es) (parent : f.parent ≡ q) (stands : StandsAt q g es) (lower : uid_cmp q v ≡ Less) (child : stands_below q (child_of f) ≡ true)
    (weak : B f ≡ false) (alone : any_below v (shown_by (held B v) es) ≡ false) where
  abbrev both : EntryFacts → Bool
  both e = held B v e || uid_eq e.id q

  abbrev only_q : EntryFacts → Bool
  only_q e = (B e && not (uid_eq e.id v)) || uid_eq e.id q

  q_shows : shown_by both es ≡ shown_by (held B v) es
  q_shows =
      unheld (held B v) q g es rises below stands
      (either_second (held B v g) (any_below q (shown_by (held B v) es)) (any_of q (child_of f) (shown_by (held B v) es) (held_shows B v f es below at) child))

  and_yes : (a : Bool) → (a && true) ≡ (a || false)
  and_yes true = refl
  and_yes false = refl

  off : (e : EntryFacts) → uid_eq e.id v ≡ true → uid_eq e.id q ≡ false
  off e h = ap (λ (w : Uid). uid_eq w q) (uid_exact e.id v (is_equal _ h)) ∙ ap is_eq (above_id q v lower)

  pointwise : (es : List EntryFacts) → AllByRecursion (λ (e : EntryFacts). uid_eq e.id v ≡ true → e ≡ f) es → AllByRecursion (λ e. only_q e ≡ held B q e) es
  pointwise [] h = tt
  pointwise (e ∷ es) h = (
    cases (uid_eq e.id v)
        (λ t. ap (λ b. (B e && not b) || uid_eq e.id q) t ∙ ap (λ b. b || uid_eq e.id q) (and_false (B e) ∙ sym (ap B (h.0 t) ∙ weak)))
        (λ n. ap (λ b. (B e && not b) || uid_eq e.id q) n ∙ ap (λ b. b || uid_eq e.id q) (and_yes (B e) ∙ or_no (B e))),
    pointwise es h.1,
  )
    where
      or_no : (a : Bool) → (a || false) ≡ a
      or_no true = refl
      or_no false = refl

  of_parent : (es : List EntryFacts) → AllByRecursion (λ (e : EntryFacts). uid_eq e.id v ≡ true → e ≡ f) es → AllByRecursion (λ (e : EntryFacts). IsOf v q (child_of e)) es
  of_parent [] h = tt
  of_parent (e ∷ es) h = ((λ t. ap (λ (x : EntryFacts). x.parent) (h.0 t) ∙ parent), of_parent es h.1)

  pub goes_up : shown_by (held B q) es ≡ without_child v (shown_by (held B v) es)
  goes_up =
      let one = the_one v f es rises at in
      sym (same_shown (held B q) only_q es (pointwise es one))
      ∙ goes_shielded both only_q v q
      (λ e n. ap (λ b. (B e && not b) || uid_eq e.id q) n ∙ ap (λ b. b || uid_eq e.id q) (and_yes (B e)) ∙ ap (λ b. (B e || b) || uid_eq e.id q) (sym n))
      (λ e t. ap (λ b. (B e && not b) || uid_eq e.id q) t ∙ ap (λ b. b || uid_eq e.id q) (and_false (B e)) ∙ off e t)
      (λ e t. either_second (held B v e) (uid_eq e.id q) (ap is_eq (uid_total.antisymm e.id q ∙ ap ordering_reverse (is_equal _ t))))
      es (of_parent es one) (ap (any_below v) q_shows ∙ alone)
      ∙ ap (without_child v) q_shows

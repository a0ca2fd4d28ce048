-- The view of a closed set of changes is a tree of names.
use Rattle.std.proofs.Common.{◌≡◌, List, [], ◌∷◌, ◌++◌, refl, sym, ap, subst, ◌∙◌, inl, inr}
use Rattle.std.specs.Prelude.{Bool, true, false, cond, not, ◌&&◌, ◌||◌, flat_map}
use Rattle.std.specs.List.{AllByRecursion, list_any, list_all}
use Rattle.std.specs.declared.cmp.Ordering.TheVariants.{Less}
use Rattle.repl_data.specs.declared.csn.Csn.{Csn}
use Rattle.repl_data.specs.declared.csn.Uid.{Uid}
use Rattle.repl_data.specs.declared.change.Body.{Body}
use Rattle.repl_data.specs.declared.change.Body.TheVariants.{Add, Mod as Modify, Ren, Del}
use Rattle.repl_data.specs.declared.change.Change.{Change}
use Rattle.repl_data.specs.declared.change.Suffix.{Suffix}
use Rattle.repl_data.specs.Order.{csn_lt, csn_eq, uid_cmp, uid_eq, suffix_id, zero_csn, rdn_key, greatest, latest_or}
use Rattle.repl_data.specs.Text.{IsInRange}
use Rattle.repl_data.specs.Stamps.{of_entry}
use Rattle.repl_data.specs.Facts.{EntryFacts, entry_facts, parents_given, added_ids, ids_known, all_facts}
use Rattle.repl_data.specs.Closed.{IsClosed, is_sound, is_known, is_rooted}
use Rattle.repl_data.specs.Presence.{is_live, is_child, present_of, is_among_entries, is_present_in, StandsIn, HasParentBelow}
use Rattle.repl_data.specs.View.{PresentEntry, view_of, is_shown_below}
use Rattle.repl_data.proofs.Sound.{both_true}
use Rattle.repl_data.proofs.Known.{any_map, known_ids, present_entry, own_id, same_id}
use Rattle.repl_data.proofs.ClosedLaws.{all_facts-Rises, all_facts-below, closed_presence, no_deaths}
use Rattle.repl_data.proofs.NamesClosed.{closed_differ}
use Rattle.repl_data.proofs.Bools.{either_first, either_second, cases}
use Rattle.view_walk.specs.Tree.{IsAmong, AreRising, HasParentBelow as IsAboveParent, HasParentThere, is_present, IsNamedTree}
use Rattle.view_walk.proofs.Members.{of_map, one_of, each_of}
use Rattle.view_walk.proofs.Rising.{Rise, rise_map, all_join}

abbrev IsLower : EntryFacts → EntryFacts → Type 0
IsLower e f = uid_cmp e.id f.id ≡ Less

-- ---- the present ones of some entries
of_present : (e : EntryFacts) (es : List EntryFacts) → IsAmong e (present_of es) → IsAmong e es
of_present e [] m = m
of_present e (d ∷ es) m = by (is_live d || list_any (is_child d.id) (present_of es)) m (of_present e es)
  where
    by : (b : Bool) → IsAmong e (cond b (d ∷ present_of es) (present_of es)) → (IsAmong e (present_of es) → IsAmong e es) → IsAmong e (d ∷ es)
    by true (inl p) more = inl p
    by true (inr k) more = inr (more k)
    by false k more = inr (more k)

present_rises : (es : List EntryFacts) → Rise IsLower es → Rise IsLower (present_of es)
present_rises [] r = tt
present_rises (d ∷ es) r = by (is_live d || list_any (is_child d.id) (present_of es)) (present_rises es r.1)
  where
    by : (b : Bool) → Rise IsLower (present_of es) → Rise IsLower (cond b (d ∷ present_of es) (present_of es))
    by true more = (each_of (IsLower d) (present_of es) (λ f m. one_of (IsLower d) f es (of_present f es m) r.0), more)
    by false more = more

stands : (e : EntryFacts) (es : List EntryFacts) → IsAmong e es → StandsIn e es
stands e [] m = m
stands e (d ∷ es) (inl p) = inl p
stands e (d ∷ es) (inr m) = inr (stands e es m)

-- an entry of this id
record HasFacts (es : List EntryFacts) (u : Uid) : Type 0 where
  facts : EntryFacts
  among : IsAmong facts es
  own : facts.id ≡ u

find_facts : (es : List EntryFacts) (u : Uid) → is_among_entries es u ≡ true → HasFacts es u
find_facts [] u h = let e : false ≡ true = h in cc
find_facts (d ∷ es) u h = by (uid_eq d.id u) refl h (find_facts es u)
  where
    by : (b : Bool) → uid_eq d.id u ≡ b → (b || is_among_entries es u) ≡ true → (is_among_entries es u ≡ true → HasFacts es u) → HasFacts (d ∷ es) u
    by true k g more = record { facts = d; among = inl refl; own = same_id d.id u k }
    by false k g more = let f = more g in record { facts = f.facts; among = inr f.among; own = f.own }

any_of : {X : Type 0} (p : X → Bool) (x : X) (xs : List X) → IsAmong x xs → p x ≡ true → list_any p xs ≡ true
any_of p x [] m h = elim m [ ]
any_of p x (y ∷ xs) (inl e) h = either_first (p y) (list_any p xs) (ap p (sym e) ∙ h)
any_of p x (y ∷ xs) (inr m) h = either_second (p y) (list_any p xs) (any_of p x xs m h)

-- ---- the suffix entry has no death

root_lives : (suffix : Suffix) (xs : List Change) → list_all is_sound xs ≡ true → is_live (entry_facts suffix xs suffix_id) ≡ true
root_lives suffix xs h = ap (λ (cs : List Csn). csn_eq (greatest cs) zero_csn) (no_deaths xs h)

-- ---- the parents that a closed set names are known
abbrev AreKnown : List Change → List (Csn × Uid) → Type 0
AreKnown xs ps = AllByRecursion (λ (p : Csn × Uid). is_known xs p.1 ≡ true) ps

known_parents : (xs : List Change) (c : Change) → is_rooted xs c ≡ true → AreKnown xs (parents_given c.csn c.body)
known_parents xs c h = of_body c.body h
  where
    of_body : (b : Body) → is_rooted xs (record c { body = b }) ≡ true → AreKnown xs (parents_given c.csn b)
    of_body (Add parent rdn attrs) g = (g, tt)
    of_body (Modify mods) g = tt
    of_body (Ren rdn dropped) g = tt
    of_body Del g = tt

own_parents : (xs : List Change) (u : Uid) (cs : List Change) → list_all (is_rooted xs) cs ≡ true → AreKnown xs (flat_map (λ (c : Change). parents_given c.csn c.body) (of_entry cs u))
own_parents xs u [] h = tt
own_parents xs u (c ∷ cs) h =
    let h' = both_true _ _ h in
    by (uid_eq c.target u) (own_parents xs u cs h'.1) (known_parents xs c h'.0)
  where
    by : (b : Bool) → AreKnown xs (flat_map (λ (d : Change). parents_given d.csn d.body) (of_entry cs u)) → AreKnown xs (parents_given c.csn c.body)
        → AreKnown xs (flat_map (λ (d : Change). parents_given d.csn d.body) (cond b (c ∷ of_entry cs u) (of_entry cs u)))
    by true rest own = all_join (λ (p : Csn × Uid). is_known xs p.1 ≡ true) (parents_given c.csn c.body) (flat_map (λ (d : Change). parents_given d.csn d.body) (of_entry cs u)) own rest
    by false rest own = rest

latest_such : (P : Uid → Type 0) (none : Csn × Uid) (ps : List (Csn × Uid)) → P none.1 → AllByRecursion (λ (p : Csn × Uid). P p.1) ps → P (latest_or none ps).1
latest_such P none [] h g = h
latest_such P none (p ∷ ps) h g = by (csn_lt p.0 (latest_or none ps).0) (latest_such P none ps h g.1)
  where
    by : (b : Bool) → P (latest_or none ps).1 → P (cond b (latest_or none ps) p).1
    by true k = k
    by false k = g.0

module _ (suffix : Suffix) (xs : List Change) (closed : IsClosed xs) where
  abbrev all : List EntryFacts
  all = all_facts suffix xs

  abbrev present : List EntryFacts
  present = present_of (all_facts suffix xs)

  parent_known : (u : Uid) → is_known xs (entry_facts suffix xs u).parent ≡ true
  parent_known u =
      latest_such (λ (p : Uid). is_known xs p ≡ true) (zero_csn, suffix_id) (flat_map (λ (c : Change). parents_given c.csn c.body) (of_entry xs u))
      (either_first (uid_eq suffix_id suffix_id) (list_any (uid_eq suffix_id) (added_ids xs)) (own_id suffix_id)) (own_parents xs u xs closed.rooted)

  parents_known : (e : EntryFacts) → IsAmong e all → is_known xs e.parent ≡ true
  parents_known e m =
      let u = of_map (entry_facts suffix xs) e (ids_known xs) m in
      subst (λ (f : EntryFacts). is_known xs f.parent ≡ true) (sym u.2) (parent_known u.0)

  rule : (e : EntryFacts) → IsAmong e all → is_present_in all e ≡ (is_live e || list_any (is_child e.id) present)
  rule e m = one_of (λ (f : EntryFacts). is_present_in all f ≡ (is_live f || list_any (is_child f.id) present)) e all m (closed_presence suffix xs closed)

  root_among : HasFacts all suffix_id
  root_among = find_facts all suffix_id (known_ids suffix xs suffix_id ∙ either_first (uid_eq suffix_id suffix_id) (list_any (uid_eq suffix_id) (added_ids xs)) (own_id suffix_id))

  root_present : is_among_entries present suffix_id ≡ true
  root_present =
      let f = root_among in
      let u = of_map (entry_facts suffix xs) f.facts (ids_known xs) f.among in
      let id : u.0 ≡ suffix_id = sym (ap (λ (e : EntryFacts). e.id) u.2) ∙ f.own in
      let live : is_live f.facts ≡ true = subst (λ (e : EntryFacts). is_live e ≡ true) (sym (u.2 ∙ ap (entry_facts suffix xs) id)) (root_lives suffix xs closed.sound) in
      subst (λ (w : Uid). is_among_entries present w ≡ true) f.own (rule f.facts f.among ∙ either_first (is_live f.facts) (list_any (is_child f.facts.id) present) live)

  parent_present : (e : EntryFacts) → IsAmong e present → uid_eq e.id suffix_id ≡ false → is_among_entries present e.parent ≡ true
  parent_present e m r =
      let f = find_facts all e.parent (known_ids suffix xs e.parent ∙ parents_known e (of_present e all m)) in
      let child : is_child f.facts.id e ≡ true = (λ i. ap (λ (w : Uid). uid_eq e.parent w) f.own i && not (r i)) ∙ ap (λ b. b && true) (own_id e.parent) in
      subst (λ (w : Uid). is_among_entries present w ≡ true) f.own
      (rule f.facts f.among ∙ either_second (is_live f.facts) (list_any (is_child f.facts.id) present) (any_of (is_child f.facts.id) e present m child))

  -- ---- in the view
  shown_there : (u : Uid) → is_present (view_of suffix xs) u ≡ is_among_entries present u
  shown_there u = any_map (λ (e : PresentEntry). uid_eq e.id u) (present_entry present) present

  of_view : (e : PresentEntry) → IsAmong e (view_of suffix xs).present → (f : EntryFacts) × IsAmong f present × (e ≡ present_entry present f)
  of_view e m = of_map (present_entry present) e present m

  rising : AreRising (view_of suffix xs).present
  rising =
      rise_map IsLower (λ (a : PresentEntry) (b : PresentEntry). uid_cmp a.id b.id ≡ Less) (present_entry present) present (λ a b m k l. l)
      (present_rises all (all_facts-Rises suffix xs))

  below : AllByRecursion IsAboveParent (view_of suffix xs).present
  below =
      each_of IsAboveParent (view_of suffix xs).present
      (λ e m. (let f = of_view e m in
      subst IsAboveParent (sym f.2) (one_of HasParentBelow f.0 all (of_present f.0 all f.1) (all_facts-below suffix xs closed.sound))))

  there : AllByRecursion (HasParentThere (view_of suffix xs)) (view_of suffix xs).present
  there =
      each_of (HasParentThere (view_of suffix xs)) (view_of suffix xs).present
      (λ e m. (let f = of_view e m in
      subst (HasParentThere (view_of suffix xs)) (sym f.2)
      (cases (uid_eq f.0.id suffix_id) (λ r. inl r) (λ r. inr (shown_there f.0.parent ∙ parent_present f.0 f.1 r)))))

  apart : AllByRecursion (λ (c : Change). IsInRange c.csn) xs → (u : Uid) (e f : PresentEntry) → IsAmong e (view_of suffix xs).present → IsAmong f (view_of suffix xs).present
      → is_shown_below u e ≡ true → is_shown_below u f ≡ true → rdn_key e.shown ≡ rdn_key f.shown → e.id ≡ f.id
  apart range u e f in_e in_f of_e of_f same =
      let a = of_view e in_e in
      let b = of_view f in_f in
      ap (λ (x : PresentEntry). x.id) a.2
      ∙ closed_differ suffix xs u a.0 b.0 closed range (stands a.0 present a.1) (stands b.0 present b.1)
      (subst (λ (x : PresentEntry). is_shown_below u x ≡ true) a.2 of_e)
      (subst (λ (x : PresentEntry). is_shown_below u x ≡ true) b.2 of_f)
      (sym (ap (λ (x : PresentEntry). rdn_key x.shown) a.2) ∙ same ∙ ap (λ (x : PresentEntry). rdn_key x.shown) b.2)
      ∙ sym (ap (λ (x : PresentEntry). x.id) b.2)

  pub closed_tree : AllByRecursion (λ (c : Change). IsInRange c.csn) xs → IsNamedTree (view_of suffix xs)
  closed_tree range = record {
    rising = rising;
    below = below;
    root = shown_there suffix_id ∙ root_present;
    there = there;
    apart = apart range;
  }

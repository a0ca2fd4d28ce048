-- In a closed set each child of an entry has a name that one of its own changes gave, without a part of its
-- own for the id. So shown names differ.
use Rattle.std.proofs.Common.{◌≡◌, ℕ, List, [], ◌∷◌, ◌++◌, refl, sym, ap, subst, ◌∙◌, inl, inr}
use Rattle.std.specs.Prelude.{Bool, true, false, cond, ◌||◌, map, flat_map, is_none, Option, Some, None, option_map, if◌then◌else◌}
use Rattle.std.specs.List.{AllByRecursion, list_any, list_all, position_from}
use Rattle.std.specs.declared.cmp.Ordering.TheVariants.{Equal}
use Rattle.std.specs.Ordering.{is_eq}
use Rattle.std.proofs.lemmas.Cmp.{tied_itself}
use Rattle.repl_data.specs.declared.csn.Csn.{Csn}
use Rattle.repl_data.specs.declared.csn.Uid.{Uid}
use Rattle.repl_data.specs.declared.change.Ava.{Ava}
use Rattle.repl_data.specs.declared.change.Attr.{Attr}
use Rattle.repl_data.specs.declared.change.Rdn.{Rdn}
use Rattle.repl_data.specs.declared.change.Body.{Body}
use Rattle.repl_data.specs.declared.change.Body.TheVariants.{Add, Mod as Modify, Ren, Del}
use Rattle.repl_data.specs.declared.change.Change.{Change}
use Rattle.repl_data.specs.declared.change.Malformed.TheVariants.{Derived}
use Rattle.repl_data.specs.declared.change.Suffix.{Suffix}
use Rattle.repl_data.specs.Order.{csn_cmp, csn_eq, csn_lt, uid_cmp, uid_eq, suffix_id, zero_csn, rdn_key, latest_or}
use Rattle.repl_data.specs.Text.{IsInRange}
use Rattle.repl_data.specs.Types.{is_derived_attribute, is_derived_ava}
use Rattle.repl_data.specs.Check.{fault_at, faults_of_frame, faults_of_body, derived_places, names_derived, is_out_of_order}
use Rattle.repl_data.specs.Stamps.{of_entry}
use Rattle.repl_data.specs.Facts.{EntryFacts, entry_facts, names_given, ids_added, added_ids, ids_known, all_facts}
use Rattle.repl_data.specs.Closed.{all_differ, is_sound, IsClosed, IsIn}
use Rattle.repl_data.specs.Presence.{is_live, is_child, present_of, StandsIn}
use Rattle.repl_data.specs.Names.{is_id_part, has_id, shown_rdn}
use Rattle.repl_data.proofs.Orders.{csn_total, csn_exact, uid_total, uid_exact}
use Rattle.repl_data.proofs.InOrder.{any-in_order_by, is_equal}
use Rattle.repl_data.proofs.Bools.{either_false, either_true}
use Rattle.repl_data.proofs.Loops.{all_append}
use Rattle.repl_data.proofs.Sound.{not_both, both_true, not_true, not_false, neither, no_faults, sound_order}
use Rattle.repl_data.proofs.CheckLaws.{any-position}
use Rattle.repl_data.proofs.NamesDiffer.{shown_differ}
use Rattle.repl_data.proofs.CsnTests.{csn_lt-zero}

-- ---- a sound change gives no name with a part for the id

-- no derived part, no part for the id
pub no_id_part : (a : Ava) → is_derived_ava a ≡ false → is_id_part (a.attr.name, a.val.key) ≡ false
unfolding is_derived_attribute
no_id_part a h = (neither _ _ (neither _ _ h).0).0

pub no_id : (avas : List Ava) (rest : List Bool) → list_any (λ b. b) (map is_derived_ava avas ++ rest) ≡ false → list_any is_id_part (map (λ (a : Ava). (a.attr.name, a.val.key)) avas) ≡ false
no_id [] rest h = refl
no_id (a ∷ avas) rest h =
    let h' = neither _ _ h in
    either_false _ _ (no_id_part a h'.0) (no_id avas rest h'.1)

pub none_at : (places : List Bool) → is_none (fault_at Derived places) ≡ true → list_any (λ b. b) places ≡ false
none_at places h = not_true _ (sym (any-position 0 places) ∙ by (position_from (λ b. b) 0 places) h)
  where
    by : (o : Option ℕ) → is_none (option_map Derived o) ≡ true → is_none o ≡ true
    by None e = refl
    by (Some k) e = e

pub sound_names : (c : Change) → is_sound c ≡ true → list_any (λ b. b) (derived_places c.body) ≡ false
sound_names c h = none_at (derived_places c.body) (no_faults (faults_of_frame c ++ faults_of_body c.body) h).1.1.1.1.1.1.1.1.0

-- what a change says of a name: that it is its own, and has no part for the id
abbrev IsPlainOf : Csn → Csn × Rdn → Type 0
IsPlainOf c p = (p.0 ≡ c) × (has_id p.1 ≡ false)

names_plain : (c : Csn) (b : Body) → list_any (λ b. b) (derived_places b) ≡ false → AllByRecursion (IsPlainOf c) (names_given c b)
names_plain c (Add parent rdn attrs) h = ((refl, no_id rdn.avas (map (λ (a : Attr). names_derived a.attr a.vals) attrs) h), tt)
names_plain c (Modify mods) h = tt
names_plain c (Ren rdn dropped) h = ((refl, no_id rdn.avas (map is_derived_ava dropped) h), tt)
names_plain c Del h = tt

-- ---- a name that one of an entry's changes gave

record IsGiven (xs : List Change) (u : Uid) (p : Csn × Rdn) : Type 0 where
  by_change : Change
  stands : IsIn by_change xs
  own : by_change.target ≡ u
  at : p.0 ≡ by_change.csn
  plain : has_id p.1 ≡ false

wider : (x : Change) (xs : List Change) (u : Uid) (ps : List (Csn × Rdn)) → AllByRecursion (IsGiven xs u) ps → AllByRecursion (IsGiven (x ∷ xs) u) ps
wider x xs u [] h = tt
wider x xs u (p ∷ ps) h =
    let g = h.0 in
    (record { by_change = g.by_change; stands = inr g.stands; own = g.own; at = g.at; plain = g.plain }, wider x xs u ps h.1)

from_first : (x : Change) (xs : List Change) (u : Uid) (ps : List (Csn × Rdn)) → x.target ≡ u → AllByRecursion (IsPlainOf x.csn) ps → AllByRecursion (IsGiven (x ∷ xs) u) ps
from_first x xs u [] e h = tt
from_first x xs u (p ∷ ps) e h = (record { by_change = x; stands = inl refl; own = e; at = h.0.0; plain = h.0.1 }, from_first x xs u ps e h.1)

abbrev pub own_names : List Change → Uid → List (Csn × Rdn)
own_names xs u = flat_map (λ (c : Change). names_given c.csn c.body) (of_entry xs u)

own_names-given : (xs : List Change) (u : Uid) → list_all is_sound xs ≡ true → AllByRecursion (IsGiven xs u) (own_names xs u)
own_names-given [] u h = tt
own_names-given (x ∷ xs) u h =
    let h' = both_true _ _ h in
    by (wider x xs u _ (own_names-given xs u h'.1)) (uid_eq x.target u) (λ e. from_first x xs u _ (uid_exact x.target u (is_equal _ e)) (names_plain x.csn x.body (sound_names x h'.0))) refl
  where
    by : AllByRecursion (IsGiven (x ∷ xs) u) (own_names xs u) → (b : Bool) → (uid_eq x.target u ≡ true → AllByRecursion (IsGiven (x ∷ xs) u) (names_given x.csn x.body)) → uid_eq x.target u ≡ b
        → AllByRecursion (IsGiven (x ∷ xs) u) (flat_map (λ (c : Change). names_given c.csn c.body) (cond b (x ∷ of_entry xs u) (of_entry xs u)))
    by rest true first e = all_append _ (names_given x.csn x.body) _ (first e) rest
    by rest false first e = rest

-- ---- the name of an entry that was added is given

-- an id that was added is the CSN of a change
added_range : (u : Uid) (xs : List Change) → list_all is_sound xs ≡ true → AllByRecursion (λ (c : Change). IsInRange c.csn) xs → list_any (uid_eq u) (added_ids xs) ≡ true → IsInRange u.csn
added_range u [] h r a = absurd (not_both false a refl)
added_range u (x ∷ xs) h r a =
    let h' = both_true _ _ h in
    of_body x.body (sound_order x h'.0) a (added_range u xs h'.1 r.1)
  where
    of_body : (b : Body) → is_out_of_order x.csn x.target b ≡ false → list_any (uid_eq u) (ids_added x.target b ++ added_ids xs) ≡ true → (list_any (uid_eq u) (added_ids xs) ≡ true → IsInRange u.csn) → IsInRange u.csn
    of_body (Add parent rdn attrs) o g rest =
        let own : x.target.csn ≡ x.csn = csn_exact x.target.csn x.csn (is_equal _ (not_false _ (neither _ _ o).0)) in
        either_true (uid_eq u x.target) _ g
        (λ t. subst IsInRange (sym (ap (λ (w : Uid). w.csn) (uid_exact u x.target (is_equal _ t)) ∙ own)) r.0)
        rest
    of_body (Modify mods) o g rest = rest g
    of_body (Ren rdn dropped) o g rest = rest g
    of_body Del o g rest = rest g

-- a change that stands in a list has one of its CSNs
stands_equal : {k : Csn} (d : Change) (ys : List Change) → IsIn d ys → k ≡ d.csn → list_any (csn_eq k) (map (λ (e : Change). e.csn) ys) ≡ true
stands_equal d [] m e = elim m [ ]
stands_equal {k} d (y ∷ ys) (inl p) e =
    ap (λ o. is_eq o || list_any (csn_eq k) (map (λ (e : Change). e.csn) ys)) (subst (λ w. csn_cmp k w ≡ Equal) (e ∙ ap (λ (c : Change). c.csn) p) (tied_itself csn_total k))
stands_equal {k} d (y ∷ ys) (inr m) e = right (csn_eq k y.csn) (stands_equal d ys m e)
  where
    right : (a : Bool) {b : Bool} → b ≡ true → (a || b) ≡ true
    right true h = refl
    right false h = h

pub picked : {X : Type 0} (P : Csn × X → Type 0) (none : X) (x : Csn × X) (xs : List (Csn × X)) → P x → AllByRecursion P xs → P (latest_or (zero_csn, none) (x ∷ xs))
picked P none x [] h g = subst (λ b. P (if b then (zero_csn, none) else x)) (sym (csn_lt-zero x.0)) h
picked P none x (y ∷ ys) h g = by (csn_lt x.0 (latest_or (zero_csn, none) (y ∷ ys)).0) (picked P none y ys g.0 g.1)
  where
    by : (b : Bool) → P (latest_or (zero_csn, none) (y ∷ ys)) → P (if b then latest_or (zero_csn, none) (y ∷ ys) else x)
    by true k = k
    by false k = h

pub picked_some : {X : Type 0} (P : Csn × X → Type 0) (none : X) (xs : List (Csn × X)) → (xs ≡ [] → ⊥) → AllByRecursion P xs → P (latest_or (zero_csn, none) xs)
picked_some P none [] n h = absurd (n refl)
picked_some P none (x ∷ xs) n h = picked P none x xs h.0 h.1

pub not_nothing : {X : Type 0} (x : X) (xs : List X) → x ∷ xs ≡ [] → ⊥
not_nothing x xs e = cc

behind_some : {X : Type 0} (ps qs : List X) → (qs ≡ [] → ⊥) → ps ++ qs ≡ [] → ⊥
behind_some [] qs n e = n e
behind_some (p ∷ ps) qs n e = not_nothing p (ps ++ qs) e

-- an entry that was added has been given a name
abbrev pub names_with : Bool → Change → List Change → Uid → List (Csn × Rdn)
names_with b x xs u = flat_map (λ (c : Change). names_given c.csn c.body) (cond b (x ∷ of_entry xs u) (of_entry xs u))

-- one more change takes no name away
more_names : (b : Bool) (x : Change) (xs : List Change) (u : Uid) → (own_names xs u ≡ [] → ⊥) → names_with b x xs u ≡ [] → ⊥
more_names true x xs u n = behind_some (names_given x.csn x.body) (own_names xs u) n
more_names false x xs u n = n

-- an Add of the entry gives one
names_of_add : (x : Change) (xs : List Change) (u : Uid) (parent : Uid) (rdn : Rdn) (attrs : List Attr) → x.body ≡ Add parent rdn attrs → x.target ≡ u → own_names (x ∷ xs) u ≡ [] → ⊥
names_of_add x xs u parent rdn attrs k t e =
    let same : uid_eq x.target u ≡ true = subst (λ w. uid_eq x.target w ≡ true) t (ap is_eq (tied_itself uid_total x.target)) in
    not_nothing (x.csn, rdn) (own_names xs u)
    (sym (ap (λ b. names_with b x xs u) same ∙ ap (λ w. names_given x.csn w ++ own_names xs u) k) ∙ e)

names_after : (x : Change) (xs : List Change) (u : Uid) (b : Body) → x.body ≡ b → list_any (uid_eq u) (ids_added x.target b ++ added_ids xs) ≡ true
    → (list_any (uid_eq u) (added_ids xs) ≡ true → own_names xs u ≡ [] → ⊥) → own_names (x ∷ xs) u ≡ [] → ⊥
names_after x xs u (Add parent rdn attrs) k g rest =
    either_true (uid_eq u x.target) _ g
    (λ own. names_of_add x xs u parent rdn attrs k (sym (uid_exact u x.target (is_equal _ own))))
    (λ a. more_names (uid_eq x.target u) x xs u (rest a))
names_after x xs u (Modify mods) k g rest = more_names (uid_eq x.target u) x xs u (rest g)
names_after x xs u (Ren rdn dropped) k g rest = more_names (uid_eq x.target u) x xs u (rest g)
names_after x xs u Del k g rest = more_names (uid_eq x.target u) x xs u (rest g)

pub added_named : (xs : List Change) (u : Uid) → list_any (uid_eq u) (added_ids xs) ≡ true → own_names xs u ≡ [] → ⊥
added_named [] u h e = not_both false h refl
added_named (x ∷ xs) u h e = names_after x xs u x.body refl h (added_named xs u) e

-- ---- the entries of a closed set

-- what is present is among what is known
present_known : (e : EntryFacts) (es : List EntryFacts) → StandsIn e (present_of es) → StandsIn e es
present_known e [] m = m
present_known e (f ∷ es) m = by (is_live f || list_any (is_child f.id) (present_of es)) m (present_known e es)
  where
    by : (b : Bool) → StandsIn e (if b then f ∷ present_of es else present_of es) → (StandsIn e (present_of es) → StandsIn e es) → StandsIn e (f ∷ es)
    by true (inl p) rest = inl p
    by true (inr k) rest = inr (rest k)
    by false k rest = inr (rest k)

-- an entry that is known is what is known of an id
record IsOfId (suffix : Suffix) (xs : List Change) (us : List Uid) (e : EntryFacts) : Type 0 where
  facts : e ≡ entry_facts suffix xs e.id
  among : list_any (uid_eq e.id) us ≡ true

of_id : (suffix : Suffix) (xs : List Change) (e : EntryFacts) (us : List Uid) → StandsIn e (map (entry_facts suffix xs) us) → IsOfId suffix xs us e
of_id suffix xs e [] m = elim m [ ]
of_id suffix xs e (u ∷ us) (inl p) =
    let id : e.id ≡ u = ap (λ (f : EntryFacts). f.id) p in
    record {
      facts = p ∙ ap (entry_facts suffix xs) (sym id);
      among = ap (λ o. is_eq o || list_any (uid_eq e.id) us) (subst (λ w. uid_cmp e.id w ≡ Equal) id (tied_itself uid_total e.id));
    }
of_id suffix xs e (u ∷ us) (inr k) =
    let g = of_id suffix xs e us k in
    record { facts = g.facts; among = right (uid_eq e.id u) g.among }
  where
    right : (a : Bool) {b : Bool} → b ≡ true → (a || b) ≡ true
    right true h = refl
    right false h = h

module _ (suffix : Suffix) (xs : List Change) (closed : IsClosed xs) where
  -- a child has a name that one of its own changes gave
  child_given : (p : Uid) (e : EntryFacts) → StandsIn e (present_of (all_facts suffix xs)) → is_child p e ≡ true → IsGiven xs e.id (e.named, e.rdn)
  child_given p e m h =
      let o = of_id suffix xs e (ids_known xs) (present_known e (all_facts suffix xs) m) in
      let known : (uid_eq e.id suffix_id || list_any (uid_eq e.id) (added_ids xs)) ≡ true = sym (any-in_order_by uid_cmp uid_total (λ (u : Uid). u) uid_exact (uid_eq e.id) (suffix_id ∷ added_ids xs)) ∙ o.among in
      let added : list_any (uid_eq e.id) (added_ids xs) ≡ true = either_true _ _ known (λ s. absurd (not_both _ s (not_true _ (both_true _ _ h).1))) (λ a. a) in
      subst (λ (f : EntryFacts). IsGiven xs e.id (f.named, f.rdn)) (sym o.facts)
      (picked_some (IsGiven xs e.id) suffix.rdn (own_names xs e.id) (added_named xs e.id added) (own_names-given xs e.id closed.sound))

  -- an id that was added is the CSN of a change of the set
  in_range : AllByRecursion (λ (c : Change). IsInRange c.csn) xs → (p : Uid) (e : EntryFacts) → StandsIn e (present_of (all_facts suffix xs)) → is_child p e ≡ true → IsInRange e.id.csn
  in_range range p e m h =
      let o = of_id suffix xs e (ids_known xs) (present_known e (all_facts suffix xs) m) in
      let known : (uid_eq e.id suffix_id || list_any (uid_eq e.id) (added_ids xs)) ≡ true = sym (any-in_order_by uid_cmp uid_total (λ (u : Uid). u) uid_exact (uid_eq e.id) (suffix_id ∷ added_ids xs)) ∙ o.among in
      let added : list_any (uid_eq e.id) (added_ids xs) ≡ true = either_true _ _ known (λ s. absurd (not_both _ s (not_true _ (both_true _ _ h).1))) (λ a. a) in
      added_range e.id xs closed.sound range added

  one_csn : (c d : Change) (ys : List Change) → all_differ (map (λ (e : Change). e.csn) ys) ≡ true → IsIn c ys → IsIn d ys → c.csn ≡ d.csn → c ≡ d
  one_csn c d [] h m k e = elim m [ ]
  one_csn c d (y ∷ ys) h (inl p) (inl q) e = p ∙ sym q
  one_csn c d (y ∷ ys) h (inl p) (inr k) e = absurd (not_both _ (stands_equal d ys k (sym (ap (λ (x : Change). x.csn) p) ∙ e)) (not_true _ (both_true _ _ h).0))
  one_csn c d (y ∷ ys) h (inr m) (inl q) e = absurd (not_both _ (stands_equal c ys m (sym (ap (λ (x : Change). x.csn) q) ∙ sym e)) (not_true _ (both_true _ _ h).0))
  one_csn c d (y ∷ ys) h (inr m) (inr k) e = one_csn c d ys (both_true _ _ h).1 m k e

  -- IN A CLOSED SET NO TWO CHILDREN OF ONE ENTRY SHOW THE SAME RDN
  differ : AllByRecursion (λ (c : Change). IsInRange c.csn) xs → (p : Uid) (e f : EntryFacts) → StandsIn e (present_of (all_facts suffix xs)) → StandsIn f (present_of (all_facts suffix xs))
      → is_child p e ≡ true → is_child p f ≡ true
      → rdn_key (shown_rdn (present_of (all_facts suffix xs)) e) ≡ rdn_key (shown_rdn (present_of (all_facts suffix xs)) f) → e.id ≡ f.id
  differ range p e f in_e in_f of_e of_f same =
      let g = child_given p e in_e of_e in
      let h = child_given p f in_f of_f in
      shown_differ (present_of (all_facts suffix xs)) p e f in_e in_f of_e of_f g.plain h.plain (in_range range p e in_e of_e) (in_range range p f in_f of_f)
      (λ named. sym g.own ∙ ap (λ (c : Change). c.target) (one_csn g.by_change h.by_change xs closed.once g.stands h.stands (sym g.at ∙ named ∙ h.at)) ∙ h.own)
      same

pub closed_differ : (suffix : Suffix) (xs : List Change) (p : Uid) (e f : EntryFacts) → IsClosed xs → AllByRecursion (λ (c : Change). IsInRange c.csn) xs
    → StandsIn e (present_of (all_facts suffix xs)) → StandsIn f (present_of (all_facts suffix xs)) → is_child p e ≡ true → is_child p f ≡ true
    → rdn_key (shown_rdn (present_of (all_facts suffix xs)) e) ≡ rdn_key (shown_rdn (present_of (all_facts suffix xs)) f) → e.id ≡ f.id
closed_differ suffix xs p e f closed range in_e in_f of_e of_f same = differ suffix xs closed range p e f in_e in_f of_e of_f same

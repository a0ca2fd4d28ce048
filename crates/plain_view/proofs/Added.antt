-- THE VIEW AFTER ONE ADD MORE, where all changes are adds.
use Rattle.std.proofs.Common.{◌≡◌, Bool, true, false, cond, List, [], ◌∷◌, ◌++◌, Result, Ok, Err, map, refl, sym, ap, subst, ◌∙◌, append_assoc, append-nil}
use Rattle.std.specs.Prelude.{◌||◌, flat_map, OnOk}
use Rattle.std.specs.List.{list_any, list_all, AllByRecursion}
use Rattle.std.specs.Ordering.{is_eq}
use Rattle.std.specs.declared.cmp.Ordering.TheVariants.{Less}
use Rattle.std.proofs.lemmas.Cmp.{tied_itself}
use Rattle.repl_data.specs.declared.csn.Csn.{Csn}
use Rattle.repl_data.specs.declared.csn.Uid.{Uid}
use Rattle.repl_data.specs.declared.change.Rdn.{Rdn}
use Rattle.repl_data.specs.declared.change.Body.{Body}
use Rattle.repl_data.specs.declared.change.Body.TheVariants.{Add, Mod as Modify, Ren, Del}
use Rattle.repl_data.specs.declared.change.Change.{Change}
use Rattle.repl_data.specs.declared.change.Suffix.{Suffix}
use Rattle.repl_data.specs.Order.{csn_eq, csn_lt, uid_cmp, uid_eq, suffix_id, zero_csn, greatest, later, latest_or}
use Rattle.repl_data.specs.Check.{is_out_of_order}
use Rattle.repl_data.specs.Stamps.{of_entry, suffix_acts, body_acts, acts_on}
use Rattle.repl_data.specs.Facts.{EntryFacts, attrs_facts, names_given, parents_given, deaths, own_facts, entry_facts, ids_added, added_ids, ids_known, all_facts}
use Rattle.repl_data.specs.Closed.{IsArrival, is_sound, is_known}
use Rattle.repl_data.specs.Presence.{is_among_entries}
use Rattle.repl_data.specs.View.{DirectoryView, PresentEntry, view_of_facts, view_of}
use Rattle.repl_data.proofs.Orders.{csn_exact, uid_total, uid_exact}
use Rattle.repl_data.proofs.InOrder.{Rises, is_equal, in_order_by-Rises}
use Rattle.repl_data.proofs.Sound.{both_true, not_both, not_false, neither, sound_order, sound_rid}
use Rattle.repl_data.proofs.Steps.{flat_map-append, all_facts-append}
use Rattle.repl_data.proofs.Arrival.{first_of_entry, all_facts-added}
use Rattle.plain_view.specs.Seen.{present_entry}
use Rattle.plain_view.specs.Growth.{adds_entry, is_add, no_suffix, facts_alone, grown, HasRisingIds, is_among_present}
use Rattle.repl_data.proofs.Loops.{map_map, all_append}
use Rattle.repl_data.proofs.Known.{any_map, eq_turned, known_ids}
use Rattle.repl_data.proofs.Bools.{either_second}
use Rattle.repl_data.proofs.CsnTests.{csn_lt-zero, csn_lt-irreflexive}
use Rattle.plain_view.proofs.Grown.{IsPlain, put_facts, all_put, view_plain, view_grown, entry_id}

-- an add of its own id
abbrev pub IsOwnAdd : Change → Type 0
IsOwnAdd d = (is_add d ≡ true) × (d.target.csn ≡ d.csn)

own_target : (c : Csn) (u : Uid) (b : Body) → adds_entry b ≡ true → is_out_of_order c u b ≡ false → u.csn ≡ c
own_target c u (Add parent rdn attrs) h s = csn_exact u.csn c (is_equal _ (not_false _ (neither _ _ s).0))
own_target c u (Modify mods) h s = absurd (not_both false h refl)
own_target c u (Ren rdn dropped) h s = absurd (not_both false h refl)
own_target c u Del h s = absurd (not_both false h refl)

own_adds : (xs : List Change) → list_all is_add xs ≡ true → list_all is_sound xs ≡ true → AllByRecursion IsOwnAdd xs
own_adds [] h s = tt
own_adds (x ∷ xs) h s =
    let h' = both_true (is_add x) (list_all is_add xs) h in
    let s' = both_true (is_sound x) (list_all is_sound xs) s in
    ((h'.0, own_target x.csn x.target x.body h'.0 (sound_order x s'.0)), own_adds xs h'.1 s'.1)

first_ones : {X : Type 0} (P : X → Type 0) (xs ys : List X) → AllByRecursion P (xs ++ ys) → AllByRecursion P xs
first_ones P [] ys h = tt
first_ones P (x ∷ xs) ys h = (h.0, first_ones P xs ys h.1)

last_ones : {X : Type 0} (P : X → Type 0) (xs ys : List X) → AllByRecursion P (xs ++ ys) → AllByRecursion P ys
last_ones P [] ys h = h
last_ones P (x ∷ xs) ys h = last_ones P xs ys h.1

-- WHAT ADDS SAY OF AN ENTRY
-- names that all bear one CSN
first_named : (k : Csn) (x r : Csn × Rdn) → x.0 ≡ k → csn_lt k r.0 ≡ false → (later x r).0 ≡ k
first_named k x r e h = ap (λ b. (cond b r x).0) (ap (λ c. csn_lt c r.0) e ∙ h) ∙ e

named_within : (k : Csn) (none : Csn × Rdn) (xs : List (Csn × Rdn)) → csn_lt k none.0 ≡ false → AllByRecursion (λ x. x.0 ≡ k) xs → csn_lt k (latest_or none xs).0 ≡ false
named_within k none [] h g = h
named_within k none (x ∷ xs) h g = ap (csn_lt k) (first_named k x (latest_or none xs) g.0 (named_within k none xs h g.1)) ∙ csn_lt-irreflexive k

named_by : (k : Csn) (none : Csn × Rdn) (c : Csn) (b : Body) (rest : List (Csn × Rdn)) → adds_entry b ≡ true → c ≡ k → csn_lt k none.0 ≡ false → AllByRecursion (λ x. x.0 ≡ k) rest → (latest_or none (names_given c b ++ rest)).0 ≡ k
named_by k none c (Add parent rdn attrs) rest h e z g = first_named k (c, rdn) (latest_or none rest) e (named_within k none rest z g)
named_by k none c (Modify mods) rest h e z g = absurd (not_both false h refl)
named_by k none c (Ren rdn dropped) rest h e z g = absurd (not_both false h refl)
named_by k none c Del rest h e z g = absurd (not_both false h refl)

names_of : (k c : Csn) (b : Body) (rest : List (Csn × Rdn)) → c ≡ k → AllByRecursion (λ x. x.0 ≡ k) rest → AllByRecursion (λ x. x.0 ≡ k) (names_given c b ++ rest)
names_of k c (Add parent rdn attrs) rest e g = (e, g)
names_of k c (Modify mods) rest e g = g
names_of k c (Ren rdn dropped) rest e g = (e, g)
names_of k c Del rest e g = g

abbrev names_in : List Change → List (Csn × Rdn)
names_in own = flat_map (λ (d : Change). names_given d.csn d.body) own

abbrev deaths_in : List Change → List Csn
deaths_in own = flat_map (λ (d : Change). deaths d.csn d.body) own

abbrev IsAddOf : Csn → Change → Type 0
IsAddOf k d = (is_add d ≡ true) × (d.csn ≡ k)

all_names : (k : Csn) (own : List Change) → AllByRecursion (IsAddOf k) own → AllByRecursion (λ x. x.0 ≡ k) (names_in own)
all_names k [] h = tt
all_names k (d ∷ own) h = names_of k d.csn d.body (names_in own) h.0.1 (all_names k own h.1)

no_death : (c : Csn) (b : Body) → adds_entry b ≡ true → deaths c b ≡ []
no_death c (Add parent rdn attrs) h = refl
no_death c (Modify mods) h = refl
no_death c (Ren rdn dropped) h = refl
no_death c Del h = absurd (not_both false h refl)

no_deaths : (k : Csn) (own : List Change) → AllByRecursion (IsAddOf k) own → deaths_in own ≡ []
no_deaths k [] h = refl
no_deaths k (d ∷ own) h = λ i. no_death d.csn d.body h.0.0 i ++ no_deaths k own h.1 i

plain_facts : (suffix : Suffix) (u : Uid) (d : Change) (own : List Change) → AllByRecursion (IsAddOf u.csn) (d ∷ own) → IsPlain (own_facts suffix u (d ∷ own))
plain_facts suffix u d own h = (
  ap (λ ds. csn_eq (greatest ds) zero_csn) (no_deaths u.csn (d ∷ own) h),
  named_by u.csn (zero_csn, suffix.rdn) d.csn d.body (names_in own) h.0.0 h.0.1 (csn_lt-zero u.csn) (all_names u.csn own h.1),
)

plain_own : (suffix : Suffix) (u : Uid) (own : List Change) (c : Change) → AllByRecursion (IsAddOf u.csn) own → IsAddOf u.csn c → IsPlain (own_facts suffix u (own ++ c ∷ []))
plain_own suffix u [] c h g = plain_facts suffix u c [] (g, tt)
plain_own suffix u (d ∷ own) c h g = plain_facts suffix u d (own ++ c ∷ []) (h.0, all_append (IsAddOf u.csn) own (c ∷ []) h.1 (g, tt))

of_one : (u : Uid) (ds : List Change) → AllByRecursion IsOwnAdd ds → AllByRecursion (IsAddOf u.csn) (of_entry ds u)
of_one u [] h = tt
of_one u (d ∷ ds) h = by (uid_eq d.target u) refl (of_one u ds h.1)
  where
    by : (b : Bool) → uid_eq d.target u ≡ b → AllByRecursion (IsAddOf u.csn) (of_entry ds u) → AllByRecursion (IsAddOf u.csn) (cond b (d ∷ of_entry ds u) (of_entry ds u))
    by true e m = ((h.0.0, sym h.0.1 ∙ ap (λ (v : Uid). v.csn) (uid_exact d.target u (is_equal _ e))), m)
    by false e m = m

-- ALL ENTRIES
any_append : {X : Type 0} (q : X → Bool) (xs ys : List X) → list_any q ys ≡ true → list_any q (xs ++ ys) ≡ true
any_append q [] ys h = h
any_append q (x ∷ xs) ys h = either_second (q x) (list_any q (xs ++ ys)) (any_append q xs ys h)

ids_of_add : (u : Uid) (b : Body) → adds_entry b ≡ true → list_any (uid_eq u) (ids_added u b ++ []) ≡ true
ids_of_add u (Add parent rdn attrs) h = ap (λ o. is_eq o || false) (tied_itself uid_total u)
ids_of_add u (Modify mods) h = absurd (not_both false h refl)
ids_of_add u (Ren rdn dropped) h = absurd (not_both false h refl)
ids_of_add u Del h = absurd (not_both false h refl)

known_then : (xs : List Change) (c : Change) → is_add c ≡ true → is_known (xs ++ c ∷ []) c.target ≡ true
known_then xs c h =
    either_second (uid_eq c.target suffix_id) (list_any (uid_eq c.target) (added_ids (xs ++ c ∷ [])))
    (ap (list_any (uid_eq c.target)) (flat_map-append (λ (d : Change). ids_added d.target d.body) xs (c ∷ []))
    ∙ any_append (uid_eq c.target) (added_ids xs) (ids_added c.target c.body ++ []) (ids_of_add c.target c.body h))

plain_more : (suffix : Suffix) (xs : List Change) (c : Change) → AllByRecursion IsOwnAdd xs → IsOwnAdd c → AllByRecursion IsPlain (all_facts suffix xs) → AllByRecursion IsPlain (all_facts suffix (xs ++ c ∷ []))
plain_more suffix xs c h g p =
    subst (AllByRecursion IsPlain) (sym (all_facts-append suffix xs c (known_then xs c g.0)))
    (all_put IsPlain (own_facts suffix c.target (of_entry xs c.target ++ c ∷ [])) (all_facts suffix xs) (plain_own suffix c.target (of_entry xs c.target) c (of_one c.target xs h) (g.0, sym g.1)) p)

plain_all : (suffix : Suffix) (done rest : List Change) → AllByRecursion IsOwnAdd done → AllByRecursion IsOwnAdd rest → AllByRecursion IsPlain (all_facts suffix done) → AllByRecursion IsPlain (all_facts suffix (done ++ rest))
plain_all suffix done [] h g p = subst (λ xs. AllByRecursion IsPlain (all_facts suffix xs)) (sym (append-nil done)) p
plain_all suffix done (c ∷ rest) h g p =
    subst (λ xs. AllByRecursion IsPlain (all_facts suffix xs)) (append_assoc done (c ∷ []) rest)
    (plain_all suffix (done ++ c ∷ []) rest (all_append IsOwnAdd done (c ∷ []) h (g.0, tt)) g.1 (plain_more suffix done c h g.0 p))

plain_adds : (suffix : Suffix) (xs : List Change) → AllByRecursion IsOwnAdd xs → AllByRecursion IsPlain (all_facts suffix xs)
plain_adds suffix xs h = plain_all suffix [] xs tt h ((refl, refl), tt)

-- THE NEW ONE
none_added : (u : Uid) (xs : List Change) → of_entry xs u ≡ [] → list_any (uid_eq u) (added_ids xs) ≡ false
none_added u [] h = refl
none_added u (d ∷ xs) h = by (uid_eq d.target u) refl h (none_added u xs)
  where
    other : (b : Body) → uid_eq d.target u ≡ false → list_any (uid_eq u) (added_ids xs) ≡ false → list_any (uid_eq u) (ids_added d.target b ++ added_ids xs) ≡ false
    other (Add parent rdn attrs) e m = ap (λ c. c || list_any (uid_eq u) (added_ids xs)) (eq_turned u d.target ∙ e) ∙ m
    other (Modify mods) e m = m
    other (Ren rdn dropped) e m = m
    other Del e m = m

    nothing : (ds : List Change) → ◌≡◌ {A = List Change} (d ∷ ds) [] → ⊥
    nothing ds e = cc

    by : (b : Bool) → uid_eq d.target u ≡ b → cond b (d ∷ of_entry xs u) (of_entry xs u) ≡ [] → (of_entry xs u ≡ [] → list_any (uid_eq u) (added_ids xs) ≡ false) → list_any (uid_eq u) (ids_added d.target d.body ++ added_ids xs) ≡ false
    by true e g more = absurd (nothing (of_entry xs u) g)
    by false e g more = other d.body e (more g)

not_suffix : (c : Change) → is_sound c ≡ true → c.target.csn ≡ c.csn → uid_eq c.target suffix_id ≡ false
not_suffix c s own = by (uid_eq c.target suffix_id) refl
  where
    by : (b : Bool) → uid_eq c.target suffix_id ≡ b → uid_eq c.target suffix_id ≡ false
    by true e = absurd (sound_rid c s (ap (λ (k : Csn). k.rid) (sym own ∙ csn_exact c.target.csn suffix_id.csn (is_equal _ e))))
    by false e = e

unknown_before : (xs : List Change) (c : Change) → IsArrival (xs ++ c ∷ []) → is_sound c ≡ true → c.target.csn ≡ c.csn → is_known xs c.target ≡ false
unknown_before xs c a s own = λ i. not_suffix c s own i || none_added c.target xs (first_of_entry xs c a own) i

-- an add says the same of its entry whatever the suffix
abbrev name_alone : Rdn → Csn → Body → Csn × Rdn
name_alone rdn c b = latest_or (zero_csn, rdn) (names_given c b ++ [])

same_name : (r s : Rdn) (c : Csn) (b : Body) → adds_entry b ≡ true → name_alone r c b ≡ name_alone s c b
same_name r s c (Add parent rdn attrs) h =
    ap (λ o. cond o (zero_csn, r) (c, rdn)) (csn_lt-zero c) ∙ sym (ap (λ o. cond o (zero_csn, s) (c, rdn)) (csn_lt-zero c))
same_name r s c (Modify mods) h = absurd (not_both false h refl)
same_name r s c (Ren rdn dropped) h = absurd (not_both false h refl)
same_name r s c Del h = absurd (not_both false h refl)

alone : (suffix : Suffix) (c : Change) → is_add c ≡ true → uid_eq c.target suffix_id ≡ false → own_facts suffix c.target (c ∷ []) ≡ facts_alone c
unfolding facts_alone
alone suffix c h n =
    let name = same_name suffix.rdn no_suffix.rdn c.csn c.body h in
    let acts : acts_on suffix c.target (c ∷ []) ≡ acts_on no_suffix c.target (c ∷ []) =
    ap (λ b. cond b (suffix_acts suffix) [] ++ (body_acts c.csn c.body ++ [])) n ∙ sym (ap (λ b. cond b (suffix_acts no_suffix) [] ++ (body_acts c.csn c.body ++ [])) n) in
    λ i. record {
      id = c.target;
      parent = (latest_or (zero_csn, suffix_id) (parents_given c.csn c.body ++ [])).1;
      named = (name i).0;
      dead = greatest (deaths c.csn c.body ++ []);
      rdn = (name i).1;
      attrs = attrs_facts (acts i);
    }

-- THE IDS RISE
rises_map : (g : Uid → PresentEntry) → ((u : Uid) → (g u).id ≡ u) → (us : List Uid) → Rises uid_cmp uid_total (λ u. u) us → HasRisingIds (map g us)
rises_map g is [] h = tt
rises_map g is (u ∷ us) h = (below us h.0, rises_map g is us h.1)
  where
    below : (vs : List Uid) → AllByRecursion (λ v. uid_cmp u v ≡ Less) vs → AllByRecursion (λ (d : PresentEntry). uid_cmp (g u).id d.id ≡ Less) (map g vs)
    below [] h = tt
    below (v ∷ vs) h = ((λ i. uid_cmp (is u i) (is v i)) ∙ h.0, below vs h.1)

among_view : (es ds : List EntryFacts) (u : Uid) → is_among_present (map (present_entry es) ds) u ≡ is_among_entries ds u
unfolding present_entry
among_view es ds u = any_map (λ (e : PresentEntry). uid_eq e.id u) (present_entry es) ds

last_sound : (xs : List Change) (c : Change) → list_all is_sound (xs ++ c ∷ []) ≡ true → is_sound c ≡ true
last_sound [] c h = (both_true (is_sound c) true h).0
last_sound (x ∷ xs) c h = last_sound xs c (both_true (is_sound x) (list_all is_sound (xs ++ c ∷ [])) h).1

-- what is wanted of a view before the add, and what the add makes of it
pub record Grows (suffix : Suffix) (taken : List Change) (c : Change) (v : DirectoryView) : Type 0 where
  pub rises : HasRisingIds v.present
  pub unknown : is_among_present v.present (facts_alone c).id ≡ false
  pub new : grown (facts_alone c) v ≡ view_of suffix (taken ++ c ∷ [])

pub grows : (suffix : Suffix) (taken : List Change) (c : Change) → list_all is_add (taken ++ c ∷ []) ≡ true → IsArrival (taken ++ c ∷ []) → Grows suffix taken c (view_of suffix taken)
unfolding facts_alone
grows suffix taken c adds a =
    let own = own_adds (taken ++ c ∷ []) adds a.sound in
    let last = (last_ones IsOwnAdd taken (c ∷ []) own).0 in
    let sound : is_sound c ≡ true = last_sound taken c a.sound in
    let n = not_suffix c sound last.1 in
    let es : List EntryFacts = all_facts suffix taken in
    let plain = plain_adds suffix taken (first_ones IsOwnAdd taken (c ∷ []) own) in
    let out : is_among_entries es c.target ≡ false = known_ids suffix taken c.target ∙ unknown_before taken c a sound last.1 in
    let same = alone suffix c last.0 n in
    let view = view_plain suffix.name es plain in
    record {
      rises = subst (λ (v : DirectoryView). HasRisingIds v.present) (sym view) (subst HasRisingIds (sym (map_map (present_entry es) (entry_facts suffix taken) (ids_known taken))) (rises_map (λ u. present_entry es (entry_facts suffix taken u)) (λ u. entry_id es (entry_facts suffix taken u)) (ids_known taken) (in_order_by-Rises uid_cmp uid_total (λ (u : Uid). u) (suffix_id ∷ added_ids taken))));
      unknown = subst (λ (v : DirectoryView). is_among_present v.present c.target ≡ false) (sym view) (among_view es es c.target ∙ out);
      new =
          view_grown (facts_alone c) (subst IsPlain same (plain_facts suffix c.target c [] ((last.0, sym last.1), tt))) suffix.name es plain out
          ∙ ap (λ f. view_of_facts suffix.name (put_facts f es)) (sym same)
          ∙ ap (view_of_facts suffix.name) (sym (all_facts-added suffix taken c a last.1));
    }

pub on_ok : {X E P Q : Type 0} (r : Result X E) → (P → Q) → OnOk r P → OnOk r Q
on_ok (Ok x) f h = f h
on_ok (Err e) f h = tt

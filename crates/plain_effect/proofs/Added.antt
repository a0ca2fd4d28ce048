-- What the changes say of the entries where one add comes, whose CSN is above all of them.
use Rattle.std.proofs.Common.{◌≡◌, ◌<◌, Bool, true, false, cond, ◌||◌, List, [], ◌∷◌, ◌++◌, refl, sym, ap, ◌∙◌, arith, Some, append-nil}
use Rattle.std.specs.Prelude.{not, ◌&&◌, flat_map, find, is_some, if◌then◌else◌}
use Rattle.std.specs.List.{AllByRecursion, list_any, list_all}
use Rattle.std.specs.declared.cmp.Ordering.{Ordering}
use Rattle.std.specs.declared.cmp.Ordering.TheVariants.{Less, Equal, Greater}
use Rattle.std.specs.Ordering.{is_eq, is_lt, ordering_reverse}
use Rattle.std.proofs.lemmas.Cmp.{tied_itself}
use Rattle.std.proofs.lemmas.Bool.{or_right}
use Rattle.std.proofs.lemmas.List.Folds.{list_any-append}
use Rattle.repl_data.specs.declared.csn.Csn.{Csn}
use Rattle.repl_data.specs.declared.csn.Uid.{Uid}
use Rattle.repl_data.specs.declared.change.Attr.{Attr}
use Rattle.repl_data.specs.declared.change.Rdn.{Rdn}
use Rattle.repl_data.specs.declared.change.Body.{Body}
use Rattle.repl_data.specs.declared.change.Body.TheVariants.{Add, Mod as Modify, Ren, Del}
use Rattle.repl_data.specs.declared.change.Change.{Change}
use Rattle.repl_data.specs.declared.change.Suffix.{Suffix}
use Rattle.repl_data.specs.Order.{zero_csn, csn_cmp, csn_lt, csn_eq, uid_cmp, uid_eq, suffix_id, greatest, latest_or, stamp, put_by}
use Rattle.repl_data.specs.Check.{is_out_of_order}
use Rattle.repl_data.specs.Closed.{is_sound, is_known}
use Rattle.repl_data.specs.Stamps.{of_entry, suffix_acts}
use Rattle.repl_data.specs.Facts.{EntryFacts, attrs_facts, names_given, deaths, ids_added, own_facts, entry_facts, added_ids, ids_known, all_facts}
use Rattle.repl_data.specs.Presence.{is_live, is_child, present_of, is_among_entries}
use Rattle.repl_data.specs.View.{PresentEntry, present_at, view_of}
use Rattle.repl_data.proofs.Orders.{csn_total, csn_exact, uid_total, uid_exact}
use Rattle.repl_data.proofs.CsnTests.{csn_lt-zero, csn_lt-irreflexive, csn_lt-trans, csn_lt-one_way, csn_lt-from_not_zero}
use Rattle.repl_data.proofs.InOrder.{is_equal, any-in_order_by}
use Rattle.repl_data.proofs.Known.{any_map}
use Rattle.repl_data.proofs.KeyPlaces.{is_less}
use Rattle.repl_data.proofs.Sound.{not_both, both_true, not_false, neither, sound_order}
use Rattle.repl_data.proofs.Steps.{flat_map-append, all_facts-append}
use Rattle.ldap_rules.specs.Laws.{has_entry}
use Rattle.repl_data.proofs.Loops.{all_append, all_map, all_mono}
use Rattle.repl_data.proofs.ClosedLaws.{no_deaths}
use Rattle.ldap_rules.proofs.OwnNames.{all_in_order}
use Rattle.ldap_rules.proofs.There.{some_any}
use Rattle.plain_effect.specs.Above.{IsAbove}
use Rattle.plain_effect.proofs.Shown.{acts_of}
use Rattle.plain_effect.proofs.Present.{put_last}
use Rattle.plain_effect.proofs.Holder.{entry_of_facts}

-- ---- what is below the new CSN

target_below : (c : Csn) (d : Change) → is_sound d ≡ true → csn_lt d.csn c ≡ true → csn_lt d.target.csn c ≡ true
target_below c d s l = by d.body (sound_order d s)
  where
    other : not (csn_lt d.target.csn d.csn) ≡ false → csn_lt d.target.csn c ≡ true
    other o = csn_lt-trans d.target.csn d.csn c (not_false (csn_lt d.target.csn d.csn) o) l

    by : (b : Body) → is_out_of_order d.csn d.target b ≡ false → csn_lt d.target.csn c ≡ true
    by (Add parent rdn attrs) o =
        let own : d.target.csn ≡ d.csn = csn_exact d.target.csn d.csn (is_equal _ (not_false (csn_eq d.target.csn d.csn) (neither (not (csn_eq d.target.csn d.csn)) (not (csn_lt parent.csn d.csn)) o).0)) in
        ap (λ k. csn_lt k c) own ∙ l
    by (Modify mods) o = other o
    by (Ren rdn dropped) o = other o
    by Del o = other o

not_of : (c : Csn) (u : Uid) (d : Change) → u.csn ≡ c → csn_lt d.target.csn c ≡ true → uid_eq d.target u ≡ false
not_of c u d own l = by (uid_eq d.target u) refl
  where
    by : (b : Bool) → uid_eq d.target u ≡ b → uid_eq d.target u ≡ false
    by true e =
        let at : d.target.csn ≡ c = ap (λ (w : Uid). w.csn) (uid_exact d.target u (is_equal _ e)) ∙ own in
        absurd (not_both (csn_lt c c) (ap (λ k. csn_lt k c) (sym at) ∙ l) (csn_lt-irreflexive c))
    by false e = e

-- the new entry has no change yet
no_own : (c : Csn) (u : Uid) (xs : List Change) → u.csn ≡ c → list_all is_sound xs ≡ true → IsAbove c xs → of_entry xs u ≡ []
no_own c u [] own s a = refl
no_own c u (x ∷ xs) own s a =
    let s' = both_true (is_sound x) (list_all is_sound xs) s in
    ap (λ b. cond b (x ∷ of_entry xs u) (of_entry xs u)) (not_of c u x own (target_below c x s'.0 a.0)) ∙ no_own c u xs own s'.1 a.1

ids_below : (c : Csn) (xs : List Change) → list_all is_sound xs ≡ true → IsAbove c xs → AllByRecursion (λ (u : Uid). csn_lt u.csn c ≡ true) (added_ids xs)
ids_below c [] s a = tt
ids_below c (x ∷ xs) s a =
    let s' = both_true (is_sound x) (list_all is_sound xs) s in
    all_append (λ (u : Uid). csn_lt u.csn c ≡ true) (ids_added x.target x.body) (added_ids xs) (by x.body (target_below c x s'.0 a.0)) (ids_below c xs s'.1 a.1)
  where
    by : (b : Body) → csn_lt x.target.csn c ≡ true → AllByRecursion (λ (u : Uid). csn_lt u.csn c ≡ true) (ids_added x.target b)
    by (Add parent rdn attrs) l = (l, tt)
    by (Modify mods) l = tt
    by (Ren rdn dropped) l = tt
    by Del l = tt

above_zero : (c : Csn) → 0 < c.rid → csn_lt zero_csn c ≡ true
above_zero c r = csn_lt-from_not_zero c (λ e. let z : c.rid ≡ 0 = ap (λ (k : Csn). k.rid) e in omega arith)

all_below : (suffix : Suffix) (c : Csn) (xs : List Change) → 0 < c.rid → list_all is_sound xs ≡ true → IsAbove c xs → AllByRecursion (λ (e : EntryFacts). csn_lt e.id.csn c ≡ true) (all_facts suffix xs)
all_below suffix c xs r s a =
    all_map (λ (e : EntryFacts). csn_lt e.id.csn c ≡ true) (entry_facts suffix xs) (ids_known xs)
    (all_in_order (λ (u : Uid). csn_lt u.csn c ≡ true) (suffix_id ∷ added_ids xs) (above_zero c r, ids_below c xs s a))

pub greater : (c : Csn) (u w : Uid) → u.csn ≡ c → csn_lt w.csn c ≡ true → uid_cmp u w ≡ Greater
greater c u w own l = ap (λ k. csn_cmp k w.csn) own ∙ csn_total.antisymm c w.csn ∙ ap ordering_reverse (is_less (csn_cmp w.csn c) l)

-- ---- the new entry

-- the change that adds it
abbrev pub adding : Csn → Uid → Uid → Rdn → List Attr → Change
adding c u parent rdn attrs = record { csn = c; target = u; body = Add parent rdn attrs }

abbrev pub new_facts : Csn → Uid → Uid → Rdn → List Attr → EntryFacts
new_facts c u parent rdn attrs = record { id = u; parent = parent; named = c; dead = zero_csn; rdn = rdn; attrs = attrs_facts (acts_of (stamp c 0) attrs) }

own_new : (suffix : Suffix) (c : Csn) (u parent : Uid) (rdn : Rdn) (attrs : List Attr) → uid_eq u suffix_id ≡ false → own_facts suffix u (adding c u parent rdn attrs ∷ []) ≡ new_facts c u parent rdn attrs
own_new suffix c u parent rdn attrs n =
    let low : csn_lt c zero_csn ≡ false = csn_lt-zero c in
    let acts : (if uid_eq u suffix_id then suffix_acts suffix else []) ++ (acts_of (stamp c 0) attrs ++ []) ≡ acts_of (stamp c 0) attrs =
    ap (λ b. (if b then suffix_acts suffix else []) ++ (acts_of (stamp c 0) attrs ++ [])) n ∙ append-nil (acts_of (stamp c 0) attrs) in
    λ i. record {
      id = u;
      parent = (if◌then◌else◌ {A = Csn × Uid} (low i) (zero_csn, suffix_id) (c, parent)).1;
      named = (if◌then◌else◌ {A = Csn × Rdn} (low i) (zero_csn, suffix.rdn) (c, rdn)).0;
      dead = zero_csn;
      rdn = (if◌then◌else◌ {A = Csn × Rdn} (low i) (zero_csn, suffix.rdn) (c, rdn)).1;
      attrs = attrs_facts (acts i);
    }

pub not_suffix : (c : Csn) (u : Uid) → u.csn ≡ c → 0 < c.rid → uid_eq u suffix_id ≡ false
not_suffix c u own r = by (uid_eq u suffix_id) refl
  where
    by : (b : Bool) → uid_eq u suffix_id ≡ b → uid_eq u suffix_id ≡ false
    by true e =
        let at : c ≡ zero_csn = sym own ∙ ap (λ (w : Uid). w.csn) (uid_exact u suffix_id (is_equal _ e)) in
        let z : c.rid ≡ 0 = ap (λ (k : Csn). k.rid) at in
        absurd (omega arith)
    by false e = e

new_known : (xs : List Change) (c : Csn) (u parent : Uid) (rdn : Rdn) (attrs : List Attr) → is_known (xs ++ adding c u parent rdn attrs ∷ []) u ≡ true
new_known xs c u parent rdn attrs =
    or_right (uid_eq u suffix_id) _
    (ap (list_any (uid_eq u)) (flat_map-append (λ (d : Change). ids_added d.target d.body) xs (adding c u parent rdn attrs ∷ []))
    ∙ list_any-append (uid_eq u) (added_ids xs) (u ∷ [])
    ∙ or_right (list_any (uid_eq u) (added_ids xs)) (uid_eq u u || false) (ap (λ o. is_eq o || false) (tied_itself uid_total u)))

-- THE ENTRIES AFTER THE ADD: those before it, and the new one behind them
pub entries_after : (suffix : Suffix) (xs : List Change) (c : Csn) (u parent : Uid) (rdn : Rdn) (attrs : List Attr) → u.csn ≡ c → 0 < c.rid → list_all is_sound xs ≡ true → IsAbove c xs
    → all_facts suffix (xs ++ adding c u parent rdn attrs ∷ []) ≡ all_facts suffix xs ++ new_facts c u parent rdn attrs ∷ []
entries_after suffix xs c u parent rdn attrs own r s a =
    all_facts-append suffix xs (adding c u parent rdn attrs) (new_known xs c u parent rdn attrs)
    ∙ ap (λ of. put_by (λ (e : EntryFacts). e.id) uid_cmp (own_facts suffix u (of ++ adding c u parent rdn attrs ∷ [])) (all_facts suffix xs)) (no_own c u xs own s a)
    ∙ ap (λ e. put_by (λ (e : EntryFacts). e.id) uid_cmp e (all_facts suffix xs)) (own_new suffix c u parent rdn attrs (not_suffix c u own r))
    ∙ put_last (λ (e : EntryFacts). e.id) (new_facts c u parent rdn attrs) (all_facts suffix xs)
    (all_mono (λ (e : EntryFacts). csn_lt e.id.csn c ≡ true) (λ (e : EntryFacts). uid_cmp u e.id ≡ Greater) (λ e l. greater c u e.id own l) (all_facts suffix xs) (all_below suffix c xs r s a))

pub entries_below : (suffix : Suffix) (xs : List Change) (c : Csn) → 0 < c.rid → list_all is_sound xs ≡ true → IsAbove c xs → AllByRecursion (λ (e : EntryFacts). csn_lt e.id.csn c ≡ true) (all_facts suffix xs)
entries_below suffix xs c r s a = all_below suffix c xs r s a

-- ---- names are below the new CSN, and the suffix entry is live

latest_such : {X : Type 0} (P : Csn × X → Type 0) (none : Csn × X) (ps : List (Csn × X)) → P none → AllByRecursion P ps → P (latest_or none ps)
latest_such P none [] n h = n
latest_such P none (p ∷ ps) n h = by (csn_lt p.0 (latest_or none ps).0) (latest_such P none ps n h.1)
  where
    by : (b : Bool) → P (latest_or none ps) → P (if b then latest_or none ps else p)
    by true g = g
    by false g = h.0

names_below : (c : Csn) (u : Uid) (xs : List Change) → IsAbove c xs → AllByRecursion (λ (p : Csn × Rdn). csn_lt c p.0 ≡ false) (flat_map (λ (d : Change). names_given d.csn d.body) (of_entry xs u))
names_below c u [] a = tt
names_below c u (x ∷ xs) a = by (uid_eq x.target u) (names_below c u xs a.1)
  where
    own : (b : Body) → AllByRecursion (λ (p : Csn × Rdn). csn_lt c p.0 ≡ false) (names_given x.csn b)
    own (Add parent rdn attrs) = (csn_lt-one_way x.csn c a.0, tt)
    own (Modify mods) = tt
    own (Ren rdn dropped) = (csn_lt-one_way x.csn c a.0, tt)
    own Del = tt

    by : (b : Bool) → AllByRecursion (λ (p : Csn × Rdn). csn_lt c p.0 ≡ false) (flat_map (λ (d : Change). names_given d.csn d.body) (of_entry xs u))
        → AllByRecursion (λ (p : Csn × Rdn). csn_lt c p.0 ≡ false) (flat_map (λ (d : Change). names_given d.csn d.body) (cond b (x ∷ of_entry xs u) (of_entry xs u)))
    by true g = all_append (λ (p : Csn × Rdn). csn_lt c p.0 ≡ false) (names_given x.csn x.body) _ (own x.body) g
    by false g = g

-- the name of an entry is below the new CSN, and the suffix entry is live
pub record IsOlder (c : Csn) (e : EntryFacts) : Type 0 where
  pub named : csn_lt c e.named ≡ false
  pub root : uid_eq e.id suffix_id ≡ true → is_live e ≡ true

entry_older : (suffix : Suffix) (c : Csn) (xs : List Change) → list_all is_sound xs ≡ true → IsAbove c xs → (u : Uid) → IsOlder c (entry_facts suffix xs u)
entry_older suffix c xs s a u = record {
  named = latest_such (λ (p : Csn × Rdn). csn_lt c p.0 ≡ false) (zero_csn, suffix.rdn) _ (csn_lt-zero c) (names_below c u xs a);
  root = λ e.
      let at : u ≡ suffix_id = uid_exact u suffix_id (is_equal _ e) in
      ap (λ w. csn_eq (greatest (flat_map (λ (d : Change). deaths d.csn d.body) (of_entry xs w))) zero_csn) at
      ∙ ap (λ ds. csn_eq (greatest ds) zero_csn) (no_deaths xs s)
      ∙ ap is_eq (tied_itself csn_total zero_csn);
}

every : {X : Type 0} (P : X → Type 0) → ((x : X) → P x) → (xs : List X) → AllByRecursion P xs
every P f [] = tt
every P f (x ∷ xs) = (f x, every P f xs)

pub entries_older : (suffix : Suffix) (c : Csn) (xs : List Change) → list_all is_sound xs ≡ true → IsAbove c xs → AllByRecursion (IsOlder c) (all_facts suffix xs)
entries_older suffix c xs s a = all_map (IsOlder c) (entry_facts suffix xs) (ids_known xs) (every (λ u. IsOlder c (entry_facts suffix xs u)) (entry_older suffix c xs s a) (ids_known xs))

-- ---- the parent is present

live_present : (u : Uid) (es : List EntryFacts) → list_any (λ (e : EntryFacts). uid_eq e.id u && is_live e) es ≡ true → is_among_entries (present_of es) u ≡ true
live_present u [] h = absurd (not_both false h refl)
live_present u (e ∷ above) h = by (uid_eq e.id u) (is_live e) refl refl h (live_present u above)
  where
    by : (same live : Bool) → uid_eq e.id u ≡ same → is_live e ≡ live → ((same && live) || list_any (λ (x : EntryFacts). uid_eq x.id u && is_live x) above) ≡ true
        → (list_any (λ (x : EntryFacts). uid_eq x.id u && is_live x) above ≡ true → is_among_entries (present_of above) u ≡ true)
        → is_among_entries (if live || list_any (is_child e.id) (present_of above) then e ∷ present_of above else present_of above) u ≡ true
    by true true s l g more = ap (λ b. b || is_among_entries (present_of above) u) s
    by true false s l g more = either (list_any (is_child e.id) (present_of above)) (more g)
      where
        either : (b : Bool) → is_among_entries (present_of above) u ≡ true → is_among_entries (if b then e ∷ present_of above else present_of above) u ≡ true
        either true k = or_right (uid_eq e.id u) (is_among_entries (present_of above) u) k
        either false k = k
    by false true s l g more = or_right (uid_eq e.id u) (is_among_entries (present_of above) u) (more g)
    by false false s l g more = either (list_any (is_child e.id) (present_of above)) (more g)
      where
        either : (b : Bool) → is_among_entries (present_of above) u ≡ true → is_among_entries (if b then e ∷ present_of above else present_of above) u ≡ true
        either true k = or_right (uid_eq e.id u) (is_among_entries (present_of above) u) k
        either false k = k

root_present : (suffix : Suffix) (c : Csn) (xs : List Change) → list_all is_sound xs ≡ true → IsAbove c xs → is_among_entries (present_of (all_facts suffix xs)) suffix_id ≡ true
root_present suffix c xs s a =
    let q : Uid → Bool = λ u. uid_eq u suffix_id && is_live (entry_facts suffix xs u) in
    let own : uid_eq suffix_id suffix_id ≡ true = ap is_eq (tied_itself uid_total suffix_id) in
    let first : q suffix_id ≡ true = (λ i. own i && (entry_older suffix c xs s a suffix_id).root own i) in
    live_present suffix_id (all_facts suffix xs)
    (any_map (λ (e : EntryFacts). uid_eq e.id suffix_id && is_live e) (entry_facts suffix xs) (ids_known xs)
    ∙ any-in_order_by uid_cmp uid_total (λ (v : Uid). v) uid_exact q (suffix_id ∷ added_ids xs)
    ∙ ap (λ b. b || list_any q (added_ids xs)) first)

pub parent_present : (suffix : Suffix) (c : Csn) (xs : List Change) (u : Uid) → list_all is_sound xs ≡ true → IsAbove c xs → has_entry (view_of suffix xs) u ≡ true → is_among_entries (present_of (all_facts suffix xs)) u ≡ true
parent_present suffix c xs u s a h = by (uid_eq u suffix_id) refl h
  where
    by : (b : Bool) → uid_eq u suffix_id ≡ b → (b || is_some (present_at (view_of suffix xs) u)) ≡ true → is_among_entries (present_of (all_facts suffix xs)) u ≡ true
    by true e g = ap (is_among_entries (present_of (all_facts suffix xs))) (uid_exact u suffix_id (is_equal _ e)) ∙ root_present suffix c xs s a
    by false e g =
        sym (any_map (λ (x : PresentEntry). uid_eq x.id u) (entry_of_facts (present_of (all_facts suffix xs))) (present_of (all_facts suffix xs)))
        ∙ sym (some_any (λ (x : PresentEntry). uid_eq x.id u) (view_of suffix xs).present) ∙ g

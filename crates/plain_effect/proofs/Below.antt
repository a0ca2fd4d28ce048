-- The stamps of earlier changes are below those of a later one.
use Rattle.std.proofs.Common.{◌≡◌, ◌≢◌, ℕ, ◌+◌, ◌<◌, Bool, true, false, cond, List, [], ◌∷◌, ◌++◌, map, refl, sym, ap, subst, ◌∙◌, arith, Option, Some, None}
use Rattle.std.specs.Prelude.{◌&&◌, flat_map, filter, if◌then◌else◌}
use Rattle.std.specs.List.{AllByRecursion, list_all}
use Rattle.std.specs.Cmp.{nat_cmp_is}
use Rattle.std.specs.declared.cmp.Ordering.{Ordering}
use Rattle.std.specs.declared.cmp.Ordering.TheVariants.{Less, Equal, Greater}
use Rattle.std.specs.Ordering.{nat_cmp, ordering_then, is_lt}
use Rattle.repl_data.specs.declared.csn.Csn.{Csn}
use Rattle.repl_data.specs.declared.csn.Uid.{Uid}
use Rattle.repl_data.specs.declared.change.AttrKey.{AttrKey}
use Rattle.repl_data.specs.declared.change.Ava.{Ava}
use Rattle.repl_data.specs.declared.change.Change.{Change}
use Rattle.repl_data.specs.declared.change.Suffix.{Suffix}
use Rattle.repl_data.specs.Order.{csn_lt, csn_max, stamp, zero_csn, uid_eq, suffix_id, greatest, latest_or, bytes_eq}
use Rattle.repl_data.specs.Closed.{is_sound}
use Rattle.repl_data.specs.Stamps.{Act, Adds, Deletes, Clears, body_acts, suffix_acts, of_entry, acts_on}
use Rattle.repl_data.specs.Facts.{ValFacts, is_act_on, additions, deletions, val_facts}
use Rattle.repl_data.proofs.CsnTests.{csn_lt-from_not_zero}
use Rattle.repl_data.proofs.SameView.{base, stamp_of, from_all, body_acts_from}
use Rattle.repl_data.proofs.Sound.{not_both, both_true, sound_sub}
use Rattle.repl_data.proofs.Loops.{all_append, all_filter, all_mono}
use Rattle.plain_effect.specs.Above.{IsAbove}

-- ---- CSNs

pub next_stamp : (c : Csn) (n : ℕ) → csn_lt (stamp c n) (stamp c (n + 1)) ≡ true
next_stamp c n =
    let same : (x : ℕ) → nat_cmp x x ≡ Equal = λ x. sym (nat_cmp_is x x Equal refl) in
    (λ i. is_lt (ordering_then (same c.time i) (ordering_then (same c.seq i) (ordering_then (same c.rid i) (sym (nat_cmp_is n (n + 1) Less (omega arith)) i)))))

then_less : (o x y : Ordering) → (is_lt x ≡ true → is_lt y ≡ true) → is_lt (ordering_then o x) ≡ true → is_lt (ordering_then o y) ≡ true
then_less Less x y f h = refl
then_less Equal x y f h = f h
then_less Greater x y f h = h

-- a lesser change has lesser stamps
stamps_below : (d c : Csn) (j k : ℕ) → d.sub ≡ 0 → c.sub ≡ 0 → csn_lt d c ≡ true → csn_lt (stamp d j) (stamp c k) ≡ true
stamps_below d c j k e f h =
    let last : nat_cmp d.sub c.sub ≡ Equal = (λ i. nat_cmp (e i) (f i)) ∙ sym (nat_cmp_is 0 0 Equal refl) in
    then_less (nat_cmp d.time c.time) _ _
    (then_less (nat_cmp d.seq c.seq) _ _
    (then_less (nat_cmp d.rid c.rid) (nat_cmp d.sub c.sub) (nat_cmp j k) (λ l. absurd (not_both false (sym (ap is_lt last) ∙ l) refl)))) h

of_base : (s d c : Csn) (k : ℕ) → base s ≡ base d → d.sub ≡ 0 → c.sub ≡ 0 → csn_lt d c ≡ true → csn_lt s (stamp c k) ≡ true
of_base s d c k b e f h = subst (λ x. csn_lt x (stamp c k) ≡ true) (ap (λ (x : Csn). stamp x s.sub) (sym b)) (stamps_below d c s.sub k e f h)

-- ---- acts

abbrev IsEarlier : Csn → Act → Type 0
IsEarlier s a = csn_lt (stamp_of a) s ≡ true

of_changes : (c : Csn) (cs : List Change) → c.sub ≡ 0 → list_all is_sound cs ≡ true → IsAbove c cs → AllByRecursion (IsEarlier (stamp c 1)) (flat_map (λ (d : Change). body_acts d.csn d.body) cs)
of_changes c [] z s a = tt
of_changes c (d ∷ cs) z s a =
    let both = both_true (is_sound d) (list_all is_sound cs) s in
    all_append (IsEarlier (stamp c 1)) (body_acts d.csn d.body) _
    (all_mono (λ x. base (stamp_of x) ≡ base d.csn) (IsEarlier (stamp c 1)) (λ x b. of_base (stamp_of x) d.csn c 1 b (sound_sub d both.0) z a.0) (body_acts d.csn d.body) (from_all stamp_of d.csn (body_acts d.csn d.body) (body_acts_from d.csn d.body)))
    (of_changes c cs z both.1 a.1)

pub zero_below : (c : Csn) (k : ℕ) → 0 < c.rid → csn_lt zero_csn (stamp c k) ≡ true
zero_below c k r = csn_lt-from_not_zero (stamp c k) (λ e. let n : c.rid ≡ 0 = ap (λ (x : Csn). x.rid) e in omega arith)

of_parts : (c : Csn) (avas : List Ava) → csn_lt zero_csn (stamp c 1) ≡ true → AllByRecursion (IsEarlier (stamp c 1)) (map (λ (a : Ava). Adds zero_csn a.attr a.val) avas)
of_parts c [] l = tt
of_parts c (a ∷ avas) l = (l, of_parts c avas l)

of_suffix : (c : Csn) (suffix : Suffix) (b : Bool) → csn_lt zero_csn (stamp c 1) ≡ true → AllByRecursion (IsEarlier (stamp c 1)) (if b then suffix_acts suffix else [])
of_suffix c suffix true l = all_append (IsEarlier (stamp c 1)) (map (λ (a : Ava). Adds zero_csn a.attr a.val) suffix.rdn.avas) _ (of_parts c suffix.rdn.avas l) (l, (l, tt))
of_suffix c suffix false l = tt

own_changes : (q : Change → Bool) (xs : List Change) → list_all is_sound xs ≡ true → list_all is_sound (filter q xs) ≡ true
own_changes q [] h = refl
own_changes q (x ∷ xs) h = let both = both_true (is_sound x) (list_all is_sound xs) h in by (q x) both.0 (own_changes q xs both.1)
  where
    by : (b : Bool) → is_sound x ≡ true → list_all is_sound (filter q xs) ≡ true → list_all is_sound (cond b (x ∷ filter q xs) (filter q xs)) ≡ true
    by true s g = ap (λ t. t && list_all is_sound (filter q xs)) s ∙ g
    by false s g = g

pub acts_earlier : (suffix : Suffix) (xs : List Change) (c : Csn) (u : Uid) → 0 < c.rid → c.sub ≡ 0 → list_all is_sound xs ≡ true → IsAbove c xs → AllByRecursion (IsEarlier (stamp c 1)) (acts_on suffix u (of_entry xs u))
acts_earlier suffix xs c u r z s a =
    let above : Change → Type 0 = λ (d : Change). csn_lt d.csn c ≡ true in
    all_append (IsEarlier (stamp c 1)) (if uid_eq u suffix_id then suffix_acts suffix else []) _ (of_suffix c suffix (uid_eq u suffix_id) (zero_below c 1 r))
    (of_changes c (of_entry xs u) z (own_changes (λ (d : Change). uid_eq d.target u) xs s) (all_filter above (λ (d : Change). uid_eq d.target u) xs a))

-- ---- what they make of a value

max_such : (P : Csn → Type 0) (a b : Csn) → P a → P b → P (csn_max a b)
max_such P a b p q = by (csn_lt a b)
  where
    by : (o : Bool) → P (if o then b else a)
    by true = q
    by false = p

latest_below : (s : Csn) (ps : List (Csn × List ℕ)) → csn_lt zero_csn s ≡ true → AllByRecursion (λ (p : Csn × List ℕ). csn_lt p.0 s ≡ true) ps → csn_lt (latest_or (zero_csn, []) ps).0 s ≡ true
latest_below s [] z h = z
latest_below s (p ∷ ps) z h = by (csn_lt p.0 (latest_or (zero_csn, []) ps).0) (latest_below s ps z h.1)
  where
    by : (b : Bool) → csn_lt (latest_or (zero_csn, []) ps).0 s ≡ true → csn_lt (if b then latest_or (zero_csn, []) ps else p).0 s ≡ true
    by true k = k
    by false k = h.0

greatest_below : (s : Csn) (xs : List Csn) → csn_lt zero_csn s ≡ true → AllByRecursion (λ x. csn_lt x s ≡ true) xs → csn_lt (greatest xs) s ≡ true
greatest_below s [] z h = z
greatest_below s (x ∷ xs) z h = max_such (λ y. csn_lt y s ≡ true) x (greatest xs) h.0 (greatest_below s xs z h.1)

if_such : {X : Type 0} (P : X → Type 0) (b : Bool) (x : X) → P x → AllByRecursion P (if b then x ∷ [] else [])
if_such P true x p = (p, tt)
if_such P false x p = tt

additions_below : (s : Csn) (k : List ℕ) (acts : List Act) → AllByRecursion (IsEarlier s) acts → AllByRecursion (λ (p : Csn × List ℕ). csn_lt p.0 s ≡ true) (flat_map (additions k) acts)
additions_below s k [] h = tt
additions_below s k (Adds x t v ∷ acts) h = all_append (λ (p : Csn × List ℕ). csn_lt p.0 s ≡ true) (if bytes_eq k v.key then (x, v.spelled) ∷ [] else []) _ (if_such (λ (p : Csn × List ℕ). csn_lt p.0 s ≡ true) (bytes_eq k v.key) (x, v.spelled) h.0) (additions_below s k acts h.1)
additions_below s k (Deletes x t v ∷ acts) h = additions_below s k acts h.1
additions_below s k (Clears x t ∷ acts) h = additions_below s k acts h.1

deletions_below : (s : Csn) (k : List ℕ) (acts : List Act) → AllByRecursion (IsEarlier s) acts → AllByRecursion (λ x. csn_lt x s ≡ true) (flat_map (deletions k) acts)
deletions_below s k [] h = tt
deletions_below s k (Adds x t v ∷ acts) h = deletions_below s k acts h.1
deletions_below s k (Deletes x t v ∷ acts) h = all_append (λ y. csn_lt y s ≡ true) (if bytes_eq k v.key then x ∷ [] else []) _ (if_such (λ y. csn_lt y s ≡ true) (bytes_eq k v.key) x h.0) (deletions_below s k acts h.1)
deletions_below s k (Clears x t ∷ acts) h = (h.0, deletions_below s k acts h.1)

pub facts_below : (s : Csn) (k : List ℕ) (acts : List Act) → csn_lt zero_csn s ≡ true → AllByRecursion (IsEarlier s) acts → (csn_lt (val_facts acts k).up s ≡ true) × (csn_lt (val_facts acts k).down s ≡ true)
facts_below s k acts z h = (latest_below s (flat_map (additions k) acts) z (additions_below s k acts h), greatest_below s (flat_map (deletions k) acts) z (deletions_below s k acts h))

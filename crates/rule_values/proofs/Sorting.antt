-- Reading values in turn, and sorting them once, say the same.
use Rattle.std.proofs.Common.{◌≡◌, ℕ, zero, suc, ◌+◌, ◌<◌, ◌≤◌, Bool, true, false, cond, not, ◌⊎◌, inl, inr, List, [], ◌∷◌, ◌++◌, length, get_or, drop, refl, sym, ap, subst, ◌∙◌, arith, add-one, append-nil, Option, Some, None, Result, Ok, Err, sum_by, Ordering, Less, Equal, Greater, is_lt, is_eq, ◌||◌, true≢false, IsPermutation, IsSorted}
use Rattle.std.specs.Ordering.{ordering_reverse}
use Rattle.std.specs.List.{AllByRecursion, IsAllAdjacentAnswer}
use Rattle.std.proofs.lemmas.List.{at_drop_more, at_drop_all}
use Rattle.std.proofs.lemmas.List.Sums.{sum_by-cons, sum_by-append}
use Rattle.std.proofs.lemmas.List.Elements.{recursion_from_All, All-from_recursion}
use Rattle.std.proofs.lemmas.List.Sorted.{IsPermutation-refl, IsPermutation-sym, IsPermutation-trans, IsPermutation-cons, IsPermutation-middle, IsPermutation-append_left, All-permutation, sum_by-IsPermutation}
use Rattle.std.proofs.lemmas.Cmp.{tied_itself}
use Rattle.repl_data.specs.declared.change.AttrKey.{AttrKey}
use Rattle.repl_data.specs.declared.change.Val.{Val}
use Rattle.repl_data.specs.Order.{bytes_cmp, bytes_eq, by_order}
use Rattle.repl_data.specs.Ordered.{Rises}
use Rattle.repl_data.specs.Types.{is_derived_value}
use Rattle.repl_data.specs.View.{put_val}
use Rattle.repl_data.proofs.Orders.{bytes_total, bytes_exact, split}
use Rattle.repl_data.proofs.KeyPlaces.{above, is_same, put_rises}
use Rattle.rule_values.specs.declared.fault.Refusal.{Refusal}
use Rattle.rule_values.specs.declared.fault.Refusal.TheVariants.{Derived, ListedTwice}
use Rattle.rule_values.specs.Refusing.{◌>>=◌, refuse_if}
use Rattle.rule_values.specs.Having.{val_key}
use Rattle.rule_values.specs.Heads.{val_cmp}
use Rattle.rule_values.specs.Listed.{has_key, put_new, read_value, value_beside, values_beside}
use Rattle.rule_values.specs.Sorting.{read_one, read_all, and_then, stopped, in_turn}
use Rattle.rule_values.proofs.Places.{equal_key}

-- ---- the loop that reads

abbrev pub read_behind : AttrKey → List Val → List (List ℕ) → List Val × Option Refusal
read_behind attr vals given = (vals ++ (read_all attr given).0, (read_all attr given).1)

append_one : (had : List Val) (v : Val) (vals : List Val) → (had ++ v ∷ []) ++ vals ≡ had ++ v ∷ vals
append_one [] v vals = refl
append_one (w ∷ had) v vals = ap (λ (r : List Val). w ∷ r) (append_one had v vals)

read_step : (attr : AttrKey) (vals : List Val) (s : List ℕ) (ss : List (List ℕ)) (r : Result Val Refusal) → read_one attr s ≡ r → read_behind attr vals (s ∷ ss) ≡ (vals ++ (and_then r (read_all attr ss)).0, (and_then r (read_all attr ss)).1)
unfolding read_all
read_step attr vals s ss r h = ap (λ (x : Result Val Refusal). (vals ++ (and_then x (read_all attr ss)).0, (and_then x (read_all attr ss)).1)) h

pub read_go : (attr : AttrKey) (vals next : List Val) (given : List (List ℕ)) (i : ℕ) (s d : List ℕ) (v : Val) (total : List Val × Option Refusal) → i < length given → s ≡ get_or given i d → read_behind attr vals (drop i given) ≡ total → read_one attr s ≡ Ok v → next ≡ vals ++ v ∷ [] → read_behind attr next (drop (i + 1) given) ≡ total
read_go attr vals next given i s d v total l e so_far h n =
    ap (λ (x : List Val). read_behind attr x (drop (i + 1) given)) n
    ∙ ap (λ (x : List Val). (x, (read_all attr (drop (i + 1) given)).1)) (append_one vals v (read_all attr (drop (i + 1) given)).0)
    ∙ sym (at_drop_more (read_behind attr vals) given i d l ∙ read_step attr vals (get_or given i d) (drop (i + 1) given) (Ok v) (ap (read_one attr) (sym e) ∙ h))
    ∙ so_far

pub read_stop : (attr : AttrKey) (vals : List Val) (given : List (List ℕ)) (i : ℕ) (s d : List ℕ) (why : Refusal) (total : List Val × Option Refusal) → i < length given → s ≡ get_or given i d → read_behind attr vals (drop i given) ≡ total → read_one attr s ≡ Err why → (vals, Some why) ≡ total
read_stop attr vals given i s d why total l e so_far h =
    ap (λ (x : List Val). (x, Some why)) (sym (append-nil vals))
    ∙ sym (at_drop_more (read_behind attr vals) given i d l ∙ read_step attr vals (get_or given i d) (drop (i + 1) given) (Err why) (ap (read_one attr) (sym e) ∙ h))
    ∙ so_far

pub read_end : (attr : AttrKey) (vals : List Val) (given : List (List ℕ)) (i : ℕ) (total : List Val × Option Refusal) → length given ≤ i → read_behind attr vals (drop i given) ≡ total → (vals, None) ≡ total
unfolding read_all
read_end attr vals given i total l so_far =
    ap (λ (x : List Val). (x, None)) (sym (append-nil vals)) ∙ sym (at_drop_all (read_behind attr vals) given i l) ∙ so_far

-- ---- values put one after the other, none of which may be there

abbrev put_all : List Val → List Val → Result (List Val) Refusal
put_all before [] = Ok before
put_all before (v ∷ vals) = put_new v before >>= λ next. put_all next vals

one_apart : (attr : AttrKey) (before : List Val) (s : List ℕ) → value_beside attr before s ≡ (read_one attr s >>= λ v. put_new v before)
unfolding value_beside read_one
one_apart attr before s = by (read_value attr s)
  where
    inner : (v : Val) (b : Bool) → (refuse_if b Derived >>= λ _. put_new v before) ≡ ((refuse_if b Derived >>= λ _. Ok v) >>= λ w. put_new w before)
    inner v true = refl
    inner v false = refl

    by : (r : Result Val Refusal) → (r >>= λ v. refuse_if (is_derived_value attr v) Derived >>= λ _. put_new v before) ≡ ((r >>= λ v. refuse_if (is_derived_value attr v) Derived >>= λ _. Ok v) >>= λ v. put_new v before)
    by (Ok v) = inner v (is_derived_value attr v)
    by (Err why) = refl

abbrev whole : List Val → List Val × Option Refusal → Result (List Val) Refusal
whole before read = put_all before read.0 >>= λ all. stopped read.1 >>= λ _. Ok all

read_apart : (attr : AttrKey) (before : List Val) (given : List (List ℕ)) → values_beside attr before given ≡ whole before (read_all attr given)
unfolding values_beside read_all
read_apart attr before [] = refl
read_apart attr before (s ∷ ss) =
    ap (λ (r : Result (List Val) Refusal). r >>= λ vals. values_beside attr vals ss) (one_apart attr before s)
    ∙ by (read_one attr s) (λ next. read_apart attr next ss)
  where
    inner : (q : Result (List Val) Refusal) → ((next : List Val) → values_beside attr next ss ≡ whole next (read_all attr ss))
        → (q >>= λ vals. values_beside attr vals ss) ≡ ((q >>= λ next. put_all next (read_all attr ss).0) >>= λ all. stopped (read_all attr ss).1 >>= λ _. Ok all)
    inner (Ok next) more = more next
    inner (Err why) more = refl

    by : (r : Result Val Refusal) → ((next : List Val) → values_beside attr next ss ≡ whole next (read_all attr ss))
        → ((r >>= λ v. put_new v before) >>= λ vals. values_beside attr vals ss) ≡ whole before (and_then r (read_all attr ss))
    by (Ok v) more = inner (put_new v before) more
    by (Err why) more = refl

-- ---- how often a key stands in a list

abbrev is_hit : List ℕ → Val → ℕ
is_hit k v = cond (bytes_eq v.key k) 1 0

abbrev hits : List ℕ → List Val → ℕ
hits k vals = sum_by (is_hit k) vals

hit : (k : List ℕ) (v : Val) (b : Bool) → bytes_eq v.key k ≡ b → is_hit k v ≡ cond b 1 0
hit k v b e = ap (λ t. cond t 1 0) e

no_hits : (k : List ℕ) (vals : List Val) → AllByRecursion (λ (w : Val). bytes_cmp k w.key ≡ Less) vals → hits k vals ≡ 0
no_hits k [] h = refl
no_hits k (w ∷ vals) h =
    let none = hit k w false (ap is_eq (above k w.key h.0)) in
    let more = no_hits k vals h.1 in
    omega (arith, sum_by-cons (is_hit k) w vals)

once : (k : List ℕ) (vals : List Val) → Rises val_key vals → hits k vals ≤ 1
once k [] r = omega arith
once k (v ∷ vals) r = by (bytes_eq v.key k) refl (once k vals r.1)
  where
    by : (b : Bool) → bytes_eq v.key k ≡ b → hits k vals ≤ 1 → hits k (v ∷ vals) ≤ 1
    by false e more = let none = hit k v false e in omega (arith, sum_by-cons (is_hit k) v vals)
    by true e more =
        let one = hit k v true e in
        let rest = no_hits k vals (subst (λ (x : List ℕ). AllByRecursion (λ (w : Val). bytes_cmp x w.key ≡ Less) vals) (is_same v.key k e) r.0) in
        omega (arith, sum_by-cons (is_hit k) v vals)

hits_itself : (v : Val) (vals : List Val) → 1 ≤ hits v.key (v ∷ vals)
hits_itself v vals =
    let one = hit v.key v true (equal_key v.key v.key refl) in
    omega (arith, sum_by-cons (is_hit v.key) v vals)

hits_more : (k : List ℕ) (v : Val) (vals : List Val) → hits k vals ≤ hits k (v ∷ vals)
hits_more k v vals = omega (arith, sum_by-cons (is_hit k) v vals)

held_hits : (k : List ℕ) (vals : List Val) → has_key k vals ≡ true → 1 ≤ hits k vals
held_hits k [] h = absurd (true≢false (sym h))
held_hits k (v ∷ vals) h = by (bytes_eq v.key k) refl h (held_hits k vals)
  where
    by : (b : Bool) → bytes_eq v.key k ≡ b → (b || has_key k vals) ≡ true → (has_key k vals ≡ true → 1 ≤ hits k vals) → 1 ≤ hits k (v ∷ vals)
    by true e g more = let one = hit k v true e in omega (arith, sum_by-cons (is_hit k) v vals)
    by false e g more = let rest = more g in omega (arith, sum_by-cons (is_hit k) v vals)

-- a value of a new key that is put is there beside the others
put_beside : (v : Val) (vals : List Val) → has_key v.key vals ≡ false → IsPermutation (v ∷ vals) (put_val v vals)
put_beside v [] h = IsPermutation-refl (v ∷ [])
put_beside v (w ∷ vals) h = by (bytes_cmp v.key w.key) refl (put_beside v vals (rest (bytes_eq w.key v.key) h))
  where
    rest : (b : Bool) → (b || has_key v.key vals) ≡ false → has_key v.key vals ≡ false
    rest true g = absurd (true≢false g)
    rest false g = g

    by : (o : Ordering) → bytes_cmp v.key w.key ≡ o → IsPermutation (v ∷ vals) (put_val v vals) → IsPermutation (v ∷ w ∷ vals) (by_order o (v ∷ w ∷ vals) (v ∷ vals) (w ∷ put_val v vals))
    by Less e more = IsPermutation-refl (v ∷ w ∷ vals)
    by Equal e more = absurd (true≢false (sym (ap (λ b. b || has_key v.key vals) (equal_key w.key v.key (sym (bytes_exact v.key w.key e)))) ∙ h))
    by Greater e more =
        IsPermutation-trans (v ∷ w ∷ vals) (w ∷ v ∷ vals) (w ∷ put_val v vals) (IsPermutation-sym (w ∷ v ∷ vals) (v ∷ w ∷ vals) (IsPermutation-middle (w ∷ []) v vals)) (IsPermutation-cons w (v ∷ vals) (put_val v vals) more)

-- what putting all of them makes: a value stands twice, or they stand in order
abbrev IsTwice : List Val → Type 0
IsTwice vals = (k : List ℕ) × (2 ≤ hits k vals)

abbrev InOrder : List Val → Result (List Val) Refusal → Type 0
InOrder vals r = (all : List Val) × (r ≡ Ok all) × Rises val_key all × IsPermutation vals all

pub put_outcome : (before vals : List Val) → Rises val_key before → ((put_all before vals ≡ Err ListedTwice) × IsTwice (before ++ vals)) ⊎ InOrder (before ++ vals) (put_all before vals)
put_outcome before [] r = inr (before, refl, r, subst (λ (l : List Val). IsPermutation l before) (sym (append-nil before)) (IsPermutation-refl before))
put_outcome before (v ∷ vals) r = by (has_key v.key before) refl (put_outcome (put_val v before) vals (put_rises val_key v before r))
  where
    moved : has_key v.key before ≡ false → IsPermutation (before ++ v ∷ vals) (put_val v before ++ vals)
    moved e =
        IsPermutation-trans (before ++ v ∷ vals) (v ∷ (before ++ vals)) (put_val v before ++ vals) (IsPermutation-middle before v vals) (IsPermutation-append_left vals (v ∷ before) (put_val v before) (put_beside v before e))

    later : has_key v.key before ≡ false → ((put_all (put_val v before) vals ≡ Err ListedTwice) × IsTwice (put_val v before ++ vals)) ⊎ InOrder (put_val v before ++ vals) (put_all (put_val v before) vals)
        → ((put_all (put_val v before) vals ≡ Err ListedTwice) × IsTwice (before ++ v ∷ vals)) ⊎ InOrder (before ++ v ∷ vals) (put_all (put_val v before) vals)
    later e (inl t) = inl (t.0, (t.1.0, subst (λ (n : ℕ). 2 ≤ n) (sum_by-IsPermutation (is_hit t.1.0) (before ++ v ∷ vals) (put_val v before ++ vals) (moved e)) t.1.1))
    later e (inr t) = inr (t.0, t.1, t.2, IsPermutation-trans (before ++ v ∷ vals) (put_val v before ++ vals) t.0 (moved e) t.3)

    twice : has_key v.key before ≡ true → IsTwice (before ++ v ∷ vals)
    twice e = (v.key, (let one = held_hits v.key before e in let more = hits_itself v vals in omega (arith, sum_by-append (is_hit v.key) before (v ∷ vals))))

    by : (b : Bool) → has_key v.key before ≡ b → ((put_all (put_val v before) vals ≡ Err ListedTwice) × IsTwice (put_val v before ++ vals)) ⊎ InOrder (put_val v before ++ vals) (put_all (put_val v before) vals)
        → (((refuse_if b ListedTwice >>= λ _. Ok (put_val v before)) >>= λ next. put_all next vals) ≡ Err ListedTwice) × IsTwice (before ++ v ∷ vals) ⊎ InOrder (before ++ v ∷ vals) ((refuse_if b ListedTwice >>= λ _. Ok (put_val v before)) >>= λ next. put_all next vals)
    by true e more = inl (refl, twice e)
    by false e more = later e more

-- ---- one order of values that rise

abbrev IsIn : Val → List Val → Type 0
IsIn z [] = ⊥
IsIn z (v ∷ vals) = (z ≡ v) ⊎ IsIn z vals

not_itself : (v : Val) → val_cmp v v ≡ Less → ⊥
not_itself v h = let f : Equal ≡ Less = sym (tied_itself bytes_total v.key) ∙ h in cc

is_above : (v w : Val) (vals : List Val) → AllByRecursion (λ (y : Val). val_cmp v y ≡ Less) vals → IsIn w vals → val_cmp v w ≡ Less
is_above v w [] h i = elim i [ ]
is_above v w (x ∷ vals) h (inl e) = subst (λ (y : Val). val_cmp v y ≡ Less) (sym e) h.0
is_above v w (x ∷ vals) h (inr i) = is_above v w vals h.1 i

not_both_above : (v w : Val) → val_cmp v w ≡ Less → val_cmp w v ≡ Less → ⊥
not_both_above v w h g = let f : Greater ≡ Less = sym (above v.key w.key h) ∙ g in cc

same_first : (v w : Val) (vals ws : List Val) → Rises val_key (v ∷ vals) → Rises val_key (w ∷ ws) → IsIn w (v ∷ vals) → IsIn v (w ∷ ws) → w ≡ v
same_first v w vals ws r q (inl e) j = e
same_first v w vals ws r q (inr i) (inl e) = sym e
same_first v w vals ws r q (inr i) (inr j) = absurd (not_both_above v w (is_above v w vals r.0 i) (is_above w v ws q.0 j))

-- all but the first are among the others
others : (v : Val) (vals ws : List Val) → AllByRecursion (λ (y : Val). val_cmp v y ≡ Less) ws → AllByRecursion (λ (z : Val). IsIn z (v ∷ vals)) ws → AllByRecursion (λ (z : Val). IsIn z vals) ws
others v vals [] h i = tt
others v vals (w ∷ ws) h i = (by i.0, others v vals ws h.1 i.1)
  where
    by : IsIn w (v ∷ vals) → IsIn w vals
    by (inl e) = absurd (not_itself v (subst (λ (y : Val). val_cmp v y ≡ Less) e h.0))
    by (inr j) = j

one_order : (vals ws : List Val) → Rises val_key vals → Rises val_key ws → AllByRecursion (λ (z : Val). IsIn z vals) ws → AllByRecursion (λ (z : Val). IsIn z ws) vals → ws ≡ vals
one_order [] [] r q i j = refl
one_order [] (w ∷ ws) r q i j = elim i.0 [ ]
one_order (v ∷ vals) [] r q i j = elim j.0 [ ]
one_order (v ∷ vals) (w ∷ ws) r q i j =
    let e : w ≡ v = same_first v w vals ws r q i.0 j.0 in
    let above_v = subst (λ (y : Val). AllByRecursion (λ (z : Val). val_cmp y z ≡ Less) ws) e q.0 in
    let into = subst (λ (y : Val). AllByRecursion (λ (z : Val). IsIn z (y ∷ ws)) vals) e j.1 in
    let rest : ws ≡ vals = one_order vals ws r.1 q.1 (others v vals ws above_v i.1) (others v ws vals r.0 into) in
    (λ t. e t ∷ rest t)

in_itself : (vals more : List Val) → ((z : Val) → IsIn z vals → IsIn z more) → AllByRecursion (λ (z : Val). IsIn z more) vals
in_itself [] more f = tt
in_itself (v ∷ vals) more f = (f v (inl refl), in_itself vals more (λ z i. f z (inr i)))

moved_in : (vals ws : List Val) → IsPermutation vals ws → AllByRecursion (λ (z : Val). IsIn z vals) ws
moved_in vals ws p =
    recursion_from_All (λ (z : Val). IsIn z vals) ws (All-permutation (λ (z : Val). IsIn z vals) vals ws p (All-from_recursion (λ (z : Val). IsIn z vals) vals (in_itself vals vals (λ z i. i))))

same_order : (vals ws : List Val) → Rises val_key vals → Rises val_key ws → IsPermutation vals ws → ws ≡ vals
same_order vals ws r q p = one_order vals ws r q (moved_in vals ws p) (moved_in ws vals (IsPermutation-sym vals ws p))

-- ---- what neighbours say

abbrev is_next : Val → Val → Bool
is_next a b = is_lt (val_cmp a b)

was_less : (o : Ordering) → true ≡ is_lt o → o ≡ Less
was_less Less e = refl
was_less Equal e = absurd (true≢false e)
was_less Greater e = absurd (true≢false e)

below_all : (v w : Val) (vals : List Val) → val_cmp v w ≡ Less → AllByRecursion (λ (y : Val). val_cmp w y ≡ Less) vals → AllByRecursion (λ (y : Val). val_cmp v y ≡ Less) vals
below_all v w [] h g = tt
below_all v w (x ∷ vals) h g = (bytes_total.trans v.key w.key x.key h g.0, below_all v w vals h g.1)

pub all_rise : (vals : List Val) → ((k : ℕ) (d : Val) → k + 1 < length vals → true ≡ is_next (get_or vals k d) (get_or vals (k + 1) d)) → Rises val_key vals
all_rise [] h = tt
all_rise (v ∷ []) h = (tt, tt)
all_rise (v ∷ w ∷ vals) h =
    let first : val_cmp v w ≡ Less = was_less (val_cmp v w) (h 0 v (omega arith)) in
    let rest = all_rise (w ∷ vals) (λ k d l. rw add-one (rw add-one at (h (suc k) d (omega arith)))) in
    ((first, below_all v w vals first rest.0), rest)

tied : (a b : Val) → is_next a b ≡ false → is_next b a ≡ false → b.key ≡ a.key
tied a b h g =
    split (bytes_cmp b.key a.key)
    (λ e. absurd (true≢false (sym (ap is_lt e) ∙ g)))
    (λ e. bytes_exact b.key a.key e)
    (λ e. absurd (true≢false (sym (ap is_lt (bytes_total.antisymm a.key b.key ∙ ap ordering_reverse e)) ∙ h)))

pub stands_twice : (vals : List Val) (k : ℕ) → k + 1 < length vals → ((d : Val) → is_next (get_or vals k d) (get_or vals (k + 1) d) ≡ false) → ((d : Val) → is_next (get_or vals (k + 1) d) (get_or vals k d) ≡ false) → IsTwice vals
stands_twice [] k l h g = absurd (omega arith)
stands_twice (v ∷ []) k l h g = absurd (omega arith)
stands_twice (v ∷ w ∷ vals) zero l h g =
    let one = hit v.key v true (equal_key v.key v.key refl) in
    let two = hit v.key w true (equal_key w.key v.key (tied v w (h v) (g v))) in
    (v.key, omega (arith, sum_by-cons (is_hit v.key) v (w ∷ vals), sum_by-cons (is_hit v.key) w vals))
stands_twice (v ∷ w ∷ vals) (suc k) l h g =
    let rest = stands_twice (w ∷ vals) k (omega arith) (λ d. rw add-one (rw add-one at (h d))) (λ d. rw add-one (rw add-one at (g d))) in
    (rest.0, (let more = hits_more rest.0 v (w ∷ vals) in omega (arith, rest.1)))

-- ---- both ways

never : (vals ws : List Val) → IsPermutation vals ws → IsTwice vals → Rises val_key ws → ⊥
never vals ws p t r =
    let few = once t.0 ws r in
    let same = sum_by-IsPermutation (is_hit t.0) vals ws p in
    absurd (omega (arith, t.1))

both_ways : (vals ws : List Val) (why : Option Refusal) (rising : Bool) → IsPermutation vals ws → (rising ≡ true → Rises val_key ws) → (rising ≡ false → IsTwice ws)
    → whole [] (vals, why) ≡ in_turn rising why ws
unfolding in_turn
both_ways vals ws why rising p up down = by (put_outcome [] vals tt) rising up down
  where
    by : ((put_all [] vals ≡ Err ListedTwice) × IsTwice vals) ⊎ InOrder vals (put_all [] vals) → (b : Bool) → (b ≡ true → Rises val_key ws) → (b ≡ false → IsTwice ws)
        → (put_all [] vals >>= λ all. stopped why >>= λ _. Ok all) ≡ (refuse_if (not b) ListedTwice >>= λ _. stopped why >>= λ _. Ok ws)
    by (inl t) true up down = absurd (never vals ws p t.1 (up refl))
    by (inl t) false up down = ap (λ (r : Result (List Val) Refusal). r >>= λ all. stopped why >>= λ _. Ok all) t.0
    by (inr t) true up down =
        ap (λ (r : Result (List Val) Refusal). r >>= λ all. stopped why >>= λ _. Ok all) t.1
        ∙ ap (λ (all : List Val). stopped why >>= λ _. Ok all) (same_order ws t.0 (up refl) t.2 (IsPermutation-trans ws vals t.0 (IsPermutation-sym vals ws p) t.3))
    by (inr t) false up down = absurd (never ws t.0 (IsPermutation-trans ws vals t.0 (IsPermutation-sym vals ws p) t.3) (down refl) t.2)

-- from what the sort and the look at neighbours say
pub when_rising : (ws : List Val) (rising : Bool) → IsAllAdjacentAnswer (λ (a : Val) (b : Val) t. t ≡ is_next a b) ws rising → rising ≡ true → Rises val_key ws
when_rising ws true h e = all_rise ws h
when_rising ws false h e = absurd (true≢false (sym e))

when_not : (ws : List Val) (rising : Bool) → IsSorted val_cmp ws → IsAllAdjacentAnswer (λ (a : Val) (b : Val) t. t ≡ is_next a b) ws rising → rising ≡ false → IsTwice ws
when_not ws true s h e = absurd (true≢false e)
when_not ws false s h e = stands_twice ws h.0 h.1 (λ d. sym (h.2 d)) (λ d. s h.0 d (omega arith) h.1)

pub sorted_at_once : (attr : AttrKey) (given : List (List ℕ)) (vals ws : List Val) (why : Option Refusal) (rising : Bool) → (vals, why) ≡ read_all attr given → IsPermutation vals ws → IsSorted val_cmp ws
    → IsAllAdjacentAnswer (λ (a : Val) (b : Val) t. t ≡ is_next a b) ws rising → values_beside attr [] given ≡ in_turn rising why ws
sorted_at_once attr given vals ws why rising read p s h =
    read_apart attr [] given ∙ ap (whole []) (sym read) ∙ both_ways vals ws why rising p (when_rising ws rising h) (when_not ws rising s h)

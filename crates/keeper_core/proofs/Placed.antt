-- A row put in, or taken from, the place that a search by halves finds.
use Rattle.std.proofs.Common.{◌≡◌, ℕ, ◌<◌, ◌≤◌, zero, suc, Bool, true, false, List, [], ◌∷◌, refl, sym, ap, subst, ◌∙◌, arith, get_or, set, length, not, filter, cond, inl, inr}
use Rattle.std.specs.List.{insert, remove, AllByRecursion, AllWithin, HoldsAt}
use Rattle.std.specs.Bool.{IsTrue}
use Rattle.std.proofs.lemmas.List.{get_or_default}
use Rattle.std.specs.List.Sorted.{IsPartitionedBy}
use Rattle.std.proofs.lemmas.Bool.{cases_Bool}
use Rattle.std.specs.declared.cmp.Ordering.{Ordering}
use Rattle.std.specs.declared.cmp.Ordering.TheVariants.{Less, Equal, Greater}
use Rattle.std.specs.Ordering.{is_lt, is_eq}
use Rattle.repl_data.specs.Order.{put_by, by_order}
use Rattle.repl_data.proofs.InOrder.{Rises, put-Rises}
use Rattle.keeper_core.specs.declared.row.RowKey.{RowKey}
use Rattle.keeper_core.specs.declared.row.Row.{Row}
use Rattle.keeper_core.specs.Rows.{key_cmp, key_eq, IsRising}
use Rattle.keeper_core.proofs.Keys.{key_total, equal_is, same_key, below_is, above_is}

abbrev pub key_of : Row → RowKey
key_of r = r.key

abbrev pub put : Row → List Row → List Row
put = put_by (λ (r : Row). r.key) key_cmp

abbrev pub without : RowKey → List Row → List Row
without key rows = filter (λ (r : Row). not (key_eq key r.key)) rows

abbrev pub IsBelow : RowKey → Row → Type 0
IsBelow key r = is_lt (key_cmp r.key key) ≡ true

abbrev pub IsNotBelow : RowKey → Row → Type 0
IsNotBelow key r = is_lt (key_cmp r.key key) ≡ false

tail_below : (P : Row → Type 0) (y : Row) (ys : List Row) (i : ℕ) → AllWithin P (y ∷ ys) 0 (suc i) → AllWithin P ys 0 i
tail_below P y ys i f = λ k d l h. f (suc k) d (omega arith) (omega arith)

tail_above : (P : Row → Type 0) (y : Row) (ys : List Row) (i : ℕ) → AllWithin P (y ∷ ys) (suc i) (length (y ∷ ys)) → AllWithin P ys i (length ys)
tail_above P y ys i f = λ k d l h. f (suc k) d (omega arith) (omega arith)

-- a row in a place of its own
pub put-insert : (rows : List Row) (x : Row) (i : ℕ) → i ≤ length rows → AllWithin (IsBelow x.key) rows 0 i → AllWithin (IsNotBelow x.key) rows i (length rows)
    → ((d : Row) → i < length rows → key_eq x.key (get_or rows i d).key ≡ false) → insert rows i x ≡ put x rows
put-insert [] x zero w b a n = refl
put-insert [] x (suc i) w b a n = absurd (omega arith)
put-insert (y ∷ ys) x zero w b a n =
    sym (ap (λ o. by_order o (x ∷ y ∷ ys) (x ∷ ys) (y ∷ put x ys)) (above_is y.key x.key (a zero y (omega arith) (omega arith)) (n y (omega arith))))
put-insert (y ∷ ys) x (suc i) w b a n =
    ap (λ zs. y ∷ zs) (put-insert ys x i (omega arith) (tail_below (IsBelow x.key) y ys i b) (tail_above (IsNotBelow x.key) y ys i a) (λ d l. n d (omega arith)))
    ∙ sym (ap (λ o. by_order o (x ∷ y ∷ ys) (x ∷ ys) (y ∷ put x ys)) (below_is y.key x.key (b zero y (omega arith) (omega arith))))

-- a row in the place of the row of its key
pub put-set : (rows : List Row) (x : Row) (i : ℕ) → i < length rows → AllWithin (IsBelow x.key) rows 0 i
    → ((d : Row) → key_eq x.key (get_or rows i d).key ≡ true) → set rows i x ≡ put x rows
put-set [] x i w b n = absurd (omega arith)
put-set (y ∷ ys) x zero w b n =
    sym (ap (λ o. by_order o (x ∷ y ∷ ys) (x ∷ ys) (y ∷ put x ys)) (equal_is x.key y.key (n y)))
put-set (y ∷ ys) x (suc i) w b n =
    ap (λ zs. y ∷ zs) (put-set ys x i (omega arith) (tail_below (IsBelow x.key) y ys i b) (λ d. n d))
    ∙ sym (ap (λ o. by_order o (x ∷ y ∷ ys) (x ∷ ys) (y ∷ put x ys)) (below_is y.key x.key (b zero y (omega arith) (omega arith))))

keeps : (key : RowKey) (y : Row) (ys : List Row) → key_eq key y.key ≡ false → without key (y ∷ ys) ≡ y ∷ without key ys
keeps key y ys e = ap (λ b. cond (not b) (y ∷ without key ys) (without key ys)) e

drops : (key : RowKey) (y : Row) (ys : List Row) → key_eq key y.key ≡ true → without key (y ∷ ys) ≡ without key ys
drops key y ys e = ap (λ b. cond (not b) (y ∷ without key ys) (without key ys)) e

-- a key below all of the rows is none of theirs
without-above : (key : RowKey) (rows : List Row) → AllByRecursion (λ (s : Row). key_cmp key s.key ≡ Less) rows → without key rows ≡ rows
without-above key [] h = refl
without-above key (y ∷ ys) h = keeps key y ys (ap is_eq h.0) ∙ ap (λ zs. y ∷ zs) (without-above key ys h.1)

pub below_all : (a b : RowKey) (rows : List Row) → key_cmp a b ≡ Less → AllByRecursion (λ (s : Row). key_cmp b s.key ≡ Less) rows → AllByRecursion (λ (s : Row). key_cmp a s.key ≡ Less) rows
below_all a b [] h g = tt
below_all a b (y ∷ ys) h g = (key_total.trans a b y.key h g.0, below_all a b ys h g.1)

-- the row of a key taken away
pub remove-without : (rows : List Row) (key : RowKey) (i : ℕ) → IsRising rows → i < length rows → AllWithin (IsBelow key) rows 0 i
    → ((d : Row) → key_eq key (get_or rows i d).key ≡ true) → remove rows i ≡ without key rows
remove-without [] key i r w b n = absurd (omega arith)
remove-without (y ∷ ys) key zero r w b n =
    let e : key ≡ y.key = same_key key y.key (n y) in
    sym (drops key y ys (n y) ∙ without-above key ys (subst (λ k. AllByRecursion (λ (s : Row). key_cmp k s.key ≡ Less) ys) (sym e) r.0))
remove-without (y ∷ ys) key (suc i) r w b n =
    ap (λ zs. y ∷ zs) (remove-without ys key i r.1 (omega arith) (tail_below (IsBelow key) y ys i b) (λ d. n d))
    ∙ sym (keeps key y ys (ap is_eq (below_is y.key key (b zero y (omega arith) (omega arith)))))

-- a key that is not there
pub without-none : (rows : List Row) (key : RowKey) (i : ℕ) → IsRising rows → i ≤ length rows → AllWithin (IsBelow key) rows 0 i → AllWithin (IsNotBelow key) rows i (length rows)
    → ((d : Row) → i < length rows → key_eq key (get_or rows i d).key ≡ false) → rows ≡ without key rows
without-none [] key i r w b a n = refl
without-none (y ∷ ys) key zero r w b a n =
    let e : key_cmp key y.key ≡ Less = above_is y.key key (a zero y (omega arith) (omega arith)) (n y (omega arith)) in
    sym (without-above key (y ∷ ys) (e, below_all key y.key ys e r.0))
without-none (y ∷ ys) key (suc i) r w b a n =
    ap (λ zs. y ∷ zs) (without-none ys key i r.1 (omega arith) (tail_below (IsBelow key) y ys i b) (tail_above (IsNotBelow key) y ys i a) (λ d l. n d (omega arith)))
    ∙ sym (keeps key y ys (ap is_eq (below_is y.key key (b zero y (omega arith) (omega arith)))))

-- rising rows stay so
to_rises : (rows : List Row) → IsRising rows → Rises key_cmp key_total key_of rows
to_rises [] h = tt
to_rises (y ∷ ys) h = (h.0, to_rises ys h.1)

from_rises : (rows : List Row) → Rises key_cmp key_total key_of rows → IsRising rows
from_rises [] h = tt
from_rises (y ∷ ys) h = (h.0, from_rises ys h.1)

pub IsRising-put : (x : Row) (rows : List Row) → IsRising rows → IsRising (put x rows)
IsRising-put x rows h = from_rises (put x rows) (put-Rises key_cmp key_total key_of x rows (to_rises rows h))

All-without : (P : Row → Type 0) (key : RowKey) (rows : List Row) → AllByRecursion P rows → AllByRecursion P (without key rows)
All-without P key [] h = tt
All-without P key (y ∷ ys) h = by (not (key_eq key y.key)) (All-without P key ys h.1)
  where
    by : (b : Bool) → AllByRecursion P (without key ys) → AllByRecursion P (cond b (y ∷ without key ys) (without key ys))
    by true g = (h.0, g)
    by false g = g

pub IsRising-without : (key : RowKey) (rows : List Row) → IsRising rows → IsRising (without key rows)
IsRising-without key [] h = tt
IsRising-without key (y ∷ ys) h = by (not (key_eq key y.key)) (IsRising-without key ys h.1)
  where
    by : (b : Bool) → IsRising (without key ys) → IsRising (cond b (y ∷ without key ys) (without key ys))
    by true g = (All-without (λ (s : Row). key_cmp y.key s.key ≡ Less) key ys h.0, g)
    by false g = g

-- the rows below a key come first
all_at : (P : Row → Type 0) (rows : List Row) (j : ℕ) (d : Row) → AllByRecursion P rows → j < length rows → P (get_or rows j d)
all_at P [] j d h l = absurd (omega arith)
all_at P (y ∷ ys) zero d h l = h.0
all_at P (y ∷ ys) (suc j) d h l = all_at P ys j d h.1 (omega arith)

pub IsRising-parted : (rows : List Row) (key : RowKey) → IsRising rows → IsPartitionedBy (λ (r : Row). is_lt (key_cmp r.key key)) rows
IsRising-parted [] key r i j d w l h = absurd (omega arith)
IsRising-parted (y ∷ ys) key r zero zero d w l h = h
IsRising-parted (y ∷ ys) key r zero (suc j) d w l h =
    let up : key_cmp y.key (get_or ys j d).key ≡ Less = all_at (λ (s : Row). key_cmp y.key s.key ≡ Less) ys j d r.0 (omega arith) in
    ap is_lt (key_total.trans y.key (get_or ys j d).key key up (lt_is _ h))
  where
    lt_is : (o : Ordering) → is_lt o ≡ true → o ≡ Less
    lt_is Less e = refl
    lt_is Equal e = absurd cc
    lt_is Greater e = absurd cc
IsRising-parted (y ∷ ys) key r (suc i) zero d w l h = absurd (omega arith)
IsRising-parted (y ∷ ys) key r (suc i) (suc j) d w l h = IsRising-parted ys key r.1 i j d (omega arith) (omega arith) h

-- the row at a place has the key
abbrev pub StandsAt : RowKey → List Row → ℕ → Type 0
StandsAt key rows i = (i < length rows) × HoldsAt (λ (r : Row). key_eq key r.key ≡ true) rows i

other_at : (key : RowKey) (rows : List Row) (i : ℕ) → (StandsAt key rows i → IsTrue false) → (d : Row) → i < length rows → key_eq key (get_or rows i d).key ≡ false
other_at key rows i none d l =
    elim (cases_Bool (key_eq key (get_or rows i d).key)) [
      | inl t ↦
          (let z : false ≡ true = none (l, λ e. subst (λ (r : Row). key_eq key r.key ≡ true) (get_or_default rows i d e l) t) in
          absurd cc)
      | inr f ↦ f
    ]

-- the four outcomes of a search, where the lists that were looked through are the rows
pub replaced : (rows seen seen' : List Row) (x : Row) (i : ℕ) → seen ≡ rows → seen' ≡ rows → AllWithin (IsBelow x.key) seen 0 i → StandsAt x.key seen' i → set rows i x ≡ put x rows
replaced rows seen seen' x i p q b s =
    let s' = subst (λ xs. StandsAt x.key xs i) q s in
    put-set rows x i s'.0 (subst (λ xs. AllWithin (IsBelow x.key) xs 0 i) p b) s'.1

pub inserted : (rows seen seen' : List Row) (x : Row) (i : ℕ) → seen ≡ rows → seen' ≡ rows → i ≤ length seen → AllWithin (IsBelow x.key) seen 0 i → AllWithin (IsNotBelow x.key) seen i (length seen)
    → (StandsAt x.key seen' i → IsTrue false) → insert rows i x ≡ put x rows
inserted rows seen seen' x i p q w b a none =
    put-insert rows x i (subst (λ xs. i ≤ length xs) p w) (subst (λ xs. AllWithin (IsBelow x.key) xs 0 i) p b)
    (subst (λ xs. AllWithin (IsNotBelow x.key) xs i (length xs)) p a) (other_at x.key rows i (subst (λ xs. StandsAt x.key xs i → IsTrue false) q none))

pub taken : (rows seen seen' : List Row) (key : RowKey) (i : ℕ) → seen ≡ rows → seen' ≡ rows → IsRising rows → AllWithin (IsBelow key) seen 0 i → StandsAt key seen' i → remove rows i ≡ without key rows
taken rows seen seen' key i p q r b s =
    let s' = subst (λ xs. StandsAt key xs i) q s in
    remove-without rows key i r s'.0 (subst (λ xs. AllWithin (IsBelow key) xs 0 i) p b) s'.1

pub untouched : (rows seen seen' : List Row) (key : RowKey) (i : ℕ) → seen ≡ rows → seen' ≡ rows → IsRising rows → i ≤ length seen → AllWithin (IsBelow key) seen 0 i → AllWithin (IsNotBelow key) seen i (length seen)
    → (StandsAt key seen' i → IsTrue false) → rows ≡ without key rows
untouched rows seen seen' key i p q r w b a none =
    without-none rows key i r (subst (λ xs. i ≤ length xs) p w) (subst (λ xs. AllWithin (IsBelow key) xs 0 i) p b)
    (subst (λ xs. AllWithin (IsNotBelow key) xs i (length xs)) p a) (other_at key rows i (subst (λ xs. StandsAt key xs i → IsTrue false) q none))

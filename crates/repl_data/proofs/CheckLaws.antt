-- The first place at which a list of tests passes, of lists that are made of others, and what a weight bounds.
use Rattle.std.proofs.Common.{◌≡◌, ℕ, suc, ◌+◌, ◌*◌, ◌^◌, ◌<◌, ◌≤◌, List, [], ◌∷◌, ◌++◌, length, drop, get_or, min, refl, sym, ap, subst, ◌∙◌, arith}
use Rattle.std.specs.Prelude.{Bool, true, false, cond, not, ◌||◌, ◌==◌, map, Option, Some, None, IfSome, is_none, sum_by, if◌then◌else◌}
use Rattle.std.specs.List.{position_from, list_any}
use Rattle.repl_data.specs.declared.change.Attr.{Attr}
use Rattle.repl_data.specs.declared.change.Ava.{Ava}
use Rattle.std.proofs.Math.Seq.{drop-cons}
use Rattle.std.specs.Ordering.{is_lt}
use Rattle.repl_data.specs.declared.change.Rdn.{Rdn}
use Rattle.repl_data.specs.declared.change.Change.{Change}
use Rattle.repl_data.specs.declared.change.Mod.{Mod}
use Rattle.repl_data.specs.declared.csn.Uid.{Uid}
use Rattle.repl_data.specs.declared.change.Body.TheVariants.{Add, Ren}
use Rattle.repl_data.specs.declared.change.Malformed.{Malformed}
use Rattle.repl_data.specs.declared.change.Malformed.TheVariants.{TooHeavy}
use Rattle.std.proofs.lemmas.Bool.{ltb-false}
use Rattle.repl_data.proofs.Sound.{no_faults, no_fault, not_both}
use Rattle.repl_data.specs.Order.{bytes_cmp}
use Rattle.repl_data.specs.Places.{first_of, earlier_of}
use Rattle.std.proofs.lemmas.List.Sums.{sum_by-cons}
use Rattle.repl_data.specs.Check.{weight, adds_nothing, either_fault, first_fault, faults_of_frame, falls, falls_after, parts_of, is_empty, either_place, part_weight, attr_weight, val_weight}

-- tests of items
pub position_from-map : {X : Type 0} (p : X → Bool) (k : ℕ) (xs : List X) → position_from (λ b. b) k (map p xs) ≡ position_from p k xs
position_from-map p k [] = refl
position_from-map p k (x ∷ xs) = ap (λ o. cond (p x) (Some k) o) (position_from-map p (k + 1) xs)

shifted : {X : Type 0} (p : X → Bool) (n k : ℕ) (xs : List X) → position_from p (n + k) xs ≡ first_of None n (position_from p k xs)
shifted p n k [] = refl
shifted {X} p n k (x ∷ xs) = by (p x) (shifted p n (k + 1) xs)
  where
    by : (b : Bool) → position_from p (n + (k + 1)) xs ≡ first_of None n (position_from p (k + 1) xs) → cond b (Some (n + k)) (position_from p (n + k + 1) xs) ≡ first_of None n (cond b (Some k) (position_from p (k + 1) xs))
    by true h = refl
    by false h = let e : n + k + 1 ≡ n + (k + 1) = omega arith in ap (λ m. position_from p m xs) e ∙ h

or_else : Option ℕ → Option ℕ → Option ℕ
or_else (Some k) o = Some k
or_else None o = o

along : {X : Type 0} (p : X → Bool) (k : ℕ) (xs ys : List X) → position_from p k (xs ++ ys) ≡ or_else (position_from p k xs) (position_from p (k + length xs) ys)
unfolding or_else
along p k [] ys = let e : k ≡ k + 0 = omega arith in ap (λ m. position_from p m ys) e
along {X} p k (x ∷ xs) ys = by (p x) (along p (k + 1) xs ys)
  where
    by : (b : Bool) → position_from p (k + 1) (xs ++ ys) ≡ or_else (position_from p (k + 1) xs) (position_from p (k + 1 + length xs) ys)
        → cond b (Some k) (position_from p (k + 1) (xs ++ ys)) ≡ or_else (cond b (Some k) (position_from p (k + 1) xs)) (position_from p (k + suc (length xs)) ys)
    by true h = refl
    by false h = let e : k + 1 + length xs ≡ k + suc (length xs) = omega arith in h ∙ ap (λ m. or_else (position_from p (k + 1) xs) (position_from p m ys)) e

or_first : (o : Option ℕ) (n : ℕ) (o' : Option ℕ) → or_else o (first_of None n o') ≡ first_of o n o'
unfolding or_else
or_first (Some k) n o' = refl
or_first None n o' = refl

pub position_from-append : {X : Type 0} (p : X → Bool) (xs ys : List X) → position_from p 0 (xs ++ ys) ≡ first_of (position_from p 0 xs) (length xs) (position_from p 0 ys)
position_from-append p xs ys =
    let e : 0 + length xs ≡ length xs + 0 = omega arith in
    along p 0 xs ys ∙ ap (λ m. or_else (position_from p 0 xs) (position_from p m ys)) e
    ∙ ap (or_else (position_from p 0 xs)) (shifted p (length xs) 0 ys) ∙ or_first (position_from p 0 xs) (length xs) (position_from p 0 ys)

-- a place lies within the list, and not before its start
pub position_from-within : {X : Type 0} (p : X → Bool) (k : ℕ) (xs : List X) → IfSome (position_from p k xs) (λ j. (k ≤ j) × (j < k + length xs))
position_from-within p k [] = tt
position_from-within {X} p k (x ∷ xs) = by (p x) (position_from p (k + 1) xs) (position_from-within p (k + 1) xs)
  where
    by : (b : Bool) (o : Option ℕ) → IfSome o (λ j. (k + 1 ≤ j) × (j < k + 1 + length xs)) → IfSome (cond b (Some k) o) (λ j. (k ≤ j) × (j < k + suc (length xs)))
    by true o h = (omega arith, omega arith)
    by false None h = tt
    by false (Some j) h = (omega arith, omega arith)

-- the earlier place
pub position_from-either : (k : ℕ) (as_ bs : List Bool) → position_from (λ b. b) k (either_place as_ bs) ≡ earlier_of (position_from (λ b. b) k as_) (position_from (λ b. b) k bs)
position_from-either k [] bs = refl
position_from-either k (a ∷ as_) [] = right (position_from (λ b. b) k (a ∷ as_))
  where
    right : (o : Option ℕ) → o ≡ earlier_of o None
    right (Some i) = refl
    right None = refl
position_from-either k (a ∷ as_) (b ∷ bs) =
    by a b (position_from (λ b. b) (k + 1) as_) (position_from (λ b. b) (k + 1) bs) (position_from-within (λ b. b) (k + 1) as_) (position_from-within (λ b. b) (k + 1) bs) (position_from-either (k + 1) as_ bs)
  where
    by : (a b : Bool) (o q : Option ℕ) → IfSome o (λ j. (k + 1 ≤ j) × (j < k + 1 + length as_)) → IfSome q (λ j. (k + 1 ≤ j) × (j < k + 1 + length bs))
        → position_from (λ b. b) (k + 1) (either_place as_ bs) ≡ earlier_of o q
        → cond (a || b) (Some k) (position_from (λ b. b) (k + 1) (either_place as_ bs)) ≡ earlier_of (cond a (Some k) o) (cond b (Some k) q)
    by true true o q h g e = let m : k ≡ min k k = omega arith in ap Some m
    by true false o None h g e = refl
    by true false o (Some j) h g e = let m : k ≡ min k j = omega arith in ap Some m
    by false true None q h g e = refl
    by false true (Some i) q h g e = let m : k ≡ min i k = omega arith in ap Some m
    by false false o q h g e = e

-- whether there is a place
pub any-position : (k : ℕ) (bs : List Bool) → is_none (position_from (λ b. b) k bs) ≡ not (list_any (λ b. b) bs)
any-position k [] = refl
any-position k (b ∷ bs) = by b (any-position (k + 1) bs)
  where
    by : (b : Bool) → is_none (position_from (λ b. b) (k + 1) bs) ≡ not (list_any (λ b. b) bs) → is_none (cond b (Some k) (position_from (λ b. b) (k + 1) bs)) ≡ not (b || list_any (λ b. b) bs)
    by true h = refl
    by false h = h

-- what is weighed is counted
pub parts_weighed : (parts : List Ava) → length parts ≤ sum_by part_weight parts
parts_weighed [] = omega arith
parts_weighed (a ∷ parts) =
    let h = parts_weighed parts in
    let e = sum_by-cons part_weight a parts in
    let w : part_weight a ≡ 32 + 4 * (length a.attr.name + length a.val.spelled) = refl in
    omega (arith, h, e, w)

pub attrs_weighed : (attrs : List Attr) → length attrs ≤ sum_by (λ (a : Attr). attr_weight a.attr a.vals) attrs
attrs_weighed [] = omega arith
attrs_weighed (a ∷ attrs) =
    let h = attrs_weighed attrs in
    let e : sum_by (λ (b : Attr). attr_weight b.attr b.vals) (a ∷ attrs) ≡ attr_weight a.attr a.vals + sum_by (λ (b : Attr). attr_weight b.attr b.vals) attrs =
    sum_by-cons (λ (b : Attr). attr_weight b.attr b.vals) a attrs in
    let w : attr_weight a.attr a.vals ≡ 32 + length a.attr.name + sum_by val_weight a.vals = refl in
    omega (arith, h, e, w)

-- ---- items in order of key

module _ {X : Type 0} (key : X → List ℕ) (k : ℕ) (b : X) (xs : List X) (i : ℕ) (x : X) (lt : i < length xs) (is : x ≡ get_or xs i x) where
  rest_at : drop i xs ≡ x ∷ drop (i + 1) xs
  rest_at =
      let e : suc i ≡ i + 1 = omega arith in
      drop-cons xs i x lt ∙ ap (λ y. y ∷ drop (suc i) xs) (sym is) ∙ ap (λ j. x ∷ drop j xs) e

  falls_at : position_from (λ b. b) k (falls_after key b (drop i xs)) ≡ cond (not (is_lt (bytes_cmp (key b) (key x)))) (Some k) (position_from (λ b. b) (k + 1) (falls_after key x (drop (i + 1) xs)))
  falls_at = ap (λ ys. position_from (λ b. b) k (falls_after key b ys)) rest_at

  module _ (u v : List ℕ) (r : Bool) (p : u ≡ key b) (q : v ≡ key x) (h : r ≡ is_lt (bytes_cmp u v)) where
    at_keys : is_lt (bytes_cmp (key b) (key x)) ≡ r
    at_keys = sym (h ∙ (λ j. is_lt (bytes_cmp (p j) (q j))))

    pub falls_here : r ≡ false → position_from (λ b. b) k (falls_after key b (drop i xs)) ≡ Some k
    falls_here e = falls_at ∙ ap (λ t. cond (not t) (Some k) (position_from (λ b. b) (k + 1) (falls_after key x (drop (i + 1) xs)))) (at_keys ∙ e)

    pub falls_on : r ≡ true → position_from (λ b. b) k (falls_after key b (drop i xs)) ≡ position_from (λ b. b) (k + 1) (falls_after key x (drop (i + 1) xs))
    falls_on e = falls_at ∙ ap (λ t. cond (not t) (Some k) (position_from (λ b. b) (k + 1) (falls_after key x (drop (i + 1) xs)))) (at_keys ∙ e)

length-falls_after : {X : Type 0} (key : X → List ℕ) (b : X) (xs : List X) → length (falls_after key b xs) ≡ length xs
length-falls_after key b [] = refl
length-falls_after key b (x ∷ xs) = ap suc (length-falls_after key x xs)

pub length-falls : {X : Type 0} (key : X → List ℕ) (xs : List X) → length (falls key xs) ≡ length xs
length-falls key [] = refl
length-falls key (x ∷ xs) = ap suc (length-falls_after key x xs)

pub length-tests : {X : Type 0} (p : X → Bool) (xs : List X) → length (map p xs) ≡ length xs
length-tests p [] = refl
length-tests p (x ∷ xs) = ap suc (length-tests p xs)

length-either : (as_ bs : List Bool) (n : ℕ) → length as_ ≡ n → length bs ≡ n → length (either_place as_ bs) ≡ n
length-either [] bs n p q = q
length-either (a ∷ as_) [] n p q = p
length-either (a ∷ as_) (b ∷ bs) n p q =
    let p' : suc (length as_) ≡ n = p in
    let q' : suc (length bs) ≡ n = q in
    let e : length bs ≡ length as_ = omega arith in
    ap suc (length-either as_ bs (length as_) refl e) ∙ p

-- a place within bounds
pub bounded : {X : Type 0} (p : X → Bool) (xs : List X) (n : ℕ) (o : Option ℕ) → o ≡ position_from p 0 xs → n + length xs < 2 ^ 64 → IfSome o (λ k. n + k < 2 ^ 64)
bounded p xs n o e fits = subst (λ o. IfSome o (λ k. n + k < 2 ^ 64)) (sym e) (by (position_from p 0 xs) (position_from-within p 0 xs))
  where
    by : (o : Option ℕ) → IfSome o (λ j. (0 ≤ j) × (j < 0 + length xs)) → IfSome o (λ k. n + k < 2 ^ 64)
    by None h = tt
    by (Some j) h = let l = h.1 in omega arith

pub bounded_double : {X : Type 0} (as_ bs : List Bool) (xs : List X) (n : ℕ) (o : Option ℕ) → o ≡ position_from (λ b. b) 0 (either_place as_ bs) → length as_ ≡ length xs → length bs ≡ length xs → n + length xs < 2 ^ 64 → IfSome o (λ k. n + k < 2 ^ 64)
bounded_double as_ bs xs n o e p q fits =
    let l : length (either_place as_ bs) ≡ length xs = length-either as_ bs (length xs) p q in
    bounded (λ b. b) (either_place as_ bs) n o e (omega arith)

-- the parts of a name
pub first_of-parts : (rdn : Rdn) (o : Option ℕ) → first_of (position_from (λ b. b) 0 (parts_of rdn)) (length rdn.avas) o ≡ first_of (position_from (λ b. b) 0 (parts_of rdn)) (length (parts_of rdn)) o
first_of-parts rdn o = by rdn.avas
  where
    by : (avas : List Ava) → first_of (position_from (λ b. b) 0 (if is_empty avas then true ∷ [] else map (λ _. false) avas)) (length avas) o ≡ first_of (position_from (λ b. b) 0 (if is_empty avas then true ∷ [] else map (λ _. false) avas)) (length (if is_empty avas then true ∷ [] else map (λ _. false) avas)) o
    by [] = refl
    by (a ∷ avas) = ap (λ n. first_of (position_from (λ b. b) 0 (map (λ _. false) (a ∷ avas))) n o) (sym (length-tests (λ _. false) (a ∷ avas)))

none_passes : {X : Type 0} (k : ℕ) (xs : List X) → position_from (λ b. b) k (map (λ _. false) xs) ≡ None
none_passes k [] = refl
none_passes k (x ∷ xs) = none_passes (k + 1) xs

pub no_part-empty : (avas : List Ava) → avas ≡ [] → Some 0 ≡ position_from (λ b. b) 0 (if is_empty avas then true ∷ [] else map (λ _. false) avas)
no_part-empty avas e = subst (λ avas. Some 0 ≡ position_from (λ b. b) 0 (if is_empty avas then true ∷ [] else map (λ _. false) avas)) (sym e) refl

pub no_part-full : (avas : List Ava) → (avas ≡ [] → ⊥) → None ≡ position_from (λ b. b) 0 (if is_empty avas then true ∷ [] else map (λ _. false) avas)
no_part-full [] n = absurd (n refl)
no_part-full (a ∷ avas) n = sym (none_passes 0 (a ∷ avas))

pub or_false : (b : Bool) → b ≡ (b || false)
or_false true = refl
or_false false = refl

-- ---- faults

pub either_none : (o : Option Malformed) → o ≡ either_fault o None
either_none (Some fault) = refl
either_none None = refl

either_again : (a b d : Option Malformed) → either_fault (either_fault a b) d ≡ either_fault a (either_fault b d)
either_again (Some fault) b d = refl
either_again None b d = refl

pub first_fault-append : (xs ys : List (Option Malformed)) → first_fault (xs ++ ys) ≡ either_fault (first_fault xs) (first_fault ys)
first_fault-append [] ys = refl
first_fault-append (o ∷ xs) ys = ap (either_fault o) (first_fault-append xs ys) ∙ sym (either_again o (first_fault xs) (first_fault ys))

-- where the frame has no fault, the weight is within its bound
pub light : (c : Change) → None ≡ first_fault (faults_of_frame c) → weight c.body ≤ 2097152
light c e =
    let all = no_faults (faults_of_frame c) (ap is_none (sym e)) in
    let l = ltb-false 2097152 (weight c.body) (no_fault _ TooHeavy all.1.1.1.1.1.0) in
    omega (arith, l)

-- ---- bodies

pub mods-full : (mods : List Mod) → (length mods == 0) ≡ false → position_from adds_nothing 0 mods ≡ position_from (λ b. b) 0 (if is_empty mods then true ∷ [] else map adds_nothing mods)
mods-full [] h = absurd (not_both true refl h)
mods-full (m ∷ mods) h = sym (position_from-map adds_nothing 0 (m ∷ mods))

pub add_fits : (parent : Uid) (rdn : Rdn) (attrs : List Attr) → weight (Add parent rdn attrs) ≤ 2097152 → length rdn.avas + length attrs < 2 ^ 64
add_fits parent rdn attrs h =
    let h' : 512 + sum_by part_weight rdn.avas + sum_by (λ (a : Attr). attr_weight a.attr a.vals) attrs ≤ 2097152 = h in
    let p = parts_weighed rdn.avas in
    let a = attrs_weighed attrs in
    omega (arith, h', p, a)

pub ren_fits : (rdn : Rdn) (dropped : List Ava) → weight (Ren rdn dropped) ≤ 2097152 → length rdn.avas + length dropped < 2 ^ 64
ren_fits rdn dropped h =
    let h' : 512 + sum_by part_weight rdn.avas + sum_by part_weight dropped ≤ 2097152 = h in
    let p = parts_weighed rdn.avas in
    let a = parts_weighed dropped in
    omega (arith, h', p, a)

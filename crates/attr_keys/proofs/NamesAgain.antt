-- The key of a name's key is that key.
use Rattle.std.proofs.Common.{◌≡◌, ℕ, suc, ◌+◌, ◌≤◌, ◌&&◌, ◌==◌, nat_lt, Bool, true, false, not, cond, List, [], ◌∷◌, ◌++◌, length, map, find, take, drop, bytes_eq, unwrap_or, Option, Some, None, refl, sym, ap, ap₂, subst, ◌∙◌, arith}
use Rattle.std.proofs.lemmas.Bool.Decides.{nat_tests}
use Rattle.std.proofs.lemmas.List.Sums.{prefix_len-le-length}
use Rattle.std.specs.Char.{to_ascii_lowercase}
use Rattle.std.specs.Cmp.Lexicographic.{bytes_decides}
use Rattle.std.specs.List.{AllByRecursion, before_first, list_all, prefix_len}
use Rattle.std.specs.Option.{option_map_or}
use Rattle.attr_keys.specs.Name.{base_len, base_of, options_of}
use Rattle.attr_keys.specs.Table.{AttrType, types, type_of, first_name, is_named, key_of, is_single}
use Rattle.attr_keys.proofs.Again.{lower-again}
use Rattle.repl_data.specs.Types.{is_among, single_valued}
use Rattle.repl_data.proofs.Bools.{and-left, and-right, and-both}

all_lower-again : (bs : List ℕ) → map to_ascii_lowercase (map to_ascii_lowercase bs) ≡ map to_ascii_lowercase bs
all_lower-again [] = refl
all_lower-again (b ∷ bs) = ap₂ ◌∷◌ (lower-again b) (all_lower-again bs)

-- no semicolon, and a semicolon first
abbrev goes_on : ℕ → Bool
goes_on c = not (c == 59)

abbrev Begins : List ℕ → Type 0
Begins [] = Unit {0}
Begins (c ∷ cs) = goes_on c ≡ false

base_len-prefix : (name : List ℕ) → base_len name ≡ prefix_len goes_on name
base_len-prefix name = at (nat_lt (prefix_len goes_on name) (length name)) refl
  where
    at : (b : Bool) → nat_lt (prefix_len goes_on name) (length name) ≡ b → unwrap_or (cond b (Some (prefix_len goes_on name)) None) (length name) ≡ prefix_len goes_on name
    at true e = refl
    at false e = let le : prefix_len goes_on name ≤ length name = prefix_len-le-length goes_on name in grind (arith, nat_tests)

one-plus : (n : ℕ) → 1 + n ≡ suc n
one-plus n = omega arith

prefix-cons : (c : ℕ) (cs : List ℕ) → prefix_len goes_on (c ∷ cs) ≡ cond (goes_on c) (suc (prefix_len goes_on cs)) 0
prefix-cons c cs = ap (λ (n : ℕ). cond (goes_on c) n 0) (one-plus (prefix_len goes_on cs))

front-goes_on : (name : List ℕ) → list_all goes_on (take (prefix_len goes_on name) name) ≡ true
front-goes_on [] = refl
front-goes_on (c ∷ cs) = subst (λ (n : ℕ). list_all goes_on (take n (c ∷ cs)) ≡ true) (sym (prefix-cons c cs)) (at (goes_on c) refl (front-goes_on cs))
  where
    at : (b : Bool) → goes_on c ≡ b → list_all goes_on (take (prefix_len goes_on cs) cs) ≡ true → list_all goes_on (take (cond b (suc (prefix_len goes_on cs)) 0) (c ∷ cs)) ≡ true
    at true e h = ap (λ (v : Bool). v && list_all goes_on (take (prefix_len goes_on cs) cs)) e ∙ h
    at false e h = refl

lower-semicolon : (c : ℕ) → goes_on c ≡ false → goes_on (to_ascii_lowercase c) ≡ false
lower-semicolon c h = grind (arith, nat_tests)

rest-begins : (name : List ℕ) → Begins (map to_ascii_lowercase (drop (prefix_len goes_on name) name))
rest-begins [] = tt
rest-begins (c ∷ cs) = subst (λ (n : ℕ). Begins (map to_ascii_lowercase (drop n (c ∷ cs)))) (sym (prefix-cons c cs)) (at (goes_on c) refl (rest-begins cs))
  where
    at : (b : Bool) → goes_on c ≡ b → Begins (map to_ascii_lowercase (drop (prefix_len goes_on cs) cs)) → Begins (map to_ascii_lowercase (drop (cond b (suc (prefix_len goes_on cs)) 0) (c ∷ cs)))
    at true e h = h
    at false e h = lower-semicolon c e

lower-goes_on : (c : ℕ) → goes_on c ≡ true → goes_on (to_ascii_lowercase c) ≡ true
lower-goes_on c h = grind (arith, nat_tests)

all_lower-goes_on : (bs : List ℕ) → list_all goes_on bs ≡ true → list_all goes_on (map to_ascii_lowercase bs) ≡ true
all_lower-goes_on [] h = refl
all_lower-goes_on (b ∷ bs) h = and-both _ _ (lower-goes_on b (and-left _ _ h)) (all_lower-goes_on bs (and-right (goes_on b) _ h))

-- a front without semicolons and a rest that begins with one are the base and the options
prefix-whole : (front rest : List ℕ) → list_all goes_on front ≡ true → Begins rest → prefix_len goes_on (front ++ rest) ≡ length front
prefix-whole [] [] h b = refl
prefix-whole [] (c ∷ cs) h b = prefix-cons c cs ∙ ap (λ (v : Bool). cond v (suc (prefix_len goes_on cs)) 0) b
prefix-whole (f ∷ fs) rest h b = prefix-cons f (fs ++ rest) ∙ ap (λ (v : Bool). cond v (suc (prefix_len goes_on (fs ++ rest))) 0) (and-left _ _ h) ∙ ap suc (prefix-whole fs rest (and-right (goes_on f) _ h) b)

take-whole : (front rest : List ℕ) → take (length front) (front ++ rest) ≡ front
take-whole [] rest = refl
take-whole (f ∷ fs) rest = ap (λ (xs : List ℕ). f ∷ xs) (take-whole fs rest)

drop-whole : (front rest : List ℕ) → drop (length front) (front ++ rest) ≡ rest
drop-whole [] rest = refl
drop-whole (f ∷ fs) rest = drop-whole fs rest

base-whole : (front rest : List ℕ) → list_all goes_on front ≡ true → Begins rest → base_of (front ++ rest) ≡ front
base-whole front rest h b = ap (λ (n : ℕ). take n (front ++ rest)) (base_len-prefix (front ++ rest) ∙ prefix-whole front rest h b) ∙ take-whole front rest

options-whole : (front rest : List ℕ) → list_all goes_on front ≡ true → Begins rest → options_of (front ++ rest) ≡ rest
options-whole front rest h b = ap (λ (n : ℕ). drop n (front ++ rest)) (base_len-prefix (front ++ rest) ∙ prefix-whole front rest h b) ∙ drop-whole front rest

-- ---- the table

-- the type that is found passes what all types pass
pub found-passes : (p q : AttrType → Bool) (ts : List AttrType) (t : AttrType) → find p ts ≡ Some t → list_all q ts ≡ true → q t ≡ true
found-passes p q [] t e h = cc
found-passes p q (u ∷ us) t e h = at (p u) e (λ f. found-passes p q us t f (and-right (q u) _ h))
  where
    at : (b : Bool) → cond b (Some u) (find p us) ≡ Some t → (find p us ≡ Some t → q t ≡ true) → q t ≡ true
    at true f later = let same : u ≡ t = cc in subst (λ (v : AttrType). q v ≡ true) same (and-left _ _ h)
    at false f later = later f

abbrev is_good : AttrType → Bool
is_good t = list_all goes_on t.name && (bytes_eq (map to_ascii_lowercase t.name) t.name && bytes_eq (first_name t.name) t.name)

types-good : list_all is_good types ≡ true
unfolding types type_of
types-good = refl

type-good : (base : List ℕ) (t : AttrType) → type_of base ≡ Some t → is_good t ≡ true
unfolding type_of
type-good base t e = found-passes (is_named base) is_good types t e types-good

-- what holds of the first name: no semicolon, in lower case, and its own first name
record IsSettled (name : List ℕ) : Type 0 where
  whole : list_all goes_on name ≡ true
  low : map to_ascii_lowercase name ≡ name
  first : first_name name ≡ name

first-settled : (base : List ℕ) (found : Option AttrType) → type_of base ≡ found → list_all goes_on base ≡ true → map to_ascii_lowercase base ≡ base → IsSettled (option_map_or (λ (t : AttrType). t.name) found base)
first-settled base None e h l = record { whole = h; low = l; first = ap (λ (o : Option AttrType). option_map_or (λ (t : AttrType). t.name) o base) e }
first-settled base (Some t) e h l =
    let good : is_good t ≡ true = type-good base t e in
    record {
      whole = and-left _ _ good;
      low = (bytes_decides _ _).0 (and-left _ _ (and-right (list_all goes_on t.name) _ good));
      first = (bytes_decides _ _).0 (and-right (bytes_eq (map to_ascii_lowercase t.name) t.name) _ (and-right (list_all goes_on t.name) _ good));
    }

settled-again : (first rest : List ℕ) → IsSettled first → Begins rest → map to_ascii_lowercase rest ≡ rest → key_of (first ++ rest) ≡ first ++ rest
unfolding key_of
settled-again first rest s b l =
    ap₂ ◌++◌
    (ap first_name (ap (map to_ascii_lowercase) (base-whole first rest s.whole b) ∙ s.low) ∙ s.first)
    (ap (map to_ascii_lowercase) (options-whole first rest s.whole b) ∙ l)

pub key_of-again : (name : List ℕ) → key_of (key_of name) ≡ key_of name
unfolding key_of
key_of-again name =
    let same : base_len name ≡ prefix_len goes_on name = base_len-prefix name in
    let whole : list_all goes_on (base_of name) ≡ true = subst (λ (k : ℕ). list_all goes_on (take k name) ≡ true) (sym same) (front-goes_on name) in
    let begins : Begins (map to_ascii_lowercase (options_of name)) = subst (λ (k : ℕ). Begins (map to_ascii_lowercase (drop k name))) (sym same) (rest-begins name) in
    settled-again _ _
    (first-settled (map to_ascii_lowercase (base_of name)) _ refl (all_lower-goes_on (base_of name) whole) (all_lower-again (base_of name)))
    begins
    (all_lower-again (options_of name))

-- ---- single-valued types

-- before the options of a key stands the first name of its type
key-base : (name : List ℕ) → before_first (λ b. b == 59) (key_of name) ≡ first_name (map to_ascii_lowercase (base_of name))
unfolding key_of
key-base name =
    let same : base_len name ≡ prefix_len goes_on name = base_len-prefix name in
    let whole : list_all goes_on (base_of name) ≡ true = subst (λ (k : ℕ). list_all goes_on (take k name) ≡ true) (sym same) (front-goes_on name) in
    let begins : Begins (map to_ascii_lowercase (options_of name)) = subst (λ (k : ℕ). Begins (map to_ascii_lowercase (drop k name))) (sym same) (rest-begins name) in
    let settled : IsSettled (first_name (map to_ascii_lowercase (base_of name))) = first-settled (map to_ascii_lowercase (base_of name)) _ refl (all_lower-goes_on (base_of name) whole) (all_lower-again (base_of name)) in
    let first : List ℕ = first_name (map to_ascii_lowercase (base_of name)) in
    let rest : List ℕ = map to_ascii_lowercase (options_of name) in
    ap (λ (n : ℕ). take n (first ++ rest)) (prefix-whole first rest settled.whole begins) ∙ take-whole first rest

pub single-key : (name : List ℕ) → is_single (key_of name) ≡ is_among single_valued (first_name (map to_ascii_lowercase (base_of name)))
single-key name = ap (is_among single_valued) (key-base name)

pub single-keys : AllByRecursion (λ name. key_of name ≡ name) single_valued
unfolding key_of types type_of
single-keys = (refl, (refl, (refl, (refl, (refl, (refl, (refl, (refl, (refl, (refl, tt))))))))))

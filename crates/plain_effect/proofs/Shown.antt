-- What an entry shows that has one change, an add: its attributes as they stand there.
use Rattle.std.proofs.Common.{◌≡◌, ℕ, ◌<◌, arith, Bool, true, false, cond, ◌||◌, List, [], ◌∷◌, ◌++◌, map, length, refl, sym, ap, subst, ◌∙◌, append-nil, nat_lt}
use Rattle.std.specs.Prelude.{not, ◌&&◌, filter, flat_map, if◌then◌else◌}
use Rattle.std.specs.List.{AllByRecursion, list_any}
use Rattle.std.specs.declared.cmp.Ordering.TheVariants.{Less}
use Rattle.std.specs.Ordering.{is_eq, is_lt}
use Rattle.std.proofs.lemmas.Bool.Decides.{nat_tests}
use Rattle.std.proofs.lemmas.Cmp.{tied_itself}
use Rattle.std.proofs.lemmas.Bool.{or_right}
use Rattle.repl_data.specs.declared.csn.Csn.{Csn}
use Rattle.repl_data.specs.declared.change.AttrKey.{AttrKey}
use Rattle.repl_data.specs.declared.change.Val.{Val}
use Rattle.repl_data.specs.declared.change.Attr.{Attr}
use Rattle.repl_data.specs.declared.change.Rdn.{Rdn}
use Rattle.repl_data.specs.Order.{zero_csn, csn_lt, csn_le, csn_eq, bytes_cmp, bytes_eq, put_by, by_order, in_order, in_order_by, greatest, latest_or}
use Rattle.repl_data.specs.Types.{is_single}
use Rattle.repl_data.specs.Check.{is_empty}
use Rattle.repl_data.specs.Stamps.{Act, Adds, adds}
use Rattle.repl_data.specs.Facts.{ValFacts, AttrFacts, attr_of, is_act_on, keys_named, additions, deletions, val_facts, attr_facts, attrs_facts, is_in_name, is_held, shows_before, vals_shown, with_values}
use Rattle.repl_data.specs.View.{vals_at}
use Rattle.repl_data.proofs.Orders.{bytes_total}
use Rattle.repl_data.proofs.CsnTests.{csn_lt-zero, csn_lt-irreflexive, csn_le-from_not}
use Rattle.repl_data.proofs.InOrder.{is_equal}
use Rattle.repl_data.proofs.Raised.{map-append}
use Rattle.repl_data.proofs.Sound.{not_both}
use Rattle.repl_data.proofs.Steps.{filter-append}
use Rattle.ldap_rules.specs.Ordered.{Rises, val_key, attr_name}
use Rattle.ldap_rules.proofs.Places.{above_others, is_same, equal_key}
use Rattle.ldap_rules.proofs.Goods.{IsGood}
use Rattle.repl_data.proofs.Loops.{all_map}
use Rattle.repl_data.proofs.SameView.{same_attr}
use Rattle.repl_data.proofs.Bools.{and_false}

abbrev put_name : AttrKey → List AttrKey → List AttrKey
put_name = put_by (λ (t : AttrKey). t.name) bytes_cmp

abbrev put_key : List ℕ → List (List ℕ) → List (List ℕ)
put_key = put_by (λ (k : List ℕ). k) bytes_cmp

-- ---- the acts of an add, each at one stamp

abbrev pub acts_of : Csn → List Attr → List Act
acts_of s attrs = flat_map (λ (a : Attr). adds s a.attr a.vals) attrs

-- ---- names in order

name_first : (t : AttrKey) (ts : List AttrKey) → AllByRecursion (λ (u : AttrKey). bytes_cmp t.name u.name ≡ Less) ts → put_name t ts ≡ t ∷ ts
name_first t [] h = refl
name_first t (u ∷ ts) h = ap (λ o. by_order o (t ∷ u ∷ ts) (t ∷ ts) (u ∷ put_name t ts)) h.0

name_again : (t : AttrKey) (ts : List AttrKey) → put_name t (t ∷ ts) ≡ t ∷ ts
name_again t ts = ap (λ o. by_order o (t ∷ t ∷ ts) (t ∷ ts) (t ∷ put_name t ts)) (tied_itself bytes_total t.name)

key_first : (k : List ℕ) (ks : List (List ℕ)) → AllByRecursion (λ (j : List ℕ). bytes_cmp k j ≡ Less) ks → put_key k ks ≡ k ∷ ks
key_first k [] h = refl
key_first k (j ∷ ks) h = ap (λ o. by_order o (k ∷ j ∷ ks) (k ∷ ks) (j ∷ put_key k ks)) h.0

abbrev names_in_order : List AttrKey → List AttrKey
names_in_order = in_order_by (λ (t : AttrKey). t.name) bytes_cmp

vals_names : (s : Csn) (t : AttrKey) (v : Val) (vals : List Val) (rest : List AttrKey) → AllByRecursion (λ (u : AttrKey). bytes_cmp t.name u.name ≡ Less) (names_in_order rest) → names_in_order (map attr_of (adds s t (v ∷ vals)) ++ rest) ≡ t ∷ names_in_order rest
vals_names s t v [] rest h = name_first t (names_in_order rest) h
vals_names s t v (w ∷ vals) rest h = ap (put_name t) (vals_names s t w vals rest h) ∙ name_again t (names_in_order rest)

some_names : (s : Csn) (t : AttrKey) (vals : List Val) (rest : List AttrKey) → is_empty vals ≡ false → AllByRecursion (λ (u : AttrKey). bytes_cmp t.name u.name ≡ Less) (names_in_order rest) → names_in_order (map attr_of (adds s t vals) ++ rest) ≡ t ∷ names_in_order rest
some_names s t [] rest n h = absurd (not_both true refl n)
some_names s t (v ∷ vals) rest n h = vals_names s t v vals rest h

all_names : (s : Csn) (attrs : List Attr) → Rises attr_name attrs → AllByRecursion IsGood attrs → names_in_order (map attr_of (acts_of s attrs)) ≡ map (λ (a : Attr). a.attr) attrs
all_names s [] r g = refl
all_names s (a ∷ attrs) r g =
    let more : names_in_order (map attr_of (acts_of s attrs)) ≡ map (λ (a : Attr). a.attr) attrs = all_names s attrs r.1 g.1 in
    let above : AllByRecursion (λ (u : AttrKey). bytes_cmp a.attr.name u.name ≡ Less) (names_in_order (map attr_of (acts_of s attrs))) =
    subst (AllByRecursion (λ (u : AttrKey). bytes_cmp a.attr.name u.name ≡ Less)) (sym more) (all_map (λ (u : AttrKey). bytes_cmp a.attr.name u.name ≡ Less) (λ (b : Attr). b.attr) attrs r.0) in
    ap names_in_order (map-append attr_of (adds s a.attr a.vals) (acts_of s attrs))
    ∙ some_names s a.attr a.vals (map attr_of (acts_of s attrs)) g.0.full above
    ∙ ap (λ ts. a.attr ∷ ts) more

-- ---- the acts on one attribute

filter_adds : (s : Csn) (t b : AttrKey) (vals : List Val) (o : Bool) → bytes_eq t.name b.name ≡ o → filter (is_act_on t) (adds s b vals) ≡ cond o (adds s b vals) []
filter_adds s t b [] true h = refl
filter_adds s t b [] false h = refl
filter_adds s t b (v ∷ vals) true h = ap (λ o. cond o (Adds s b v ∷ filter (is_act_on t) (adds s b vals)) (filter (is_act_on t) (adds s b vals))) h ∙ ap (λ as_. Adds s b v ∷ as_) (filter_adds s t b vals true h)
filter_adds s t b (v ∷ vals) false h = ap (λ o. cond o (Adds s b v ∷ filter (is_act_on t) (adds s b vals)) (filter (is_act_on t) (adds s b vals))) h ∙ filter_adds s t b vals false h

pub turned : (a b : List ℕ) (o : Bool) → bytes_eq a b ≡ o → bytes_eq b a ≡ o
turned a b true h = equal_key b a (sym (is_same a b h))
turned a b false h = by (bytes_eq b a) refl
  where
    by : (p : Bool) → bytes_eq b a ≡ p → bytes_eq b a ≡ false
    by true e = absurd (not_both (bytes_eq a b) (equal_key a b (sym (is_same b a e))) h)
    by false e = e

own_more : (s : Csn) (t : AttrKey) (a : Attr) (rest : List Val) (more : List Act) → more ≡ adds s t rest → (o : Bool) → bytes_eq t.name a.attr.name ≡ o → filter (is_act_on t) (adds s a.attr a.vals) ++ more ≡ adds s t (cond (bytes_eq a.attr.name t.name) a.vals [] ++ rest)
own_more s t a rest more e true h =
    let same : a.attr ≡ t = sym (same_attr t a.attr (is_equal (bytes_cmp t.name a.attr.name) h)) in
    (λ i. filter_adds s t a.attr a.vals true h i ++ e i)
    ∙ ap (λ (u : AttrKey). adds s u a.vals ++ adds s t rest) same
    ∙ sym (map-append (Adds s t) a.vals rest)
    ∙ ap (λ (o : Bool). adds s t (cond o a.vals [] ++ rest)) (sym (turned t.name a.attr.name true h))
own_more s t a rest more e false h =
    (λ i. filter_adds s t a.attr a.vals false h i ++ e i)
    ∙ ap (λ (o : Bool). adds s t (cond o a.vals [] ++ rest)) (sym (turned t.name a.attr.name false h))

own_acts : (s : Csn) (t : AttrKey) (attrs : List Attr) → filter (is_act_on t) (acts_of s attrs) ≡ adds s t (vals_at t.name attrs)
own_acts s t [] = refl
own_acts s t (a ∷ attrs) =
    filter-append (is_act_on t) (adds s a.attr a.vals) (acts_of s attrs)
    ∙ own_more s t a (vals_at t.name attrs) (filter (is_act_on t) (acts_of s attrs)) (own_acts s t attrs) (bytes_eq t.name a.attr.name) refl

-- in rising attributes each is the one of its name
later_at : (a : Attr) (attrs ys : List Attr) → AllByRecursion (λ (y : Attr). bytes_cmp (attr_name a) (attr_name y) ≡ Less) ys → AllByRecursion (λ (y : Attr). vals_at y.attr.name attrs ≡ y.vals) ys → AllByRecursion (λ (y : Attr). vals_at y.attr.name (a ∷ attrs) ≡ y.vals) ys
later_at a attrs [] l h = tt
later_at a attrs (y ∷ ys) l h = (ap (λ o. cond (is_eq o) a.vals [] ++ vals_at y.attr.name attrs) l.0 ∙ h.0, later_at a attrs ys l.1 h.1)

each_at : (attrs : List Attr) → Rises attr_name attrs → AllByRecursion (λ (a : Attr). vals_at a.attr.name attrs ≡ a.vals) attrs
each_at [] r = tt
each_at (a ∷ attrs) r = (
  (λ i. cond (equal_key a.attr.name a.attr.name refl i) a.vals [] ++ above_others a.attr.name attrs r.0 i) ∙ append-nil a.vals,
  later_at a attrs attrs r.0 (each_at attrs r.1),
)

-- ---- the values of one attribute

abbrev fact : Csn → Val → ValFacts
fact s v = record { key = v.key; spelled = v.spelled; up = s; down = zero_csn }

keys_all : (s : Csn) (t : AttrKey) (vals : List Val) → flat_map keys_named (adds s t vals) ≡ map val_key vals
keys_all s t [] = refl
keys_all s t (v ∷ vals) = ap (λ ks. v.key ∷ ks) (keys_all s t vals)

keys_in_order : (vals : List Val) → Rises val_key vals → in_order bytes_cmp (map val_key vals) ≡ map val_key vals
keys_in_order [] r = refl
keys_in_order (v ∷ vals) r =
    ap (put_key v.key) (keys_in_order vals r.1)
    ∙ key_first v.key (map val_key vals) (all_map (λ (j : List ℕ). bytes_cmp v.key j ≡ Less) val_key vals r.0)

no_deletions : (s : Csn) (t : AttrKey) (k : List ℕ) (vals : List Val) → flat_map (deletions k) (adds s t vals) ≡ []
no_deletions s t k [] = refl
no_deletions s t k (v ∷ vals) = no_deletions s t k vals

abbrev spelled_in : Csn → AttrKey → List Val → List ℕ → List (Csn × List ℕ)
spelled_in s t vals k = flat_map (additions k) (adds s t vals)

none_spelled : (s : Csn) (t : AttrKey) (k : List ℕ) (vals : List Val) → AllByRecursion (λ (w : Val). bytes_cmp k w.key ≡ Less) vals → spelled_in s t vals k ≡ []
none_spelled s t k [] h = refl
none_spelled s t k (w ∷ vals) h = ap (λ o. cond (is_eq o) ((s, w.spelled) ∷ []) [] ++ spelled_in s t vals k) h.0 ∙ none_spelled s t k vals h.1

later_spelled : (s : Csn) (t : AttrKey) (v : Val) (vals ws : List Val) → AllByRecursion (λ (w : Val). bytes_cmp v.key w.key ≡ Less) ws → AllByRecursion (λ (w : Val). spelled_in s t vals w.key ≡ (s, w.spelled) ∷ []) ws → AllByRecursion (λ (w : Val). spelled_in s t (v ∷ vals) w.key ≡ (s, w.spelled) ∷ []) ws
later_spelled s t v vals [] l h = tt
later_spelled s t v vals (w ∷ ws) l h =
    (ap (λ o. cond o ((s, v.spelled) ∷ []) [] ++ spelled_in s t vals w.key) (turned v.key w.key false (ap is_eq l.0)) ∙ h.0, later_spelled s t v vals ws l.1 h.1)

each_spelled : (s : Csn) (t : AttrKey) (vals : List Val) → Rises val_key vals → AllByRecursion (λ (v : Val). spelled_in s t vals v.key ≡ (s, v.spelled) ∷ []) vals
each_spelled s t [] r = tt
each_spelled s t (v ∷ vals) r = (
  (λ i. cond (equal_key v.key v.key refl i) ((s, v.spelled) ∷ []) [] ++ none_spelled s t v.key vals r.0 i),
  later_spelled s t v vals vals r.0 (each_spelled s t vals r.1),
)

one_fact : (s : Csn) (t : AttrKey) (vals : List Val) (v : Val) → spelled_in s t vals v.key ≡ (s, v.spelled) ∷ [] → val_facts (adds s t vals) v.key ≡ fact s v
one_fact s t vals v h =
    let none : Csn × List ℕ = (zero_csn, []) in
    let own : Csn × List ℕ = (s, v.spelled) in
    let added : latest_or none (spelled_in s t vals v.key) ≡ own = ap (latest_or none) h ∙ ap (λ (b : Bool). if b then none else own) (csn_lt-zero s) in
    λ i. record { key = v.key; spelled = (added i).1; up = (added i).0; down = greatest (no_deletions s t v.key vals i) }

map_facts : (s : Csn) (t : AttrKey) (vals ws : List Val) → AllByRecursion (λ (v : Val). spelled_in s t vals v.key ≡ (s, v.spelled) ∷ []) ws → map (val_facts (adds s t vals)) (map val_key ws) ≡ map (fact s) ws
map_facts s t vals [] h = refl
map_facts s t vals (w ∷ ws) h = λ i. one_fact s t vals w h.0 i ∷ map_facts s t vals ws h.1 i

own_facts : (s : Csn) (t : AttrKey) (vals : List Val) → Rises val_key vals → map (val_facts (adds s t vals)) (in_order bytes_cmp (flat_map keys_named (adds s t vals))) ≡ map (fact s) vals
own_facts s t vals r =
    ap (λ ks. map (val_facts (adds s t vals)) (in_order bytes_cmp ks)) (keys_all s t vals)
    ∙ ap (map (val_facts (adds s t vals))) (keys_in_order vals r)
    ∙ map_facts s t vals vals (each_spelled s t vals r)

-- ---- they show

all_held : (s : Csn) (rdn : Rdn) (t : AttrKey) (vals : List Val) → filter (is_held rdn t) (map (fact s) vals) ≡ map (fact s) vals
all_held s rdn t [] = refl
all_held s rdn t (v ∷ vals) =
    let held : is_held rdn t (fact s v) ≡ true = or_right (is_in_name rdn t v.key) (csn_le zero_csn s) (csn_le-from_not zero_csn s (csn_lt-zero s)) in
    ap (λ o. cond o (fact s v ∷ filter (is_held rdn t) (map (fact s) vals)) (filter (is_held rdn t) (map (fact s) vals))) held
    ∙ ap (λ xs. fact s v ∷ xs) (all_held s rdn t vals)

-- which of two values shows first, by whether each is in the name
abbrev first_of_two : Bool → Bool → Bool → Bool
first_of_two level true false = true
first_of_two level false true = false
first_of_two level _ _ = level

abbrev level : ValFacts → ValFacts → Bool
level v w = csn_lt w.up v.up || (csn_eq w.up v.up && is_lt (bytes_cmp w.key v.key))

by_place : (rdn : Rdn) (t : AttrKey) (v w : ValFacts) → shows_before rdn t v w ≡ first_of_two (level v w) (is_in_name rdn t v.key) (is_in_name rdn t w.key)
by_place rdn t v w = refl

same_place : (b l : Bool) → first_of_two l b b ≡ l
same_place true l = refl
same_place false l = refl

pub not_before_itself : (rdn : Rdn) (t : AttrKey) (v : ValFacts) → shows_before rdn t v v ≡ false
not_before_itself rdn t v =
    by_place rdn t v v ∙ same_place (is_in_name rdn t v.key) (level v v)
    ∙ (λ i. csn_lt-irreflexive v.up i || (csn_eq v.up v.up && is_lt (tied_itself bytes_total v.key i))) ∙ and_false (csn_eq v.up v.up)

abbrev best : Rdn → AttrKey → List ValFacts → List ValFacts
best rdn t held = filter (λ v. not (list_any (λ w. shows_before rdn t w v) held)) held

few_best : (s : Csn) (rdn : Rdn) (t : AttrKey) (vals : List Val) → nat_lt 1 (length vals) ≡ false → best rdn t (map (fact s) vals) ≡ map (fact s) vals
few_best s rdn t [] h = refl
few_best s rdn t (v ∷ []) h = ap (λ o. cond (not (o || false)) (fact s v ∷ []) []) (not_before_itself rdn t (fact s v))
few_best s rdn t (v ∷ w ∷ vals) h = absurd (not_both (nat_lt 1 (length (v ∷ w ∷ vals))) (many (length (v ∷ w ∷ vals)) (omega arith)) h)
  where
    many : (n : ℕ) → 1 < n → nat_lt 1 n ≡ true
    many n l = grind (arith, nat_tests)

abbrev value : ValFacts → Val
value v = record { key = v.key; spelled = v.spelled }

abbrev shown_of : Rdn → AttrKey → List ValFacts → List Val
shown_of rdn t vals =
    let held = filter (is_held rdn t) vals in
    map value (if is_single t then best rdn t held else held)

back : (s : Csn) (vals : List Val) → map value (map (fact s) vals) ≡ vals
back s [] = refl
back s (v ∷ vals) = ap (λ vs. v ∷ vs) (back s vals)

shown_all : (s : Csn) (rdn : Rdn) (t : AttrKey) (vals : List Val) (a : AttrFacts) → a.attr ≡ t → a.vals ≡ map (fact s) vals → (is_single t ≡ true → nat_lt 1 (length vals) ≡ false) → vals_shown rdn a ≡ vals
shown_all s rdn t vals a k h one =
    (λ i. shown_of rdn (k i) (h i)) ∙ ap (λ (held : List ValFacts). map value (if is_single t then best rdn t held else held)) (all_held s rdn t vals) ∙ by (is_single t) one
  where
    by : (b : Bool) → (b ≡ true → nat_lt 1 (length vals) ≡ false) → map value (if b then best rdn t (map (fact s) vals) else map (fact s) vals) ≡ vals
    by true f = ap (map value) (few_best s rdn t vals (f refl)) ∙ back s vals
    by false f = back s vals

-- of a single-valued type there is at most one value
abbrev pub HasFew : Attr → Type 0
HasFew a = is_single a.attr ≡ true → nat_lt 1 (length a.vals) ≡ false

with_some : (t : AttrKey) (vals : List Val) → is_empty vals ≡ false → with_values t vals ≡ record { attr = t; vals = vals } ∷ []
with_some t [] h = absurd (not_both true refl h)
with_some t (v ∷ vals) h = refl

one_shown : (s : Csn) (rdn : Rdn) (all : List Attr) (a : Attr) → vals_at a.attr.name all ≡ a.vals → IsGood a → HasFew a → with_values a.attr (vals_shown rdn (attr_facts (acts_of s all) a.attr)) ≡ a ∷ []
one_shown s rdn all a h g few =
    let own : filter (is_act_on a.attr) (acts_of s all) ≡ adds s a.attr a.vals = own_acts s a.attr all ∙ ap (adds s a.attr) h in
    let vals : (attr_facts (acts_of s all) a.attr).vals ≡ map (fact s) a.vals =
    ap (λ acts. map (val_facts acts) (in_order bytes_cmp (flat_map keys_named acts))) own ∙ own_facts s a.attr a.vals g.rises in
    ap (with_values a.attr) (shown_all s rdn a.attr a.vals (attr_facts (acts_of s all) a.attr) refl vals few) ∙ with_some a.attr a.vals g.full

each_shown : (s : Csn) (rdn : Rdn) (all attrs : List Attr) → AllByRecursion (λ (a : Attr). vals_at a.attr.name all ≡ a.vals) attrs → AllByRecursion IsGood attrs → AllByRecursion HasFew attrs
    → flat_map (λ (f : AttrFacts). with_values f.attr (vals_shown rdn f)) (map (attr_facts (acts_of s all)) (map (λ (a : Attr). a.attr) attrs)) ≡ attrs
each_shown s rdn all [] h g f = refl
each_shown s rdn all (a ∷ attrs) h g f = λ i. one_shown s rdn all a h.0 g.0 f.0 i ++ each_shown s rdn all attrs h.1 g.1 f.1 i

-- WHAT AN ADD'S ACTS SHOW is what it has
pub acts_show : (s : Csn) (rdn : Rdn) (attrs : List Attr) → Rises attr_name attrs → AllByRecursion IsGood attrs → AllByRecursion HasFew attrs
    → flat_map (λ (f : AttrFacts). with_values f.attr (vals_shown rdn f)) (attrs_facts (acts_of s attrs)) ≡ attrs
acts_show s rdn attrs r g f =
    ap (λ ts. flat_map (λ (f : AttrFacts). with_values f.attr (vals_shown rdn f)) (map (attr_facts (acts_of s attrs)) ts)) (all_names s attrs r g)
    ∙ each_shown s rdn attrs attrs (each_at attrs r) g f

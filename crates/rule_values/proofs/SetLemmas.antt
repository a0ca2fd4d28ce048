-- A map from keys to spellings, changed and looked up as a list of values.
use Rattle.std.proofs.Common.{◌≡◌, ℕ, ◌+◌, ◌<◌, ◌≤◌, Bool, true, false, cond, not, ◌||◌, List, [], ◌∷◌, ◌++◌, length, get_or, drop, refl, sym, ap, subst, ◌∙◌, Some, arith}
use Rattle.std.specs.Prelude.{◌==◌, filter, find, is_some}
use Rattle.std.specs.List.{AllByRecursion}
use Rattle.std.specs.List.Sorted.{IsStrictlySortedBy}
use Rattle.std.specs.declared.cmp.Ordering.{Ordering}
use Rattle.std.specs.declared.cmp.Ordering.TheVariants.{Less, Equal, Greater}
use Rattle.std.specs.Ordering.{is_eq, match_ordering}
use Rattle.std.specs.Map.{keys_of, lookup, remove_entry}
use Rattle.std.specs.BTreeMap.{insert_entry, is_at}
use Rattle.std.proofs.lemmas.List.{at_drop_more, at_drop_all}
use Rattle.repl_data.specs.declared.change.Val.{Val}
use Rattle.repl_data.specs.Order.{bytes_cmp, bytes_eq, by_order}
use Rattle.std.proofs.lemmas.Bool.Decides.{nat_tests}
use Rattle.repl_data.specs.Check.{is_empty}
use Rattle.repl_data.specs.Ordered.{Rises}
use Rattle.repl_data.specs.Plain.{add_values}
use Rattle.repl_data.specs.View.{put_val}
use Rattle.repl_data.proofs.Orders.{bytes_exact}
use Rattle.repl_data.proofs.KeyPlaces.{above, same_turned}
use Rattle.rule_values.specs.Having.{val_key}
use Rattle.rule_values.specs.Listed.{has_key}
use Rattle.rule_values.specs.Entries.{val_of, vals_of}

-- a value that is put
pub vals_put : (k : List ℕ) (s : List ℕ) (es : List (List ℕ × List ℕ)) → vals_of (insert_entry bytes_cmp es k s) ≡ put_val (val_of (k, s)) (vals_of es)
vals_put k s [] = refl
vals_put k s (e ∷ es) = by (bytes_cmp k e.0) refl (vals_put k s es)
  where
    by : (o : Ordering) → bytes_cmp k e.0 ≡ o → vals_of (insert_entry bytes_cmp es k s) ≡ put_val (val_of (k, s)) (vals_of es)
        → vals_of (match_ordering o ((k, s) ∷ e ∷ es) ((e.0, s) ∷ es) (e ∷ insert_entry bytes_cmp es k s)) ≡ by_order o (val_of (k, s) ∷ val_of e ∷ vals_of es) (val_of (k, s) ∷ vals_of es) (val_of e ∷ put_val (val_of (k, s)) (vals_of es))
    by Less h more = refl
    by Equal h more = ap (λ (key : List ℕ). record { key = key; spelled = s } ∷ vals_of es) (sym (bytes_exact k e.0 h))
    by Greater h more = ap (λ (r : List Val). val_of e ∷ r) more

-- a look-up
pub vals_has : (key : List ℕ) (es : List (List ℕ × List ℕ)) → is_some (lookup (is_at (bytes_cmp key)) es) ≡ has_key key (vals_of es)
vals_has key [] = refl
vals_has key (e ∷ es) = by (bytes_eq key e.0) (vals_has key es) ∙ ap (λ t. t || has_key key (vals_of es)) (same_turned key e.0)
  where
    by : (t : Bool) → is_some (lookup (is_at (bytes_cmp key)) es) ≡ has_key key (vals_of es) → is_some (cond t (Some e.1) (lookup (is_at (bytes_cmp key)) es)) ≡ (t || has_key key (vals_of es))
    by true more = refl
    by false more = more

-- the value of a key taken out
abbrev pub is_other : List ℕ → Val → Bool
is_other key v = not (bytes_eq v.key key)

all_kept : (key : List ℕ) (es : List (List ℕ × List ℕ)) → AllByRecursion (λ (y : List ℕ). bytes_cmp key y ≡ Less) (keys_of es) → filter (is_other key) (vals_of es) ≡ vals_of es
all_kept key [] h = refl
all_kept key (e ∷ es) h =
    ap (λ o. cond (not (is_eq o)) (val_of e ∷ filter (is_other key) (vals_of es)) (filter (is_other key) (vals_of es))) (above key e.0 h.0)
    ∙ ap (λ (r : List Val). val_of e ∷ r) (all_kept key es h.1)

pub vals_take : (key : List ℕ) (es : List (List ℕ × List ℕ)) → IsStrictlySortedBy bytes_cmp (keys_of es) → vals_of (remove_entry (is_at (bytes_cmp key)) es) ≡ filter (is_other key) (vals_of es)
unfolding IsStrictlySortedBy
vals_take key [] h = refl
vals_take key (e ∷ es) h = by (bytes_cmp key e.0) refl h.0 (vals_take key es h.1) ∙ ap (λ t. cond (not t) (val_of e ∷ filter (is_other key) (vals_of es)) (filter (is_other key) (vals_of es))) (same_turned key e.0)
  where
    by : (o : Ordering) → bytes_cmp key e.0 ≡ o → AllByRecursion (λ (y : List ℕ). bytes_cmp e.0 y ≡ Less) (keys_of es) → vals_of (remove_entry (is_at (bytes_cmp key)) es) ≡ filter (is_other key) (vals_of es)
        → vals_of (cond (is_eq o) es (e ∷ remove_entry (is_at (bytes_cmp key)) es)) ≡ cond (not (is_eq o)) (val_of e ∷ filter (is_other key) (vals_of es)) (filter (is_other key) (vals_of es))
    by Less g rest more = ap (λ (r : List Val). val_of e ∷ r) more
    by Equal g rest more = sym (all_kept key es (subst (λ (k : List ℕ). AllByRecursion (λ (y : List ℕ). bytes_cmp k y ≡ Less) (keys_of es)) (sym (bytes_exact key e.0 g)) rest))
    by Greater g rest more = ap (λ (r : List Val). val_of e ∷ r) more

-- the order
pub vals_rise : (es : List (List ℕ × List ℕ)) → IsStrictlySortedBy bytes_cmp (keys_of es) → Rises val_key (vals_of es)
unfolding IsStrictlySortedBy
vals_rise [] h = tt
vals_rise (e ∷ es) h = (below e.0 es h.0, vals_rise es h.1)
  where
    below : (k : List ℕ) (fs : List (List ℕ × List ℕ)) → AllByRecursion (λ (y : List ℕ). bytes_cmp k y ≡ Less) (keys_of fs) → AllByRecursion (λ (v : Val). bytes_cmp k v.key ≡ Less) (vals_of fs)
    below k [] g = tt
    below k (f ∷ fs) g = (g.0, below k fs g.1)

-- values that are put one after the other
pub puts_go : (had next vals : List Val) (i : ℕ) (v : Val) (total : List Val) → i < length vals → v ≡ get_or vals i v → add_values (drop i vals) had ≡ total → next ≡ put_val v had → add_values (drop (i + 1) vals) next ≡ total
puts_go had next vals i v total l e so_far h =
    ap (λ (x : List Val). add_values (drop (i + 1) vals) x) (h ∙ ap (λ (w : Val). put_val w had) e) ∙ sym (at_drop_more (λ (xs : List Val). add_values xs had) vals i v l) ∙ so_far

pub puts_end : (had vals : List Val) (i : ℕ) (total : List Val) → length vals ≤ i → add_values (drop i vals) had ≡ total → had ≡ total
puts_end had vals i total l so_far = sym (at_drop_all (λ (xs : List Val). add_values xs had) vals i l) ∙ so_far

-- rising values, put one after the other behind others below them, are those in their order
pub put_last : (v : Val) (had : List Val) → AllByRecursion (λ (w : Val). bytes_cmp w.key v.key ≡ Less) had → put_val v had ≡ had ++ v ∷ []
put_last v [] h = refl
put_last v (w ∷ had) h =
    ap (λ o. by_order o (v ∷ w ∷ had) (v ∷ had) (w ∷ put_val v had)) (above w.key v.key h.0) ∙ ap (λ (r : List Val). w ∷ r) (put_last v had h.1)

abbrev IsBelow : List Val → Val → Type 0
IsBelow had v = AllByRecursion (λ (w : Val). bytes_cmp w.key v.key ≡ Less) had

below_more : (had : List Val) (v w : Val) → IsBelow had w → bytes_cmp v.key w.key ≡ Less → IsBelow (had ++ v ∷ []) w
below_more [] v w h l = (l, tt)
below_more (x ∷ had) v w h l = (h.0, below_more had v w h.1 l)

all_more : (had : List Val) (v : Val) (vals : List Val) → AllByRecursion (IsBelow had) vals → AllByRecursion (λ (w : Val). bytes_cmp v.key w.key ≡ Less) vals → AllByRecursion (IsBelow (had ++ v ∷ [])) vals
all_more had v [] h l = tt
all_more had v (w ∷ vals) h l = (below_more had v w h.0 l.0, all_more had v vals h.1 l.1)

append_one : (had : List Val) (v : Val) (vals : List Val) → (had ++ v ∷ []) ++ vals ≡ had ++ v ∷ vals
append_one [] v vals = refl
append_one (w ∷ had) v vals = ap (λ (r : List Val). w ∷ r) (append_one had v vals)

append_none : (had : List Val) → had ++ [] ≡ had
append_none [] = refl
append_none (w ∷ had) = ap (λ (r : List Val). w ∷ r) (append_none had)

puts_behind : (had vals : List Val) → Rises val_key vals → AllByRecursion (IsBelow had) vals → add_values vals had ≡ had ++ vals
puts_behind had [] r b = sym (append_none had)
puts_behind had (v ∷ vals) r b =
    ap (λ (x : List Val). add_values vals x) (put_last v had b.0) ∙ puts_behind (had ++ v ∷ []) vals r.1 (all_more had v vals b.1 r.0) ∙ append_one had v vals

pub puts_rising : (vals : List Val) → Rises val_key vals → add_values vals [] ≡ vals
puts_rising vals r = puts_behind [] vals r (all vals)
  where
    all : (vs : List Val) → AllByRecursion (IsBelow []) vs
    all [] = tt
    all (v ∷ vs) = (tt, all vs)

-- ---- no value

not_zero : (n : ℕ) → 0 < n → (n == 0) ≡ false
not_zero n h = grind (arith, nat_tests)

pub none_of : (es : List (List ℕ × List ℕ)) (n : ℕ) → n ≡ length es → (n == 0) ≡ is_empty (vals_of es)
none_of [] n h = ap (λ (m : ℕ). m == 0) h
none_of (e ∷ es) n h = not_zero n (omega (arith, h))

-- a look-up in values in order
pub listed_as : (key : List ℕ) (vals : List Val) → is_some (find (λ (v : Val). bytes_eq key v.key) vals) ≡ has_key key vals
listed_as key [] = refl
listed_as key (v ∷ vals) = by (bytes_eq key v.key) (listed_as key vals) ∙ ap (λ t. t || has_key key vals) (same_turned key v.key)
  where
    by : (t : Bool) → is_some (find (λ (w : Val). bytes_eq key w.key) vals) ≡ has_key key vals → is_some (cond t (Some v) (find (λ (w : Val). bytes_eq key w.key) vals)) ≡ (t || has_key key vals)
    by true more = refl
    by false more = more

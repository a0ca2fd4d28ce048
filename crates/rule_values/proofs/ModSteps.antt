-- What modifications do to what an entry has, step by step.
use Rattle.std.proofs.Common.{◌≡◌, ℕ, ◌+◌, ◌<◌, ◌≤◌, Bool, true, false, cond, not, ◌||◌, List, [], ◌∷◌, ◌++◌, length, get_or, drop, refl, sym, ap, subst, ◌∙◌, Option, Some, None, Result, Ok, Err, nat_lt, append-nil}
use Rattle.std.specs.Prelude.{filter, find, fold, flat_map, is_some}
use Rattle.std.specs.Option.{option_map_or}
use Rattle.std.specs.List.{AllByRecursion, list_any}
use Rattle.std.specs.declared.cmp.Ordering.{Ordering}
use Rattle.std.specs.declared.cmp.Ordering.TheVariants.{Less, Equal, Greater}
use Rattle.std.specs.Ordering.{is_eq}
use Rattle.std.proofs.lemmas.List.{at_drop_more, at_drop_all}
use Rattle.std.proofs.lemmas.List.Sums.{fold-append}
use Rattle.repl_data.specs.declared.change.AttrKey.{AttrKey}
use Rattle.repl_data.specs.declared.change.Val.{Val}
use Rattle.repl_data.specs.declared.change.Attr.{Attr}
use Rattle.repl_data.specs.declared.change.Mod.{Mod}
use Rattle.repl_data.specs.declared.change.Rdn.{Rdn}
use Rattle.repl_data.specs.declared.change.Shown.{Shown}
use Rattle.repl_data.specs.declared.change.ModKind.TheVariants.{Delete}
use Rattle.repl_data.specs.Check.{is_empty}
use Rattle.repl_data.specs.Order.{bytes_cmp, bytes_eq, by_order}
use Rattle.repl_data.specs.Ordered.{Rises}
use Rattle.repl_data.specs.Plain.{add_values, without_values, values_after}
use Rattle.repl_data.specs.View.{put_attr, vals_at}
use Rattle.repl_data.proofs.KeyPlaces.{is_same, same_turned}
use Rattle.repl_data.proofs.Orders.{bytes_exact}
use Rattle.repl_data.proofs.Sound.{not_both}
use Rattle.ldap_types.specs.declared.request.RawMod.{RawMod}
use Rattle.rule_values.specs.declared.fault.Refusal.{Refusal}
use Rattle.rule_values.specs.declared.fault.ValueFault.{ValueFault}
use Rattle.rule_values.specs.declared.fault.Refusal.TheVariants.{NoModification, TooManyModifications}
use Rattle.rule_values.specs.Refusing.{◌>>=◌, Fails, refuse_if}
use Rattle.rule_values.specs.Having.{attr_name, held, step}
use Rattle.rule_values.specs.Modify.{shown_values, after, read_mod, fits, carried, ended, modifications}
use Rattle.rule_values.specs.Written.{Values, written}
use Rattle.rule_values.proofs.Places.{equal_key, above_others}
use Rattle.rule_values.proofs.InTurn.{go_on, stop}
use Rattle.rule_values.proofs.SetLemmas.{is_other}

-- ---- an attribute that is put among those that were touched

abbrev found : List ℕ → List Attr → Option Attr
found name attrs = find (λ (a : Attr). bytes_eq name a.attr.name) attrs

find_step : (name : List ℕ) (a : Attr) (attrs : List Attr) (t : Bool) → bytes_eq name a.attr.name ≡ t → found name (a ∷ attrs) ≡ cond t (Some a) (found name attrs)
find_step name a attrs t e = ap (λ b. cond b (Some a) (found name attrs)) e

-- two names that are not equal are not both this one
pub apart : (name x y : List ℕ) → bytes_cmp x y ≡ Greater → bytes_eq name x ≡ true → bytes_eq name y ≡ true → ⊥
apart name x y e h g =
    not_both (bytes_eq x y) (equal_key x y (sym (is_same name x h) ∙ is_same name y g)) (ap is_eq e)

behind : (a b : Attr) (r : Option Attr) (t u : Bool) → (t ≡ true → u ≡ true → ⊥) → cond u (Some b) (cond t (Some a) r) ≡ cond t (Some a) (cond u (Some b) r)
behind a b r true true f = absurd (f refl refl)
behind a b r true false f = refl
behind a b r false u f = refl

in_place : (name : List ℕ) (a b : Attr) (attrs : List Attr) → bytes_cmp a.attr.name b.attr.name ≡ Equal → (t : Bool) → bytes_eq name a.attr.name ≡ t → cond t (Some a) (found name attrs) ≡ cond t (Some a) (found name (b ∷ attrs))
in_place name a b attrs e true h = refl
in_place name a b attrs e false h = sym (find_step name b attrs false (ap (bytes_eq name) (sym (bytes_exact a.attr.name b.attr.name e)) ∙ h))

pub find_put : (name : List ℕ) (a : Attr) (attrs : List Attr) → found name (put_attr a attrs) ≡ cond (bytes_eq name a.attr.name) (Some a) (found name attrs)
find_put name a [] = refl
find_put name a (b ∷ attrs) = by (bytes_cmp a.attr.name b.attr.name) refl (find_put name a attrs)
  where
    by : (o : Ordering) → bytes_cmp a.attr.name b.attr.name ≡ o → found name (put_attr a attrs) ≡ cond (bytes_eq name a.attr.name) (Some a) (found name attrs)
        → found name (by_order o (a ∷ b ∷ attrs) (a ∷ attrs) (b ∷ put_attr a attrs)) ≡ cond (bytes_eq name a.attr.name) (Some a) (found name (b ∷ attrs))
    by Less e more = refl
    by Equal e more = in_place name a b attrs e (bytes_eq name a.attr.name) refl
    by Greater e more =
        ap (λ (r : Option Attr). cond (bytes_eq name b.attr.name) (Some b) r) more
        ∙ behind a b (found name attrs) (bytes_eq name a.attr.name) (bytes_eq name b.attr.name) (apart name a.attr.name b.attr.name e)

-- what the entry has with values of an attribute put among those touched
pub held_put : (own : List Shown) (touched : List Attr) (t : AttrKey) (vals : List Val) (name : List ℕ) → held own (put_attr (record { attr = t; vals = vals }) touched) name ≡ cond (bytes_eq name t.name) vals (held own touched name)
held_put own touched t vals name =
    ap (λ (o : Option Attr). option_map_or (λ (a : Attr). a.vals) o (shown_values own name)) (find_put name (record { attr = t; vals = vals }) touched) ∙ by (bytes_eq name t.name)
  where
    by : (b : Bool) → option_map_or (λ (a : Attr). a.vals) (cond b (Some (record { attr = t; vals = vals })) (found name touched)) (shown_values own name) ≡ cond b vals (held own touched name)
    by true = refl
    by false = refl

-- one modification
pub held_after : (own : List Shown) (touched rest new : List Attr) (m : Mod) (t : AttrKey) (vals had : List Val) →
    t ≡ m.attr → had ≡ held own touched m.attr.name → vals ≡ values_after m.kind m.vals had
    → ((vs : List Val) → put_attr (record { attr = m.attr; vals = vs }) rest ≡ put_attr (record { attr = m.attr; vals = vs }) touched)
    → new ≡ put_attr (record { attr = t; vals = vals }) rest → held own new ≡ after (held own touched) m
held_after own touched rest new m t vals had same h v put n = λ i name. pointwise name i
  where
    is : new ≡ put_attr (record { attr = m.attr; vals = vals }) touched
    is = n ∙ ap (λ (x : AttrKey). put_attr (record { attr = x; vals = vals }) rest) same ∙ put vals

    by : (name : List ℕ) (b : Bool) → bytes_eq name m.attr.name ≡ b → cond b vals (held own touched name) ≡ cond b (values_after m.kind m.vals (held own touched name)) (held own touched name)
    by name true e = v ∙ ap (values_after m.kind m.vals) (h ∙ ap (held own touched) (sym (is_same name m.attr.name e)))
    by name false e = refl

    pointwise : (name : List ℕ) → held own new name ≡ after (held own touched) m name
    pointwise name = ap (λ (x : List Attr). held own x name) is ∙ held_put own touched m.attr vals name ∙ by name (bytes_eq name m.attr.name) refl

-- ---- the values of an attribute that was touched

pub found_values : (own : List Shown) (touched : List Attr) (name : List ℕ) (a : Attr) → Some a ≡ found name touched → a.vals ≡ held own touched name
found_values own touched name a h = ap (λ (o : Option Attr). option_map_or (λ (x : Attr). x.vals) o (shown_values own name)) h

pub not_found_values : (own : List Shown) (touched : List Attr) (name : List ℕ) → None ≡ found name touched → shown_values own name ≡ held own touched name
not_found_values own touched name h = ap (λ (o : Option Attr). option_map_or (λ (x : Attr). x.vals) o (shown_values own name)) h

-- in rising attributes the values that stand at a name are those of the one that is found
pub vals_found : (own : List Shown) (name : List ℕ) (touched : List Attr) → Rises attr_name touched → is_some (found name touched) ≡ true → vals_at name touched ≡ held own touched name
vals_found own name [] r h = absurd (not_both false h refl)
vals_found own name (a ∷ touched) r h = by (bytes_eq name a.attr.name) refl (vals_found own name touched r.1)
  where
    by : (b : Bool) → bytes_eq name a.attr.name ≡ b → (is_some (found name touched) ≡ true → vals_at name touched ≡ held own touched name) → vals_at name (a ∷ touched) ≡ held own (a ∷ touched) name
    by true e more =
        let same : name ≡ a.attr.name = is_same name a.attr.name e in
        let none : vals_at name touched ≡ [] = above_others name touched (subst (λ (k : List ℕ). AllByRecursion (λ (z : Attr). bytes_cmp k z.attr.name ≡ Less) touched) (sym same) r.0) in
        ap (λ t. cond t a.vals [] ++ vals_at name touched) (same_turned a.attr.name name ∙ e) ∙ ap (λ w. a.vals ++ w) none ∙ append-nil a.vals
        ∙ ap (λ (o : Option Attr). option_map_or (λ (x : Attr). x.vals) o (shown_values own name)) (sym (find_step name a touched true e))
    by false e more =
        let p : found name (a ∷ touched) ≡ found name touched = find_step name a touched false e in
        ap (λ t. cond t a.vals [] ++ vals_at name touched) (same_turned a.attr.name name ∙ e)
        ∙ more (sym (ap is_some p) ∙ h)
        ∙ ap (λ (o : Option Attr). option_map_or (λ (x : Attr). x.vals) o (shown_values own name)) (sym p)

-- ---- the values that are shown, attribute by attribute

abbrev pub shown_at : List ℕ → List Shown → List Val
shown_at name own = flat_map (λ (s : Shown). cond (bytes_eq s.attr.name name) s.vals []) own

add_append : (xs ys had : List Val) → add_values (xs ++ ys) had ≡ add_values ys (add_values xs had)
add_append [] ys had = refl
add_append (x ∷ xs) ys had = add_append xs ys _

pub shown_go : (vals next : List Val) (own : List Shown) (name : List ℕ) (i : ℕ) (s : Shown) (total : List Val) → i < length own → s ≡ get_or own i s → add_values (shown_at name (drop i own)) vals ≡ total → next ≡ add_values (cond (bytes_eq s.attr.name name) s.vals []) vals → add_values (shown_at name (drop (i + 1) own)) next ≡ total
shown_go vals next own name i s total l e so_far h =
    ap (λ (x : List Val). add_values (shown_at name (drop (i + 1) own)) x) h
    ∙ sym (add_append (cond (bytes_eq s.attr.name name) s.vals []) (shown_at name (drop (i + 1) own)) vals)
    ∙ ap (λ (x : Shown). add_values (cond (bytes_eq x.attr.name name) x.vals [] ++ shown_at name (drop (i + 1) own)) vals) e
    ∙ sym (at_drop_more (λ (xs : List Shown). add_values (shown_at name xs) vals) own i s l) ∙ so_far

pub shown_end : (vals : List Val) (own : List Shown) (name : List ℕ) (i : ℕ) (total : List Val) → length own ≤ i → add_values (shown_at name (drop i own)) vals ≡ total → vals ≡ total
shown_end vals own name i total l so_far = sym (at_drop_all (λ (xs : List Shown). add_values (shown_at name xs) vals) own i l) ∙ so_far

-- ---- the values that are deleted, one after the other

pub take_one : (w : Val) (gone had : List Val) → without_values gone (filter (is_other w.key) had) ≡ without_values (w ∷ gone) had
take_one w gone [] = refl
take_one w gone (v ∷ had) = by (bytes_eq v.key w.key) refl (take_one w gone had)
  where
    by : (t : Bool) → bytes_eq v.key w.key ≡ t → without_values gone (filter (is_other w.key) had) ≡ without_values (w ∷ gone) had
        → without_values gone (cond (not t) (v ∷ filter (is_other w.key) had) (filter (is_other w.key) had)) ≡ cond (not (bytes_eq w.key v.key || list_any (λ (x : Val). bytes_eq x.key v.key) gone)) (v ∷ without_values (w ∷ gone) had) (without_values (w ∷ gone) had)
    by true e more = more ∙ ap (λ b. cond (not (b || list_any (λ (x : Val). bytes_eq x.key v.key) gone)) (v ∷ without_values (w ∷ gone) had) (without_values (w ∷ gone) had)) (sym (same_turned w.key v.key ∙ e))
    by false e more =
        ap (λ (r : List Val). cond (not (list_any (λ (x : Val). bytes_eq x.key v.key) gone)) (v ∷ r) r) more
        ∙ ap (λ b. cond (not (b || list_any (λ (x : Val). bytes_eq x.key v.key) gone)) (v ∷ without_values (w ∷ gone) had) (without_values (w ∷ gone) had)) (sym (same_turned w.key v.key ∙ e))

pub takes_go : (had next gone : List Val) (i : ℕ) (w : Val) (total : List Val) → i < length gone → w ≡ get_or gone i w → without_values (drop i gone) had ≡ total → next ≡ filter (is_other w.key) had → without_values (drop (i + 1) gone) next ≡ total
takes_go had next gone i w total l e so_far h =
    ap (without_values (drop (i + 1) gone)) h ∙ take_one w (drop (i + 1) gone) had ∙ ap (λ (x : Val). without_values (x ∷ drop (i + 1) gone) had) e
    ∙ sym (at_drop_more (λ (xs : List Val). without_values xs had) gone i w l) ∙ so_far

all_stay : (had : List Val) → without_values [] had ≡ had
all_stay [] = refl
all_stay (v ∷ had) = ap (λ (r : List Val). v ∷ r) (all_stay had)

pub takes_end : (had gone : List Val) (i : ℕ) (total : List Val) → length gone ≤ i → without_values (drop i gone) had ≡ total → had ≡ total
takes_end had gone i total l so_far = sym (all_stay had) ∙ sym (at_drop_all (λ (xs : List Val). without_values xs had) gone i l) ∙ so_far

-- ---- modifications in turn

-- what follows a modification that is read and fits
step_then : {B : Type 0} (has : Values) (g : RawMod) (k : Mod → Result B Refusal) → (read_mod g >>= λ m. fits m.kind m.vals (has m.attr.name) >>= λ _. k m) ≡ (step has g >>= k)
unfolding step
step_then has g k = by (read_mod g)
  where
    fit : (m : Mod) (f : Result (Unit {0}) Refusal) → (f >>= λ _. k m) ≡ ((f >>= λ _. Ok m) >>= k)
    fit m (Ok u) = refl
    fit m (Err e) = refl

    by : (r : Result Mod Refusal) → (r >>= λ m. fits m.kind m.vals (has m.attr.name) >>= λ _. k m) ≡ ((r >>= λ m. fits m.kind m.vals (has m.attr.name) >>= λ _. Ok m) >>= k)
    by (Ok m) = fit m (fits m.kind m.vals (has m.attr.name))
    by (Err e) = refl

-- those that are to come, behind those that were carried out
abbrev pub rest_of : Values → List Mod → List RawMod → Result (List Mod) Refusal
rest_of has mods given = carried has given >>= λ more. Ok (mods ++ more)

append_one : (xs : List Mod) (y : Mod) (ys : List Mod) → (xs ++ y ∷ []) ++ ys ≡ xs ++ y ∷ ys
append_one [] y ys = refl
append_one (x ∷ xs) y ys = ap (λ (r : List Mod). x ∷ r) (append_one xs y ys)

pub rest_first : (has : Values) (mods : List Mod) (given : List RawMod) → mods ≡ [] → rest_of has mods given ≡ carried has given
rest_first has mods given p = ap (λ (xs : List Mod). rest_of has xs given) p ∙ by (carried has given)
  where
    by : (r : Result (List Mod) Refusal) → (r >>= λ more. Ok ([] ++ more)) ≡ r
    by (Ok mods) = refl
    by (Err e) = refl

-- the first of those that are to come
rest_step : (has : Values) (mods : List Mod) (g : RawMod) (given : List RawMod) → rest_of has mods (g ∷ given) ≡ (step has g >>= λ m. rest_of (after has m) (mods ++ m ∷ []) given)
unfolding carried
rest_step has mods g given =
    ap (λ (r : Result (List Mod) Refusal). r >>= λ more. Ok (mods ++ more)) (step_then has g (λ m. carried (after has m) given >>= λ xs. Ok (m ∷ xs)))
    ∙ by (step has g)
  where
    one : (m : Mod) (r : Result (List Mod) Refusal) → ((r >>= λ xs. Ok (m ∷ xs)) >>= λ more. Ok (mods ++ more)) ≡ (r >>= λ more. Ok ((mods ++ m ∷ []) ++ more))
    one m (Ok xs) = ap Ok (sym (append_one mods m xs))
    one m (Err e) = refl

    by : (s : Result Mod Refusal) → ((s >>= λ m. carried (after has m) given >>= λ xs. Ok (m ∷ xs)) >>= λ more. Ok (mods ++ more)) ≡ (s >>= λ m. rest_of (after has m) (mods ++ m ∷ []) given)
    by (Ok m) = one m (carried (after has m) given)
    by (Err e) = refl

pub mods_go : (has next : Values) (mods new : List Mod) (m : Mod) (given : List RawMod) (i : ℕ) (g : RawMod) (total : Result (List Mod) Refusal) → i < length given → g ≡ get_or given i g → rest_of has mods (drop i given) ≡ total → step has g ≡ Ok m → next ≡ after has m → new ≡ mods ++ m ∷ [] → rest_of next new (drop (i + 1) given) ≡ total
mods_go has next mods new m given i g total l e so_far h n p =
    ap (λ (xs : List Mod). rest_of next xs (drop (i + 1) given)) p
    ∙ ap (λ (x : Values). rest_of x (mods ++ m ∷ []) (drop (i + 1) given)) n
    ∙ sym (ap (λ (s : Result Mod Refusal). s >>= λ x. rest_of (after has x) (mods ++ x ∷ []) (drop (i + 1) given)) h)
    ∙ sym (rest_step has mods g (drop (i + 1) given))
    ∙ ap (λ (x : RawMod). rest_of has mods (x ∷ drop (i + 1) given)) e
    ∙ sym (at_drop_more (rest_of has mods) given i g l) ∙ so_far

pub mods_stop : (has : Values) (mods : List Mod) (given : List RawMod) (i : ℕ) (g : RawMod) (total : Result (List Mod) Refusal) (e : ValueFault) → i < length given → g ≡ get_or given i g → rest_of has mods (drop i given) ≡ total → Fails e (step has g) → Fails e total
mods_stop has mods given i g total e l is so_far h =
    subst (Fails e)
    (sym (rest_step has mods g (drop (i + 1) given)) ∙ ap (λ (x : RawMod). rest_of has mods (x ∷ drop (i + 1) given)) is ∙ sym (at_drop_more (rest_of has mods) given i g l) ∙ so_far)
    (stop (step has g) e _ h)

pub mods_end : (has : Values) (mods : List Mod) (given : List RawMod) (i : ℕ) (total : Result (List Mod) Refusal) → length given ≤ i → rest_of has mods (drop i given) ≡ total → total ≡ Ok mods
unfolding carried
mods_end has mods given i total l so_far = sym so_far ∙ at_drop_all (rest_of has mods) given i l ∙ ap Ok (none mods)
  where
    none : (xs : List Mod) → xs ++ [] ≡ xs
    none [] = refl
    none (x ∷ xs) = ap (λ (r : List Mod). x ∷ r) (none xs)

pub after_more : (first has next : Values) (mods new : List Mod) (m : Mod) → has ≡ fold after first mods → next ≡ after has m → new ≡ mods ++ m ∷ [] → next ≡ fold after first new
after_more first has next mods new m h n p =
    n ∙ ap (λ (x : Values). after x m) h ∙ sym (fold-append after first mods (m ∷ [])) ∙ ap (fold after first) (sym p)

pub after_none : (has : Values) (mods : List Mod) → mods ≡ [] → has ≡ fold after has mods
after_none has mods p = ap (fold after has) (sym p)

-- ---- all cases of a modify

abbrev finish : Rdn → Values → List Mod → Result (List Mod) Refusal
finish name has mods = ended name has mods >>= λ _. Ok (written has mods)

after_two : {A : Type 0} (r s : Result (Unit {0}) Refusal) (k : Result A Refusal) → r ≡ Ok tt → s ≡ Ok tt → (r >>= λ _. s >>= λ _. k) ≡ k
after_two r s k a b = ap (λ (x : Result (Unit {0}) Refusal). x >>= λ _. s >>= λ _. k) a ∙ ap (λ (x : Result (Unit {0}) Refusal). x >>= λ _. k) b

made_as : (name : Rdn) (own : List Shown) (given : List RawMod) → refuse_if (is_empty given) NoModification ≡ Ok tt → refuse_if (nat_lt 1000 (length given)) TooManyModifications ≡ Ok tt
    → modifications name own given ≡ (carried (shown_values own) given >>= λ mods. finish name (fold after (shown_values own) mods) mods)
unfolding modifications
made_as name own given a b =
    after_two (refuse_if (is_empty given) NoModification) (refuse_if (nat_lt 1000 (length given)) TooManyModifications) (carried (shown_values own) given >>= λ mods. finish name (fold after (shown_values own) mods) mods) a b

pub made_stops : (name : Rdn) (own : List Shown) (given : List RawMod) (touched : List Attr) (e : ValueFault) → refuse_if (is_empty given) NoModification ≡ Ok tt → refuse_if (nat_lt 1000 (length given)) TooManyModifications ≡ Ok tt
    → touched ≡ [] → Fails e (carried (held own touched) given) → Fails e (modifications name own given)
made_stops name own given touched e a b t h =
    subst (Fails e) (sym (made_as name own given a b))
    (stop (carried (shown_values own) given) e (λ mods. finish name (fold after (shown_values own) mods) mods) (subst (λ (ts : List Attr). Fails e (carried (held own ts) given)) t h))

made_at : (name : Rdn) (own : List Shown) (given : List RawMod) (touched new : List Attr) (mods : List Mod) → refuse_if (is_empty given) NoModification ≡ Ok tt → refuse_if (nat_lt 1000 (length given)) TooManyModifications ≡ Ok tt
    → touched ≡ [] → carried (held own touched) given ≡ Ok mods → held own new ≡ fold after (held own touched) mods → modifications name own given ≡ finish name (held own new) mods
made_at name own given touched new mods a b t h w =
    made_as name own given a b
    ∙ ap (λ (r : Result (List Mod) Refusal). r >>= λ ms. finish name (fold after (shown_values own) ms) ms) (subst (λ (ts : List Attr). carried (held own ts) given ≡ Ok mods) t h)
    ∙ ap (λ (has : Values). finish name has mods) (sym (subst (λ (ts : List Attr). held own new ≡ fold after (held own ts) mods) t w))

pub made_ends : (name : Rdn) (own : List Shown) (given : List RawMod) (touched new : List Attr) (mods : List Mod) (e : ValueFault) → refuse_if (is_empty given) NoModification ≡ Ok tt → refuse_if (nat_lt 1000 (length given)) TooManyModifications ≡ Ok tt
    → touched ≡ [] → carried (held own touched) given ≡ Ok mods → held own new ≡ fold after (held own touched) mods → Fails e (ended name (held own new) mods) → Fails e (modifications name own given)
made_ends name own given touched new mods e a b t h w f =
    subst (Fails e) (sym (made_at name own given touched new mods a b t h w)) (stop (ended name (held own new) mods) e (λ _. Ok (written (held own new) mods)) f)

pub made_done : (name : Rdn) (own : List Shown) (given : List RawMod) (touched new : List Attr) (mods body : List Mod) → refuse_if (is_empty given) NoModification ≡ Ok tt → refuse_if (nat_lt 1000 (length given)) TooManyModifications ≡ Ok tt
    → touched ≡ [] → carried (held own touched) given ≡ Ok mods → held own new ≡ fold after (held own touched) mods → ended name (held own new) mods ≡ Ok tt → body ≡ written (held own new) mods → modifications name own given ≡ Ok body
made_done name own given touched new mods body a b t h w d is =
    made_at name own given touched new mods a b t h w ∙ go_on (ended name (held own new) mods) tt (λ _. Ok (written (held own new) mods)) d ∙ ap Ok (sym is)

-- ---- deletes by what they name

pub deletes_all : (vals had : List Val) → is_empty vals ≡ true → [] ≡ values_after Delete vals had
deletes_all [] had h = refl
deletes_all (v ∷ vals) had h = absurd (not_both false h refl)

pub deletes_some : (vals had : List Val) → is_empty vals ≡ false → without_values vals had ≡ values_after Delete vals had
deletes_some [] had h = absurd (not_both true refl h)
deletes_some (v ∷ vals) had h = refl

pub none_found : {X : Type 0} (o : Option X) → is_some o ≡ false → None ≡ o
none_found None h = refl
none_found (Some x) h = absurd (not_both true refl h)

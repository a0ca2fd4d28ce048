-- The values of one attribute as choices, and what one modification makes of them: in plain words, and by its stamp.
use Rattle.std.proofs.Common.{◌≡◌, ◌⊎◌, inl, inr, ℕ, Bool, true, false, cond, not, ◌||◌, List, [], ◌∷◌, ◌++◌, map, refl, sym, ap, subst, ◌∙◌, Option, Some, None, append_assoc, append-nil}
use Rattle.std.specs.Prelude.{filter, flat_map, fold, if◌then◌else◌}
use Rattle.std.specs.List.{AllByRecursion, list_any}
use Rattle.std.specs.declared.cmp.Ordering.TheVariants.{Less}
use Rattle.std.specs.Ordering.{is_eq}
use Rattle.std.proofs.lemmas.Bool.{or_right}
use Rattle.rule_values.proofs.SetLemmas.{put_last}
use Rattle.repl_data.specs.declared.csn.Csn.{Csn}
use Rattle.repl_data.specs.declared.change.AttrKey.{AttrKey}
use Rattle.repl_data.specs.declared.change.Val.{Val}
use Rattle.repl_data.specs.declared.change.Mod.{Mod}
use Rattle.repl_data.specs.declared.change.ModKind.{ModKind}
use Rattle.repl_data.specs.declared.change.ModKind.TheVariants.{Add as AddValues, Delete, Replace}
use Rattle.repl_data.specs.Order.{csn_lt, csn_le, csn_max, later, bytes_cmp, bytes_eq, in_order}
use Rattle.repl_data.specs.Ordered.{Rises}
use Rattle.repl_data.specs.Stamps.{Act, Adds, Deletes, Clears, adds, mod_acts}
use Rattle.repl_data.specs.Facts.{ValFacts, keys_named}
use Rattle.repl_data.specs.Plain.{add_values, without_values, values_after}
use Rattle.repl_data.proofs.Orders.{bytes_total, bytes_exact}
use Rattle.repl_data.proofs.CsnTests.{csn_lt-irreflexive, csn_lt-one_way, csn_le-from_not, csn_le-not}
use Rattle.repl_data.proofs.InOrder.{in_order_by-append}
use Rattle.repl_data.proofs.KeyPlaces.{put_rises, is_same, same_self}
use Rattle.repl_data.proofs.Raised.{raised_val}
use Rattle.repl_data.proofs.Sound.{not_both}
use Rattle.plain_effect.proofs.Shown.{turned}
use Rattle.plain_effect.proofs.Normal.{own, opt, listed, with_one, put_key, above_other, listed_same, put_listed, drop_listed, put_none, listed_none}

abbrev key_of : Val → List ℕ
key_of v = v.key

abbrev pub Choice : Type 0
Choice = List ℕ → Option Val

abbrev pub Fits : Choice → Type 0
Fits w = (j : List ℕ) (x : Val) → w j ≡ Some x → x.key ≡ j

-- ---- in plain words

abbrev pub puts : List Val → Choice → Choice
puts [] w = w
puts (v ∷ vals) w = puts vals (with_one w v.key (Some v))

abbrev pub chosen : ModKind → List Val → Choice → Choice
chosen AddValues vals w = puts vals w
chosen Delete [] w = λ _. None
chosen Delete (v ∷ vals) w = λ k. if list_any (λ (x : Val). bytes_eq x.key k) (v ∷ vals) then None else w k
chosen Replace vals w = puts vals (λ _. None)

abbrev pub keys_with : List Val → List (List ℕ) → List (List ℕ)
keys_with [] ks = ks
keys_with (v ∷ vals) ks = keys_with vals (put_key v.key ks)

fits_one : (w : Choice) (v : Val) → Fits w → Fits (with_one w v.key (Some v))
fits_one w v f j x h = by (bytes_eq j v.key) refl h
  where
    by : (b : Bool) → bytes_eq j v.key ≡ b → (if b then Some v else w j) ≡ Some x → x.key ≡ j
    by true e g = let same : v ≡ x = cc in sym (is_same j v.key e ∙ ap key_of same)
    by false e g = f j x g

fits_puts : (vals : List Val) (w : Choice) → Fits w → Fits (puts vals w)
fits_puts [] w f = f
fits_puts (v ∷ vals) w f = fits_puts vals (with_one w v.key (Some v)) (fits_one w v f)

no_fit : Fits (λ _. None)
no_fit j x h = let n : ⊥ = cc in absurd n

pub fits_chosen : (kind : ModKind) (vals : List Val) (w : Choice) → Fits w → Fits (chosen kind vals w)
fits_chosen AddValues vals w f = fits_puts vals w f
fits_chosen Delete [] w f = no_fit
fits_chosen Delete (v ∷ vals) w f = λ j x h. by j x (list_any (λ (y : Val). bytes_eq y.key j) (v ∷ vals)) h
  where
    by : (j : List ℕ) (x : Val) (b : Bool) → (if b then None else w j) ≡ Some x → x.key ≡ j
    by j x true h = let n : ⊥ = cc in absurd n
    by j x false h = f j x h
fits_chosen Replace vals w f = fits_puts vals (λ _. None) no_fit

pub rises_with : (vals : List Val) (ks : List (List ℕ)) → Rises own ks → Rises own (keys_with vals ks)
rises_with [] ks r = r
rises_with (v ∷ vals) ks r = rises_with vals (put_key v.key ks) (put_rises own v.key ks r)

added_listed : (vals : List Val) (w : Choice) (ks : List (List ℕ)) → Fits w → Rises own ks → add_values vals (listed w ks) ≡ listed (puts vals w) (keys_with vals ks)
added_listed [] w ks f r = refl
added_listed (v ∷ vals) w ks f r =
    ap (add_values vals) (put_listed key_of w f v ks r)
    ∙ added_listed vals (with_one w v.key (Some v)) (put_key v.key ks) (fits_one w v f) (put_rises own v.key ks r)

all_behind : (v : Val) (before vals : List Val) → AllByRecursion (λ (y : Val). AllByRecursion (λ (x : Val). bytes_cmp x.key y.key ≡ Less) before) vals → AllByRecursion (λ (y : Val). bytes_cmp v.key y.key ≡ Less) vals
    → AllByRecursion (λ (y : Val). AllByRecursion (λ (x : Val). bytes_cmp x.key y.key ≡ Less) (before ++ v ∷ [])) vals
all_behind v before [] h g = tt
all_behind v before (y ∷ vals) h g = (one before h.0, all_behind v before vals h.1 g.1)
  where
    one : (bs : List Val) → AllByRecursion (λ (x : Val). bytes_cmp x.key y.key ≡ Less) bs → AllByRecursion (λ (x : Val). bytes_cmp x.key y.key ≡ Less) (bs ++ v ∷ [])
    one [] k = (g.0, tt)
    one (b ∷ bs) k = (k.0, one bs k.1)

-- rising values put one after the other are these
pub added_behind : (before vals : List Val) → AllByRecursion (λ (y : Val). AllByRecursion (λ (x : Val). bytes_cmp x.key y.key ≡ Less) before) vals → Rises key_of vals → add_values vals before ≡ before ++ vals
added_behind before [] h r = sym (append-nil before)
added_behind before (v ∷ vals) h r =
    ap (add_values vals) (put_last v before h.0)
    ∙ added_behind (before ++ v ∷ []) vals (all_behind v before vals h.1 r.0) r.1
    ∙ append_assoc before (v ∷ []) vals

pub nothing_before : (vals : List Val) → AllByRecursion (λ (y : Val). AllByRecursion (λ (x : Val). bytes_cmp x.key y.key ≡ Less) []) vals
nothing_before [] = tt
nothing_before (v ∷ vals) = (tt, nothing_before vals)

keys_none : (z : Choice) (vals : List Val) (ks : List (List ℕ)) → AllByRecursion (λ (v : Val). z v.key ≡ None) vals → listed z ks ≡ listed z (keys_with vals ks)
keys_none z [] ks h = refl
keys_none z (v ∷ vals) ks h = put_none z v.key ks h.0 ∙ keys_none z vals (put_key v.key ks) h.1

each_out : (w : Choice) (old vals : List Val) → AllByRecursion (λ (v : Val). list_any (λ (x : Val). bytes_eq x.key v.key) old ≡ true) vals → AllByRecursion (λ (v : Val). (if list_any (λ (x : Val). bytes_eq x.key v.key) old then None else w v.key) ≡ None) vals
each_out w old [] h = tt
each_out w old (v ∷ vals) h = (ap (λ (b : Bool). if b then None else w v.key) h.0, each_out w old vals h.1)

among_more : (y : Val) (old vals : List Val) → AllByRecursion (λ (v : Val). list_any (λ (x : Val). bytes_eq x.key v.key) old ≡ true) vals → AllByRecursion (λ (v : Val). list_any (λ (x : Val). bytes_eq x.key v.key) (y ∷ old) ≡ true) vals
among_more y old [] h = tt
among_more y old (v ∷ vals) h = (or_right (bytes_eq y.key v.key) (list_any (λ (x : Val). bytes_eq x.key v.key) old) h.0, among_more y old vals h.1)

each_among : (vals : List Val) → AllByRecursion (λ (v : Val). list_any (λ (x : Val). bytes_eq x.key v.key) vals ≡ true) vals
each_among [] = tt
each_among (v ∷ vals) = (ap (λ b. b || list_any (λ (x : Val). bytes_eq x.key v.key) vals) (same_self v.key), among_more v vals vals (each_among vals))

-- ONE MODIFICATION, IN PLAIN WORDS
pub after_listed : (kind : ModKind) (vals : List Val) (w : Choice) (ks : List (List ℕ)) → Rises key_of vals → Fits w → Rises own ks → values_after kind vals (listed w ks) ≡ listed (chosen kind vals w) (keys_with vals ks)
after_listed AddValues vals w ks v f r = added_listed vals w ks f r
after_listed Delete [] w ks v f r = sym (listed_none ks)
after_listed Delete (x ∷ vals) w ks v f r =
    drop_listed key_of w f (λ k. list_any (λ (y : Val). bytes_eq y.key k) (x ∷ vals)) ks
    ∙ keys_none (chosen Delete (x ∷ vals) w) (x ∷ vals) ks (each_out w (x ∷ vals) (x ∷ vals) (each_among (x ∷ vals)))
after_listed Replace vals w ks v f r =
    sym (added_behind [] vals (nothing_before vals) v) ∙ ap (add_values vals) (sym (listed_none ks)) ∙ added_listed vals (λ _. None) ks no_fit r

-- ---- by its stamp

abbrev pub raised_all : ValFacts → List Act → ValFacts
raised_all = fold (λ f a. raised_val a f)

abbrev value : ValFacts → Val
value f = record { key = f.key; spelled = f.spelled }

-- what the facts say of a key that the modifications touched
abbrev pub says : ValFacts → Option Val
says f = if csn_le f.down f.up then Some (value f) else None

-- the two agree: they say the same, or neither changed
abbrev pub Agree : ValFacts → ValFacts → Option Val → Option Val → Type 0
Agree f g before o = (o ≡ says g) ⊎ ((g ≡ f) × (o ≡ before))

abbrev pub IsWithin : Csn → ValFacts → Type 0
IsWithin s f = (csn_lt s f.up ≡ false) × (csn_lt s f.down ≡ false)

abbrev pub IsBelow : Csn → ValFacts → Type 0
IsBelow s f = (csn_lt f.up s ≡ true) × (csn_lt f.down s ≡ true)

other_adds : (s : Csn) (t : AttrKey) (v : Val) (f : ValFacts) → bytes_eq f.key v.key ≡ false → raised_val (Adds s t v) f ≡ f
other_adds s t v f n = λ i. record { key = f.key; spelled = (if n i then later (f.up, f.spelled) (s, v.spelled) else (f.up, f.spelled)).1; up = (if n i then later (f.up, f.spelled) (s, v.spelled) else (f.up, f.spelled)).0; down = f.down }

own_adds : (s : Csn) (t : AttrKey) (v : Val) (f : ValFacts) → bytes_eq f.key v.key ≡ true → csn_lt f.up s ≡ true → raised_val (Adds s t v) f ≡ record { key = f.key; spelled = v.spelled; up = s; down = f.down }
own_adds s t v f n l =
    let added : (if bytes_eq f.key v.key then later (f.up, f.spelled) (s, v.spelled) else (f.up, f.spelled)) ≡ (s, v.spelled) =
    ap (λ (b : Bool). if b then later (f.up, f.spelled) (s, v.spelled) else (f.up, f.spelled)) n ∙ ap (λ (b : Bool). if b then (s, v.spelled) else (f.up, f.spelled)) l in
    λ i. record { key = f.key; spelled = (added i).1; up = (added i).0; down = f.down }

none_added : (s : Csn) (t : AttrKey) (vals : List Val) (f : ValFacts) → AllByRecursion (λ (v : Val). bytes_eq f.key v.key ≡ false) vals → raised_all f (adds s t vals) ≡ f
none_added s t [] f h = refl
none_added s t (v ∷ vals) f h = ap (λ g. raised_all g (adds s t vals)) (other_adds s t v f h.0) ∙ none_added s t vals f h.1

none_put : (k : List ℕ) (vals : List Val) (w : Choice) → AllByRecursion (λ (v : Val). bytes_eq k v.key ≡ false) vals → puts vals w k ≡ w k
none_put k [] w h = refl
none_put k (v ∷ vals) w h = none_put k vals (with_one w v.key (Some v)) h.1 ∙ ap (λ (b : Bool). if b then Some v else w k) h.0

later_keys : (k : List ℕ) (v : Val) (vals : List Val) → k ≡ v.key → AllByRecursion (λ (x : Val). bytes_cmp v.key x.key ≡ Less) vals → AllByRecursion (λ (x : Val). bytes_eq k x.key ≡ false) vals
later_keys k v [] e h = tt
later_keys k v (x ∷ vals) e h = (ap (λ n. bytes_eq n x.key) e ∙ ap is_eq h.0, later_keys k v vals e h.1)

-- values that are added: this key is among them, or nothing changed
abbrev IsAdded : Csn → ValFacts → ValFacts → Choice → Choice → Type 0
IsAdded s f g w z = ((v : Val) × (g ≡ record { key = f.key; spelled = v.spelled; up = s; down = f.down }) × (z f.key ≡ Some v) × (v.key ≡ f.key)) ⊎ ((g ≡ f) × (z f.key ≡ w f.key))

adds_one : (s : Csn) (t : AttrKey) (vals : List Val) (f : ValFacts) (w : Choice) → Rises key_of vals → csn_lt f.up s ≡ true → IsAdded s f (raised_all f (adds s t vals)) w (puts vals w)
adds_one s t [] f w r l = inr (refl, refl)
adds_one s t (v ∷ vals) f w r l = by (adds_one s t vals f (with_one w v.key (Some v)) r.1 l) (bytes_eq f.key v.key) refl
  where
    by : IsAdded s f (raised_all f (adds s t vals)) (with_one w v.key (Some v)) (puts vals (with_one w v.key (Some v))) → (b : Bool) → bytes_eq f.key v.key ≡ b → IsAdded s f (raised_all f (adds s t (v ∷ vals))) w (puts (v ∷ vals) w)
    by more true e =
        let same : f.key ≡ v.key = is_same f.key v.key e in
        let g : ValFacts = record { key = f.key; spelled = v.spelled; up = s; down = f.down } in
        let others : AllByRecursion (λ (x : Val). bytes_eq f.key x.key ≡ false) vals = later_keys f.key v vals same r.0 in
        inl (
          v,
          ap (λ h. raised_all h (adds s t vals)) (own_adds s t v f e l) ∙ none_added s t vals g others,
          none_put f.key vals (with_one w v.key (Some v)) others ∙ ap (λ (b : Bool). if b then Some v else w f.key) e,
          sym same,
        )
    by more false e =
        let same : raised_all f (adds s t (v ∷ vals)) ≡ raised_all f (adds s t vals) = ap (λ h. raised_all h (adds s t vals)) (other_adds s t v f e) in
        let one : with_one w v.key (Some v) f.key ≡ w f.key = ap (λ (b : Bool). if b then Some v else w f.key) e in
        elim more [
          | inl k ↦ inl (k.0, same ∙ k.1, k.2, k.3)
          | inr k ↦ inr (same ∙ k.0, k.1 ∙ one)
        ]

-- ---- one modification

pub record IsMoved (s : Csn) (f g : ValFacts) (before o : Option Val) : Type 0 where
  pub agree : Agree f g before o
  pub within : IsWithin s g
  pub key : g.key ≡ f.key

le_false : (s up : Csn) → csn_lt up s ≡ true → csn_le s up ≡ false
le_false s up l = csn_le-not s up ∙ ap not l

abbrev val_of : List ℕ → List ℕ → Val
val_of key spelled = record { key = key; spelled = spelled }

le_itself : (s : Csn) → csn_le s s ≡ true
le_itself s = csn_le-from_not s s (csn_lt-irreflexive s)

says_none : (f : ValFacts) (s : Csn) → csn_lt f.up s ≡ true → f.down ≡ s → None ≡ says f
says_none f s l e = sym (ap (λ (b : Bool). if b then Some (value f) else None) (ap (λ d. csn_le d f.up) e ∙ le_false s f.up l))

says_some : (f : ValFacts) (v : Val) (down s : Csn) → csn_le down s ≡ true → v.key ≡ f.key → Some v ≡ says (record { key = f.key; spelled = v.spelled; up = s; down = down })
says_some f v down s le e =
    ap (λ (k : List ℕ). Some (val_of k v.spelled)) e ∙ sym (ap (λ (b : Bool). if b then Some (val_of f.key v.spelled) else None) le)

cleared : (s : Csn) (t : AttrKey) (f : ValFacts) → csn_lt f.down s ≡ true → raised_val (Clears s t) f ≡ record f { down = s }
cleared s t f l = ap (λ (b : Bool). record f { down = if b then s else f.down }) l

abbrev gone_at : Csn → ValFacts → ValFacts
gone_at s f = record f { down = s }

deletes_done : (s : Csn) (t : AttrKey) (vals : List Val) (f : ValFacts) → raised_all (gone_at s f) (map (Deletes s t) vals) ≡ gone_at s f
deletes_done s t [] f = refl
deletes_done s t (v ∷ vals) f = ap (λ g. raised_all g (map (Deletes s t) vals)) (by (bytes_eq f.key v.key)) ∙ deletes_done s t vals f
  where
    by : (b : Bool) → ◌≡◌ {A = ValFacts} (record f { down = if b then csn_max s s else s }) (gone_at s f)
    by true = ap (λ (b : Bool). record f { down = if b then s else s }) (csn_lt-irreflexive s)
    by false = refl

-- values that are deleted: this key is among them, or nothing changed
deletes_one : (s : Csn) (t : AttrKey) (vals : List Val) (f : ValFacts) → csn_lt f.down s ≡ true
    → ((list_any (λ (x : Val). bytes_eq x.key f.key) vals ≡ true) × (raised_all f (map (Deletes s t) vals) ≡ gone_at s f)) ⊎ ((list_any (λ (x : Val). bytes_eq x.key f.key) vals ≡ false) × (raised_all f (map (Deletes s t) vals) ≡ f))
deletes_one s t [] f l = inr (refl, refl)
deletes_one s t (v ∷ vals) f l = by (deletes_one s t vals f l) (bytes_eq f.key v.key) refl
  where
    step : (b : Bool) → bytes_eq f.key v.key ≡ b → raised_val (Deletes s t v) f ≡ record f { down = if b then csn_max f.down s else f.down }
    step b e = ap (λ (o : Bool). record f { down = if o then csn_max f.down s else f.down }) e

    by : ((list_any (λ (x : Val). bytes_eq x.key f.key) vals ≡ true) × (raised_all f (map (Deletes s t) vals) ≡ gone_at s f)) ⊎ ((list_any (λ (x : Val). bytes_eq x.key f.key) vals ≡ false) × (raised_all f (map (Deletes s t) vals) ≡ f))
        → (b : Bool) → bytes_eq f.key v.key ≡ b
        → ((list_any (λ (x : Val). bytes_eq x.key f.key) (v ∷ vals) ≡ true) × (raised_all f (map (Deletes s t) (v ∷ vals)) ≡ gone_at s f)) ⊎ ((list_any (λ (x : Val). bytes_eq x.key f.key) (v ∷ vals) ≡ false) × (raised_all f (map (Deletes s t) (v ∷ vals)) ≡ f))
    by more true e = inl (
      ap (λ b. b || list_any (λ (x : Val). bytes_eq x.key f.key) vals) (turned f.key v.key true e),
      ap (λ g. raised_all g (map (Deletes s t) vals)) (step true e ∙ ap (λ (b : Bool). record f { down = if b then s else f.down }) l) ∙ deletes_done s t vals f,
    )
    by more false e =
        let same : raised_all f (map (Deletes s t) (v ∷ vals)) ≡ raised_all f (map (Deletes s t) vals) = ap (λ g. raised_all g (map (Deletes s t) vals)) (step false e) in
        let first : list_any (λ (x : Val). bytes_eq x.key f.key) (v ∷ vals) ≡ list_any (λ (x : Val). bytes_eq x.key f.key) vals = ap (λ b. b || list_any (λ (x : Val). bytes_eq x.key f.key) vals) (turned f.key v.key false e) in
        elim more [ inl k ↦ inl (first ∙ k.0, same ∙ k.1) | inr k ↦ inr (first ∙ k.0, same ∙ k.1) ]

moved_as : (s : Csn) (f g h : ValFacts) (before o : Option Val) → g ≡ h → IsMoved s f h before o → IsMoved s f g before o
moved_as s f g h before o e m = subst (λ x. IsMoved s f x before o) (sym e) m

stays : (s : Csn) (f : ValFacts) (before o : Option Val) → IsBelow s f → o ≡ before → IsMoved s f f before o
stays s f before o b e = record { agree = inr (refl, e); within = (csn_lt-one_way f.up s b.0, csn_lt-one_way f.down s b.1); key = refl }

goes : (s : Csn) (f : ValFacts) (before o : Option Val) → IsBelow s f → o ≡ None → IsMoved s f (gone_at s f) before o
goes s f before o b e = record { agree = inl (e ∙ says_none (gone_at s f) s b.0 refl); within = (csn_lt-one_way f.up s b.0, csn_lt-irreflexive s); key = refl }

comes : (s down : Csn) (f : ValFacts) (before o : Option Val) (v : Val) → csn_lt s down ≡ false → o ≡ Some v → v.key ≡ f.key → IsMoved s f (record { key = f.key; spelled = v.spelled; up = s; down = down }) before o
comes s down f before o v w e k = record { agree = inl (e ∙ says_some f v down s (csn_le-from_not down s w) k); within = (csn_lt-irreflexive s, w); key = refl }

-- a replace touches every key
replace_key : (s : Csn) (t : AttrKey) (vals : List Val) (f : ValFacts) (before : Option Val) → Rises key_of vals → IsBelow s f
    → IsMoved s f (raised_all f (Clears s t ∷ adds s t vals)) before (puts vals (λ _. None) f.key)
replace_key s t vals f before r b =
    moved_as s f (raised_all f (Clears s t ∷ adds s t vals)) (raised_all (gone_at s f) (adds s t vals)) before (puts vals (λ _. None) f.key) (ap (λ g. raised_all g (adds s t vals)) (cleared s t f b.1))
    (elim (adds_one s t vals (gone_at s f) (λ _. None) r b.0) [
      | inl k ↦ moved_as s f (raised_all (gone_at s f) (adds s t vals)) (record { key = f.key; spelled = k.0.spelled; up = s; down = s }) before (puts vals (λ _. None) f.key) k.1 (comes s s f before (puts vals (λ _. None) f.key) k.0 (csn_lt-irreflexive s) k.2 k.3)
      | inr k ↦ moved_as s f (raised_all (gone_at s f) (adds s t vals)) (gone_at s f) before (puts vals (λ _. None) f.key) k.0 (goes s f before (puts vals (λ _. None) f.key) b k.1)
    ])

-- ONE MODIFICATION, BY ITS STAMP, agrees with the plain words at each key
pub mod_key : (s : Csn) (t : AttrKey) (kind : ModKind) (vals : List Val) (f : ValFacts) (w : Choice) → Rises key_of vals → IsBelow s f
    → IsMoved s f (raised_all f (mod_acts s (record { kind = kind; attr = t; vals = vals }))) (w f.key) (chosen kind vals w f.key)
mod_key s t AddValues vals f w r b =
    elim (adds_one s t vals f w r b.0) [
      | inl k ↦ moved_as s f (raised_all f (adds s t vals)) (record { key = f.key; spelled = k.0.spelled; up = s; down = f.down }) (w f.key) (puts vals w f.key) k.1 (comes s f.down f (w f.key) (puts vals w f.key) k.0 (csn_lt-one_way f.down s b.1) k.2 k.3)
      | inr k ↦ moved_as s f (raised_all f (adds s t vals)) f (w f.key) (puts vals w f.key) k.0 (stays s f (w f.key) (puts vals w f.key) b k.1)
    ]
mod_key s t Delete [] f w r b = moved_as s f (raised_val (Clears s t) f) (gone_at s f) (w f.key) None (cleared s t f b.1) (goes s f (w f.key) None b refl)
mod_key s t Delete (v ∷ vals) f w r b =
    elim (deletes_one s t (v ∷ vals) f b.1) [
      | inl k ↦ moved_as s f (raised_all f (map (Deletes s t) (v ∷ vals))) (gone_at s f) (w f.key) (chosen Delete (v ∷ vals) w f.key) k.1 (goes s f (w f.key) (chosen Delete (v ∷ vals) w f.key) b (ap (λ (o : Bool). if o then None else w f.key) k.0))
      | inr k ↦ moved_as s f (raised_all f (map (Deletes s t) (v ∷ vals))) f (w f.key) (chosen Delete (v ∷ vals) w f.key) k.1 (stays s f (w f.key) (chosen Delete (v ∷ vals) w f.key) b (ap (λ (o : Bool). if o then None else w f.key) k.0))
    ]
mod_key s t Replace vals f w r b = replace_key s t vals f (w f.key) r b

-- The values of one attribute after modifications one after the other: by their stamps, and in plain words.
use Rattle.std.proofs.Common.{◌≡◌, ◌⊎◌, inl, inr, ℕ, ◌+◌, Bool, true, false, cond, not, ◌||◌, List, [], ◌∷◌, ◌++◌, map, length, refl, sym, ap, subst, ◌∙◌, Option, Some, None, append_assoc, append-nil}
use Rattle.std.specs.Prelude.{filter, flat_map, fold, if◌then◌else◌}
use Rattle.std.specs.List.{AllByRecursion, list_any}
use Rattle.std.specs.declared.cmp.Ordering.TheVariants.{Less}
use Rattle.repl_data.specs.declared.csn.Csn.{Csn}
use Rattle.repl_data.specs.declared.change.AttrKey.{AttrKey}
use Rattle.repl_data.specs.declared.change.Val.{Val}
use Rattle.repl_data.specs.declared.change.Rdn.{Rdn}
use Rattle.repl_data.specs.declared.change.Mod.{Mod}
use Rattle.repl_data.specs.declared.change.ModKind.{ModKind}
use Rattle.repl_data.specs.declared.change.ModKind.TheVariants.{Add as AddValues, Delete, Replace}
use Rattle.repl_data.specs.Order.{csn_lt, csn_le, csn_cmp, stamp, zero_csn, bytes_cmp, bytes_eq, in_order}
use Rattle.repl_data.specs.Ordered.{Rises}
use Rattle.repl_data.specs.Stamps.{Act, Adds, Deletes, Clears, adds, mod_acts, mods_acts}
use Rattle.repl_data.specs.Facts.{ValFacts, is_act_on, keys_named, val_facts, is_in_name, is_held}
use Rattle.repl_data.specs.Plain.{values_after}
use Rattle.repl_data.proofs.Orders.{bytes_total, bytes_exact}
use Rattle.repl_data.proofs.CsnTests.{csn_lt-trans, csn_le-lt_trans}
use Rattle.repl_data.proofs.InOrder.{in_order_by-append, is_equal}
use Rattle.repl_data.proofs.KeyPlaces.{is_less}
use Rattle.repl_data.proofs.Raised.{raised_val, val_facts-append}
use Rattle.repl_data.proofs.SameView.{stamp_of}
use Rattle.repl_data.proofs.Sound.{not_both}
use Rattle.repl_data.proofs.Steps.{flat_map-append, filter-append}
use Rattle.repl_data.proofs.Loops.{all_append}
use Rattle.plain_effect.proofs.Normal.{own, listed, put_key, listed_same}
use Rattle.plain_effect.proofs.Choices.{Choice, Fits, chosen, keys_with, raised_all, says, Agree, IsBelow, IsWithin, IsMoved, fits_chosen, rises_with, after_listed, mod_key}
use Rattle.plain_effect.proofs.Below.{next_stamp}

abbrev key_of : Val → List ℕ
key_of v = v.key

abbrev pub on : AttrKey → List Act → List Act
on t acts = filter (is_act_on t) acts

-- ---- which acts are on the attribute

filter_as : {X : Type 0} (p : X → Bool) (b : Bool) (xs : List X) → AllByRecursion (λ x. p x ≡ b) xs → filter p xs ≡ cond b xs []
filter_as p true [] h = refl
filter_as p false [] h = refl
filter_as p true (x ∷ xs) h = ap (λ o. cond o (x ∷ filter p xs) (filter p xs)) h.0 ∙ ap (λ ys. x ∷ ys) (filter_as p true xs h.1)
filter_as p false (x ∷ xs) h = ap (λ o. cond o (x ∷ filter p xs) (filter p xs)) h.0 ∙ filter_as p false xs h.1

adds_on : (s : Csn) (t u : AttrKey) (b : Bool) (vals : List Val) → bytes_eq t.name u.name ≡ b → AllByRecursion (λ a. is_act_on t a ≡ b) (adds s u vals)
adds_on s t u b [] e = tt
adds_on s t u b (v ∷ vals) e = (e, adds_on s t u b vals e)

deletes_on : (s : Csn) (t u : AttrKey) (b : Bool) (vals : List Val) → bytes_eq t.name u.name ≡ b → AllByRecursion (λ a. is_act_on t a ≡ b) (map (Deletes s u) vals)
deletes_on s t u b [] e = tt
deletes_on s t u b (v ∷ vals) e = (e, deletes_on s t u b vals e)

mod_on : (s : Csn) (t u : AttrKey) (b : Bool) (kind : ModKind) (vals : List Val) → bytes_eq t.name u.name ≡ b → AllByRecursion (λ a. is_act_on t a ≡ b) (mod_acts s (record { kind = kind; attr = u; vals = vals }))
mod_on s t u b AddValues vals e = adds_on s t u b vals e
mod_on s t u b Delete [] e = (e, tt)
mod_on s t u b Delete (v ∷ vals) e = deletes_on s t u b (v ∷ vals) e
mod_on s t u b Replace vals e = (e, adds_on s t u b vals e)

-- the acts of the modifications from the n-th on, on the attribute
abbrev pub acts_from : Csn → AttrKey → ℕ → List Mod → List Act
acts_from c t n [] = []
acts_from c t n (m ∷ mods) = (if bytes_eq t.name m.attr.name then mod_acts (stamp c n) m else []) ++ acts_from c t (n + 1) mods

pub mods_on : (c : Csn) (t : AttrKey) (n : ℕ) (mods : List Mod) → on t (mods_acts c n mods) ≡ acts_from c t n mods
mods_on c t n [] = refl
mods_on c t n (m ∷ mods) =
    filter-append (is_act_on t) (mod_acts (stamp c n) m) (mods_acts c (n + 1) mods)
    ∙ (λ i. filter_as (is_act_on t) (bytes_eq t.name m.attr.name) (mod_acts (stamp c n) m) (mod_on (stamp c n) t m.attr (bytes_eq t.name m.attr.name) m.kind m.vals refl) i ++ mods_on c t (n + 1) mods i)

-- ---- in plain words

abbrev pub step : AttrKey → Mod → Choice → Choice
step t m w = if bytes_eq t.name m.attr.name then chosen m.kind m.vals w else w

abbrev pub chosen_all : AttrKey → List Mod → Choice → Choice
chosen_all t [] w = w
chosen_all t (m ∷ mods) w = chosen_all t mods (step t m w)

abbrev pub keys_all : AttrKey → List Mod → List (List ℕ) → List (List ℕ)
keys_all t [] ks = ks
keys_all t (m ∷ mods) ks = keys_all t mods (if bytes_eq t.name m.attr.name then keys_with m.vals ks else ks)

abbrev pub vals_step : AttrKey → Mod → List Val → List Val
vals_step t m had = if bytes_eq t.name m.attr.name then values_after m.kind m.vals had else had

abbrev pub vals_all : AttrKey → List Mod → List Val → List Val
vals_all t [] had = had
vals_all t (m ∷ mods) had = vals_all t mods (vals_step t m had)

abbrev pub AreRising : List Mod → Type 0
AreRising mods = AllByRecursion (λ (m : Mod). Rises key_of m.vals) mods

pub vals_listed : (t : AttrKey) (mods : List Mod) (w : Choice) (ks : List (List ℕ)) → AreRising mods → Fits w → Rises own ks → vals_all t mods (listed w ks) ≡ listed (chosen_all t mods w) (keys_all t mods ks)
vals_listed t [] w ks r f k = refl
vals_listed t (m ∷ mods) w ks r f k = by (λ z js g l. vals_listed t mods z js r.1 g l) (bytes_eq t.name m.attr.name)
  where
    by : ((z : Choice) (js : List (List ℕ)) → Fits z → Rises own js → vals_all t mods (listed z js) ≡ listed (chosen_all t mods z) (keys_all t mods js)) → (b : Bool) → vals_all t mods (if b then values_after m.kind m.vals (listed w ks) else listed w ks) ≡ listed (chosen_all t mods (if b then chosen m.kind m.vals w else w)) (keys_all t mods (if b then keys_with m.vals ks else ks))
    by more true =
        ap (vals_all t mods) (after_listed m.kind m.vals w ks r.0 f k)
        ∙ more (chosen m.kind m.vals w) (keys_with m.vals ks) (fits_chosen m.kind m.vals w f) (rises_with m.vals ks k)
    by more false = more w ks f k

-- ---- by their stamps: one key

agree_on : (f g h : ValFacts) (a b o : Option Val) → Agree f g a b → Agree g h b o → Agree f h a o
agree_on f g h a b o x (inl y) = inl y
agree_on f g h a b o (inl x) (inr y) = inl (y.1 ∙ x ∙ ap says (sym y.0))
agree_on f g h a b o (inr x) (inr y) = inr (y.0 ∙ x.0, y.1 ∙ x.1)

raised_more : (f : ValFacts) (xs ys : List Act) → raised_all f (xs ++ ys) ≡ raised_all (raised_all f xs) ys
raised_more f [] ys = refl
raised_more f (x ∷ xs) ys = raised_more (raised_val x f) xs ys

pub run_key : (c : Csn) (t : AttrKey) (n : ℕ) (mods : List Mod) (f g : ValFacts) (w z : Choice) → AreRising mods → IsBelow (stamp c n) g → g.key ≡ f.key → Agree f g (w f.key) (z f.key)
    → Agree f (raised_all g (acts_from c t n mods)) (w f.key) (chosen_all t mods z f.key)
run_key c t n [] f g w z r b k a = a
run_key c t n (m ∷ mods) f g w z r b k a = by (λ h y bh kh ah. run_key c t (n + 1) mods f h w y r.1 bh kh ah) (bytes_eq t.name m.attr.name) refl
  where
    by : ((h : ValFacts) (y : Choice) → IsBelow (stamp c (n + 1)) h → h.key ≡ f.key → Agree f h (w f.key) (y f.key) → Agree f (raised_all h (acts_from c t (n + 1) mods)) (w f.key) (chosen_all t mods y f.key))
        → (o : Bool) → bytes_eq t.name m.attr.name ≡ o
        → Agree f (raised_all g ((if o then mod_acts (stamp c n) m else []) ++ acts_from c t (n + 1) mods)) (w f.key) (chosen_all t mods (if o then chosen m.kind m.vals z else z) f.key)
    by more true e =
        let moved : IsMoved (stamp c n) g (raised_all g (mod_acts (stamp c n) m)) (z g.key) (chosen m.kind m.vals z g.key) = mod_key (stamp c n) m.attr m.kind m.vals g z r.0 b in
        let below : IsBelow (stamp c (n + 1)) (raised_all g (mod_acts (stamp c n) m)) = (
          csn_le-lt_trans (raised_all g (mod_acts (stamp c n) m)).up (stamp c n) (stamp c (n + 1)) moved.within.0 (next_stamp c n),
          csn_le-lt_trans (raised_all g (mod_acts (stamp c n) m)).down (stamp c n) (stamp c (n + 1)) moved.within.1 (next_stamp c n),
        ) in
        let here : Agree g (raised_all g (mod_acts (stamp c n) m)) (z f.key) (chosen m.kind m.vals z f.key) = subst (λ j. Agree g (raised_all g (mod_acts (stamp c n) m)) (z j) (chosen m.kind m.vals z j)) k moved.agree in
        subst (λ h. Agree f h (w f.key) (chosen_all t mods (chosen m.kind m.vals z) f.key)) (sym (raised_more g (mod_acts (stamp c n) m) (acts_from c t (n + 1) mods)))
        (more (raised_all g (mod_acts (stamp c n) m)) (chosen m.kind m.vals z) below (moved.key ∙ k) (agree_on f g (raised_all g (mod_acts (stamp c n) m)) (w f.key) (z f.key) (chosen m.kind m.vals z f.key) a here))
    by more false e = more g z (csn_lt-trans g.up (stamp c n) (stamp c (n + 1)) b.0 (next_stamp c n), csn_lt-trans g.down (stamp c n) (stamp c (n + 1)) b.1 (next_stamp c n)) k a

-- acts above zero raise what is known of a key
pub facts_more : (acts more : List Act) (k : List ℕ) → AllByRecursion (λ a. csn_lt zero_csn (stamp_of a) ≡ true) more → val_facts (acts ++ more) k ≡ raised_all (val_facts acts k) more
facts_more acts [] k h = ap (λ as_. val_facts as_ k) (append-nil acts)
facts_more acts (a ∷ more) k h =
    ap (λ as_. val_facts as_ k) (sym (append_assoc acts (a ∷ []) more))
    ∙ facts_more (acts ++ a ∷ []) more k h.1
    ∙ ap (λ f. raised_all f more) (val_facts-append acts a k (is_less (csn_cmp zero_csn (stamp_of a)) h.0))

-- ---- the keys

keys_put : (xs : List (List ℕ)) (vals : List Val) → in_order bytes_cmp (xs ++ map key_of vals) ≡ keys_with vals (in_order bytes_cmp xs)
keys_put xs [] = ap (in_order bytes_cmp) (append-nil xs)
keys_put xs (v ∷ vals) =
    ap (in_order bytes_cmp) (sym (append_assoc xs (v.key ∷ []) (map key_of vals)))
    ∙ keys_put (xs ++ v.key ∷ []) vals
    ∙ ap (keys_with vals) (in_order_by-append bytes_cmp bytes_total own bytes_exact xs v.key)

adds_keys : (s : Csn) (t : AttrKey) (vals : List Val) → flat_map keys_named (adds s t vals) ≡ map key_of vals
adds_keys s t [] = refl
adds_keys s t (v ∷ vals) = ap (λ ks. v.key ∷ ks) (adds_keys s t vals)

deletes_keys : (s : Csn) (t : AttrKey) (vals : List Val) → flat_map keys_named (map (Deletes s t) vals) ≡ map key_of vals
deletes_keys s t [] = refl
deletes_keys s t (v ∷ vals) = ap (λ ks. v.key ∷ ks) (deletes_keys s t vals)

mod_keys : (s : Csn) (t : AttrKey) (kind : ModKind) (vals : List Val) → flat_map keys_named (mod_acts s (record { kind = kind; attr = t; vals = vals })) ≡ map key_of vals
mod_keys s t AddValues vals = adds_keys s t vals
mod_keys s t Delete [] = refl
mod_keys s t Delete (v ∷ vals) = deletes_keys s t (v ∷ vals)
mod_keys s t Replace vals = adds_keys s t vals

pub keys_more : (c : Csn) (t : AttrKey) (n : ℕ) (mods : List Mod) (os : List Act) → in_order bytes_cmp (flat_map keys_named (os ++ acts_from c t n mods)) ≡ keys_all t mods (in_order bytes_cmp (flat_map keys_named os))
keys_more c t n [] os = ap (λ as_. in_order bytes_cmp (flat_map keys_named as_)) (append-nil os)
keys_more c t n (m ∷ mods) os = by (λ as_. keys_more c t (n + 1) mods as_) (bytes_eq t.name m.attr.name)
  where
    by : ((as_ : List Act) → in_order bytes_cmp (flat_map keys_named (as_ ++ acts_from c t (n + 1) mods)) ≡ keys_all t mods (in_order bytes_cmp (flat_map keys_named as_)))
        → (b : Bool) → in_order bytes_cmp (flat_map keys_named (os ++ ((if b then mod_acts (stamp c n) m else []) ++ acts_from c t (n + 1) mods))) ≡ keys_all t mods (if b then keys_with m.vals (in_order bytes_cmp (flat_map keys_named os)) else in_order bytes_cmp (flat_map keys_named os))
    by more true =
        ap (λ as_. in_order bytes_cmp (flat_map keys_named as_)) (sym (append_assoc os (mod_acts (stamp c n) m) (acts_from c t (n + 1) mods)))
        ∙ more (os ++ mod_acts (stamp c n) m)
        ∙ ap (keys_all t mods) (ap (in_order bytes_cmp) (flat_map-append keys_named os (mod_acts (stamp c n) m) ∙ ap (λ ks. flat_map keys_named os ++ ks) (mod_keys (stamp c n) m.attr m.kind m.vals)) ∙ keys_put (flat_map keys_named os) m.vals)
    by more false = more os

-- What an attribute shows after modifications one after the other is what they leave in plain words.
use Rattle.std.proofs.Common.{◌≡◌, ◌⊎◌, inl, inr, ℕ, ◌+◌, ◌<◌, Bool, true, false, cond, not, ◌||◌, List, [], ◌∷◌, ◌++◌, map, length, refl, sym, ap, subst, ◌∙◌, arith, Option, Some, None, append-nil, nat_lt}
use Rattle.std.specs.Prelude.{filter, flat_map, if◌then◌else◌}
use Rattle.std.specs.List.{AllByRecursion, list_any}
use Rattle.std.proofs.lemmas.Bool.Decides.{nat_tests}
use Rattle.repl_data.specs.declared.csn.Csn.{Csn}
use Rattle.repl_data.specs.declared.change.AttrKey.{AttrKey}
use Rattle.repl_data.specs.declared.change.Val.{Val}
use Rattle.repl_data.specs.declared.change.Rdn.{Rdn}
use Rattle.repl_data.specs.declared.change.Mod.{Mod}
use Rattle.repl_data.specs.declared.change.ModKind.{ModKind}
use Rattle.repl_data.specs.declared.change.ModKind.TheVariants.{Add as AddValues, Delete, Replace}
use Rattle.repl_data.specs.Order.{csn_lt, csn_le, stamp, zero_csn, bytes_cmp, bytes_eq, in_order}
use Rattle.repl_data.specs.Ordered.{Rises}
use Rattle.repl_data.specs.Types.{is_single}
use Rattle.repl_data.specs.Stamps.{Act, mod_acts, mods_acts}
use Rattle.repl_data.specs.Facts.{ValFacts, AttrFacts, is_act_on, keys_named, val_facts, attr_facts, is_in_name, is_held, shows_before, vals_shown}
use Rattle.repl_data.specs.Plain.{values_after}
use Rattle.repl_data.proofs.Orders.{bytes_total, bytes_exact}
use Rattle.repl_data.proofs.InOrder.{in_order_by-Rises}
use Rattle.repl_data.proofs.KeyPlaces.{is_same}
use Rattle.repl_data.proofs.SameView.{stamp_of}
use Rattle.repl_data.proofs.Sound.{neither, not_both}
use Rattle.repl_data.proofs.Steps.{filter-append}
use Rattle.repl_data.proofs.Bools.{either_true}
use Rattle.repl_data.proofs.Loops.{all_filter}
use Rattle.plain_effect.proofs.Normal.{own, opt, listed, listed_same, all_keys}
use Rattle.plain_effect.proofs.Choices.{Choice, Fits, chosen, fits_chosen, says, Agree, IsBelow, raised_all}
use Rattle.plain_effect.proofs.Runs.{on, acts_from, mods_on, step, chosen_all, keys_all, vals_all, AreRising, vals_listed, run_key, facts_more, keys_more}
use Rattle.plain_effect.proofs.Below.{facts_below}
use Rattle.plain_effect.proofs.Shown.{not_before_itself}

abbrev value : ValFacts → Val
value f = record { key = f.key; spelled = f.spelled }

-- ---- what is held

abbrev pub holds : Rdn → AttrKey → List Act → Choice
holds rdn t os k = if is_held rdn t (val_facts os k) then Some (value (val_facts os k)) else None

fits_held : (rdn : Rdn) (t : AttrKey) (os : List Act) → Fits (holds rdn t os)
fits_held rdn t os j x h = by (is_held rdn t (val_facts os j)) h
  where
    by : (b : Bool) → (if b then Some (value (val_facts os j)) else None) ≡ Some x → x.key ≡ j
    by true g = let same : value (val_facts os j) ≡ x = cc in sym (ap (λ (v : Val). v.key) same)
    by false g = let n : ⊥ = cc in absurd n

held_listed : (rdn : Rdn) (t : AttrKey) (os : List Act) (ks : List (List ℕ)) → map value (filter (is_held rdn t) (map (val_facts os) ks)) ≡ listed (holds rdn t os) ks
held_listed rdn t os [] = refl
held_listed rdn t os (k ∷ ks) = by (is_held rdn t (val_facts os k)) (held_listed rdn t os ks)
  where
    by : (b : Bool) → map value (filter (is_held rdn t) (map (val_facts os) ks)) ≡ listed (holds rdn t os) ks
        → map value (cond b (val_facts os k ∷ filter (is_held rdn t) (map (val_facts os) ks)) (filter (is_held rdn t) (map (val_facts os) ks))) ≡ opt (if b then Some (value (val_facts os k)) else None) ++ listed (holds rdn t os) ks
    by true e = ap (λ vs. value (val_facts os k) ∷ vs) e
    by false e = e

abbrev keys_of : List Act → List (List ℕ)
keys_of os = in_order bytes_cmp (flat_map keys_named os)

keys_rise : (os : List Act) → Rises own (keys_of os)
keys_rise os = in_order_by-Rises bytes_cmp bytes_total own (flat_map keys_named os)

-- a key at the end, where it is touched or not
held_after : (rdn : Rdn) (t : AttrKey) (f g : ValFacts) (before o : Option Val) → (is_in_name rdn t g.key ≡ true → o ≡ None → ⊥) → before ≡ (if is_held rdn t f then Some (value f) else None) → Agree f g before o
    → (if is_held rdn t g then Some (value g) else None) ≡ o
held_after rdn t f g before o named start (inr x) = ap (λ (h : ValFacts). if is_held rdn t h then Some (value h) else None) x.0 ∙ sym start ∙ sym x.1
held_after rdn t f g before o named start (inl x) = by (is_in_name rdn t g.key) (csn_le g.down g.up) refl refl
  where
    by : (n l : Bool) → is_in_name rdn t g.key ≡ n → csn_le g.down g.up ≡ l → (if n || l then Some (value g) else None) ≡ o
    by true true p q = sym (x ∙ ap (λ (b : Bool). if b then Some (value g) else None) q)
    by false true p q = sym (x ∙ ap (λ (b : Bool). if b then Some (value g) else None) q)
    by false false p q = sym (x ∙ ap (λ (b : Bool). if b then Some (value g) else None) q)
    by true false p q = absurd (named p (x ∙ ap (λ (b : Bool). if b then Some (value g) else None) q))

-- ---- the acts on the attribute

acts_on_after : (c : Csn) (t : AttrKey) (mods : List Mod) (acts : List Act) → on t (acts ++ mods_acts c 1 mods) ≡ on t acts ++ acts_from c t 1 mods
acts_on_after c t mods acts = filter-append (is_act_on t) acts (mods_acts c 1 mods) ∙ ap (λ os. on t acts ++ os) (mods_on c t 1 mods)

abbrev pub AreLate : List Act → Type 0
AreLate acts = AllByRecursion (λ a. csn_lt zero_csn (stamp_of a) ≡ true) acts

abbrev pub AreEarlier : Csn → List Act → Type 0
AreEarlier c acts = AllByRecursion (λ a. csn_lt (stamp_of a) (stamp c 1) ≡ true) acts

-- a value of the name is there at the end
abbrev KeepsName : Rdn → AttrKey → List Mod → Choice → Type 0
KeepsName rdn t mods w = (k : List ℕ) → is_in_name rdn t k ≡ true → chosen_all t mods w k ≡ None → ⊥

module _ (rdn : Rdn) (c : Csn) (t : AttrKey) (mods : List Mod) (acts : List Act) (zero : csn_lt zero_csn (stamp c 1) ≡ true) (rising : AreRising mods) (earlier : AreEarlier c acts) (late : AreLate (mods_acts c 1 mods)) where
  abbrev os : List Act
  os = on t acts

  own_late : AreLate (acts_from c t 1 mods)
  own_late = subst AreLate (mods_on c t 1 mods) (all_filter (λ a. csn_lt zero_csn (stamp_of a) ≡ true) (is_act_on t) (mods_acts c 1 mods) late)

  below : (k : List ℕ) → IsBelow (stamp c 1) (val_facts os k)
  below k = facts_below (stamp c 1) k os zero (all_filter (λ a. csn_lt (stamp_of a) (stamp c 1) ≡ true) (is_act_on t) acts earlier)

  one_held : (w : Choice) → ((k : List ℕ) → w k ≡ holds rdn t os k) → KeepsName rdn t mods w → (k : List ℕ) → holds rdn t (os ++ acts_from c t 1 mods) k ≡ chosen_all t mods w k
  one_held w start named k =
      let f : ValFacts = val_facts os k in
      let g : ValFacts = raised_all f (acts_from c t 1 mods) in
      let agree : Agree f g (w k) (chosen_all t mods w k) = run_key c t 1 mods f f w w rising (below k) refl (inr (refl, refl)) in
      let is : val_facts (os ++ acts_from c t 1 mods) k ≡ g = facts_more os (acts_from c t 1 mods) k own_late in
      ap (λ (h : ValFacts). if is_held rdn t h then Some (value h) else None) is
      ∙ held_after rdn t f g (w k) (chosen_all t mods w k) (λ n. named k (subst (λ (h : ValFacts). is_in_name rdn t h.key ≡ true) (sym is) n)) (start k) agree

  -- what is held of a type of many values
  many_held : KeepsName rdn t mods (holds rdn t os) → listed (holds rdn t (os ++ acts_from c t 1 mods)) (keys_of (os ++ acts_from c t 1 mods)) ≡ vals_all t mods (listed (holds rdn t os) (keys_of os))
  many_held named =
      listed_same (holds rdn t (os ++ acts_from c t 1 mods)) (chosen_all t mods (holds rdn t os)) (keys_of (os ++ acts_from c t 1 mods))
      (all_keys (λ k. holds rdn t (os ++ acts_from c t 1 mods) k ≡ chosen_all t mods (holds rdn t os) k) (one_held (holds rdn t os) (λ k. refl) named) (keys_of (os ++ acts_from c t 1 mods)))
      ∙ ap (listed (chosen_all t mods (holds rdn t os))) (keys_more c t 1 mods os)
      ∙ sym (vals_listed t mods (holds rdn t os) (keys_of os) rising (fits_held rdn t os) (keys_rise os))

  abbrev shown_by : Bool → List Act → List Val
  shown_by single as_ =
      let held = filter (is_held rdn t) (map (val_facts as_) (keys_of as_)) in
      map value (if single then filter (λ v. not (list_any (λ w. shows_before rdn t w v) held)) held else held)

  pub many_shown : is_single t ≡ false → KeepsName rdn t mods (holds rdn t os) → vals_shown rdn (attr_facts (acts ++ mods_acts c 1 mods) t) ≡ vals_all t mods (vals_shown rdn (attr_facts acts t))
  many_shown s named =
      ap (λ (as_ : List Act). shown_by (is_single t) as_) (acts_on_after c t mods acts)
      ∙ ap (λ (b : Bool). shown_by b (os ++ acts_from c t 1 mods)) s
      ∙ held_listed rdn t (os ++ acts_from c t 1 mods) (keys_of (os ++ acts_from c t 1 mods))
      ∙ many_held named
      ∙ ap (vals_all t mods) (sym (held_listed rdn t os (keys_of os)))
      ∙ ap (λ (b : Bool). vals_all t mods (shown_by b os)) (sym s)

-- ---- types of one value: they are modified once, by a replace

abbrev pub has_mod : AttrKey → List Mod → Bool
has_mod t mods = list_any (λ (m : Mod). bytes_eq t.name m.attr.name) mods

abbrev pub IsReplace : Mod → Type 0
IsReplace m = (m.kind ≡ Replace) × (nat_lt 1 (length m.vals) ≡ false)

abbrev pub IsOnce : AttrKey → List Mod → Type 0
IsOnce t [] = Unit {0}
IsOnce t (m ∷ mods) = (bytes_eq t.name m.attr.name ≡ true → IsReplace m × (has_mod t mods ≡ false)) × (bytes_eq t.name m.attr.name ≡ false → IsOnce t mods)

pub not_modified : (t : AttrKey) (mods : List Mod) (had : List Val) → has_mod t mods ≡ false → vals_all t mods had ≡ had
not_modified t [] had h = refl
not_modified t (m ∷ mods) had h =
    let n = neither (bytes_eq t.name m.attr.name) (has_mod t mods) h in
    ap (λ (b : Bool). vals_all t mods (if b then values_after m.kind m.vals had else had)) n.0 ∙ not_modified t mods had n.1

not_acted : (c : Csn) (t : AttrKey) (n : ℕ) (mods : List Mod) → has_mod t mods ≡ false → acts_from c t n mods ≡ []
not_acted c t n [] h = refl
not_acted c t n (m ∷ mods) h =
    let k = neither (bytes_eq t.name m.attr.name) (has_mod t mods) h in
    ap (λ (b : Bool). (if b then mod_acts (stamp c n) m else []) ++ acts_from c t (n + 1) mods) k.0 ∙ not_acted c t (n + 1) mods k.1

not_chosen : (t : AttrKey) (mods : List Mod) (w : Choice) → has_mod t mods ≡ false → chosen_all t mods w ≡ w
not_chosen t [] w h = refl
not_chosen t (m ∷ mods) w h =
    let k = neither (bytes_eq t.name m.attr.name) (has_mod t mods) h in
    ap (λ (b : Bool). chosen_all t mods (if b then chosen m.kind m.vals w else w)) k.0 ∙ not_chosen t mods w k.1

-- what was there before is forgotten
abbrev IsForgotten : AttrKey → List Mod → Type 0
IsForgotten t mods = (x y : List Val) → (vals_all t mods x ≡ vals_all t mods y) × (nat_lt 1 (length (vals_all t mods x)) ≡ false)

forgotten : (t : AttrKey) (mods : List Mod) → IsOnce t mods → has_mod t mods ≡ true → IsForgotten t mods
forgotten t [] o h x y = absurd (not_both false h refl)
forgotten t (m ∷ mods) o h x y = by (λ e g. forgotten t mods e g x y) (bytes_eq t.name m.attr.name) refl h
  where
    by : (IsOnce t mods → has_mod t mods ≡ true → (vals_all t mods x ≡ vals_all t mods y) × (nat_lt 1 (length (vals_all t mods x)) ≡ false)) → (b : Bool) → bytes_eq t.name m.attr.name ≡ b → (b || has_mod t mods) ≡ true
        → (vals_all t mods (if b then values_after m.kind m.vals x else x) ≡ vals_all t mods (if b then values_after m.kind m.vals y else y)) × (nat_lt 1 (length (vals_all t mods (if b then values_after m.kind m.vals x else x))) ≡ false)
    by more true e g =
        let once = o.0 e in
        let is : (z : List Val) → vals_all t mods (values_after m.kind m.vals z) ≡ m.vals = λ z. not_modified t mods (values_after m.kind m.vals z) once.1 ∙ ap (λ (kind : ModKind). values_after kind m.vals z) once.0.0 in
        (is x ∙ sym (is y), ap (λ (vs : List Val). nat_lt 1 (length vs)) (is x) ∙ once.0.1)
    by more false e g = more (o.1 e) g

few_best : (rdn : Rdn) (t : AttrKey) (held : List ValFacts) → nat_lt 1 (length (map value held)) ≡ false → filter (λ v. not (list_any (λ w. shows_before rdn t w v) held)) held ≡ held
few_best rdn t [] h = refl
few_best rdn t (f ∷ []) h = ap (λ (o : Bool). cond (not (o || false)) (f ∷ []) []) (not_before_itself rdn t f)
few_best rdn t (f ∷ g ∷ held) h = absurd (not_both (nat_lt 1 (length (map value (f ∷ g ∷ held)))) (many (length (map value (f ∷ g ∷ held))) (omega arith)) h)
  where
    many : (n : ℕ) → 1 < n → nat_lt 1 n ≡ true
    many n l = grind (arith, nat_tests)

-- what the facts of a key say without the name
abbrev pub said : List Act → Choice
said os k = says (val_facts os k)

fits_said : (os : List Act) → Fits (said os)
fits_said os j x h = by (csn_le (val_facts os j).down (val_facts os j).up) h
  where
    by : (b : Bool) → (if b then Some (value (val_facts os j)) else None) ≡ Some x → x.key ≡ j
    by true g = let same : value (val_facts os j) ≡ x = cc in sym (ap (λ (v : Val). v.key) same)
    by false g = let n : ⊥ = cc in absurd n

said_after : (rdn : Rdn) (t : AttrKey) (g : ValFacts) (o : Option Val) → (is_in_name rdn t g.key ≡ true → o ≡ None → ⊥) → o ≡ says g → (if is_held rdn t g then Some (value g) else None) ≡ o
said_after rdn t g o named x = by (is_in_name rdn t g.key) (csn_le g.down g.up) refl refl
  where
    by : (n l : Bool) → is_in_name rdn t g.key ≡ n → csn_le g.down g.up ≡ l → (if n || l then Some (value g) else None) ≡ o
    by true true p q = sym (x ∙ ap (λ (b : Bool). if b then Some (value g) else None) q)
    by false true p q = sym (x ∙ ap (λ (b : Bool). if b then Some (value g) else None) q)
    by false false p q = sym (x ∙ ap (λ (b : Bool). if b then Some (value g) else None) q)
    by true false p q = absurd (named p (x ∙ ap (λ (b : Bool). if b then Some (value g) else None) q))

agreed : (f g : ValFacts) (o : Option Val) → Agree f g (says f) o → o ≡ says g
agreed f g o (inl x) = x
agreed f g o (inr x) = x.1 ∙ ap says (sym x.0)

module _ (rdn : Rdn) (c : Csn) (t : AttrKey) (mods : List Mod) (acts : List Act) (zero : csn_lt zero_csn (stamp c 1) ≡ true) (rising : AreRising mods) (earlier : AreEarlier c acts) (late : AreLate (mods_acts c 1 mods)) where
  abbrev ps : List Act
  ps = on t acts

  one_said : KeepsName rdn t mods (said ps) → (k : List ℕ) → holds rdn t (ps ++ acts_from c t 1 mods) k ≡ chosen_all t mods (said ps) k
  one_said named k =
      let f : ValFacts = val_facts ps k in
      let g : ValFacts = raised_all f (acts_from c t 1 mods) in
      let agree : Agree f g (says f) (chosen_all t mods (said ps) k) = run_key c t 1 mods f f (said ps) (said ps) rising (below rdn c t mods acts zero rising earlier late k) refl (inr (refl, refl)) in
      let is : val_facts (ps ++ acts_from c t 1 mods) k ≡ g = facts_more ps (acts_from c t 1 mods) k (own_late rdn c t mods acts zero rising earlier late) in
      ap (λ (h : ValFacts). if is_held rdn t h then Some (value h) else None) is
      ∙ said_after rdn t g (chosen_all t mods (said ps) k) (λ n. named k (subst (λ (h : ValFacts). is_in_name rdn t h.key ≡ true) (sym is) n)) (agreed f g (chosen_all t mods (said ps) k) agree)

  said_held : KeepsName rdn t mods (said ps) → listed (holds rdn t (ps ++ acts_from c t 1 mods)) (keys_of (ps ++ acts_from c t 1 mods)) ≡ vals_all t mods (listed (said ps) (keys_of ps))
  said_held named =
      listed_same (holds rdn t (ps ++ acts_from c t 1 mods)) (chosen_all t mods (said ps)) (keys_of (ps ++ acts_from c t 1 mods))
      (all_keys (λ k. holds rdn t (ps ++ acts_from c t 1 mods) k ≡ chosen_all t mods (said ps) k) (one_said named) (keys_of (ps ++ acts_from c t 1 mods)))
      ∙ ap (listed (chosen_all t mods (said ps))) (keys_more c t 1 mods ps)
      ∙ sym (vals_listed t mods (said ps) (keys_of ps) rising (fits_said ps) (keys_rise ps))

  pub single_shown : is_single t ≡ true → IsOnce t mods → has_mod t mods ≡ true → KeepsName rdn t mods (said ps) → vals_shown rdn (attr_facts (acts ++ mods_acts c 1 mods) t) ≡ vals_all t mods (vals_shown rdn (attr_facts acts t))
  single_shown s once touched named =
      let qs : List Act = ps ++ acts_from c t 1 mods in
      let held : List ValFacts = filter (is_held rdn t) (map (val_facts qs) (keys_of qs)) in
      let shown : List Val = vals_shown rdn (attr_facts acts t) in
      let forgets : IsForgotten t mods = forgotten t mods once touched in
      let is : map value held ≡ vals_all t mods shown = held_listed rdn t qs (keys_of qs) ∙ said_held named ∙ (forgets (listed (said ps) (keys_of ps)) shown).0 in
      let few : nat_lt 1 (length (map value held)) ≡ false = ap (λ (vs : List Val). nat_lt 1 (length vs)) is ∙ (forgets shown shown).1 in
      ap (λ (as_ : List Act). shown_by rdn c t mods acts zero rising earlier late (is_single t) as_) (acts_on_after c t mods acts)
      ∙ ap (λ (b : Bool). shown_by rdn c t mods acts zero rising earlier late b qs) s
      ∙ ap (map value) (few_best rdn t held few)
      ∙ is

  pub untouched_shown : has_mod t mods ≡ false → vals_shown rdn (attr_facts (acts ++ mods_acts c 1 mods) t) ≡ vals_all t mods (vals_shown rdn (attr_facts acts t))
  untouched_shown n =
      ap (λ (as_ : List Act). shown_by rdn c t mods acts zero rising earlier late (is_single t) as_) (acts_on_after c t mods acts ∙ ap (λ as_. ps ++ as_) (not_acted c t 1 mods n) ∙ append-nil ps)
      ∙ sym (not_modified t mods (vals_shown rdn (attr_facts acts t)) n)

-- ---- the values of the name

has_key_chosen : (w : Choice) (k : List ℕ) (ks : List (List ℕ)) → Fits w → list_any (λ (v : Val). bytes_eq v.key k) (listed w ks) ≡ true → w k ≡ None → ⊥
has_key_chosen w k [] f h n = not_both false h refl
has_key_chosen w k (j ∷ ks) f h n = by (λ g. has_key_chosen w k ks f g n) (w j) refl h
  where
    by : (list_any (λ (v : Val). bytes_eq v.key k) (listed w ks) ≡ true → ⊥) → (o : Option Val) → w j ≡ o → list_any (λ (v : Val). bytes_eq v.key k) (opt o ++ listed w ks) ≡ true → ⊥
    by more None e g = more g
    by more (Some v) e g =
        either_true (bytes_eq v.key k) (list_any (λ (v : Val). bytes_eq v.key k) (listed w ks)) g
        (λ s. let same : j ≡ k = sym (f j v e) ∙ is_same v.key k s in no_some v (sym e ∙ ap w same ∙ n))
        more
      where
        no_some : (v : Val) → ◌≡◌ {A = Option Val} (Some v) None → ⊥
        no_some v e = cc

-- each value of the name of an attribute that is modified is left
abbrev pub Leaves : Rdn → AttrKey → List Mod → List Val → Type 0
Leaves rdn t mods shown = (k : List ℕ) → is_in_name rdn t k ≡ true → has_mod t mods ≡ true → list_any (λ (v : Val). bytes_eq v.key k) (vals_all t mods shown) ≡ true

fits_all : (t : AttrKey) (mods : List Mod) (w : Choice) → Fits w → Fits (chosen_all t mods w)
fits_all t [] w f = f
fits_all t (m ∷ mods) w f = fits_all t mods (step t m w) (one (bytes_eq t.name m.attr.name))
  where
    one : (b : Bool) → Fits (if b then chosen m.kind m.vals w else w)
    one true = fits_chosen m.kind m.vals w f
    one false = f

-- WHAT ONE ATTRIBUTE SHOWS
pub attr_after : (rdn : Rdn) (c : Csn) (t : AttrKey) (mods : List Mod) (acts : List Act) → csn_lt zero_csn (stamp c 1) ≡ true → AreRising mods → AreEarlier c acts → AreLate (mods_acts c 1 mods)
    → (is_single t ≡ true → IsOnce t mods) → Leaves rdn t mods (vals_shown rdn (attr_facts acts t)) → vals_shown rdn (attr_facts (acts ++ mods_acts c 1 mods) t) ≡ vals_all t mods (vals_shown rdn (attr_facts acts t))
attr_after rdn c t mods acts zero rising earlier late once leaves = by (has_mod t mods) refl (is_single t) refl
  where
    ps : List Act
    ps = filter (is_act_on t) acts

    by : (m : Bool) → has_mod t mods ≡ m → (s : Bool) → is_single t ≡ s → vals_shown rdn (attr_facts (acts ++ mods_acts c 1 mods) t) ≡ vals_all t mods (vals_shown rdn (attr_facts acts t))
    by false n s e = untouched_shown rdn c t mods acts zero rising earlier late n
    by true m false e =
        many_shown rdn c t mods acts zero rising earlier late e
        (λ k n none. has_key_chosen (chosen_all t mods (holds rdn t (filter (is_act_on t) acts))) k (keys_all t mods (keys_of (filter (is_act_on t) acts))) (fits_all t mods (holds rdn t (filter (is_act_on t) acts)) (fits_held rdn t (filter (is_act_on t) acts)))
        (subst (λ (vs : List Val). list_any (λ (v : Val). bytes_eq v.key k) vs ≡ true)
        (ap (vals_all t mods) (ap (λ (b : Bool). shown_by rdn c t mods acts zero rising earlier late b (filter (is_act_on t) acts)) e ∙ held_listed rdn t (filter (is_act_on t) acts) (keys_of (filter (is_act_on t) acts)))
        ∙ vals_listed t mods (holds rdn t (filter (is_act_on t) acts)) (keys_of (filter (is_act_on t) acts)) rising (fits_held rdn t (filter (is_act_on t) acts)) (keys_rise (filter (is_act_on t) acts)))
        (leaves k n m)) none)
    by true m true e =
        single_shown rdn c t mods acts zero rising earlier late e (once e) m
        (λ k n none. has_key_chosen (chosen_all t mods (said (filter (is_act_on t) acts))) k (keys_all t mods (keys_of (filter (is_act_on t) acts))) (fits_all t mods (said (filter (is_act_on t) acts)) (fits_said (filter (is_act_on t) acts)))
        (subst (λ (vs : List Val). list_any (λ (v : Val). bytes_eq v.key k) vs ≡ true)
        ((forgotten t mods (once e) m (vals_shown rdn (attr_facts acts t)) (listed (said (filter (is_act_on t) acts)) (keys_of (filter (is_act_on t) acts)))).0
        ∙ vals_listed t mods (said (filter (is_act_on t) acts)) (keys_of (filter (is_act_on t) acts)) rising (fits_said (filter (is_act_on t) acts)) (keys_rise (filter (is_act_on t) acts)))
        (leaves k n m)) none)

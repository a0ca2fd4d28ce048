-- Each value that an entry shows is one that a change added, or that the suffix entry has from the start.
use Rattle.std.proofs.Common.{◌≡◌, ◌⊎◌, inl, inr, ℕ, suc, ◌+◌, Bool, true, false, cond, ◌||◌, List, [], ◌∷◌, ◌++◌, map, refl, sym, ap, subst, ◌∙◌, Option, Some, None}
use Rattle.std.specs.Prelude.{◌&&◌, not, filter, find, flat_map, option_map, unwrap_or, if◌then◌else◌}
use Rattle.std.specs.List.{AllByRecursion, list_any, list_all}
use Rattle.rule_values.proofs.Places.{equal_key}
use Rattle.repl_data.specs.declared.csn.Csn.{Csn}
use Rattle.repl_data.specs.declared.csn.Uid.{Uid}
use Rattle.repl_data.specs.declared.change.AttrKey.{AttrKey}
use Rattle.repl_data.specs.declared.change.Val.{Val}
use Rattle.repl_data.specs.declared.change.Ava.{Ava}
use Rattle.repl_data.specs.declared.change.Attr.{Attr}
use Rattle.repl_data.specs.declared.change.Rdn.{Rdn}
use Rattle.repl_data.specs.declared.change.Mod.{Mod}
use Rattle.repl_data.specs.declared.change.ModKind.{ModKind}
use Rattle.repl_data.specs.declared.change.ModKind.TheVariants.{Add as AddValues, Delete, Replace}
use Rattle.repl_data.specs.declared.change.Body.{Body}
use Rattle.repl_data.specs.declared.change.Body.TheVariants.{Add, Mod as Modify, Ren, Del}
use Rattle.repl_data.specs.declared.change.Change.{Change}
use Rattle.repl_data.specs.declared.change.Shown.{Shown}
use Rattle.repl_data.specs.declared.change.Suffix.{Suffix}
use Rattle.repl_data.specs.declared.change.Malformed.TheVariants.{NameValue}
use Rattle.repl_data.specs.Order.{csn_lt, csn_le, stamp, zero_csn, suffix_id, uid_eq, bytes_cmp, bytes_eq, csn_max, greatest, latest_or, in_order, in_order_by}
use Rattle.repl_data.specs.Types.{is_single}
use Rattle.repl_data.specs.Check.{has_value, lacks_name_value, faults_of_frame, faults_of_body}
use Rattle.repl_data.specs.Closed.{is_sound}
use Rattle.repl_data.specs.Stamps.{Act, Adds, Deletes, Clears, adds, mod_acts, mods_acts, body_acts, suffix_acts, of_entry, acts_on}
use Rattle.repl_data.specs.Facts.{ValFacts, AttrFacts, EntryFacts, attr_of, is_act_on, keys_named, additions, deletions, val_facts, attr_facts, attrs_facts, names_given, added_ids, ids_known, entry_facts, all_facts, is_in_name, is_held, shows_before, vals_shown, with_values, attrs_shown}
use Rattle.repl_data.specs.Presence.{present_of}
use Rattle.repl_data.specs.View.{DirectoryView, PresentEntry, present_at, user, view_of}
use Rattle.repl_data.specs.Lent.{own_of}
use Rattle.repl_data.proofs.CsnTests.{csn_lt-trans, csn_lt-le_trans, csn_not-from_le, csn_lt-from_not_zero}
use Rattle.repl_data.proofs.InOrder.{is_equal}
use Rattle.repl_data.proofs.KeyPlaces.{all_put, is_same}
use Rattle.repl_data.proofs.Sound.{not_both, both_true, not_false, no_faults, no_fault, sound_rid}
use Rattle.repl_data.proofs.Steps.{flat_map-append, filter-append}
use Rattle.ldap_rules.specs.Rename.{own_values}
use Rattle.repl_data.proofs.Loops.{all_append, all_map, all_filter, all_mono}
use Rattle.repl_data.proofs.Bools.{either_true}
use Rattle.repl_data.proofs.SameView.{same_attr}
use Rattle.repl_data.proofs.Paths.{all_present}
use Rattle.repl_data.proofs.NamesClosed.{added_named, not_nothing, own_names, picked_some, picked}
use Rattle.ldap_rules.proofs.OwnNames.{Names, known_such}

-- ---- acts

-- what an act adds is such a value
abbrev pub Gives : (AttrKey → Val → Type 0) → Act → Type 0
Gives Q (Adds s t v) = Q t v
Gives Q (Deletes s t v) = Unit {0}
Gives Q (Clears s t) = Unit {0}

-- what deletes a value has a stamp above zero
abbrev IsLate : Act → Type 0
IsLate (Adds s t v) = Unit {0}
IsLate (Deletes s t v) = csn_lt zero_csn s ≡ true
IsLate (Clears s t) = Unit {0}

abbrev added : List ℕ → List Act → List (Csn × List ℕ)
added k acts = flat_map (additions k) acts

abbrev deleted : List ℕ → List Act → List Csn
deleted k acts = flat_map (deletions k) acts

abbrev on : AttrKey → List Act → List Act
on t acts = filter (is_act_on t) acts

abbrev Such : (AttrKey → Val → Type 0) → AttrKey → List ℕ → Csn × List ℕ → Type 0
Such Q t k p = Q t (record { key = k; spelled = p.1 })

-- ---- what is added is such

given_key : (Q : AttrKey → Val → Type 0) (s : Csn) (t : AttrKey) (k : List ℕ) (v : Val) (rest : List (Csn × List ℕ)) (b : Bool) → bytes_eq k v.key ≡ b → Q t v
    → AllByRecursion (Such Q t k) rest → AllByRecursion (Such Q t k) ((if b then (s, v.spelled) ∷ [] else []) ++ rest)
given_key Q s t k v rest true e q h = (subst (λ (j : List ℕ). Q t (record { key = j; spelled = v.spelled })) (sym (is_same k v.key e)) q, h)
given_key Q s t k v rest false e q h = h

given_attr : (Q : AttrKey → Val → Type 0) (s : Csn) (t u : AttrKey) (k : List ℕ) (v : Val) (os : List Act) (b : Bool) → bytes_eq t.name u.name ≡ b → Q u v
    → AllByRecursion (Such Q t k) (added k os) → AllByRecursion (Such Q t k) (added k (cond b (Adds s u v ∷ os) os))
given_attr Q s t u k v os true e q h =
    given_key Q s t k v (added k os) (bytes_eq k v.key) refl (subst (λ (w : AttrKey). Q w v) (sym (same_attr t u (is_equal (bytes_cmp t.name u.name) e))) q) h
given_attr Q s t u k v os false e q h = h

other_attr : (Q : AttrKey → Val → Type 0) (t : AttrKey) (k : List ℕ) (a : Act) (os : List Act) (b : Bool) → added k (a ∷ []) ≡ [] → AllByRecursion (Such Q t k) (added k os) → AllByRecursion (Such Q t k) (added k (cond b (a ∷ os) os))
other_attr Q t k a os true e h = subst (λ (xs : List (Csn × List ℕ)). AllByRecursion (Such Q t k) xs) (sym (flat_map-append (additions k) (a ∷ []) os ∙ ap (λ (xs : List (Csn × List ℕ)). xs ++ added k os) e)) h
other_attr Q t k a os false e h = h

added_such : (Q : AttrKey → Val → Type 0) (t : AttrKey) (k : List ℕ) (acts : List Act) → AllByRecursion (Gives Q) acts → AllByRecursion (Such Q t k) (added k (on t acts))
added_such Q t k [] h = tt
added_such Q t k (Adds s u v ∷ acts) h = given_attr Q s t u k v (on t acts) (bytes_eq t.name u.name) refl h.0 (added_such Q t k acts h.1)
added_such Q t k (Deletes s u v ∷ acts) h = other_attr Q t k (Deletes s u v) (on t acts) (bytes_eq t.name u.name) refl (added_such Q t k acts h.1)
added_such Q t k (Clears s u ∷ acts) h = other_attr Q t k (Clears s u) (on t acts) (bytes_eq t.name u.name) refl (added_such Q t k acts h.1)

-- ---- a key that is named and not added was deleted above zero

later_max : (x r : Csn) → csn_lt zero_csn r ≡ true → csn_lt zero_csn (csn_max x r) ≡ true
later_max x r h = by (csn_lt x r) refl
  where
    by : (b : Bool) → csn_lt x r ≡ b → csn_lt zero_csn (if b then r else x) ≡ true
    by true e = h
    by false e = csn_lt-le_trans zero_csn r x h e

first_max : (x r : Csn) → csn_lt zero_csn x ≡ true → csn_lt zero_csn (csn_max x r) ≡ true
first_max x r h = by (csn_lt x r) refl
  where
    by : (b : Bool) → csn_lt x r ≡ b → csn_lt zero_csn (if b then r else x) ≡ true
    by true e = csn_lt-trans zero_csn x r h e
    by false e = h

greatest_behind : (xs ys : List Csn) → csn_lt zero_csn (greatest ys) ≡ true → csn_lt zero_csn (greatest (xs ++ ys)) ≡ true
greatest_behind [] ys h = h
greatest_behind (x ∷ xs) ys h = later_max x (greatest (xs ++ ys)) (greatest_behind xs ys h)

behind_none : {X : Type 0} (xs ys : List X) → xs ++ ys ≡ [] → ys ≡ []
behind_none [] ys e = e
behind_none (x ∷ xs) ys e = let n : ⊥ = cc in absurd n

before_none : {X : Type 0} (xs ys : List X) → xs ++ ys ≡ [] → xs ≡ []
before_none [] ys e = refl
before_none (x ∷ xs) ys e = let n : ⊥ = cc in absurd n

abbrev IsNamed : List Act → List ℕ → Type 0
IsNamed os k = added k os ≡ [] → csn_lt zero_csn (greatest (deleted k os)) ≡ true

named_here : (a : Act) (os : List Act) → IsLate a → AllByRecursion (IsNamed (a ∷ os)) (keys_named a)
named_here (Adds s t v) os h =
    ((λ e. absurd (not_nothing (s, v.spelled) (added v.key os) (sym (ap (λ (b : Bool). (if b then (s, v.spelled) ∷ [] else []) ++ added v.key os) (equal_key v.key v.key refl)) ∙ e))), tt)
named_here (Deletes s t v) os h =
    ((λ e. subst (λ (b : Bool). csn_lt zero_csn (greatest ((if b then s ∷ [] else []) ++ deleted v.key os)) ≡ true) (sym (equal_key v.key v.key refl)) (first_max s (greatest (deleted v.key os)) h)), tt)
named_here (Clears s t) os h = tt

named_all : (os : List Act) → AllByRecursion IsLate os → AllByRecursion (IsNamed os) (flat_map keys_named os)
named_all [] h = tt
named_all (a ∷ os) h =
    all_append (IsNamed (a ∷ os)) (keys_named a) (flat_map keys_named os) (named_here a os h.0)
    (all_mono (IsNamed os) (IsNamed (a ∷ os)) (λ k n e. greatest_behind (deletions k a) (deleted k os) (n (behind_none (additions k a) (added k os) e))) (flat_map keys_named os) (named_all os h.1))

keys_such : (P : List ℕ → Type 0) (ks : List (List ℕ)) → AllByRecursion P ks → AllByRecursion P (in_order bytes_cmp ks)
keys_such P [] h = tt
keys_such P (k ∷ ks) h = all_put (λ (j : List ℕ). j) P k (in_order bytes_cmp ks) h.0 (keys_such P ks h.1)

-- ---- what shows of one attribute

-- a value of the name was added
abbrev IsAdded : List Act → Ava → Type 0
IsAdded acts a = added a.val.key (on a.attr acts) ≡ [] → ⊥

held_such : (Q : AttrKey → Val → Type 0) (rdn : Rdn) (t : AttrKey) (os : List Act) (k : List ℕ) → AllByRecursion (Such Q t k) (added k os) → IsNamed os k → (is_in_name rdn t k ≡ true → added k os ≡ [] → ⊥)
    → is_held rdn t (val_facts os k) ≡ true → Q t (record { key = k; spelled = (val_facts os k).spelled })
held_such Q rdn t os k such named in_name held = by (added k os) refl
  where
    none : Csn × List ℕ
    none = (zero_csn, [])

    by : (ps : List (Csn × List ℕ)) → added k os ≡ ps → Q t (record { key = k; spelled = (latest_or (zero_csn, []) ps).1 })
    by (p ∷ ps) e = let h : AllByRecursion (Such Q t k) (p ∷ ps) = subst (AllByRecursion (Such Q t k)) e such in picked (Such Q t k) [] p ps h.0 h.1
    by [] e =
        let down : Csn = greatest (deleted k os) in
        let le : csn_le down (latest_or (zero_csn, []) (added k os)).0 ≡ true = either_true (is_in_name rdn t k) (csn_le down (latest_or (zero_csn, []) (added k os)).0) held (λ n. absurd (in_name n e)) (λ l. l) in
        let low : csn_le down zero_csn ≡ true = subst (λ (ps : List (Csn × List ℕ)). csn_le down (latest_or (zero_csn, []) ps).0 ≡ true) e le in
        absurd (not_both (csn_lt zero_csn down) (named e) (csn_not-from_le down zero_csn low))

abbrev value : ValFacts → Val
value v = record { key = v.key; spelled = v.spelled }

filtered_such : (R : ValFacts → Type 0) (p : ValFacts → Bool) (fs : List ValFacts) → AllByRecursion (λ f. p f ≡ true → R f) fs → AllByRecursion R (filter p fs)
filtered_such R p [] h = tt
filtered_such R p (f ∷ fs) h = by (p f) refl (filtered_such R p fs h.1)
  where
    by : (b : Bool) → p f ≡ b → AllByRecursion R (filter p fs) → AllByRecursion R (cond b (f ∷ filter p fs) (filter p fs))
    by true e g = (h.0 e, g)
    by false e g = g

shown_such : (Q : AttrKey → Val → Type 0) (rdn : Rdn) (a : AttrFacts) → AllByRecursion (λ (f : ValFacts). is_held rdn a.attr f ≡ true → Q a.attr (value f)) a.vals → AllByRecursion (Q a.attr) (vals_shown rdn a)
shown_such Q rdn a h =
    let held : List ValFacts = filter (is_held rdn a.attr) a.vals in
    let all : AllByRecursion (λ (f : ValFacts). Q a.attr (value f)) held = filtered_such (λ (f : ValFacts). Q a.attr (value f)) (is_held rdn a.attr) a.vals h in
    let best : AllByRecursion (λ (f : ValFacts). Q a.attr (value f)) (filter (λ v. not (list_any (λ w. shows_before rdn a.attr w v) held)) held) =
    all_filter (λ (f : ValFacts). Q a.attr (value f)) (λ v. not (list_any (λ w. shows_before rdn a.attr w v) held)) held all in
    all_map (Q a.attr) value _ (either (is_single a.attr) held all _ best)
  where
    either : (b : Bool) (xs : List ValFacts) → AllByRecursion (λ (f : ValFacts). Q a.attr (value f)) xs → (ys : List ValFacts) → AllByRecursion (λ (f : ValFacts). Q a.attr (value f)) ys → AllByRecursion (λ (f : ValFacts). Q a.attr (value f)) (if b then ys else xs)
    either true xs h ys g = g
    either false xs h ys g = h

-- ---- what shows of an entry

part_of_name : (acts : List Act) (t : AttrKey) (k : List ℕ) (avas : List Ava) → AllByRecursion (IsAdded acts) avas → list_any (λ (a : Ava). bytes_eq a.attr.name t.name && bytes_eq a.val.key k) avas ≡ true → added k (on t acts) ≡ [] → ⊥
part_of_name acts t k [] h n e = not_both false n refl
part_of_name acts t k (a ∷ avas) h n e =
    either_true (bytes_eq a.attr.name t.name && bytes_eq a.val.key k) (list_any (λ (b : Ava). bytes_eq b.attr.name t.name && bytes_eq b.val.key k) avas) n
    (λ own.
    let both = both_true (bytes_eq a.attr.name t.name) (bytes_eq a.val.key k) own in
    let same : t ≡ a.attr = sym (same_attr a.attr t (is_equal (bytes_cmp a.attr.name t.name) both.0)) in
    let key : k ≡ a.val.key = sym (is_same a.val.key k both.1) in
    h.0 (subst (λ (j : List ℕ). added j (on a.attr acts) ≡ []) key (subst (λ (u : AttrKey). added k (on u acts) ≡ []) same e)))
    (λ more. part_of_name acts t k avas h.1 more e)

abbrev HasSuch : (AttrKey → Val → Type 0) → Attr → Type 0
HasSuch Q a = AllByRecursion (Q a.attr) a.vals

with_such : (Q : AttrKey → Val → Type 0) (t : AttrKey) (vals : List Val) → AllByRecursion (Q t) vals → AllByRecursion (HasSuch Q) (with_values t vals)
with_such Q t [] h = tt
with_such Q t (v ∷ vals) h = (h, tt)

module _ (Q : AttrKey → Val → Type 0) (rdn : Rdn) (acts : List Act) (given : AllByRecursion (Gives Q) acts) (late : AllByRecursion IsLate acts) (named : AllByRecursion (IsAdded acts) rdn.avas) where
  attr_such : (t : AttrKey) → AllByRecursion (Q t) (vals_shown rdn (attr_facts acts t))
  attr_such t =
      let os : List Act = on t acts in
      shown_such Q rdn (attr_facts acts t)
      (all_map (λ (f : ValFacts). is_held rdn t f ≡ true → Q t (value f)) (val_facts os) (in_order bytes_cmp (flat_map keys_named os))
      (all_mono (IsNamed os) (λ k. is_held rdn t (val_facts os k) ≡ true → Q t (value (val_facts os k)))
      (λ k n held. held_such Q rdn t os k (added_such Q t k acts given) n (part_of_name acts t k rdn.avas named) held)
      (in_order bytes_cmp (flat_map keys_named os))
      (keys_such (IsNamed os) (flat_map keys_named os) (named_all os (all_filter IsLate (is_act_on t) acts late)))))

  attrs_such : (ts : List AttrKey) → AllByRecursion (HasSuch Q) (flat_map (λ (a : AttrFacts). with_values a.attr (vals_shown rdn a)) (map (attr_facts acts) ts))
  attrs_such [] = tt
  attrs_such (t ∷ ts) =
      all_append (HasSuch Q) (with_values t (vals_shown rdn (attr_facts acts t))) _ (with_such Q t (vals_shown rdn (attr_facts acts t)) (attr_such t)) (attrs_such ts)

-- ---- the values of its name

more_added : (xs ys : List Act) (a : Ava) → (IsAdded xs a) ⊎ (IsAdded ys a) → IsAdded (xs ++ ys) a
more_added xs ys a h e =
    let parted : added a.val.key (on a.attr xs) ++ added a.val.key (on a.attr ys) ≡ [] = sym (ap (added a.val.key) (filter-append (is_act_on a.attr) xs ys) ∙ flat_map-append (additions a.val.key) (on a.attr xs) (on a.attr ys)) ∙ e in
    elim h [ inl f ↦ f (before_none (added a.val.key (on a.attr xs)) (added a.val.key (on a.attr ys)) parted) | inr g ↦ g (behind_none (added a.val.key (on a.attr xs)) (added a.val.key (on a.attr ys)) parted) ]

is_added : (s : Csn) (t : AttrKey) (v : Val) (rest : List Act) (a : Ava) → bytes_eq t.name a.attr.name ≡ true → bytes_eq v.key a.val.key ≡ true → IsAdded (Adds s t v ∷ rest) a
is_added s t v rest a same key e =
    let attr : bytes_eq a.attr.name t.name ≡ true = equal_key a.attr.name t.name (sym (is_same t.name a.attr.name same)) in
    let own : bytes_eq a.val.key v.key ≡ true = equal_key a.val.key v.key (sym (is_same v.key a.val.key key)) in
    not_nothing (s, v.spelled) (added a.val.key (on a.attr rest))
    (sym ((λ i. added a.val.key (cond (attr i) (Adds s t v ∷ on a.attr rest) (on a.attr rest))) ∙ ap (λ (b : Bool). (if b then (s, v.spelled) ∷ [] else []) ++ added a.val.key (on a.attr rest)) own) ∙ e)

one_attr : (s : Csn) (t : AttrKey) (vals : List Val) (rest : List Act) (a : Ava) → bytes_eq t.name a.attr.name ≡ true → list_any (λ (v : Val). bytes_eq v.key a.val.key) vals ≡ true → IsAdded (adds s t vals ++ rest) a
one_attr s t [] rest a same h = absurd (not_both false h refl)
one_attr s t (v ∷ vals) rest a same h =
    either_true (bytes_eq v.key a.val.key) (list_any (λ (w : Val). bytes_eq w.key a.val.key) vals) h
    (λ key. is_added s t v (adds s t vals ++ rest) a same key)
    (λ more. more_added (Adds s t v ∷ []) (adds s t vals ++ rest) a (inr (one_attr s t vals rest a same more)))

of_attrs : (s : Csn) (attrs : List Attr) (a : Ava) → has_value attrs a ≡ true → IsAdded (flat_map (λ (b : Attr). adds s b.attr b.vals) attrs) a
of_attrs s [] a h = absurd (not_both false h refl)
of_attrs s (b ∷ attrs) a h =
    either_true (bytes_eq b.attr.name a.attr.name && list_any (λ (v : Val). bytes_eq v.key a.val.key) b.vals) (has_value attrs a) h
    (λ own. let both = both_true (bytes_eq b.attr.name a.attr.name) (list_any (λ (v : Val). bytes_eq v.key a.val.key) b.vals) own in one_attr s b.attr b.vals _ a both.0 both.1)
    (λ more. more_added (adds s b.attr b.vals) (flat_map (λ (c : Attr). adds s c.attr c.vals) attrs) a (inr (of_attrs s attrs a more)))

all_of_attrs : (s : Csn) (attrs : List Attr) (avas : List Ava) → list_all (has_value attrs) avas ≡ true → AllByRecursion (IsAdded (flat_map (λ (b : Attr). adds s b.attr b.vals) attrs)) avas
all_of_attrs s attrs [] h = tt
all_of_attrs s attrs (a ∷ avas) h = let both = both_true (has_value attrs a) (list_all (has_value attrs) avas) h in (of_attrs s attrs a both.0, all_of_attrs s attrs avas both.1)

-- the parts of a name that is added
of_parts : (s : Csn) (avas : List Ava) → AllByRecursion (IsAdded (map (λ (a : Ava). Adds s a.attr a.val) avas)) avas
of_parts s [] = tt
of_parts s (a ∷ avas) = (
  is_added s a.attr a.val (map (λ (b : Ava). Adds s b.attr b.val) avas) a (equal_key a.attr.name a.attr.name refl) (equal_key a.val.key a.val.key refl),
  all_mono (IsAdded (map (λ (b : Ava). Adds s b.attr b.val) avas)) (IsAdded (map (λ (b : Ava). Adds s b.attr b.val) (a ∷ avas)))
      (λ b h. more_added (Adds s a.attr a.val ∷ []) (map (λ (c : Ava). Adds s c.attr c.val) avas) b (inr h)) avas (of_parts s avas),
)

abbrev HasAdded : List Act → Csn × Rdn → Type 0
HasAdded acts p = AllByRecursion (IsAdded acts) p.1.avas

names_of_body : (c : Csn) (b : Body) → lacks_name_value b ≡ false → AllByRecursion (HasAdded (body_acts c b)) (names_given c b)
names_of_body c (Add parent rdn attrs) h = (all_of_attrs (stamp c 0) attrs rdn.avas (not_false (list_all (has_value attrs) rdn.avas) h), tt)
names_of_body c (Modify mods) h = tt
names_of_body c (Ren rdn dropped) h = (
  all_mono (IsAdded (map (λ (a : Ava). Adds (stamp c 1) a.attr a.val) rdn.avas)) (IsAdded (body_acts c (Ren rdn dropped)))
      (λ a k. more_added (map (λ (b : Ava). Deletes (stamp c 0) b.attr b.val) dropped) (map (λ (b : Ava). Adds (stamp c 1) b.attr b.val) rdn.avas) a (inr k)) rdn.avas (of_parts (stamp c 1) rdn.avas),
  tt,
)
names_of_body c Del h = tt

sound_name : (c : Change) → is_sound c ≡ true → lacks_name_value c.body ≡ false
sound_name c h = no_fault (lacks_name_value c.body) NameValue (no_faults (faults_of_frame c ++ faults_of_body c.body) h).1.1.1.1.1.1.1.1.1.0

abbrev acts_of : List Change → List Act
acts_of cs = flat_map (λ (c : Change). body_acts c.csn c.body) cs

abbrev names_of : List Change → List (Csn × Rdn)
names_of cs = flat_map (λ (c : Change). names_given c.csn c.body) cs

names_mono : (xs ys : List Act) (ps : List (Csn × Rdn)) → ((a : Ava) → IsAdded xs a → IsAdded ys a) → AllByRecursion (HasAdded xs) ps → AllByRecursion (HasAdded ys) ps
names_mono xs ys ps f h = all_mono (HasAdded xs) (HasAdded ys) (λ p k. all_mono (IsAdded xs) (IsAdded ys) f p.1.avas k) ps h

names_added : (cs : List Change) → list_all is_sound cs ≡ true → AllByRecursion (HasAdded (acts_of cs)) (names_of cs)
names_added [] h = tt
names_added (c ∷ cs) h =
    let both = both_true (is_sound c) (list_all is_sound cs) h in
    let own : List Act = body_acts c.csn c.body in
    all_append (HasAdded (own ++ acts_of cs)) (names_given c.csn c.body) (names_of cs)
    (names_mono own (own ++ acts_of cs) (names_given c.csn c.body) (λ a k. more_added own (acts_of cs) a (inl k)) (names_of_body c.csn c.body (sound_name c both.0)))
    (names_mono (acts_of cs) (own ++ acts_of cs) (names_of cs) (λ a k. more_added own (acts_of cs) a (inr k)) (names_added cs both.1))

-- ---- stamps above zero

late_stamp : (c : Csn) (k : ℕ) → (c.rid ≡ 0 → ⊥) → csn_lt zero_csn (stamp c k) ≡ true
late_stamp c k n = csn_lt-from_not_zero (stamp c k) (λ e. n (ap (λ (d : Csn). d.rid) e))

late_adds : (s : Csn) (t : AttrKey) (vals : List Val) → AllByRecursion IsLate (adds s t vals)
late_adds s t [] = tt
late_adds s t (v ∷ vals) = (tt, late_adds s t vals)

late_deletes : (s : Csn) (t : AttrKey) (vals : List Val) → csn_lt zero_csn s ≡ true → AllByRecursion IsLate (map (Deletes s t) vals)
late_deletes s t [] l = tt
late_deletes s t (v ∷ vals) l = (l, late_deletes s t vals l)

late_mod : (s : Csn) (m : Mod) → csn_lt zero_csn s ≡ true → AllByRecursion IsLate (mod_acts s m)
late_mod s m l = by m.kind m.vals
  where
    acts : ModKind → List Val → List Act
    acts kind vals = mod_acts s (record { kind = kind; attr = m.attr; vals = vals })

    by : (kind : ModKind) (vals : List Val) → AllByRecursion IsLate (acts kind vals)
    by AddValues vals = late_adds s m.attr vals
    by Delete [] = (tt, tt)
    by Delete (v ∷ vals) = late_deletes s m.attr (v ∷ vals) l
    by Replace vals = (tt, late_adds s m.attr vals)

late_mods : (c : Csn) (k : ℕ) (mods : List Mod) → (c.rid ≡ 0 → ⊥) → AllByRecursion IsLate (mods_acts c k mods)
late_mods c k [] n = tt
late_mods c k (m ∷ mods) n = all_append IsLate (mod_acts (stamp c k) m) (mods_acts c (k + 1) mods) (late_mod (stamp c k) m (late_stamp c k n)) (late_mods c (k + 1) mods n)

late_attrs : (s : Csn) (attrs : List Attr) → AllByRecursion IsLate (flat_map (λ (a : Attr). adds s a.attr a.vals) attrs)
late_attrs s [] = tt
late_attrs s (a ∷ attrs) = all_append IsLate (adds s a.attr a.vals) _ (late_adds s a.attr a.vals) (late_attrs s attrs)

late_parts : (s : Csn) (avas : List Ava) → AllByRecursion IsLate (map (λ (a : Ava). Adds s a.attr a.val) avas)
late_parts s [] = tt
late_parts s (a ∷ avas) = (tt, late_parts s avas)

late_dropped : (s : Csn) (avas : List Ava) → csn_lt zero_csn s ≡ true → AllByRecursion IsLate (map (λ (a : Ava). Deletes s a.attr a.val) avas)
late_dropped s [] l = tt
late_dropped s (a ∷ avas) l = (l, late_dropped s avas l)

late_body : (c : Csn) (b : Body) → (c.rid ≡ 0 → ⊥) → AllByRecursion IsLate (body_acts c b)
late_body c (Add parent rdn attrs) n = late_attrs (stamp c 0) attrs
late_body c (Modify mods) n = late_mods c 1 mods n
late_body c (Ren rdn dropped) n = all_append IsLate (map (λ (a : Ava). Deletes (stamp c 0) a.attr a.val) dropped) _ (late_dropped (stamp c 0) dropped (late_stamp c 0 n)) (late_parts (stamp c 1) rdn.avas)
late_body c Del n = tt

late_acts : (cs : List Change) → list_all is_sound cs ≡ true → AllByRecursion IsLate (acts_of cs)
late_acts [] h = tt
late_acts (c ∷ cs) h = let both = both_true (is_sound c) (list_all is_sound cs) h in all_append IsLate (body_acts c.csn c.body) (acts_of cs) (late_body c.csn c.body (sound_rid c both.0)) (late_acts cs both.1)

late_suffix : (suffix : Suffix) → AllByRecursion IsLate (suffix_acts suffix)
late_suffix suffix = all_append IsLate (map (λ (a : Ava). Adds zero_csn a.attr a.val) suffix.rdn.avas) _ (late_parts zero_csn suffix.rdn.avas) (tt, (tt, tt))

-- ---- the entries

-- what a change adds is such
abbrev pub ChangeGives : (AttrKey → Val → Type 0) → Change → Type 0
ChangeGives Q c = AllByRecursion (Gives Q) (body_acts c.csn c.body)

sound_own : (xs : List Change) (u : Uid) → list_all is_sound xs ≡ true → list_all is_sound (of_entry xs u) ≡ true
sound_own [] u h = refl
sound_own (x ∷ xs) u h = let both = both_true (is_sound x) (list_all is_sound xs) h in by (uid_eq x.target u) both.0 (sound_own xs u both.1)
  where
    by : (b : Bool) → is_sound x ≡ true → list_all is_sound (of_entry xs u) ≡ true → list_all is_sound (cond b (x ∷ of_entry xs u) (of_entry xs u)) ≡ true
    by true s g = ap (λ t. t && list_all is_sound (of_entry xs u)) s ∙ g
    by false s g = g

given_acts : (Q : AttrKey → Val → Type 0) (cs : List Change) → AllByRecursion (ChangeGives Q) cs → AllByRecursion (Gives Q) (acts_of cs)
given_acts Q [] h = tt
given_acts Q (c ∷ cs) h = all_append (Gives Q) (body_acts c.csn c.body) (acts_of cs) h.0 (given_acts Q cs h.1)

latest_such : {X : Type 0} (P : Csn × X → Type 0) (none : X) (xs : List (Csn × X)) → P (zero_csn, none) → AllByRecursion P xs → P (latest_or (zero_csn, none) xs)
latest_such P none [] p h = p
latest_such P none (x ∷ xs) p h = picked P none x xs h.0 h.1

abbrev starts : Bool → Suffix → List Act
starts b suffix = if b then suffix_acts suffix else []

starts_such : (P : Act → Type 0) (b : Bool) (suffix : Suffix) → AllByRecursion P (suffix_acts suffix) → AllByRecursion P (starts b suffix)
starts_such P true suffix h = h
starts_such P false suffix h = tt

module _ (Q : AttrKey → Val → Type 0) (suffix : Suffix) (xs : List Change) (sound : list_all is_sound xs ≡ true) (given : AllByRecursion (ChangeGives Q) xs) (start : AllByRecursion (Gives Q) (suffix_acts suffix)) where
  abbrev own_acts : Uid → List Act
  own_acts u = starts (uid_eq u suffix_id) suffix ++ acts_of (of_entry xs u)

  all_names : (u : Uid) → AllByRecursion (HasAdded (own_acts u)) (own_names xs u)
  all_names u =
      names_mono (acts_of (of_entry xs u)) (own_acts u) (own_names xs u) (λ a k. more_added (starts (uid_eq u suffix_id) suffix) (acts_of (of_entry xs u)) a (inr k))
      (names_added (of_entry xs u) (sound_own xs u sound))

  suffix_name : (u : Uid) → uid_eq u suffix_id ≡ true → AllByRecursion (IsAdded (own_acts u)) suffix.rdn.avas
  suffix_name u s =
      let parts : List Act = map (λ (a : Ava). Adds zero_csn a.attr a.val) suffix.rdn.avas in
      all_mono (IsAdded parts) (IsAdded (own_acts u))
      (λ a k. more_added (starts (uid_eq u suffix_id) suffix) (acts_of (of_entry xs u)) a
      (inl (subst (λ (b : Bool). IsAdded (starts b suffix) a) (sym s) (more_added parts _ a (inl k))))) suffix.rdn.avas (of_parts zero_csn suffix.rdn.avas)

  name_added : (u : Uid) → (uid_eq u suffix_id ≡ true) ⊎ (list_any (uid_eq u) (added_ids xs) ≡ true) → AllByRecursion (IsAdded (own_acts u)) (entry_facts suffix xs u).rdn.avas
  name_added u (inl s) = latest_such (HasAdded (own_acts u)) suffix.rdn (own_names xs u) (suffix_name u s) (all_names u)
  name_added u (inr a) = picked_some (HasAdded (own_acts u)) suffix.rdn (own_names xs u) (added_named xs u a) (all_names u)

  facts_such : (u : Uid) → (uid_eq u suffix_id ≡ true) ⊎ (list_any (uid_eq u) (added_ids xs) ≡ true) → AllByRecursion (HasSuch Q) (attrs_shown (entry_facts suffix xs u))
  facts_such u k =
      attrs_such Q (entry_facts suffix xs u).rdn (own_acts u)
      (all_append (Gives Q) (starts (uid_eq u suffix_id) suffix) (acts_of (of_entry xs u)) (starts_such (Gives Q) (uid_eq u suffix_id) suffix start) (given_acts Q (of_entry xs u) (all_filter (ChangeGives Q) _ xs given)))
      (all_append IsLate (starts (uid_eq u suffix_id) suffix) (acts_of (of_entry xs u)) (starts_such IsLate (uid_eq u suffix_id) suffix (late_suffix suffix)) (late_acts (of_entry xs u) (sound_own xs u sound)))
      (name_added u k) (in_order_by (λ (t : AttrKey). t.name) bytes_cmp (map attr_of (own_acts u)))

  abbrev ShowsSuch : EntryFacts → Type 0
  ShowsSuch e = AllByRecursion (HasSuch Q) (attrs_shown e)

  present_shows : AllByRecursion (λ (e : PresentEntry). AllByRecursion (HasSuch Q) e.attrs) (view_of suffix xs).present
  present_shows =
      all_map (λ (e : PresentEntry). AllByRecursion (HasSuch Q) e.attrs) _ (present_of (all_facts suffix xs))
      (all_present ShowsSuch (all_facts suffix xs) (all_map ShowsSuch (entry_facts suffix xs) (ids_known xs) (known_such (λ u. ShowsSuch (entry_facts suffix xs u)) xs facts_such)))

abbrev pub ListsSuch : (AttrKey → Val → Type 0) → Shown → Type 0
ListsSuch Q s = AllByRecursion (Q s.attr) s.vals

found_shows : (Q : AttrKey → Val → Type 0) (p : PresentEntry → Bool) (es : List PresentEntry) → AllByRecursion (λ (e : PresentEntry). AllByRecursion (HasSuch Q) e.attrs) es
    → AllByRecursion (ListsSuch Q) (unwrap_or (option_map (λ (e : PresentEntry). map user e.attrs) (find p es)) [])
found_shows Q p [] h = tt
found_shows Q p (e ∷ es) h = by (p e) (found_shows Q p es h.1)
  where
    by : (b : Bool) → AllByRecursion (ListsSuch Q) (unwrap_or (option_map (λ (e : PresentEntry). map user e.attrs) (find p es)) [])
        → AllByRecursion (ListsSuch Q) (unwrap_or (option_map (λ (e : PresentEntry). map user e.attrs) (cond b (Some e) (find p es))) [])
    by true g = all_map (ListsSuch Q) user e.attrs h.0
    by false g = g

-- WHAT HOLDS OF EVERY VALUE THAT A SOUND CHANGE ADDS, AND OF THOSE OF THE SUFFIX ENTRY, HOLDS OF EACH VALUE THAT SHOWS
pub own_vals : (Q : AttrKey → Val → Type 0) (suffix : Suffix) (xs : List Change) (u : Uid) → list_all is_sound xs ≡ true → AllByRecursion (ChangeGives Q) xs → AllByRecursion (Gives Q) (suffix_acts suffix)
    → AllByRecursion (ListsSuch Q) (own_values (view_of suffix xs) u)
own_vals Q suffix xs u sound given start = found_shows Q (λ (e : PresentEntry). uid_eq e.id u) (view_of suffix xs).present (present_shows Q suffix xs sound given start)

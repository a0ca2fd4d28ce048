-- What an entry shows after modifications one after the other is their plain effect.
use Rattle.std.proofs.Common.{◌≡◌, ℕ, ◌+◌, Bool, true, false, cond, not, ◌||◌, ◌&&◌, List, [], ◌∷◌, ◌++◌, map, refl, sym, ap, subst, ◌∙◌, Option, Some, None, append_assoc, append-nil}
use Rattle.std.specs.Prelude.{filter, flat_map, fold, if◌then◌else◌}
use Rattle.std.specs.List.{AllByRecursion, list_any}
use Rattle.std.specs.declared.cmp.Ordering.{Ordering}
use Rattle.std.specs.declared.cmp.Ordering.TheVariants.{Less, Equal, Greater}
use Rattle.repl_data.specs.declared.csn.Csn.{Csn}
use Rattle.repl_data.specs.declared.change.AttrKey.{AttrKey}
use Rattle.repl_data.specs.declared.change.Val.{Val}
use Rattle.repl_data.specs.declared.change.Attr.{Attr}
use Rattle.repl_data.specs.declared.change.Rdn.{Rdn}
use Rattle.repl_data.specs.declared.change.Mod.{Mod}
use Rattle.repl_data.specs.declared.change.ModKind.{ModKind}
use Rattle.repl_data.specs.declared.change.ModKind.TheVariants.{Add as AddValues, Delete, Replace}
use Rattle.repl_data.specs.Order.{csn_lt, stamp, zero_csn, greatest, bytes_cmp, bytes_eq, put_by, by_order, in_order, in_order_by}
use Rattle.repl_data.specs.Ordered.{Rises}
use Rattle.repl_data.specs.Types.{is_single}
use Rattle.repl_data.specs.Check.{adds_nothing}
use Rattle.repl_data.specs.Stamps.{Act, Adds, Deletes, adds, mod_acts, mods_acts}
use Rattle.repl_data.specs.Facts.{ValFacts, AttrFacts, clearings, keys_named, val_facts, attr_of, is_act_on, attr_facts, attrs_facts, vals_shown, with_values}
use Rattle.repl_data.specs.Plain.{set_values, values_after, plain_mod}
use Rattle.repl_data.specs.View.{put_attr, vals_at}
use Rattle.repl_data.proofs.Orders.{bytes_total, bytes_exact}
use Rattle.repl_data.proofs.InOrder.{in_order_by-Rises, in_order_by-append, any-in_order_by, put-known, is_equal}
use Rattle.repl_data.proofs.KeyPlaces.{put_rises, is_same, same_self}
use Rattle.repl_data.proofs.Raised.{map-append}
use Rattle.repl_data.proofs.Sound.{neither, not_both}
use Rattle.repl_data.proofs.Steps.{flat_map-append}
use Rattle.plain_effect.proofs.Present.{any_last}
use Rattle.plain_effect.proofs.Normal.{own, opt, listed, with_one, put_key, above_other, listed_same, all_keys, put_listed, drop_listed, put_none}
use Rattle.plain_effect.proofs.Shown.{turned}
use Rattle.plain_effect.proofs.Runs.{vals_all, AreRising}
use Rattle.plain_effect.proofs.Whole.{AreLate, AreEarlier, IsOnce, Leaves, attr_after}

abbrev named : List ℕ → AttrKey
named n = record { name = n }

abbrev name_of : AttrKey → List ℕ
name_of t = t.name

abbrev attr_name : Attr → List ℕ
attr_name a = a.attr.name

-- ---- attributes as choices

abbrev attr_opt : List ℕ → List Val → Option Attr
attr_opt n [] = None
attr_opt n (v ∷ vals) = Some (record { attr = record { name = n }; vals = v ∷ vals })

abbrev Values : Type 0
Values = List ℕ → List Val

abbrev attrs_of : Values → List ℕ → Option Attr
attrs_of v n = attr_opt n (v n)

fits_attrs : (v : Values) (j : List ℕ) (x : Attr) → attrs_of v j ≡ Some x → x.attr.name ≡ j
fits_attrs v j x h = by (v j) h
  where
    by : (vals : List Val) → attr_opt j vals ≡ Some x → x.attr.name ≡ j
    by [] g = let n : ⊥ = cc in absurd n
    by (w ∷ vals) g = let same : ◌≡◌ {A = Attr} (record { attr = record { name = j }; vals = w ∷ vals }) x = cc in sym (ap attr_name same)

-- ---- what is shown

abbrev shows : Rdn → List Act → Values
shows rdn acts n = vals_shown rdn (attr_facts acts (record { name = n }))

with_listed : (t : AttrKey) (vals : List Val) → with_values t vals ≡ opt (attr_opt t.name vals)
with_listed t [] = refl
with_listed t (v ∷ vals) = refl

shown_at : (rdn : Rdn) (acts : List Act) (ts : List AttrKey) → flat_map (λ (a : AttrFacts). with_values a.attr (vals_shown rdn a)) (map (attr_facts acts) ts) ≡ listed (attrs_of (shows rdn acts)) (map name_of ts)
shown_at rdn acts [] = refl
shown_at rdn acts (t ∷ ts) = λ i. with_listed t (vals_shown rdn (attr_facts acts t)) i ++ shown_at rdn acts ts i

names_put : (t : AttrKey) (ts : List AttrKey) → map name_of (put_by name_of bytes_cmp t ts) ≡ put_key t.name (map name_of ts)
names_put t [] = refl
names_put t (u ∷ ts) = by (bytes_cmp t.name u.name) (names_put t ts)
  where
    by : (o : Ordering) → map name_of (put_by name_of bytes_cmp t ts) ≡ put_key t.name (map name_of ts)
        → map name_of (by_order o (t ∷ u ∷ ts) (t ∷ ts) (u ∷ put_by name_of bytes_cmp t ts)) ≡ by_order o (t.name ∷ u.name ∷ map name_of ts) (t.name ∷ map name_of ts) (u.name ∷ put_key t.name (map name_of ts))
    by Less e = refl
    by Equal e = refl
    by Greater e = ap (λ ns. u.name ∷ ns) e

names_in_order : (ts : List AttrKey) → map name_of (in_order_by name_of bytes_cmp ts) ≡ in_order bytes_cmp (map name_of ts)
names_in_order [] = refl
names_in_order (t ∷ ts) = names_put t (in_order_by name_of bytes_cmp ts) ∙ ap (put_key t.name) (names_in_order ts)

abbrev names_of : List Act → List (List ℕ)
names_of acts = in_order bytes_cmp (map name_of (map attr_of acts))

abbrev pub shown_attrs : Rdn → List Act → List Attr
shown_attrs rdn acts = flat_map (λ (a : AttrFacts). with_values a.attr (vals_shown rdn a)) (attrs_facts acts)

shown_listed : (rdn : Rdn) (acts : List Act) → shown_attrs rdn acts ≡ listed (attrs_of (shows rdn acts)) (names_of acts)
shown_listed rdn acts =
    shown_at rdn acts (in_order_by name_of bytes_cmp (map attr_of acts)) ∙ ap (listed (attrs_of (shows rdn acts))) (names_in_order (map attr_of acts))

names_rise : (acts : List Act) → Rises own (names_of acts)
names_rise acts = in_order_by-Rises bytes_cmp bytes_total own (map name_of (map attr_of acts))

-- ---- the names after the modifications

abbrev names_with : List Mod → List (List ℕ) → List (List ℕ)
names_with [] ns = ns
names_with (m ∷ mods) ns = names_with mods (put_key m.attr.name ns)

one_name : (xs : List (List ℕ)) (n : List ℕ) (ys : List (List ℕ)) → AllByRecursion (λ y. y ≡ n) ys → in_order bytes_cmp (xs ++ n ∷ ys) ≡ put_key n (in_order bytes_cmp xs)
one_name xs n [] h = in_order_by-append bytes_cmp bytes_total own bytes_exact xs n
one_name xs n (y ∷ ys) h =
    ap (in_order bytes_cmp) (sym (append_assoc xs (n ∷ []) (y ∷ ys)) ∙ ap (λ z. (xs ++ n ∷ []) ++ z ∷ ys) h.0)
    ∙ one_name (xs ++ n ∷ []) n ys h.1
    ∙ put-known bytes_cmp bytes_total own bytes_exact n (xs ++ n ∷ []) (any_last (bytes_eq n) xs n ∙ ap (λ b. list_any (bytes_eq n) xs || b) (same_self n) ∙ or_true (list_any (bytes_eq n) xs))
    ∙ in_order_by-append bytes_cmp bytes_total own bytes_exact xs n
  where
    or_true : (b : Bool) → (b || true) ≡ true
    or_true true = refl
    or_true false = refl

abbrev act_names : List Act → List (List ℕ)
act_names acts = map name_of (map attr_of acts)

record AreOf (n : List ℕ) (ns : List (List ℕ)) : Type 0 where
  rest : List (List ℕ)
  is : ns ≡ n ∷ rest
  same : AllByRecursion (λ y. y ≡ n) rest

adds_names : (s : Csn) (t : AttrKey) (vals : List Val) → AllByRecursion (λ y. y ≡ t.name) (act_names (adds s t vals))
adds_names s t [] = tt
adds_names s t (v ∷ vals) = (refl, adds_names s t vals)

deletes_names : (s : Csn) (t : AttrKey) (vals : List Val) → AllByRecursion (λ y. y ≡ t.name) (act_names (map (Deletes s t) vals))
deletes_names s t [] = tt
deletes_names s t (v ∷ vals) = (refl, deletes_names s t vals)

mod_names : (s : Csn) (t : AttrKey) (kind : ModKind) (vals : List Val) → adds_nothing (record { kind = kind; attr = t; vals = vals }) ≡ false → AreOf t.name (act_names (mod_acts s (record { kind = kind; attr = t; vals = vals })))
mod_names s t AddValues [] h = absurd (not_both true refl h)
mod_names s t AddValues (v ∷ vals) h = record { rest = act_names (adds s t vals); is = refl; same = adds_names s t vals }
mod_names s t Delete [] h = record { rest = []; is = refl; same = tt }
mod_names s t Delete (v ∷ vals) h = record { rest = act_names (map (Deletes s t) vals); is = refl; same = deletes_names s t vals }
mod_names s t Replace vals h = record { rest = act_names (adds s t vals); is = refl; same = adds_names s t vals }

abbrev pub AreFull : List Mod → Type 0
AreFull mods = AllByRecursion (λ (m : Mod). adds_nothing m ≡ false) mods

names_after : (c : Csn) (n : ℕ) (mods : List Mod) (acts : List Act) → AreFull mods → names_of (acts ++ mods_acts c n mods) ≡ names_with mods (names_of acts)
names_after c n [] acts h = ap names_of (append-nil acts)
names_after c n (m ∷ mods) acts h =
    let a = mod_names (stamp c n) m.attr m.kind m.vals h.0 in
    ap names_of (sym (append_assoc acts (mod_acts (stamp c n) m) (mods_acts c (n + 1) mods)))
    ∙ names_after c (n + 1) mods (acts ++ mod_acts (stamp c n) m) h.1
    ∙ ap (names_with mods)
    (ap (in_order bytes_cmp) (ap (map name_of) (map-append attr_of acts (mod_acts (stamp c n) m)) ∙ map-append name_of (map attr_of acts) (map attr_of (mod_acts (stamp c n) m)) ∙ ap (λ ns. act_names acts ++ ns) a.is)
    ∙ one_name (act_names acts) m.attr.name a.rest a.same)

-- ---- in plain words

none_at : (v : Values) (n : List ℕ) (ns : List (List ℕ)) → AllByRecursion (λ i. bytes_cmp n i ≡ Less) ns → vals_at n (listed (attrs_of v) ns) ≡ []
none_at v n [] h = refl
none_at v n (i ∷ ns) h = by (v i) (none_at v n ns h.1)
  where
    by : (vals : List Val) → vals_at n (listed (attrs_of v) ns) ≡ [] → vals_at n (opt (attr_opt i vals) ++ listed (attrs_of v) ns) ≡ []
    by [] e = e
    by (w ∷ vals) e = ap (λ (b : Bool). (if b then w ∷ vals else []) ++ vals_at n (listed (attrs_of v) ns)) (above_other n i h.0) ∙ e

abbrev Knows : Values → List (List ℕ) → Type 0
Knows v ns = (n : List ℕ) → list_any (bytes_eq n) ns ≡ false → v n ≡ []

value_at : (v : Values) (n : List ℕ) (ns : List (List ℕ)) → Rises own ns → (list_any (bytes_eq n) ns ≡ false → v n ≡ []) → vals_at n (listed (attrs_of v) ns) ≡ v n
value_at v n [] r h = sym (h refl)
value_at v n (j ∷ ns) r h = by (λ g. value_at v n ns r.1 g) (bytes_eq j n) refl
  where
    head : (b : Bool) (vals : List Val) → bytes_eq j n ≡ b → vals_at n (opt (attr_opt j vals) ++ listed (attrs_of v) ns) ≡ (if b then vals else []) ++ vals_at n (listed (attrs_of v) ns)
    head true [] e = refl
    head false [] e = refl
    head b (w ∷ vals) e = ap (λ (o : Bool). (if o then w ∷ vals else []) ++ vals_at n (listed (attrs_of v) ns)) e

    by : ((list_any (bytes_eq n) ns ≡ false → v n ≡ []) → vals_at n (listed (attrs_of v) ns) ≡ v n) → (b : Bool) → bytes_eq j n ≡ b → vals_at n (opt (attr_opt j (v j)) ++ listed (attrs_of v) ns) ≡ v n
    by more true e =
        let same : j ≡ n = is_same j n e in
        head true (v j) e
        ∙ ap (λ vs. v j ++ vs) (none_at v n ns (subst (λ (k : List ℕ). AllByRecursion (λ i. bytes_cmp k i ≡ Less) ns) same r.0))
        ∙ append-nil (v j) ∙ ap v same
    by more false e = head false (v j) e ∙ more (λ g. h (ap (λ b. b || list_any (bytes_eq n) ns) (turned j n false e) ∙ g))

abbrev v_step : Values → Mod → Values
v_step v m n = if bytes_eq n m.attr.name then values_after m.kind m.vals (v n) else v n

abbrev v_all : List Mod → Values → Values
v_all [] v = v
v_all (m ∷ mods) v = v_all mods (v_step v m)

v_each : (mods : List Mod) (v : Values) (n : List ℕ) → v_all mods v n ≡ vals_all (record { name = n }) mods (v n)
v_each [] v n = refl
v_each (m ∷ mods) v n = v_each mods (v_step v m) n

set_listed : (v : Values) (t : AttrKey) (new : List Val) (ns : List (List ℕ)) → Rises own ns → set_values t new (listed (attrs_of v) ns) ≡ listed (with_one (attrs_of v) t.name (attr_opt t.name new)) (put_key t.name ns)
set_listed v t [] ns r =
    drop_listed attr_name (attrs_of v) (fits_attrs v) (λ n. bytes_eq n t.name) ns
    ∙ put_none (with_one (attrs_of v) t.name None) t.name ns (ap (λ (b : Bool). if b then None else attrs_of v t.name) (same_self t.name))
set_listed v t (x ∷ new) ns r = put_listed attr_name (attrs_of v) (fits_attrs v) (record { attr = t; vals = x ∷ new }) ns r

step_listed : (v : Values) (m : Mod) (ns : List (List ℕ)) → Rises own ns → Knows v ns → plain_mod (listed (attrs_of v) ns) m ≡ listed (attrs_of (v_step v m)) (put_key m.attr.name ns)
step_listed v m ns r h =
    ap (λ (had : List Val). set_values m.attr (values_after m.kind m.vals had) (listed (attrs_of v) ns)) (value_at v m.attr.name ns r (h m.attr.name))
    ∙ set_listed v m.attr (values_after m.kind m.vals (v m.attr.name)) ns r
    ∙ listed_same (with_one (attrs_of v) m.attr.name (attr_opt m.attr.name (values_after m.kind m.vals (v m.attr.name)))) (attrs_of (v_step v m)) (put_key m.attr.name ns)
    (all_keys (λ k. with_one (attrs_of v) m.attr.name (attr_opt m.attr.name (values_after m.kind m.vals (v m.attr.name))) k ≡ attrs_of (v_step v m) k) one (put_key m.attr.name ns))
  where
    one : (k : List ℕ) → (if bytes_eq k m.attr.name then attr_opt m.attr.name (values_after m.kind m.vals (v m.attr.name)) else attr_opt k (v k)) ≡ attr_opt k (if bytes_eq k m.attr.name then values_after m.kind m.vals (v k) else v k)
    one k = by (bytes_eq k m.attr.name) refl
      where
        by : (b : Bool) → bytes_eq k m.attr.name ≡ b → (if b then attr_opt m.attr.name (values_after m.kind m.vals (v m.attr.name)) else attr_opt k (v k)) ≡ attr_opt k (if b then values_after m.kind m.vals (v k) else v k)
        by true e = ap (λ (n : List ℕ). attr_opt n (values_after m.kind m.vals (v n))) (sym (is_same k m.attr.name e))
        by false e = refl

not_put : (n x : List ℕ) (ns : List (List ℕ)) → list_any (bytes_eq n) (put_key x ns) ≡ false → (bytes_eq n x ≡ false) × (list_any (bytes_eq n) ns ≡ false)
not_put n x [] h = ((neither (bytes_eq n x) false h).0, refl)
not_put n x (y ∷ ns) h = by (not_put n x ns) (bytes_cmp x y) refl h
  where
    by : (list_any (bytes_eq n) (put_key x ns) ≡ false → (bytes_eq n x ≡ false) × (list_any (bytes_eq n) ns ≡ false)) → (o : Ordering) → bytes_cmp x y ≡ o
        → list_any (bytes_eq n) (by_order o (x ∷ y ∷ ns) (x ∷ ns) (y ∷ put_key x ns)) ≡ false → (bytes_eq n x ≡ false) × ((bytes_eq n y || list_any (bytes_eq n) ns) ≡ false)
    by more Less e g = neither (bytes_eq n x) (list_any (bytes_eq n) (y ∷ ns)) g
    by more Equal e g =
        let k = neither (bytes_eq n x) (list_any (bytes_eq n) ns) g in
        (k.0, ap (λ b. b || list_any (bytes_eq n) ns) (ap (bytes_eq n) (sym (bytes_exact x y e)) ∙ k.0) ∙ k.1)
    by more Greater e g =
        let k = neither (bytes_eq n y) (list_any (bytes_eq n) (put_key x ns)) g in
        let m = more k.1 in
        (m.0, ap (λ b. b || list_any (bytes_eq n) ns) k.0 ∙ m.1)

knows_step : (v : Values) (m : Mod) (ns : List (List ℕ)) → Knows v ns → Knows (v_step v m) (put_key m.attr.name ns)
knows_step v m ns h n g =
    let k = not_put n m.attr.name ns g in
    ap (λ (b : Bool). if b then values_after m.kind m.vals (v n) else v n) k.0 ∙ h n k.1

plain_listed : (v : Values) (mods : List Mod) (ns : List (List ℕ)) → Rises own ns → Knows v ns → fold plain_mod (listed (attrs_of v) ns) mods ≡ listed (attrs_of (v_all mods v)) (names_with mods ns)
plain_listed v [] ns r h = refl
plain_listed v (m ∷ mods) ns r h =
    ap (λ (attrs : List Attr). fold plain_mod attrs mods) (step_listed v m ns r h)
    ∙ plain_listed (v_step v m) mods (put_key m.attr.name ns) (put_rises own m.attr.name ns r) (knows_step v m ns h)

-- an attribute that no act names shows nothing
no_acts : (n : List ℕ) (acts : List Act) → list_any (bytes_eq n) (act_names acts) ≡ false → filter (is_act_on (record { name = n })) acts ≡ []
no_acts n [] h = refl
no_acts n (a ∷ acts) h =
    let k = neither (bytes_eq n (attr_of a).name) (list_any (bytes_eq n) (act_names acts)) h in
    ap (λ (b : Bool). cond b (a ∷ filter (is_act_on (record { name = n })) acts) (filter (is_act_on (record { name = n })) acts)) k.0 ∙ no_acts n acts k.1

nothing_shown : (rdn : Rdn) (t : AttrKey) (whole : Csn) → vals_shown rdn (record { attr = t; whole = whole; vals = [] }) ≡ []
nothing_shown rdn t whole = by (is_single t)
  where
    by : (b : Bool) → ◌≡◌ {A = List Val} (map (λ (f : ValFacts). record { key = f.key; spelled = f.spelled }) (if b then [] else [])) []
    by true = refl
    by false = refl

abbrev shown_of : Rdn → AttrKey → List Act → List Val
shown_of rdn t as_ = vals_shown rdn (record { attr = t; whole = greatest (flat_map clearings as_); vals = map (val_facts as_) (in_order bytes_cmp (flat_map keys_named as_)) })

knows_shown : (rdn : Rdn) (acts : List Act) → Knows (shows rdn acts) (names_of acts)
knows_shown rdn acts n h =
    ap (shown_of rdn (record { name = n })) (no_acts n acts (sym (any-in_order_by bytes_cmp bytes_total own bytes_exact (bytes_eq n) (act_names acts)) ∙ h))
    ∙ nothing_shown rdn (record { name = n }) zero_csn

-- the values of an attribute among those that show
pub value_shown : (rdn : Rdn) (acts : List Act) (t : AttrKey) → vals_at t.name (shown_attrs rdn acts) ≡ vals_shown rdn (attr_facts acts t)
value_shown rdn acts t =
    ap (vals_at t.name) (shown_listed rdn acts) ∙ value_at (shows rdn acts) t.name (names_of acts) (names_rise acts) (knows_shown rdn acts t.name)

-- WHAT AN ENTRY SHOWS
pub attrs_effect : (rdn : Rdn) (c : Csn) (mods : List Mod) (acts : List Act) → csn_lt zero_csn (stamp c 1) ≡ true → AreRising mods → AreFull mods → AreEarlier c acts → AreLate (mods_acts c 1 mods)
    → ((t : AttrKey) → is_single t ≡ true → IsOnce t mods) → ((t : AttrKey) → Leaves rdn t mods (vals_shown rdn (attr_facts acts t)))
    → shown_attrs rdn (acts ++ mods_acts c 1 mods) ≡ fold plain_mod (shown_attrs rdn acts) mods
attrs_effect rdn c mods acts zero rising full earlier late once leaves =
    let after : List Act = acts ++ mods_acts c 1 mods in
    shown_listed rdn after
    ∙ ap (listed (attrs_of (shows rdn after))) (names_after c 1 mods acts full)
    ∙ listed_same (attrs_of (shows rdn after)) (attrs_of (v_all mods (shows rdn acts))) (names_with mods (names_of acts))
    (all_keys (λ n. attrs_of (shows rdn after) n ≡ attrs_of (v_all mods (shows rdn acts)) n)
    (λ n. ap (attr_opt n) (attr_after rdn c (record { name = n }) mods acts zero rising earlier late (once (record { name = n })) (leaves (record { name = n })) ∙ sym (v_each mods (shows rdn acts) n)))
    (names_with mods (names_of acts)))
    ∙ sym (plain_listed (shows rdn acts) mods (names_of acts) (names_rise acts) (knows_shown rdn acts))
    ∙ ap (λ (attrs : List Attr). fold plain_mod attrs mods) (sym (shown_listed rdn acts))

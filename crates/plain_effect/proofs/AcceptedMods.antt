-- The effect of a modify that the rules accept.
use Rattle.std.proofs.Common.{◌≡◌, ◌≢◌, ℕ, ◌<◌, Bool, true, false, cond, not, ◌||◌, List, [], ◌∷◌, ◌++◌, map, length, refl, sym, ap, subst, ◌∙◌, arith, Ok, Option, Some, None, nat_lt}
use Rattle.std.specs.Prelude.{◌&&◌, filter, find, flat_map, fold, is_none, option_map, unwrap_or, if◌then◌else◌}
use Rattle.std.specs.List.{AllByRecursion, list_any, list_all}
use Rattle.std.specs.declared.cmp.Ordering.TheVariants.{Less}
use Rattle.std.proofs.lemmas.Bool.Decides.{nat_tests}
use Rattle.repl_data.specs.declared.csn.Csn.{Csn}
use Rattle.repl_data.specs.declared.csn.Uid.{Uid}
use Rattle.repl_data.specs.declared.change.AttrKey.{AttrKey}
use Rattle.repl_data.specs.declared.change.Val.{Val}
use Rattle.repl_data.specs.declared.change.Ava.{Ava}
use Rattle.repl_data.specs.declared.change.Attr.{Attr}
use Rattle.repl_data.specs.declared.change.Rdn.{Rdn}
use Rattle.repl_data.specs.declared.change.Mod.{Mod}
use Rattle.repl_data.specs.declared.change.Shown.{Shown}
use Rattle.repl_data.specs.declared.change.Body.{Body}
use Rattle.repl_data.specs.declared.change.Body.TheVariants.{Mod as ModifyEntry}
use Rattle.repl_data.specs.declared.change.Change.{Change}
use Rattle.repl_data.specs.declared.change.Suffix.{Suffix}
use Rattle.repl_data.specs.Order.{csn_lt, csn_cmp, stamp, zero_csn, uid_cmp, uid_eq, bytes_cmp, bytes_eq, in_order}
use Rattle.repl_data.specs.Ordered.{Rises}
use Rattle.repl_data.specs.Types.{is_single}
use Rattle.repl_data.specs.Check.{adds_nothing, fault_of}
use Rattle.repl_data.specs.Closed.{IsClosed}
use Rattle.repl_data.specs.Stamps.{Act, mods_acts, of_entry, acts_on}
use Rattle.repl_data.specs.Facts.{ValFacts, AttrFacts, EntryFacts, is_act_on, keys_named, val_facts, attr_facts, attrs_facts, entry_facts, all_facts, ids_known, is_in_name, is_held, shows_before, vals_shown, attrs_shown}
use Rattle.repl_data.specs.Presence.{present_of, is_among_entries}
use Rattle.repl_data.specs.Plain.{add_values, plain_mod, plain_modify, plain_effect}
use Rattle.repl_data.specs.View.{DirectoryView, PresentEntry, Tombstone, present_at, gone_at, first_of_two, user, vals_at, name_of, view_of}
use Rattle.repl_data.proofs.CsnTests.{csn_lt-from_not_zero}
use Rattle.repl_data.proofs.InOrder.{is_equal, in_order_by-Rises}
use Rattle.repl_data.proofs.KeyPlaces.{is_less, is_same}
use Rattle.repl_data.proofs.OneChange.{attrs_facts-raised}
use Rattle.repl_data.proofs.Orders.{bytes_total, uid_exact}
use Rattle.repl_data.proofs.SameView.{base, stamp_of, from_all, body_acts_from}
use Rattle.repl_data.proofs.Sound.{not_both, both_true}
use Rattle.repl_data.proofs.Bools.{either_true}
use Rattle.repl_data.proofs.Loops.{all_filter, all_mono}
use Rattle.repl_data.proofs.Paths.{all_present}
use Rattle.ldap_types.specs.declared.request.Control.{Control}
use Rattle.ldap_types.specs.declared.request.RawMod.{RawMod}
use Rattle.ldap_types.specs.declared.reply.Identity.{Identity}
use Rattle.rule_values.specs.Written.{Values, replaced, written}
use Rattle.rule_values.proofs.Effect.{same_effect}
use Rattle.rule_values.specs.Modify.{shown_values, after, has_part, has_second}
use Rattle.ldap_rules.specs.Writes.{all_writes}
use Rattle.ldap_rules.specs.Rename.{parts, own_values}
use Rattle.ldap_rules.specs.Modify.{own_name, modify_made, modify_verdict}
use Rattle.ldap_rules.specs.Laws.{change_at, IsDrawnAbove}
use Rattle.ldap_rules.proofs.Modified.{IsFine, IsModified, IsReadMod, IsWrittenSo, last, modified, modify_checked, modify_there, each_mod, all_written, both_all, none_of, no_second, fine_written}
use Rattle.ldap_rules.proofs.Ops.{after_writes}
use Rattle.plain_effect.specs.Above.{IsAbove}
use Rattle.plain_effect.proofs.Added.{parent_present}
use Rattle.plain_effect.proofs.Holder.{entry_of_facts}
use Rattle.plain_effect.proofs.Modifies.{modifying, moved, ShowsSo, changed, of_ids}
use Rattle.plain_effect.proofs.Normal.{own}
use Rattle.plain_effect.proofs.Choices.{added_behind, nothing_before}
use Rattle.plain_effect.proofs.Below.{acts_earlier, zero_below}
use Rattle.plain_effect.proofs.Runs.{vals_all, AreRising}
use Rattle.plain_effect.proofs.Whole.{AreLate, AreEarlier, IsOnce, Leaves, has_mod}
use Rattle.plain_effect.proofs.Attrs.{AreFull, shown_attrs, value_shown, attrs_effect}
use Rattle.plain_effect.proofs.WrittenMods.{written_once, left_by}

abbrev key_of : Val → List ℕ
key_of v = v.key

-- ---- shown values rise

rises_map : {X Y : Type 0} (k : X → List ℕ) (j : Y → List ℕ) (f : X → Y) → ((x : X) → j (f x) ≡ k x) → (xs : List X) → Rises k xs → Rises j (map f xs)
rises_map {X} {Y} k j f e [] r = tt
rises_map {X} {Y} k j f e (x ∷ xs) r = (each xs r.0, rises_map k j f e xs r.1)
  where
    each : (ys : List X) → AllByRecursion (λ y. bytes_cmp (k x) (k y) ≡ Less) ys → AllByRecursion (λ y. bytes_cmp (j (f x)) (j y) ≡ Less) (map f ys)
    each [] h = tt
    each (y ∷ ys) h = ((λ i. bytes_cmp (e x i) (e y i)) ∙ h.0, each ys h.1)

rises_filter : {X : Type 0} (k : X → List ℕ) (p : X → Bool) (xs : List X) → Rises k xs → Rises k (filter p xs)
rises_filter k p [] r = tt
rises_filter k p (x ∷ xs) r = by (p x) (rises_filter k p xs r.1)
  where
    by : (b : Bool) → Rises k (filter p xs) → Rises k (cond b (x ∷ filter p xs) (filter p xs))
    by true g = (all_filter (λ y. bytes_cmp (k x) (k y) ≡ Less) p xs r.0, g)
    by false g = g

abbrev fact_key : ValFacts → List ℕ
fact_key f = f.key

shown_rise : (rdn : Rdn) (acts : List Act) (t : AttrKey) → Rises key_of (vals_shown rdn (attr_facts acts t))
shown_rise rdn acts t = rises_map fact_key key_of (λ (f : ValFacts). record { key = f.key; spelled = f.spelled }) (λ f. refl) _ (by (is_single t))
  where
    held : Rises fact_key (filter (is_held rdn t) (map (val_facts (filter (is_act_on t) acts)) (in_order bytes_cmp (flat_map keys_named (filter (is_act_on t) acts)))))
    held = rises_filter fact_key (is_held rdn t) _ (rises_map own fact_key (val_facts (filter (is_act_on t) acts)) (λ k. refl) _ (in_order_by-Rises bytes_cmp bytes_total own (flat_map keys_named (filter (is_act_on t) acts))))

    by : (b : Bool) → Rises fact_key
        (let hs = filter (is_held rdn t) (map (val_facts (filter (is_act_on t) acts)) (in_order bytes_cmp (flat_map keys_named (filter (is_act_on t) acts)))) in
        if b then filter (λ v. not (list_any (λ w. shows_before rdn t w v) hs)) hs else hs)
    by true = rises_filter fact_key _ _ held
    by false = held

-- ---- what the entry has before

listed_user : (name : List ℕ) (attrs : List Attr) → flat_map (λ (s : Shown). if bytes_eq s.attr.name name then s.vals else []) (map user attrs) ≡ vals_at name attrs
listed_user name [] = refl
listed_user name (a ∷ attrs) = ap (λ vs. (if bytes_eq a.attr.name name then a.vals else []) ++ vs) (listed_user name attrs)

has_before : (rdn : Rdn) (acts : List Act) (t : AttrKey) → shown_values (map user (shown_attrs rdn acts)) t.name ≡ vals_shown rdn (attr_facts acts t)
has_before rdn acts t =
    let vals : List Val = vals_shown rdn (attr_facts acts t) in
    ap (λ (new : List Val). add_values new []) (listed_user t.name (shown_attrs rdn acts) ∙ value_shown rdn acts t)
    ∙ added_behind [] vals (nothing_before vals) (shown_rise rdn acts t)

-- ---- the entry in the view

module _ (suffix : Suffix) (xs : List Change) (u : Uid) where
  abbrev facts : EntryFacts
  facts = entry_facts suffix xs u

  abbrev IsOfId : EntryFacts → Type 0
  IsOfId e = e ≡ entry_facts suffix xs e.id

  found_of : (p es : List EntryFacts) → AllByRecursion IsOfId es → is_among_entries es u ≡ true → find (λ (e : PresentEntry). uid_eq e.id u) (map (entry_of_facts p) es) ≡ Some (entry_of_facts p facts)
  found_of p [] h g = absurd (not_both false g refl)
  found_of p (e ∷ es) h g = by (found_of p es h.1) (uid_eq e.id u) refl g
    where
      by : (is_among_entries es u ≡ true → find (λ (x : PresentEntry). uid_eq x.id u) (map (entry_of_facts p) es) ≡ Some (entry_of_facts p (entry_facts suffix xs u))) → (b : Bool) → uid_eq e.id u ≡ b → (b || is_among_entries es u) ≡ true
          → cond b (Some (entry_of_facts p e)) (find (λ (x : PresentEntry). uid_eq x.id u) (map (entry_of_facts p) es)) ≡ Some (entry_of_facts p (entry_facts suffix xs u))
      by more true s k = ap (λ (x : EntryFacts). Some (entry_of_facts p x)) (h.0 ∙ ap (entry_facts suffix xs) (uid_exact e.id u (is_equal (uid_cmp e.id u) s)))
      by more false s k = more k

  at_view : is_among_entries (present_of (all_facts suffix xs)) u ≡ true → present_at (view_of suffix xs) u ≡ Some (entry_of_facts (present_of (all_facts suffix xs)) facts)
  at_view there =
      found_of (present_of (all_facts suffix xs)) (present_of (all_facts suffix xs))
      (all_present (λ (e : EntryFacts). e ≡ entry_facts suffix xs e.id) (all_facts suffix xs) (of_each (ids_known xs))) there
    where
      of_each : (us : List Uid) → AllByRecursion (λ (e : EntryFacts). e ≡ entry_facts suffix xs e.id) (map (entry_facts suffix xs) us)
      of_each [] = tt
      of_each (w ∷ us) = (refl, of_each us)

-- ---- late stamps

late_stamps : (c : Csn) (mods : List Mod) → 0 < c.rid → AreLate (mods_acts c 1 mods)
late_stamps c mods r =
    all_mono (λ a. base (stamp_of a) ≡ base c) (λ a. csn_lt zero_csn (stamp_of a) ≡ true)
    (λ a b. csn_lt-from_not_zero (stamp_of a) (λ e. let n : 0 ≡ c.rid = sym (ap (λ (x : Csn). x.rid) e) ∙ ap (λ (x : Csn). x.rid) b in omega arith))
    (mods_acts c 1 mods) (from_all stamp_of c (mods_acts c 1 mods) (body_acts_from c (ModifyEntry mods)))

-- ---- what is accepted

few_order : (vals : List Val) → nat_lt 1 (length vals) ≡ false → Rises key_of vals
few_order [] h = tt
few_order (v ∷ []) h = (tt, tt)
few_order (v ∷ w ∷ vals) h = absurd (not_both (nat_lt 1 (length (v ∷ w ∷ vals))) (many (length (v ∷ w ∷ vals)) (omega arith)) h)
  where
    many : (n : ℕ) → 1 < n → nat_lt 1 n ≡ true
    many n l = grind (arith, nat_tests)

-- a part of the name, by its attribute and key
part_has : (has : Values) (t : AttrKey) (k : List ℕ) (avas : List Ava) → list_all (has_part has) avas ≡ true → list_any (λ (a : Ava). bytes_eq a.attr.name t.name && bytes_eq a.val.key k) avas ≡ true
    → list_any (λ (v : Val). bytes_eq v.key k) (has t.name) ≡ true
part_has has t k [] h g = absurd (not_both false g refl)
part_has has t k (a ∷ avas) h g =
    let both = both_true (has_part has a) (list_all (has_part has) avas) h in
    either_true (bytes_eq a.attr.name t.name && bytes_eq a.val.key k) (list_any (λ (b : Ava). bytes_eq b.attr.name t.name && bytes_eq b.val.key k) avas) g
    (λ own.
    let is = both_true (bytes_eq a.attr.name t.name) (bytes_eq a.val.key k) own in
    (subst (λ (j : List ℕ). list_any (λ (v : Val). bytes_eq v.key j) (has t.name) ≡ true) (is_same a.val.key k is.1)
    (subst (λ (n : List ℕ). list_any (λ (v : Val). bytes_eq v.key a.val.key) (has n) ≡ true) (is_same a.attr.name t.name is.0) both.0)))
    (λ more. part_has has t k avas both.1 more)

module _ (suffix : Suffix) (xs : List Change) (given : List RawMod) (rdns : List Rdn) (u : Uid) (body : Body) (m : IsModified (view_of suffix xs) given rdns (u, body)) (there : is_among_entries (present_of (all_facts suffix xs)) u ≡ true) where
  abbrev v : DirectoryView
  v = view_of suffix xs

  abbrev acts : List Act
  acts = acts_on suffix u (of_entry xs u)

  abbrev rdn : Rdn
  rdn = (entry_facts suffix xs u).rdn

  abbrev has : Values
  has = last (view_of suffix xs) u m.mods

  abbrev ms : List Mod
  ms = written (last (view_of suffix xs) u m.mods) m.mods

  seconds : AllByRecursion (λ (n : Mod). has_second (last (view_of suffix xs) u m.mods) n ≡ false) m.mods
  seconds = none_of (has_second (last (view_of suffix xs) u m.mods)) m.mods m.single

  fine : AllByRecursion IsFine ms
  fine = fine_written (last (view_of suffix xs) u m.mods) m.mods (each_mod IsFine (λ g n r. r.fine) given m.mods m.read) m.single

  rising : AreRising ms
  rising =
      all_written (λ (n : Mod). Rises key_of n.vals) (last (view_of suffix xs) u m.mods) m.mods
      (all_mono (λ (n : Mod). Rises key_of n.vals × (has_second (last (view_of suffix xs) u m.mods) n ≡ false)) (IsWrittenSo (λ (n : Mod). Rises key_of n.vals) (last (view_of suffix xs) u m.mods))
      (λ n p. (p.0, λ s. few_order (last (view_of suffix xs) u m.mods n.attr.name) (no_second (last (view_of suffix xs) u m.mods) n p.1 s))) m.mods
      (both_all (λ (n : Mod). Rises key_of n.vals) (λ (n : Mod). has_second (last (view_of suffix xs) u m.mods) n ≡ false) m.mods (each_mod (λ (n : Mod). Rises key_of n.vals) (λ g n r. r.order) given m.mods m.read) seconds))

  full : AreFull ms
  full = all_mono IsFine (λ (n : Mod). adds_nothing n ≡ false) (λ n f. f.full) ms fine

  once : (t : AttrKey) → is_single t ≡ true → IsOnce t ms
  once t s = written_once t (last (view_of suffix xs) u m.mods) m.mods s seconds

  own_is : own_values (view_of suffix xs) u ≡ map user (shown_attrs rdn acts)
  own_is = ap (λ (o : Option PresentEntry). unwrap_or (option_map (λ (e : PresentEntry). map user e.attrs) o) []) (at_view suffix xs u there)

  name_is : (own_name (view_of suffix xs) u).avas ≡ rdn.avas
  name_is = ap (λ (o : Option PresentEntry). parts (first_of_two (option_map (λ (e : PresentEntry). e.name) o) (option_map (λ (e : Tombstone). e.name) (gone_at (view_of suffix xs) u)))) (at_view suffix xs u there)

  -- what is written leaves of an attribute what the modifications leave
  written_left : (t : AttrKey) → vals_all t ms (vals_shown rdn (attr_facts acts t)) ≡ last (view_of suffix xs) u m.mods t.name
  written_left t =
      let start : Values = shown_values (own_values (view_of suffix xs) u) in
      ap (vals_all t ms) (sym (ap (λ (own : List Shown). shown_values own t.name) own_is ∙ has_before rdn acts t))
      ∙ sym (left_by t start ms) ∙ same_effect start m.mods t.name

  leaves : (t : AttrKey) → Leaves rdn t ms (vals_shown rdn (attr_facts acts t))
  leaves t k n h =
      subst (λ (vals : List Val). list_any (λ (w : Val). bytes_eq w.key k) vals ≡ true) (sym (written_left t))
      (part_has (last (view_of suffix xs) u m.mods) t k rdn.avas (subst (λ (avas : List Ava). list_all (has_part (last (view_of suffix xs) u m.mods)) avas ≡ true) name_is m.kept) n)

  entry_effect : (c : Csn) → IsClosed xs → IsAbove c xs → IsDrawnAbove c u
      → attrs_shown (record (entry_facts suffix xs u) { attrs = moved c ms (entry_facts suffix xs u).attrs }) ≡ fold plain_mod (attrs_shown (entry_facts suffix xs u)) ms
  entry_effect c closed above drawn =
      let late : AreLate (mods_acts c 1 ms) = late_stamps c ms drawn.rid in
      ap (λ (attrs : List AttrFacts). attrs_shown (record (entry_facts suffix xs u) { attrs = attrs }))
      (sym (attrs_facts-raised acts (mods_acts c 1 ms) (all_mono (λ a. csn_lt zero_csn (stamp_of a) ≡ true) (λ a. csn_cmp zero_csn (stamp_of a) ≡ Less) (λ a l. is_less (csn_cmp zero_csn (stamp_of a)) l) (mods_acts c 1 ms) late)))
      ∙ attrs_effect rdn c ms acts (zero_below c 1 drawn.rid) rising full (acts_earlier suffix xs c u drawn.rid drawn.sub closed.sound above) late once leaves

-- THE EFFECT OF AN ACCEPTED MODIFY
pub accepted_mods : (suffix : Suffix) (xs : List Change) (controls : List Control) (bound : Identity) (object : List ℕ) (given : List RawMod) (u : Uid) (body : Body) (c : Csn)
    → IsClosed xs → IsAbove c xs → modify_verdict (view_of suffix xs) controls bound object given ≡ Ok (u, body) → IsDrawnAbove c u
    → plain_effect (view_of suffix xs) (change_at c (Some u) body) ≡ Some (view_of suffix (xs ++ change_at c (Some u) body ∷ []))
accepted_mods suffix xs controls bound object given u body c closed above h drawn =
    let v : DirectoryView = view_of suffix xs in
    after_writes (all_writes v.suffix controls bound object) (modify_made v given) (u, body) h (λ rdns e light.
    let m : IsModified v given rdns (u, body) = modified v given rdns (u, body) e in
    let mods : List Mod = written (last v u m.mods) m.mods in
    let there : is_among_entries (present_of (all_facts suffix xs)) u ≡ true = parent_present suffix c xs u closed.sound above (modify_there v given rdns (u, body) e) in
    let sound = ap is_none (subst (λ (x : Body). fault_of (record { csn = c; target = u; body = x }) ≡ None) m.body (modify_checked v given rdns (u, body) c e light drawn)) in
    let effect = entry_effect suffix xs given rdns u body m there c closed above drawn in
    let g : List Attr → List Attr = λ attrs. fold plain_mod attrs mods in
    let shows : (x : EntryFacts) → x ≡ entry_facts suffix xs x.id → ShowsSo u (moved c mods) g x = λ x is s.
    let same : x ≡ entry_facts suffix xs u = is ∙ ap (entry_facts suffix xs) (uid_exact x.id u (is_equal (uid_cmp x.id u) s)) in
    subst (λ (y : EntryFacts). attrs_shown (record y { attrs = moved c mods y.attrs }) ≡ g (attrs_shown y)) (sym same) effect in
    subst (λ (x : Body). plain_effect v (change_at c (Some u) x) ≡ Some (view_of suffix (xs ++ change_at c (Some u) x ∷ []))) (sym m.body)
    (ap Some (changed suffix xs c u mods sound there g
    (all_mono (λ (x : EntryFacts). x ≡ entry_facts suffix xs x.id) (ShowsSo u (moved c mods) g) shows (present_of (all_facts suffix xs))
    (all_present (λ (x : EntryFacts). x ≡ entry_facts suffix xs x.id) (all_facts suffix xs) (of_ids suffix xs c u mods sound there (ids_known xs)))))))

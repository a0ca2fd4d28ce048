-- WHAT A VIEW HAS of an entry, by the row that is kept of it.
use Rattle.std.proofs.Common.{◌≡◌, ℕ, List, [], ◌∷◌, ◌++◌, Bool, true, false, cond, not, Option, Some, None, refl, sym, ap, subst, ◌∙◌, inl, inr}
use Rattle.std.specs.Prelude.{find, flat_map, option_map, is_some, map}
use Rattle.std.specs.Option.{option_to_list}
use Rattle.std.specs.List.{AllByRecursion}
use Rattle.std.specs.Map.{keys_of, lookup}
use Rattle.std.specs.BTreeMap.{is_at}
use Rattle.std.specs.Ordering.{is_eq}
use Rattle.std.specs.declared.cmp.Ordering.TheVariants.{Less, Equal, Greater}
use Rattle.std.proofs.lemmas.Map.Keys.{sorted_head, sorted_tail}
use Rattle.std.proofs.lemmas.Cmp.{tied_itself}
use Rattle.repl_data.specs.declared.csn.Uid.{Uid}
use Rattle.repl_data.specs.declared.change.Rdn.{Rdn}
use Rattle.repl_data.specs.Order.{uid_cmp, uid_eq, suffix_id}
use Rattle.repl_data.specs.View.{DirectoryView, PresentEntry, Tombstone, present_at, gone_at, first_of_two, name_of, parent_of, tombstones_of, user, entry_of, tombstone_of, present_shown, tombstone_shown, shown_present, dn_of, dn_below, path_of}
use Rattle.repl_data.specs.Lent.{own_of, standing_of, standing, tombstone_own_of, tombstone_parent_of}
use Rattle.repl_data.proofs.Orders.{uid_total, uid_exact, split}
use Rattle.cow_map.specs.Rows.{IsRising}
use Rattle.view_walk.specs.Tree.{IsAmong}
use Rattle.view_walk.proofs.Rising.{Rise, same_list}
use Rattle.view_walk.proofs.Members.{one_of}
use Rattle.view_snap.specs.Told.{Told, present_in, present_with, gone_in, gone_row, gone_ids, view_of_rows, is_lost, standing_with, present_only, gone_only}
use Rattle.view_snap.specs.Shown.{shown_with, gone_with}
use Rattle.view_snap.specs.Maps.{told_at}
use Rattle.repl_data.proofs.Known.{same_id, own_id}
use Rattle.repl_data.proofs.Paths.{differs}
use Rattle.repl_data.proofs.Arrival.{other_order}

-- LISTS OF WHAT HAS AN ID
module _ {X : Type 0} (id : X → Uid) where
  abbrev pub at_id : Uid → List X → Option X
  at_id u xs = find (λ x. uid_eq (id x) u) xs

  abbrev pub IsBefore : X → X → Type 0
  IsBefore x y = uid_cmp (id x) (id y) ≡ Less

  pub before_none : (x : X) → IsBefore x x → ⊥
  before_none x h = let e : Equal ≡ Less = sym (tied_itself uid_total (id x)) ∙ h in cc

  pub before_trans : (x y z : X) → IsBefore x y → IsBefore y z → IsBefore x z
  before_trans x y z h k = uid_total.trans (id x) (id y) (id z) h k

  -- who stands in a rising list is found by its id
  pub found_there : (x : X) (xs : List X) → Rise IsBefore xs → IsAmong x xs → at_id (id x) xs ≡ Some x
  found_there x [] r m = elim m [ ]
  found_there x (y ∷ ys) r (inl e) = ap (λ b. cond b (Some y) (at_id (id x) ys)) (ap (λ w. uid_eq (id w) (id x)) (sym e) ∙ own_id (id x)) ∙ ap Some (sym e)
  found_there x (y ∷ ys) r (inr m) =
      let less : uid_cmp (id y) (id x) ≡ Less = one_of (λ z. IsBefore y z) x ys m r.0 in
      ap (λ b. cond b (Some y) (at_id (id x) ys)) (ap is_eq less) ∙ found_there x ys r.1 m

  -- and who is found stands there, and has the id
  pub found_among : (u : Uid) (x : X) (xs : List X) → at_id u xs ≡ Some x → IsAmong x xs × (id x ≡ u)
  found_among u x [] h = let e : ◌≡◌ {A = Option X} None (Some x) = h in cc
  found_among u x (y ∷ ys) h = by (uid_eq (id y) u) refl h (found_among u x ys)
    where
      by : (b : Bool) → uid_eq (id y) u ≡ b → cond b (Some y) (at_id u ys) ≡ Some x → (at_id u ys ≡ Some x → IsAmong x ys × (id x ≡ u)) → IsAmong x (y ∷ ys) × (id x ≡ u)
      by true k o more = let e : y ≡ x = (let p : Some y ≡ Some x = o in cc) in (inl (sym e), ap id (sym e) ∙ same_id (id y) u k)
      by false k o more = let m = more o in (inr m.0, m.1)

  -- of one id there is one
  pub only_one : (x y : X) (xs : List X) → Rise IsBefore xs → IsAmong x xs → IsAmong y xs → id x ≡ id y → x ≡ y
  only_one x y xs r m k e =
      let p : Some x ≡ Some y = sym (found_there x xs r m) ∙ ap (λ u. at_id u xs) e ∙ found_there y xs r k in
      cc

  -- two rising lists in which the same is found are the same
  pub same_found : (xs ys : List X) → Rise IsBefore xs → Rise IsBefore ys → ((u : Uid) → at_id u xs ≡ at_id u ys) → xs ≡ ys
  same_found xs ys r s h =
      same_list IsBefore before_none before_trans xs ys r s
      (λ x m. (found_among (id x) x ys (sym (h (id x)) ∙ found_there x xs r m)).0)
      (λ x m. (found_among (id x) x xs (h (id x) ∙ found_there x ys s m)).0)

-- WHAT IS MADE OF ROWS
module _ {X : Type 0} (id : X → Uid) (f : Uid → Told → Option X) (own : (u : Uid) (t : Told) (x : X) → f u t ≡ Some x → id x ≡ u) where
  abbrev made : Uid × Told → List X
  made r = option_to_list (f r.0 r.1)

  abbrev pub of_kept : Uid → Option Told → Option X
  of_kept u None = None
  of_kept u (Some t) = f u t

  none_found : (u : Uid) (rows : List (Uid × Told)) → AllByRecursion (λ k. uid_eq k u ≡ false) (keys_of rows) → at_id id u (flat_map made rows) ≡ None
  none_found u [] h = refl
  none_found u ((k, t) ∷ rows) h = by (f k t) refl (none_found u rows h.1)
    where
      by : (o : Option X) → f k t ≡ o → at_id id u (flat_map made rows) ≡ None → at_id id u (option_to_list o ++ flat_map made rows) ≡ None
      by None e more = more
      by (Some x) e more = ap (λ b. cond b (Some x) (at_id id u (flat_map made rows))) (ap (λ w. uid_eq w u) (own k t x e) ∙ h.0) ∙ more

  none_above : (u : Uid) (ks : List Uid) → AllByRecursion (λ k. uid_cmp u k ≡ Less) ks → AllByRecursion (λ k. uid_eq k u ≡ false) ks
  none_above u [] h = tt
  none_above u (k ∷ ks) h = (differs u k h.0, none_above u ks h.1)

  pub found_made : (rows : List (Uid × Told)) → IsRising uid_cmp rows → (u : Uid) → at_id id u (flat_map made rows) ≡ of_kept u (told_at rows u)
  found_made [] r u = refl
  found_made ((k, t) ∷ rows) r u = both (found_made rows (sorted_tail uid_cmp k (keys_of rows) r) u)
    where
      aside : at_id id u (flat_map made rows) ≡ of_kept u (told_at rows u) → uid_eq k u ≡ false → at_id id u (option_to_list (f k t) ++ flat_map made rows) ≡ of_kept u (told_at rows u)
      aside rest n = by (f k t) refl
        where
          by : (o : Option X) → f k t ≡ o → at_id id u (option_to_list o ++ flat_map made rows) ≡ of_kept u (told_at rows u)
          by None e = rest
          by (Some x) e = ap (λ b. cond b (Some x) (at_id id u (flat_map made rows))) (ap (λ w. uid_eq w u) (own k t x e) ∙ n) ∙ rest

      here : (o : Option X) → f k t ≡ o → at_id id k (option_to_list (f k t) ++ flat_map made rows) ≡ f k t
      here None e = ap (λ z. at_id id k (option_to_list z ++ flat_map made rows)) e ∙ none_found k rows (none_above k (keys_of rows) (sorted_head uid_cmp k (keys_of rows) r)) ∙ sym e
      here (Some x) e =
          ap (λ z. at_id id k (option_to_list z ++ flat_map made rows)) e
          ∙ ap (λ b. cond b (Some x) (at_id id k (flat_map made rows))) (ap (λ w. uid_eq w k) (own k t x e) ∙ own_id k)
          ∙ sym e

      both : at_id id u (flat_map made rows) ≡ of_kept u (told_at rows u) → at_id id u (flat_map made ((k, t) ∷ rows)) ≡ of_kept u (told_at ((k, t) ∷ rows) u)
      both rest =
          split (uid_cmp u k)
          (λ o. aside rest (other_order u k (ap is_eq o)) ∙ ap (λ x. of_kept u (cond (is_eq x) (Some t) (told_at rows u))) (sym o))
          (λ o. subst (λ w. at_id id w (flat_map made ((k, t) ∷ rows)) ≡ of_kept w (told_at ((k, t) ∷ rows) w)) (sym (uid_exact u k o)) (here (f k t) refl ∙ ap (λ b. of_kept k (cond b (Some t) (told_at rows k))) (sym (own_id k))))
          (λ o. aside rest (other_order u k (ap is_eq o)) ∙ ap (λ x. of_kept u (cond (is_eq x) (Some t) (told_at rows u))) (sym o))

  above_made : (k : Uid) (rows : List (Uid × Told)) → AllByRecursion (λ u. uid_cmp k u ≡ Less) (keys_of rows) → AllByRecursion (λ x. uid_cmp k (id x) ≡ Less) (flat_map made rows)
  above_made k [] h = tt
  above_made k ((u, t) ∷ rows) h = by (f u t) refl (above_made k rows h.1)
    where
      by : (o : Option X) → f u t ≡ o → AllByRecursion (λ x. uid_cmp k (id x) ≡ Less) (flat_map made rows) → AllByRecursion (λ x. uid_cmp k (id x) ≡ Less) (option_to_list o ++ flat_map made rows)
      by None e more = more
      by (Some x) e more = (ap (uid_cmp k) (own u t x e) ∙ h.0, more)

  pub rise_made : (rows : List (Uid × Told)) → IsRising uid_cmp rows → Rise (IsBefore id) (flat_map made rows)
  rise_made [] r = tt
  rise_made ((k, t) ∷ rows) r = by (rise_made rows (sorted_tail uid_cmp k (keys_of rows) r)) (f k t) refl
    where
      by : Rise (IsBefore id) (flat_map made rows) → (o : Option X) → f k t ≡ o → Rise (IsBefore id) (option_to_list o ++ flat_map made rows)
      by rest None e = rest
      by rest (Some x) e = (subst (λ w. AllByRecursion (λ y. uid_cmp w (id y) ≡ Less) (flat_map made rows)) (sym (own k t x e)) (above_made k rows (sorted_head uid_cmp k (keys_of rows) r)), rest)

-- PRESENT ENTRIES AND TOMBSTONES
pub present_own : (u : Uid) (t : Told) (e : PresentEntry) → present_in u t ≡ Some e → e.id ≡ u
present_own u t e h = by t.shown h
  where
    by : (o : Option Rdn) → option_map (present_with u t) o ≡ Some e → e.id ≡ u
    by None k = let f : ◌≡◌ {A = Option PresentEntry} None (Some e) = k in cc
    by (Some rdn) k = let p : present_with u t rdn ≡ e = (let q : Some (present_with u t rdn) ≡ Some e = k in cc) in ap (λ (x : PresentEntry). x.id) (sym p)

pub gone_own : (u : Uid) (t : Told) (e : Tombstone) → gone_in u t ≡ Some e → e.id ≡ u
gone_own u t e h = by (is_some t.shown) h
  where
    whole : Tombstone
    whole = record { id = u; parent = t.parent; name = t.name; attrs = t.attrs }

    by : (b : Bool) → cond b None (Some whole) ≡ Some e → e.id ≡ u
    by true k = let f : ◌≡◌ {A = Option Tombstone} None (Some e) = k in cc
    by false k = let p : whole ≡ e = (let q : Some whole ≡ Some e = k in cc) in ap (λ (x : Tombstone). x.id) (sym p)

abbrev pub present_kept : Uid → Option Told → Option PresentEntry
present_kept u o = of_kept (λ (e : PresentEntry). e.id) present_in present_own u o

abbrev pub gone_kept : Uid → Option Told → Option Tombstone
gone_kept u o = of_kept (λ (e : Tombstone). e.id) gone_in gone_own u o

module _ (suffix : List ℕ) (rows : List (Uid × Told)) (r : IsRising uid_cmp rows) where
  abbrev view : DirectoryView
  view = view_of_rows suffix rows

  pub present_is : (u : Uid) → present_at view u ≡ present_kept u (told_at rows u)
  present_is u = found_made (λ (e : PresentEntry). e.id) present_in present_own rows r u

  pub gone_is : (u : Uid) → gone_at view u ≡ gone_kept u (told_at rows u)
  gone_is u = found_made (λ (e : Tombstone). e.id) gone_in gone_own rows r u

  pub present_rise : Rise (IsBefore (λ (e : PresentEntry). e.id)) view.present
  present_rise = rise_made (λ (e : PresentEntry). e.id) present_in present_own rows r

  pub gone_rise : Rise (IsBefore (λ (e : Tombstone). e.id)) view.gone
  gone_rise = rise_made (λ (e : Tombstone). e.id) gone_in gone_own rows r

  -- QUESTIONS
  either_way : {A : Type 0} (F : PresentEntry → A) (G : Tombstone → A) (H : Told → A) (u : Uid)
      → ((t : Told) (rdn : Rdn) → F (present_with u t rdn) ≡ H t) → ((t : Told) → G (record { id = u; parent = t.parent; name = t.name; attrs = t.attrs }) ≡ H t)
      → first_of_two (option_map F (present_at view u)) (option_map G (gone_at view u)) ≡ option_map H (told_at rows u)
  either_way {A = A} F G H u p q = (λ i. first_of_two (option_map F (present_is u i)) (option_map G (gone_is u i))) ∙ by (told_at rows u)
    where
      deeper : (t : Told) (o : Option Rdn) → first_of_two (option_map F (option_map (present_with u t) o)) (option_map G (cond (is_some o) None (Some (record { id = u; parent = t.parent; name = t.name; attrs = t.attrs })))) ≡ Some (H t)
      deeper t None = ap Some (q t)
      deeper t (Some rdn) = ap Some (p t rdn)

      by : (o : Option Told) → first_of_two (option_map F (present_kept u o)) (option_map G (gone_kept u o)) ≡ option_map H o
      by None = refl
      by (Some t) = deeper t t.shown

  pub name_is : (u : Uid) → name_of view u ≡ option_map (λ (t : Told). t.name) (told_at rows u)
  name_is u = either_way (λ (e : PresentEntry). e.name) (λ (e : Tombstone). e.name) (λ (t : Told). t.name) u (λ t rdn. refl) (λ t. refl)

  pub parent_is : (u : Uid) → uid_eq u suffix_id ≡ false → parent_of view u ≡ option_map (λ (t : Told). t.parent) (told_at rows u)
  parent_is u n =
      ap (λ b. cond b None (first_of_two (option_map (λ (e : PresentEntry). e.parent) (present_at view u)) (option_map (λ (e : Tombstone). e.parent) (gone_at view u)))) n
      ∙ either_way (λ (e : PresentEntry). e.parent) (λ (e : Tombstone). e.parent) (λ (t : Told). t.parent) u (λ t rdn. refl) (λ t. refl)

  pub parent_root : (u : Uid) → uid_eq u suffix_id ≡ true → parent_of view u ≡ None
  parent_root u h = ap (λ b. cond b None (first_of_two (option_map (λ (e : PresentEntry). e.parent) (present_at view u)) (option_map (λ (e : Tombstone). e.parent) (gone_at view u)))) h

  -- an entry that is kept, and shows a name or none
  pub shown_is : (u : Uid) (t : Told) (rdn : Rdn) → told_at rows u ≡ Some t → t.shown ≡ Some rdn → present_at view u ≡ Some (present_with u t rdn)
  shown_is u t rdn h k = present_is u ∙ ap (present_kept u) h ∙ ap (option_map (present_with u t)) k

  pub hidden_is : (u : Uid) (t : Told) → told_at rows u ≡ Some t → t.shown ≡ None → present_at view u ≡ None
  hidden_is u t h k = present_is u ∙ ap (present_kept u) h ∙ ap (option_map (present_with u t)) k

  pub unknown_is : (u : Uid) → told_at rows u ≡ None → present_at view u ≡ None
  unknown_is u h = present_is u ∙ ap (present_kept u) h

  pub gone_hidden : (u : Uid) (t : Told) → told_at rows u ≡ Some t → t.shown ≡ None → gone_at view u ≡ Some (record { id = u; parent = t.parent; name = t.name; attrs = t.attrs })
  gone_hidden u t h k = gone_is u ∙ ap (gone_kept u) h ∙ ap (λ o. cond (is_some o) None (Some (record { id = u; parent = t.parent; name = t.name; attrs = t.attrs }))) k

  pub gone_shown : (u : Uid) (t : Told) (rdn : Rdn) → told_at rows u ≡ Some t → t.shown ≡ Some rdn → gone_at view u ≡ None
  gone_shown u t rdn h k = gone_is u ∙ ap (gone_kept u) h ∙ ap (λ o. cond (is_some o) None (Some (record { id = u; parent = t.parent; name = t.name; attrs = t.attrs }))) k

  pub gone_unknown : (u : Uid) → told_at rows u ≡ None → gone_at view u ≡ None
  gone_unknown u h = gone_is u ∙ ap (gone_kept u) h

  -- and a present entry is kept
  pub kept_of : (e : PresentEntry) → IsAmong e view.present → (t : Told) × (told_at rows e.id ≡ Some t) × (t.shown ≡ Some e.shown) × (t.parent ≡ e.parent)
  kept_of e m = by (told_at rows e.id) refl
    where
      at : present_kept e.id (told_at rows e.id) ≡ Some e
      at = sym (present_is e.id) ∙ found_there (λ (x : PresentEntry). x.id) e view.present present_rise m

      deeper : (t : Told) (o : Option Rdn) → t.shown ≡ o → option_map (present_with e.id t) o ≡ Some e → (t.shown ≡ Some e.shown) × (t.parent ≡ e.parent)
      deeper t None k h = let f : ◌≡◌ {A = Option PresentEntry} None (Some e) = h in cc
      deeper t (Some rdn) k h =
          let p : present_with e.id t rdn ≡ e = (let q : Some (present_with e.id t rdn) ≡ Some e = h in cc) in
          (k ∙ ap (λ (x : PresentEntry). Some x.shown) p, ap (λ (x : PresentEntry). x.parent) p)

      by : (o : Option Told) → told_at rows e.id ≡ o → (t : Told) × (told_at rows e.id ≡ Some t) × (t.shown ≡ Some e.shown) × (t.parent ≡ e.parent)
      by None k = let f : ◌≡◌ {A = Option PresentEntry} None (Some e) = sym (ap (present_kept e.id) k) ∙ at in cc
      by (Some t) k = let d = deeper t t.shown refl (sym (ap (present_kept e.id) k) ∙ at) in (t, k, d.0, d.1)

-- the ids of tombstones
pub gone_ids_are : (suffix : List ℕ) (rows : List (Uid × Told)) → flat_map gone_ids rows ≡ tombstones_of (view_of_rows suffix rows)
gone_ids_are suffix [] = refl
gone_ids_are suffix ((u, t) ∷ rows) = by t.shown (gone_ids_are suffix rows)
  where
    by : (o : Option Rdn) → flat_map gone_ids rows ≡ tombstones_of (view_of_rows suffix rows) → cond (is_some o) [] (u ∷ []) ++ flat_map gone_ids rows ≡ map (λ (e : Tombstone). e.id) (option_to_list (cond (is_some o) None (Some (record { id = u; parent = t.parent; name = t.name; attrs = t.attrs }))) ++ flat_map gone_row rows)
    by None h = ap (λ z. u ∷ z) h
    by (Some rdn) h = h

-- WHAT IS KEPT of a present entry, and of a tombstone
pub present_yes : (o : Option Told) (t : Told) → o ≡ Some t → is_some t.shown ≡ true → Some t ≡ present_only o
present_yes o t h k = sym (ap present_only h ∙ ap (λ b. cond b (Some t) None) k)

pub present_no : (o : Option Told) (t : Told) → o ≡ Some t → is_some t.shown ≡ false → None ≡ present_only o
present_no o t h k = sym (ap present_only h ∙ ap (λ b. cond b (Some t) None) k)

pub present_none : (o : Option Told) → o ≡ None → None ≡ present_only o
present_none o h = sym (ap present_only h)

pub gone_yes : (o : Option Told) (t : Told) → o ≡ Some t → is_some t.shown ≡ false → Some t ≡ gone_only o
gone_yes o t h k = sym (ap gone_only h ∙ ap (λ b. cond b None (Some t)) k)

pub gone_no : (o : Option Told) (t : Told) → o ≡ Some t → is_some t.shown ≡ true → None ≡ gone_only o
gone_no o t h k = sym (ap gone_only h ∙ ap (λ b. cond b None (Some t)) k)

pub gone_none : (o : Option Told) → o ≡ None → None ≡ gone_only o
gone_none o h = sym (ap gone_only h)

module _ (suffix : List ℕ) (rows : List (Uid × Told)) (r : IsRising uid_cmp rows) (u : Uid) where
  abbrev seen : DirectoryView
  seen = view_of_rows suffix rows

  of_present : {A : Type 0} (F : PresentEntry → A) (H : Told → A) → ((t : Told) (rdn : Rdn) → t.shown ≡ Some rdn → F (present_with u t rdn) ≡ H t) → option_map H (present_only (told_at rows u)) ≡ option_map F (present_at seen u)
  of_present {A = A} F H p = by (told_at rows u) ∙ sym (ap (option_map F) (present_is suffix rows r u))
    where
      deeper : (t : Told) (o : Option Rdn) → t.shown ≡ o → option_map H (cond (is_some o) (Some t) None) ≡ option_map F (option_map (present_with u t) o)
      deeper t None k = refl
      deeper t (Some rdn) k = ap Some (sym (p t rdn k))

      by : (o : Option Told) → option_map H (present_only o) ≡ option_map F (present_kept u o)
      by None = refl
      by (Some t) = deeper t t.shown refl

  of_gone : {A : Type 0} (F : Tombstone → A) (H : Told → A) → ((t : Told) → F (record { id = u; parent = t.parent; name = t.name; attrs = t.attrs }) ≡ H t) → option_map H (gone_only (told_at rows u)) ≡ option_map F (gone_at seen u)
  of_gone {A = A} F H p = by (told_at rows u) ∙ sym (ap (option_map F) (gone_is suffix rows r u))
    where
      deeper : (t : Told) (b : Bool) → option_map H (cond b None (Some t)) ≡ option_map F (cond b None (Some (record { id = u; parent = t.parent; name = t.name; attrs = t.attrs })))
      deeper t true = refl
      deeper t false = ap Some (sym (p t))

      by : (o : Option Told) → option_map H (gone_only o) ≡ option_map F (gone_kept u o)
      by None = refl
      by (Some t) = deeper t (is_some t.shown)

  pub own_is : option_map (λ (t : Told). map user t.attrs) (present_only (told_at rows u)) ≡ own_of seen u
  own_is = of_present (λ (e : PresentEntry). map user e.attrs) (λ (t : Told). map user t.attrs) (λ t rdn k. refl)

  pub standing_is : option_map standing_with (present_only (told_at rows u)) ≡ standing_of seen u
  standing_is = of_present standing standing_with (λ t rdn k. λ i. record { glue = t.glue; lost = is_lost t.name (sym k i) })

  pub entry_is : option_map (shown_with seen u) (present_only (told_at rows u)) ≡ entry_of seen u
  entry_is =
      of_present (present_shown seen) (shown_with seen u)
      (λ t rdn k. λ i. shown_present u (dn_of seen u) t.glue (cond (is_lost t.name (sym k i)) (Some (dn_below seen (t.name ∷ path_of seen t.parent))) None) t.attrs)

  pub tombstone_is : option_map (gone_with seen u) (gone_only (told_at rows u)) ≡ tombstone_of seen u
  tombstone_is = of_gone (tombstone_shown seen) (gone_with seen u) (λ t. refl)

  pub gone_own_is : option_map (λ (t : Told). map user t.attrs) (gone_only (told_at rows u)) ≡ tombstone_own_of seen u
  gone_own_is = of_gone (λ (e : Tombstone). map user e.attrs) (λ (t : Told). map user t.attrs) (λ t. refl)

  pub gone_parent_is : option_map (λ (t : Told). t.parent) (gone_only (told_at rows u)) ≡ tombstone_parent_of seen u
  gone_parent_is = of_gone (λ (e : Tombstone). e.parent) (λ (t : Told). t.parent) (λ t. refl)

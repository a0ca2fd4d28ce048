-- THOSE WHO STAND BELOW AN ENTRY are its children, in their order.
use Rattle.std.proofs.Common.{◌≡◌, ℕ, List, [], ◌∷◌, ◌++◌, map, filter, Bool, true, false, cond, not, Option, Some, None, refl, sym, ap, subst, ◌∙◌, inl, inr}
use Rattle.std.specs.Prelude.{◌&&◌, option_map, find, is_some}
use Rattle.std.specs.List.{AllByRecursion}
use Rattle.std.specs.List.Sorted.{IsStrictlySortedBy}
use Rattle.std.specs.Map.{keys_of}
use Rattle.std.specs.Ordering.{is_eq, is_le, ordering_then, ordering_reverse, eq_by_cmp}
use Rattle.std.specs.declared.cmp.Ordering.{Ordering}
use Rattle.std.specs.declared.cmp.Ordering.TheVariants.{Less, Equal, Greater}
use Rattle.std.proofs.lemmas.Map.Keys.{sorted_head, sorted_tail}
use Rattle.std.proofs.lemmas.Cmp.{tied_itself}
use Rattle.repl_data.specs.declared.csn.Uid.{Uid}
use Rattle.repl_data.specs.declared.change.Rdn.{Rdn}
use Rattle.repl_data.specs.Order.{uid_cmp, uid_eq, suffix_id, same_rdn, rdn_key, rdn_key_cmp, in_order_by}
use Rattle.repl_data.specs.View.{DirectoryView, PresentEntry, is_shown_below, children_entries, child_of, children_of, shown_key, shown_key_cmp}
use Rattle.repl_data.proofs.Orders.{uid_total, uid_exact, rdn_key_total, rdn_key_exact}
use Rattle.repl_data.proofs.InOrder.{is_equal, in_order_by-Rises}
use Rattle.view_walk.specs.Tree.{IsAmong}
use Rattle.view_walk.proofs.Rising.{Rise, rise_filter, rise_map, same_list}
use Rattle.view_walk.proofs.Members.{of_filter, in_filter, of_map, in_map, of_in_order, in_in_order, one_of}
use Rattle.view_walk.proofs.Orders.{shown_total}
use Rattle.cow_map.specs.Rows.{IsRising}
use Rattle.view_snap.specs.declared.spot.Spot.{Spot}
use Rattle.view_snap.specs.declared.maps.Maps.{Maps}
use Rattle.view_snap.specs.Told.{Told, present_with, view_of_rows}
use Rattle.view_snap.specs.Maps.{AreMaps, spot_cmp, told_at, spot_with, spot_in, spot_of, is_spot, has_spot}
use Rattle.view_snap.specs.Listed.{is_below, is_named, first_named}
use Rattle.view_snap.proofs.Entries.{IsBefore, before_none, before_trans, found_there, found_among, only_one, present_rise, shown_is, kept_of}
use Rattle.view_snap.proofs.Spots.{spot_total, first_equal, last_equal, same_parent, same_shown, same_owner, spot_kept, spot_found}
use Rattle.repl_data.proofs.Known.{same_id, own_id}
use Rattle.repl_data.proofs.Sound.{both_true}

-- a child by what orders children: the key of the name that it shows, and its id
abbrev Kid : Type 0
Kid = List (List ℕ × List ℕ) × Uid

abbrev kid : Spot → Kid
kid k = (rdn_key k.shown, k.id)

abbrev IsKidBefore : Kid → Kid → Type 0
IsKidBefore a b = shown_key_cmp a b ≡ Less

rise_of : (ks : List Spot) → IsStrictlySortedBy spot_cmp ks → Rise (λ a b. spot_cmp a b ≡ Less) ks
rise_of [] s = tt
rise_of (k ∷ ks) s = (sorted_head spot_cmp k ks s, rise_of ks (sorted_tail spot_cmp k ks s))

rise_both : {X : Type 0} (L M : X → X → Type 0) (P : X → Type 0) → ((a b : X) → P a → P b → L a b → M a b) → (xs : List X) → AllByRecursion P xs → Rise L xs → Rise M xs
rise_both L M P f [] p r = tt
rise_both {X = X} L M P f (x ∷ xs) p r = (each xs p.1 r.0, rise_both L M P f xs p.1 r.1)
  where
    each : (ys : List X) → AllByRecursion P ys → AllByRecursion (λ y. L x y) ys → AllByRecursion (λ y. M x y) ys
    each [] q a = tt
    each (y ∷ ys) q a = (f x y p.0 q.0 a.0, each ys q.1 a.1)

module _ (suffix : List ℕ) (m : Maps) (a : AreMaps m) (parent : Uid) where
  abbrev view : DirectoryView
  view = view_of_rows suffix m.entries

  abbrev ks : List Spot
  ks = filter (is_below parent) (keys_of m.below)

  abbrev children : List PresentEntry
  children = children_entries view parent

  abbrev ordered : List PresentEntry
  ordered = in_order_by shown_key shown_key_cmp children

  -- the entry that stands there
  record Owner (k : Spot) : Type 0 where
    pub entry : PresentEntry
    pub among : IsAmong entry view.present
    pub below : is_shown_below k.parent entry ≡ true
    pub same : kid k ≡ shown_key entry

  owner : (k : Spot) → IsAmong k (keys_of m.below) → Owner k
  owner k h = by (told_at m.entries k.id) refl (sym (a.spots k) ∙ spot_kept k m.below h)
    where
      deeper : (t : Told) → told_at m.entries k.id ≡ Some t → (b : Bool) (o : Option Rdn) → uid_eq k.id suffix_id ≡ b → t.shown ≡ o → is_spot (cond b None (option_map (spot_with k.id t) o)) k ≡ true → Owner k
      deeper t e true o n s g = let f : false ≡ true = g in cc
      deeper t e false None n s g = let f : false ≡ true = g in cc
      deeper t e false (Some rdn) n s g =
          let q = spot_with k.id t rdn in
          let tied : spot_cmp q k ≡ Equal = is_equal (spot_cmp q k) g in
          record {
            entry = present_with k.id t rdn;
            among = (found_among (λ (x : PresentEntry). x.id) k.id (present_with k.id t rdn) view.present (shown_is suffix m.entries a.entries k.id t rdn e s)).0;
            below = (λ i. uid_eq (same_parent q k tied i) k.parent && not (n i)) ∙ ap (λ b. b && true) (own_id k.parent);
            same = ap (λ z. (z, k.id)) (sym (same_shown q k tied));
          }

      by : (o : Option Told) → told_at m.entries k.id ≡ o → is_spot (spot_in k.id (told_at m.entries k.id)) k ≡ true → Owner k
      by None e g = let f : false ≡ true = sym (ap (λ z. is_spot (spot_in k.id z) k) e) ∙ g in cc
      by (Some t) e g = deeper t e (uid_eq k.id suffix_id) t.shown refl refl (sym (ap (λ z. is_spot (spot_in k.id z) k) e) ∙ g)

  -- and the spot of a child
  record Place (e : PresentEntry) : Type 0 where
    pub spot : Spot
    pub among : IsAmong spot (keys_of m.below)
    pub below : spot.parent ≡ e.parent
    pub same : kid spot ≡ shown_key e

  place : (e : PresentEntry) → IsAmong e view.present → uid_eq e.id suffix_id ≡ false → Place e
  place e h n =
      let t = kept_of suffix m.entries a.entries e h in
      let q = spot_with e.id t.0 e.shown in
      let there : has_spot m.below q ≡ true =
      a.spots q ∙ ap (λ o. is_spot (spot_in e.id o) q) t.1 ∙ (λ i. is_spot (cond (n i) None (option_map (spot_with e.id t.0) (t.2 i))) q) ∙ ap is_eq (tied_itself spot_total q) in
      let f = spot_found q m.below there in
      record {
        spot = f.0;
        among = f.1;
        below = sym (same_parent q f.0 f.2) ∙ t.3;
        same = λ i. (sym (same_shown q f.0 f.2) i, sym (same_owner q f.0 f.2) i);
      }

  -- THE SAME KIDS
  kids_forth : (x : Kid) → IsAmong x (map kid ks) → IsAmong x (map shown_key ordered)
  kids_forth x h =
      let k = of_map kid x ks h in
      let f = of_filter (is_below parent) k.0 (keys_of m.below) k.1 in
      let o = owner k.0 f.0 in
      let e : IsAmong o.entry children =
      in_filter (is_shown_below parent) o.entry view.present o.among (subst (λ w. is_shown_below w o.entry ≡ true) (same_id k.0.parent parent f.1) o.below) in
      subst (λ z. IsAmong z (map shown_key ordered)) (sym (k.2 ∙ o.same))
      (in_in_order shown_key_cmp shown_key shown_key exact o.entry children e)
    where
      exact : (c d : PresentEntry) → shown_key_cmp (shown_key c) (shown_key d) ≡ Equal → shown_key c ≡ shown_key d
      exact c d h = λ i. (rdn_key_exact (rdn_key c.shown) (rdn_key d.shown) (first_equal (rdn_key_cmp (rdn_key c.shown) (rdn_key d.shown)) (uid_cmp c.id d.id) h) i, uid_exact c.id d.id (last_equal (rdn_key_cmp (rdn_key c.shown) (rdn_key d.shown)) (uid_cmp c.id d.id) h) i)

  kids_back : (x : Kid) → IsAmong x (map shown_key ordered) → IsAmong x (map kid ks)
  kids_back x h =
      let e = of_map shown_key x ordered h in
      let f = of_filter (is_shown_below parent) e.0 view.present (of_in_order shown_key_cmp shown_key e.0 children e.1) in
      let g = both_true (uid_eq e.0.parent parent) (not (uid_eq e.0.id suffix_id)) f.1 in
      let p = place e.0 f.0 (flip (uid_eq e.0.id suffix_id) g.1) in
      subst (λ z. IsAmong z (map kid ks)) (p.same ∙ sym e.2)
      (in_map kid p.spot ks (in_filter (is_below parent) p.spot (keys_of m.below) p.among (ap (λ w. uid_eq w parent) p.below ∙ g.0)))
    where
      flip : (b : Bool) → not b ≡ true → b ≡ false
      flip true h = let e : false ≡ true = h in cc
      flip false h = refl

  all_below : (xs : List Spot) → AllByRecursion (λ (k : Spot). k.parent ≡ parent) (filter (is_below parent) xs)
  all_below [] = tt
  all_below (k ∷ xs) = by (is_below parent k) refl (all_below xs)
    where
      by : (b : Bool) → is_below parent k ≡ b → AllByRecursion (λ (k : Spot). k.parent ≡ parent) (filter (is_below parent) xs) → AllByRecursion (λ (k : Spot). k.parent ≡ parent) (cond b (k ∷ filter (is_below parent) xs) (filter (is_below parent) xs))
      by true e more = (same_id k.parent parent e, more)
      by false e more = more

  abbrev IsSpotKid : Spot → Spot → Type 0
  IsSpotKid c d = IsKidBefore (kid c) (kid d)

  pub kids_rise : Rise IsSpotKid ks
  kids_rise =
      rise_both (λ c d. spot_cmp c d ≡ Less) IsSpotKid (λ (k : Spot). k.parent ≡ parent)
      (λ c d p q h. sym (ap (λ o. ordering_then o (shown_key_cmp (kid c) (kid d))) ((λ i. uid_cmp (p i) (q i)) ∙ tied_itself uid_total parent)) ∙ h)
      ks (all_below (keys_of m.below)) (rise_filter (λ c d. spot_cmp c d ≡ Less) (is_below parent) (keys_of m.below) (rise_of (keys_of m.below) a.below))

  same_kids : map kid ks ≡ map shown_key ordered
  same_kids =
      same_list IsKidBefore
      (λ x h. let e : Equal ≡ Less = sym (tied_itself shown_total x) ∙ h in cc)
      (λ x y z h k. shown_total.trans x y z h k)
      (map kid ks) (map shown_key ordered)
      (rise_map IsSpotKid IsKidBefore kid ks (λ c d p q h. h) kids_rise)
      (rise_map (λ (c d : PresentEntry). IsKidBefore (shown_key c) (shown_key d)) IsKidBefore shown_key ordered (λ c d p q h. h) (in_order_by-Rises shown_key_cmp shown_total shown_key children))
      kids_forth kids_back

  map_map : {X Y Z : Type 0} (g : Y → Z) (f : X → Y) (xs : List X) → map g (map f xs) ≡ map (λ x. g (f x)) xs
  map_map g f [] = refl
  map_map g f (x ∷ xs) = ap (λ z. g (f x) ∷ z) (map_map g f xs)

  -- THE CHILDREN
  pub ids_are : map (λ (k : Spot). k.id) ks ≡ children_of view parent
  ids_are = sym (map_map (λ (x : Kid). x.1) kid ks) ∙ ap (map (λ (x : Kid). x.1)) same_kids ∙ map_map (λ (x : Kid). x.1) shown_key ordered

  -- THE FIRST ONE THAT SHOWS A NAME
  module _ (rdn : Rdn) where
    abbrev is_it : PresentEntry → Bool
    is_it e = same_rdn e.shown rdn

    abbrev is_kid : Kid → Bool
    is_kid x = eq_by_cmp rdn_key_cmp x.0 (rdn_key rdn)

    find_map : {X Y : Type 0} (p : Y → Bool) (F : X → Y) (xs : List X) → find p (map F xs) ≡ option_map F (find (λ x. p (F x)) xs)
    find_map p F [] = refl
    find_map {X = X} p F (x ∷ xs) = by (p (F x)) (find_map p F xs)
      where
        by : (b : Bool) → find p (map F xs) ≡ option_map F (find (λ x. p (F x)) xs) → cond b (Some (F x)) (find p (map F xs)) ≡ option_map F (cond b (Some x) (find (λ x. p (F x)) xs))
        by true h = refl
        by false h = h

    find_both : {X : Type 0} (p q : X → Bool) (xs : List X) → find q (filter p xs) ≡ find (λ x. p x && q x) xs
    find_both p q [] = refl
    find_both p q (x ∷ xs) = by (p x) (find_both p q xs)
      where
        by : (b : Bool) → find q (filter p xs) ≡ find (λ x. p x && q x) xs → find q (cond b (x ∷ filter p xs) (filter p xs)) ≡ cond (b && q x) (Some x) (find (λ x. p x && q x) xs)
        by true e = ap (λ r. cond (q x) (Some x) r) e
        by false e = e

    again : {X : Type 0} (p : X → Bool) (xs : List X) → find p (filter p xs) ≡ find p xs
    again {X = X} p xs = find_both p p xs ∙ same xs
      where
        twice : (b : Bool) → (b && b) ≡ b
        twice true = refl
        twice false = refl

        same : (ys : List X) → find (λ x. p x && p x) ys ≡ find p ys
        same [] = refl
        same (y ∷ ys) = λ i. cond (twice (p y) i) (Some y) (same ys i)

    map_option : {X Y Z : Type 0} (g : Y → Z) (f : X → Y) (o : Option X) → option_map g (option_map f o) ≡ option_map (λ x. g (f x)) o
    map_option g f None = refl
    map_option g f (Some x) = refl

    -- among those of one name, the order is that of their ids
    abbrev L : PresentEntry → PresentEntry → Type 0
    L = IsBefore (λ (e : PresentEntry). e.id)

    of_name : (xs : List PresentEntry) → AllByRecursion (λ (e : PresentEntry). rdn_key e.shown ≡ rdn_key rdn) (filter is_it xs)
    of_name [] = tt
    of_name (e ∷ xs) = by (is_it e) refl (of_name xs)
      where
        by : (b : Bool) → is_it e ≡ b → AllByRecursion (λ (f : PresentEntry). rdn_key f.shown ≡ rdn_key rdn) (filter is_it xs) → AllByRecursion (λ (f : PresentEntry). rdn_key f.shown ≡ rdn_key rdn) (cond b (e ∷ filter is_it xs) (filter is_it xs))
        by true k more = (rdn_key_exact (rdn_key e.shown) (rdn_key rdn) (is_equal (rdn_key_cmp (rdn_key e.shown) (rdn_key rdn)) k), more)
        by false k more = more

    rise_ordered : Rise L (filter is_it ordered)
    rise_ordered =
        rise_both (λ (c d : PresentEntry). IsKidBefore (shown_key c) (shown_key d)) L (λ (e : PresentEntry). rdn_key e.shown ≡ rdn_key rdn)
        (λ c d p q h. sym (ap (λ o. ordering_then o (uid_cmp c.id d.id)) ((λ i. rdn_key_cmp (p i) (q i)) ∙ tied_itself rdn_key_total (rdn_key rdn))) ∙ h)
        (filter is_it ordered) (of_name ordered)
        (rise_filter (λ (c d : PresentEntry). IsKidBefore (shown_key c) (shown_key d)) is_it ordered (in_order_by-Rises shown_key_cmp shown_total shown_key children))

    rise_children : Rise L children
    rise_children = rise_filter L (is_shown_below parent) view.present (present_rise suffix m.entries a.entries)

    there : (e : PresentEntry) → IsAmong e children → IsAmong e ordered
    there e h =
        let f = of_map (λ (x : PresentEntry). x.id) e.id ordered
        (in_in_order shown_key_cmp shown_key (λ (x : PresentEntry). x.id) (λ c d k. uid_exact c.id d.id (last_equal (rdn_key_cmp (rdn_key c.shown) (rdn_key d.shown)) (uid_cmp c.id d.id) k)) e children h) in
        subst (λ z. IsAmong z ordered)
        (sym (only_one (λ (x : PresentEntry). x.id) e f.0 children rise_children h (of_in_order shown_key_cmp shown_key f.0 children f.1) f.2))
        f.1

    same_named : filter is_it ordered ≡ filter is_it children
    same_named =
        same_list L (before_none (λ (e : PresentEntry). e.id)) (before_trans (λ (e : PresentEntry). e.id)) (filter is_it ordered) (filter is_it children) rise_ordered (rise_filter L is_it children rise_children)
        (λ e h. let f = of_filter is_it e ordered h in in_filter is_it e children (of_in_order shown_key_cmp shown_key e children f.0) f.1)
        (λ e h. let f = of_filter is_it e children h in in_filter is_it e ordered (there e f.0) f.1)

    pub child_is : first_named parent rdn (keys_of m.below) ≡ child_of view parent rdn
    child_is =
        ap (option_map (λ (k : Spot). k.id)) (sym (find_both (is_below parent) (λ (k : Spot). same_rdn k.shown rdn) (keys_of m.below)))
        ∙ sym (map_option (λ (x : Kid). x.1) kid (find (λ (k : Spot). is_kid (kid k)) ks))
        ∙ ap (option_map (λ (x : Kid). x.1)) (sym (find_map is_kid kid ks) ∙ ap (find is_kid) same_kids ∙ find_map is_kid shown_key ordered)
        ∙ map_option (λ (x : Kid). x.1) shown_key (find is_it ordered)
        ∙ ap (option_map (λ (e : PresentEntry). e.id)) (sym (again is_it ordered) ∙ ap (find is_it) same_named ∙ again is_it children)

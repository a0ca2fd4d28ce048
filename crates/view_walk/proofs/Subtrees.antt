-- WITHIN AN ENTRY STAND IT, AND THEN ALL WITHIN ITS CHILDREN, child by child. Both sides rise in the order of a
-- listing, and have the same items.
use Rattle.std.proofs.Common.{◌≡◌, List, [], ◌∷◌, ◌++◌, map, refl, sym, ap, subst, ◌∙◌, inl, inr}
use Rattle.std.specs.Prelude.{Bool, true, cond, filter, flat_map}
use Rattle.std.specs.List.{AllByRecursion}
use Rattle.std.specs.declared.cmp.Ordering.TheVariants.{Less, Equal}
use Rattle.std.specs.Cmp.Lexicographic.{slice_cmp}
use Rattle.repl_data.specs.declared.csn.Uid.{Uid}
use Rattle.repl_data.specs.Order.{uid_cmp, uid_eq, suffix_id, rdn_key_cmp}
use Rattle.repl_data.specs.View.{DirectoryView, PresentEntry, children_of, path_key, path_key_cmp, in_path_order}
use Rattle.repl_data.proofs.Orders.{uid_exact}
use Rattle.repl_data.proofs.InOrder.{in_order_by-Rises}
use Rattle.repl_data.proofs.Known.{same_id}
use Rattle.repl_data.proofs.Bools.{either_second, either_true}
use Rattle.view_walk.specs.Tree.{IsAmong, IsNamedTree, is_present}
use Rattle.view_walk.specs.Walk.{is_within, subtree}
use Rattle.view_walk.proofs.Members.{in_filter, of_filter, in_map, of_map, in_flat, of_flat, each_of, of_in_order, in_in_order}
use Rattle.view_walk.proofs.Rising.{Rise, rise_filter, rise_map, rise_flat, same_list}
use Rattle.view_walk.proofs.Lineage.{HasEntry, find_entry, entry_there}
use Rattle.view_walk.proofs.Within.{is_under, within_own, of_child, some_child, all_within}
use Rattle.view_walk.proofs.Keys.{keys}
use Rattle.view_walk.proofs.Orders.{path_total, last_equal, IsBefore, before_none, before_trans, base_first, child_first}
use Rattle.view_walk.proofs.Children.{in_name_order, IsNamedBefore, child_of_list, child_in_list, children_rise, names_differ}

pub same_path : (v : DirectoryView) (e f : PresentEntry) → path_key_cmp (path_key v e) (path_key v f) ≡ Equal → e.id ≡ f.id
same_path v e f h = uid_exact e.id f.id (last_equal (slice_cmp rdn_key_cmp (keys v e.id) (keys v f.id)) (uid_cmp e.id f.id) h)

-- ---- what stands in a subtree

pub of_subtree : (v : DirectoryView) (base u : Uid) → IsAmong u (subtree v base) → (is_within v base u ≡ true) × HasEntry v.present u
of_subtree v base u m =
    let e = of_map (λ (e : PresentEntry). e.id) u (filter (λ (e : PresentEntry). is_within v base e.id) (in_path_order v)) m in
    let f = of_filter (λ (e : PresentEntry). is_within v base e.id) e.0 (in_path_order v) e.1 in (
      subst (λ (w : Uid). is_within v base w ≡ true) (sym e.2) f.1,
      record { entry = e.0; among = of_in_order path_key_cmp (path_key v) e.0 v.present f.0; own = sym e.2 },
    )

pub in_subtree : (v : DirectoryView) (base u : Uid) → HasEntry v.present u → is_within v base u ≡ true → IsAmong u (subtree v base)
in_subtree v base u f h =
    let m : IsAmong u (map (λ (e : PresentEntry). e.id) (in_path_order v)) =
    subst (λ (w : Uid). IsAmong w (map (λ (e : PresentEntry). e.id) (in_path_order v))) f.own
    (in_in_order path_key_cmp (path_key v) (λ (e : PresentEntry). e.id) (same_path v) f.entry v.present f.among) in
    let e = of_map (λ (e : PresentEntry). e.id) u (in_path_order v) m in
    subst (λ (w : Uid). IsAmong w (subtree v base)) (sym e.2)
    (in_map (λ (e : PresentEntry). e.id) e.0 (filter (λ (e : PresentEntry). is_within v base e.id) (in_path_order v))
    (in_filter (λ (e : PresentEntry). is_within v base e.id) e.0 (in_path_order v) e.1 (subst (λ (w : Uid). is_within v base w ≡ true) e.2 h)))

-- and in which order
pub listing_rises : (v : DirectoryView) → Rise (λ (a : PresentEntry) (b : PresentEntry). path_key_cmp (path_key v a) (path_key v b) ≡ Less) (in_path_order v)
listing_rises v = in_order_by-Rises path_key_cmp path_total (path_key v) v.present

pub subtree_rises : (v : DirectoryView) (base : Uid) → Rise (IsBefore v) (subtree v base)
subtree_rises v base =
    rise_map (λ (a : PresentEntry) (b : PresentEntry). path_key_cmp (path_key v a) (path_key v b) ≡ Less) (IsBefore v) (λ (e : PresentEntry). e.id)
    (filter (λ (e : PresentEntry). is_within v base e.id) (in_path_order v)) (λ a b m k l. l)
    (rise_filter (λ (a : PresentEntry) (b : PresentEntry). path_key_cmp (path_key v a) (path_key v b) ≡ Less) (λ (e : PresentEntry). is_within v base e.id) (in_path_order v) (listing_rises v))

flat_map_map : {X Y Z : Type 0} (f : Y → List Z) (g : X → Y) (xs : List X) → flat_map f (map g xs) ≡ flat_map (λ x. f (g x)) xs
flat_map_map f g [] = refl
flat_map_map f g (x ∷ xs) = ap (λ r. f (g x) ++ r) (flat_map_map f g xs)

filter_all : {X : Type 0} (p : X → Bool) (xs : List X) → AllByRecursion (λ x. p x ≡ true) xs → filter p xs ≡ xs
filter_all p [] h = refl
filter_all p (x ∷ xs) h = ap (λ b. cond b (x ∷ filter p xs) (filter p xs)) h.0 ∙ ap (λ r. x ∷ r) (filter_all p xs h.1)

module _ (v : DirectoryView) (t : IsNamedTree v) where
  -- ---- what stands below a base, child by child
  abbrev below : Uid → List Uid
  below base = flat_map (λ (c : PresentEntry). subtree v c.id) (in_name_order v base)

  of_below : (base u : Uid) → IsAmong u (below base) → (is_under v base u ≡ true) × HasEntry v.present u
  of_below base u m =
      let c = of_flat (λ (c : PresentEntry). subtree v c.id) u (in_name_order v base) m in
      let s = of_subtree v c.0.id u c.2 in
      (of_child v t base c.0 (child_of_list v t base c.0 c.1) u s.0, s.1)

  in_below : (base u : Uid) → HasEntry v.present u → is_under v base u ≡ true → IsAmong u (below base)
  in_below base u f h =
      let w = some_child v t base u h in
      let c = of_map (λ (e : PresentEntry). e.id) w.child.id (in_name_order v base) (child_in_list v t base w.child w.is_child) in
      in_flat (λ (c : PresentEntry). subtree v c.id) c.0 u (in_name_order v base) c.1
      (in_subtree v c.0.id u f (subst (λ (x : Uid). is_within v x u ≡ true) c.2 w.within))

  below_rises : (base : Uid) → Rise (IsBefore v) (below base)
  below_rises base =
      rise_flat IsNamedBefore (IsBefore v) (λ (c : PresentEntry). subtree v c.id) (in_name_order v base) (children_rise v t base)
      (λ c m. subtree_rises v c.id)
      (λ c d a b in_c in_d less in_a in_b.
      (let of_c = child_of_list v t base c in_c in
      let of_d = child_of_list v t base d in_d in
      child_first v t base c d of_c of_d (names_differ v t base c d of_c of_d less) a b (of_subtree v c.id a in_a).0 (of_subtree v d.id b in_b).0))

  -- ---- the law
  forth : (base : Uid) → (u : Uid) → IsAmong u (subtree v base) → IsAmong u (base ∷ below base)
  forth base u m =
      let s = of_subtree v base u m in
      either_true (uid_eq u base) (is_under v base u) s.0 (λ g. inl (same_id u base g)) (λ g. inr (in_below base u s.1 g))

  back : (base : Uid) → is_present v base ≡ true → (u : Uid) → IsAmong u (base ∷ below base) → IsAmong u (subtree v base)
  back base there u (inl e) = subst (λ (w : Uid). IsAmong w (subtree v base)) (sym e) (in_subtree v base base (find_entry v.present base there) (within_own v t base))
  back base there u (inr m) = let s = of_below base u m in in_subtree v base u s.1 (either_second (uid_eq u base) (is_under v base u) s.0)

  pub subtree_step : (base : Uid) → is_present v base ≡ true → subtree v base ≡ base ∷ flat_map (subtree v) (children_of v base)
  subtree_step base there =
      same_list (IsBefore v) (before_none v) (before_trans v) (subtree v base) (base ∷ below base)
      (subtree_rises v base)
      (each_of (λ (u : Uid). IsBefore v base u) (below base) (λ u m. base_first v t base u (of_below base u m).0), below_rises base)
      (forth base) (back base there)
      ∙ ap (λ us. base ∷ us) (sym (flat_map_map (subtree v) (λ (e : PresentEntry). e.id) (in_name_order v base)))

  -- WITHIN THE SUFFIX ENTRY STAND ALL
  pub subtree_whole : subtree v suffix_id ≡ map (λ (e : PresentEntry). e.id) (in_path_order v)
  subtree_whole =
      ap (map (λ (e : PresentEntry). e.id))
      (filter_all (λ (e : PresentEntry). is_within v suffix_id e.id) (in_path_order v)
      (each_of (λ (e : PresentEntry). is_within v suffix_id e.id ≡ true) (in_path_order v)
      (λ e m. all_within v t e.id (entry_there v.present e (of_in_order path_key_cmp (path_key v) e v.present m)))))

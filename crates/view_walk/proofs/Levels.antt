-- The children of an entry are those below it, in the order of a listing. Both lists rise in it, and have the
-- same items.
use Rattle.std.proofs.Common.{◌≡◌, List, map, sym, subst}
use Rattle.std.specs.Prelude.{true, filter}
use Rattle.std.specs.declared.cmp.Ordering.TheVariants.{Less}
use Rattle.repl_data.specs.declared.csn.Uid.{Uid}
use Rattle.repl_data.specs.View.{DirectoryView, PresentEntry, is_shown_below, children_of, path_key, path_key_cmp, in_path_order}
use Rattle.view_walk.specs.Tree.{IsAmong, IsNamedTree}
use Rattle.view_walk.proofs.Members.{in_filter, of_filter, in_map, of_map, of_in_order, in_in_order}
use Rattle.view_walk.proofs.Rising.{Rise, rise_filter, rise_map, same_list}
use Rattle.view_walk.proofs.Lineage.{one_entry}
use Rattle.view_walk.proofs.Within.{within_own, IsChild}
use Rattle.view_walk.proofs.Orders.{IsBefore, before_none, before_trans, child_first}
use Rattle.view_walk.proofs.Children.{in_name_order, IsNamedBefore, child_of_list, child_in_list, children_rise, names_differ}
use Rattle.view_walk.proofs.Subtrees.{same_path, listing_rises}

abbrev id_of : PresentEntry → Uid
id_of e = e.id

module _ (v : DirectoryView) (t : IsNamedTree v) (base : Uid) where
  abbrev level : List Uid
  level = map id_of (filter (is_shown_below base) (in_path_order v))

  children_rise_too : Rise (IsBefore v) (children_of v base)
  children_rise_too =
      rise_map IsNamedBefore (IsBefore v) id_of (in_name_order v base)
      (λ c d in_c in_d less. (let of_c = child_of_list v t base c in_c in
      let of_d = child_of_list v t base d in_d in
      child_first v t base c d of_c of_d (names_differ v t base c d of_c of_d less) c.id d.id (within_own v t c.id) (within_own v t d.id)))
      (children_rise v t base)

  level_rises : Rise (IsBefore v) level
  level_rises =
      rise_map (λ (a : PresentEntry) (b : PresentEntry). path_key_cmp (path_key v a) (path_key v b) ≡ Less) (IsBefore v) id_of
      (filter (is_shown_below base) (in_path_order v)) (λ a b m k l. l)
      (rise_filter (λ (a : PresentEntry) (b : PresentEntry). path_key_cmp (path_key v a) (path_key v b) ≡ Less) (is_shown_below base) (in_path_order v) (listing_rises v))

  forth : (u : Uid) → IsAmong u (children_of v base) → IsAmong u level
  forth u m =
      let c = of_map id_of u (in_name_order v base) m in
      let k : IsChild v t base c.0 = child_of_list v t base c.0 c.1 in
      let e = of_map id_of c.0.id (in_path_order v) (in_in_order path_key_cmp (path_key v) id_of (same_path v) c.0 v.present k.among) in
      let same : c.0 ≡ e.0 = one_entry v.present c.0 e.0 t.rising k.among (of_in_order path_key_cmp (path_key v) e.0 v.present e.1) e.2 in
      let shown : is_shown_below base e.0 ≡ true = subst (λ (f : PresentEntry). is_shown_below base f ≡ true) same k.below in
      let found : IsAmong e.0.id level = in_map id_of e.0 (filter (is_shown_below base) (in_path_order v)) (in_filter (is_shown_below base) e.0 (in_path_order v) e.1 shown) in
      subst (λ (w : Uid). IsAmong w level) (sym c.2) (subst (λ (w : Uid). IsAmong w level) (sym e.2) found)

  back : (u : Uid) → IsAmong u level → IsAmong u (children_of v base)
  back u m =
      let e = of_map id_of u (filter (is_shown_below base) (in_path_order v)) m in
      let f = of_filter (is_shown_below base) e.0 (in_path_order v) e.1 in
      let k : IsChild v t base e.0 = record { among = of_in_order path_key_cmp (path_key v) e.0 v.present f.0; below = f.1 } in
      subst (λ (w : Uid). IsAmong w (children_of v base)) (sym e.2) (child_in_list v t base e.0 k)

  pub one_level : children_of v base ≡ map (λ (e : PresentEntry). e.id) (filter (is_shown_below base) (in_path_order v))
  one_level = same_list (IsBefore v) (before_none v) (before_trans v) (children_of v base) level children_rise_too level_rises forth back

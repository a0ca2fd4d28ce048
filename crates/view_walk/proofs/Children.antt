-- The children of a base: which entries they are, and their order.
use Rattle.std.proofs.Common.{◌≡◌, List, sym, ap, subst, ◌∙◌}
use Rattle.std.specs.Prelude.{true}
use Rattle.std.specs.declared.cmp.Ordering.TheVariants.{Less, Equal, Greater}
use Rattle.std.specs.Ordering.{ordering_then}
use Rattle.std.proofs.lemmas.Cmp.{tied_itself}
use Rattle.repl_data.specs.declared.csn.Uid.{Uid}
use Rattle.repl_data.specs.Order.{uid_cmp, rdn_key, rdn_key_cmp, in_order_by}
use Rattle.repl_data.specs.View.{DirectoryView, PresentEntry, is_shown_below, children_entries, children_of, shown_key, shown_key_cmp}
use Rattle.repl_data.proofs.Orders.{split, uid_total, uid_exact, rdn_key_exact}
use Rattle.repl_data.proofs.InOrder.{in_order_by-Rises}
use Rattle.view_walk.specs.Tree.{IsAmong, IsNamedTree, is_present}
use Rattle.view_walk.specs.Walk.{ArePresent}
use Rattle.view_walk.proofs.Members.{of_filter, in_filter, of_map, each_of, of_in_order, in_in_order}
use Rattle.view_walk.proofs.Rising.{Rise}
use Rattle.view_walk.proofs.Lineage.{entry_there}
use Rattle.view_walk.proofs.Within.{IsChild}
use Rattle.view_walk.proofs.Orders.{shown_total, last_equal}

abbrev pub in_name_order : DirectoryView → Uid → List PresentEntry
in_name_order v base = in_order_by shown_key shown_key_cmp (children_entries v base)

abbrev pub IsNamedBefore : PresentEntry → PresentEntry → Type 0
IsNamedBefore c d = shown_key_cmp (shown_key c) (shown_key d) ≡ Less

same_shown : (c d : PresentEntry) → shown_key_cmp (shown_key c) (shown_key d) ≡ Equal → c.id ≡ d.id
same_shown c d h = uid_exact c.id d.id (last_equal (rdn_key_cmp (rdn_key c.shown) (rdn_key d.shown)) (uid_cmp c.id d.id) h)

module _ (v : DirectoryView) (t : IsNamedTree v) (base : Uid) where
  pub child_of_list : (c : PresentEntry) → IsAmong c (in_name_order v base) → IsChild v t base c
  child_of_list c m =
      let f = of_filter (is_shown_below base) c v.present (of_in_order shown_key_cmp shown_key c (children_entries v base) m) in
      record { among = f.0; below = f.1 }

  pub child_in_list : (c : PresentEntry) → IsChild v t base c → IsAmong c.id (children_of v base)
  child_in_list c k =
      in_in_order shown_key_cmp shown_key (λ (e : PresentEntry). e.id) same_shown c (children_entries v base)
      (in_filter (is_shown_below base) c v.present k.among k.below)

  pub children_rise : Rise IsNamedBefore (in_name_order v base)
  children_rise = in_order_by-Rises shown_key_cmp shown_total shown_key (children_entries v base)

  -- no two of them show one name
  pub names_differ : (c d : PresentEntry) → IsChild v t base c → IsChild v t base d → IsNamedBefore c d → rdn_key_cmp (rdn_key c.shown) (rdn_key d.shown) ≡ Less
  names_differ c d of_c of_d h =
      split (rdn_key_cmp (rdn_key c.shown) (rdn_key d.shown))
      (λ e. e)
      (λ e. (let same : c.id ≡ d.id = t.apart base c d of_c.among of_d.among of_c.below of_d.below (rdn_key_exact (rdn_key c.shown) (rdn_key d.shown) e) in
      let ids : uid_cmp c.id d.id ≡ Less = sym (ap (λ o. ordering_then o (uid_cmp c.id d.id)) e) ∙ h in
      let tied : uid_cmp c.id d.id ≡ Equal = ap (uid_cmp c.id) (sym same) ∙ tied_itself uid_total c.id in
      let no : Less ≡ Equal = sym ids ∙ tied in
      cc))
      (λ e. (let no : Greater ≡ Less = sym (ap (λ o. ordering_then o (uid_cmp c.id d.id)) e) ∙ h in cc))

  pub children_present : ArePresent v (children_of v base)
  children_present =
      each_of (λ (u : Uid). is_present v u ≡ true) (children_of v base)
      (λ u m. (let c = of_map (λ (e : PresentEntry). e.id) u (in_name_order v base) m in
      subst (λ (w : Uid). is_present v w ≡ true) (sym c.2) (entry_there v.present c.0 (child_of_list c.0 c.1).among)))

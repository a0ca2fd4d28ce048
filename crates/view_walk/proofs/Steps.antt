-- One step of a walk, and what a listing has of it.
use Rattle.std.proofs.Common.{◌≡◌, ℕ, ◌+◌, length, get_or, drop, List, [], ◌∷◌, ◌++◌, map, refl, sym, ap, subst, ◌∙◌, inl, inr, append-nil}
use Rattle.std.specs.Prelude.{true, reverse, Option, option_map}
use Rattle.std.specs.Option.{option_to_list}
use Rattle.repl_data.specs.declared.csn.Uid.{Uid}
use Rattle.repl_data.specs.declared.change.ShownEntry.{ShownEntry}
use Rattle.repl_data.specs.Order.{suffix_id}
use Rattle.repl_data.specs.View.{DirectoryView, PresentEntry, children_of, present_shown, entry_of, path_key, path_key_cmp, in_path_order, dump_of}
use Rattle.repl_data.proofs.Steps.{flat_map-append}
use Rattle.view_walk.specs.Tree.{IsAmong, IsNamedTree, is_present}
use Rattle.view_walk.specs.Walk.{subtree, left, entries_of, ArePresent}
use Rattle.view_walk.proofs.Members.{of_in_order}
use Rattle.view_walk.proofs.Rising.{all_join}
use Rattle.view_walk.proofs.Lineage.{find_own}
use Rattle.view_walk.proofs.Children.{children_present}
use Rattle.view_walk.proofs.Subtrees.{subtree_step, subtree_whole}
use Rattle.view_walk.proofs.Stacks.{top}

module _ (v : DirectoryView) (t : IsNamedTree v) where
  shown_own : (e : PresentEntry) → IsAmong e v.present → option_to_list (entry_of v e.id) ≡ present_shown v e ∷ []
  shown_own e m = ap (λ (o : Option PresentEntry). option_to_list (option_map (present_shown v) o)) (find_own v.present e t.rising m)

  each_shown : (es : List PresentEntry) → ((e : PresentEntry) → IsAmong e es → IsAmong e v.present) → entries_of v (map (λ (e : PresentEntry). e.id) es) ≡ map (present_shown v) es
  each_shown [] f = refl
  each_shown (e ∷ es) f = (λ i. shown_own e (f e (inl refl)) i ++ entries_of v (map (λ (e : PresentEntry). e.id) es)) ∙ ap (λ r. present_shown v e ∷ r) (each_shown es (λ d m. f d (inr m)))

  -- A LISTING: the entries of all that is left of a walk from the suffix entry
  pub listed_whole : entries_of v (left v (suffix_id ∷ [])) ≡ dump_of v
  listed_whole =
      ap (entries_of v) (append-nil (subtree v suffix_id) ∙ subtree_whole v t)
      ∙ each_shown (in_path_order v) (λ e m. of_in_order path_key_cmp (path_key v) e v.present m)

  pub left_step : (u : Uid) (rest : List Uid) → is_present v u ≡ true → left v (u ∷ rest) ≡ u ∷ left v (children_of v u ++ rest)
  left_step u rest there =
      ap (λ us. us ++ left v rest) (subtree_step v t u there)
      ∙ ap (λ us. u ∷ us) (sym (flat_map-append (subtree v) (children_of v u) rest))

  pub present_step : (u : Uid) (rest : List Uid) → ArePresent v rest → ArePresent v (children_of v u ++ rest)
  present_step u rest h = all_join (λ (w : Uid). is_present v w ≡ true) (children_of v u) rest (children_present v t u) h

  -- ---- on the stack, of which the last id is the next one
  module _ (ids new children : List Uid) (last : ℕ) (u : Uid) (old : List Uid)
      (seen : reverse ids ≡ old) (long : last + 1 ≡ length ids) (at : u ≡ get_or ids last u)
      (below : children ≡ children_of v u) (put : reverse new ≡ children ++ drop 1 (reverse ids)) (there : ArePresent v old) where
    old_is : old ≡ u ∷ drop 1 (reverse ids)
    old_is = sym seen ∙ top ids last u long at

    new_is : reverse new ≡ children_of v u ++ drop 1 (reverse ids)
    new_is = put ∙ ap (λ (cs : List Uid). cs ++ drop 1 (reverse ids)) below

    all_there : ArePresent v (u ∷ drop 1 (reverse ids))
    all_there = subst (ArePresent v) old_is there

    pub walked : left v old ≡ u ∷ left v (reverse new)
    walked =
        ap (left v) old_is
        ∙ left_step u (drop 1 (reverse ids)) all_there.0
        ∙ ap (λ (us : List Uid). u ∷ left v us) (sym new_is)

    pub walked_there : ArePresent v (reverse new)
    walked_there = subst (ArePresent v) (sym new_is) (present_step u (drop 1 (reverse ids)) all_there.1)

  -- ---- a listing begins with nothing, and a walk from the suffix entry
  module _ (entries : List ShownEntry) (ids : List Uid) (first : Uid) (none : entries ≡ []) (from : ids ≡ first ∷ []) (root : first ≡ suffix_id) where
    pub begun : entries ++ entries_of v (left v ids) ≡ dump_of v
    begun =
        (λ i. none i ++ entries_of v (left v (from i)))
        ∙ ap (λ (u : Uid). entries_of v (left v (u ∷ []))) root
        ∙ listed_whole

    pub begun_there : ArePresent v ids
    begun_there = subst (ArePresent v) (sym (from ∙ ap (λ (u : Uid). u ∷ []) root)) (t.root, tt)

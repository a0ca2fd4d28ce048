-- A name that leads to an entry leads to a present one.
use Rattle.std.proofs.Common.{◌≡◌, Bool, true, false, ◌||◌, cond, List, [], ◌∷◌, Option, Some, None, refl, sym, ap, subst, ◌∙◌}
use Rattle.std.specs.Prelude.{filter, find, option_map, Result, Ok, Err}
use Rattle.std.specs.List.{list_any}
use Rattle.std.specs.Ordering.{is_eq}
use Rattle.std.proofs.lemmas.Cmp.{tied_itself}
use Rattle.repl_data.specs.declared.csn.Uid.{Uid}
use Rattle.repl_data.specs.declared.change.Rdn.{Rdn}
use Rattle.repl_data.specs.Order.{uid_eq, suffix_id, same_rdn}
use Rattle.repl_data.specs.View.{DirectoryView, PresentEntry, is_shown_below, children_entries, child_of}
use Rattle.repl_data.proofs.Orders.{uid_total}
use Rattle.ldap_types.specs.declared.reply.LdapResult.{LdapResult}
use Rattle.dn_text.specs.declared.place.Place.{Place}
use Rattle.dn_text.specs.declared.place.Place.TheVariants.{There, Nearest}
use Rattle.dn_text.specs.Names.{below, place_of, found, entry_at, shown_name}
use Rattle.dn_text.specs.Case.{no_such_object}
use Rattle.view_walk.specs.Tree.{IsNamedTree, is_present}

found_among : (q f : PresentEntry → Bool) (c : Uid) (es : List PresentEntry) → option_map (λ (e : PresentEntry). e.id) (find q (filter f es)) ≡ Some c → list_any (λ (e : PresentEntry). uid_eq e.id c) es ≡ true
found_among q f c [] h = let e : ◌≡◌ {A = Option Uid} None (Some c) = h in cc
found_among q f c (e ∷ es) h = by (f e) (found_among q f c es) h
  where
    back : (a b : Bool) → b ≡ true → (a || b) ≡ true
    back true b k = refl
    back false b k = k

    here : (b : Bool) → (option_map (λ (d : PresentEntry). d.id) (find q (filter f es)) ≡ Some c → list_any (λ (d : PresentEntry). uid_eq d.id c) es ≡ true)
        → option_map (λ (d : PresentEntry). d.id) (cond b (Some e) (find q (filter f es))) ≡ Some c → (uid_eq e.id c || list_any (λ (d : PresentEntry). uid_eq d.id c) es) ≡ true
    here true more k =
        let same : e.id ≡ c = cc in
        ap (λ b. b || list_any (λ (d : PresentEntry). uid_eq d.id c) es) (ap (λ u. uid_eq u c) same ∙ ap is_eq (tied_itself uid_total c))
    here false more k = back (uid_eq e.id c) (list_any (λ (d : PresentEntry). uid_eq d.id c) es) (more k)

    by : (b : Bool) → (option_map (λ (d : PresentEntry). d.id) (find q (filter f es)) ≡ Some c → list_any (λ (d : PresentEntry). uid_eq d.id c) es ≡ true)
        → option_map (λ (d : PresentEntry). d.id) (find q (cond b (e ∷ filter f es) (filter f es))) ≡ Some c → (uid_eq e.id c || list_any (λ (d : PresentEntry). uid_eq d.id c) es) ≡ true
    by true more k = here (q e) more k
    by false more k = back (uid_eq e.id c) (list_any (λ (d : PresentEntry). uid_eq d.id c) es) (more k)

there_only : (p u : Uid) → There p ≡ There u → p ≡ u
there_only p u h = cc

not_there : (p u : Uid) → Nearest p ≡ There u → ⊥
not_there p u h = absurd cc

found_there : (v : DirectoryView) (place : Place) (u : Uid) → found v place ≡ Ok u → place ≡ There u
found_there v (There p) u h = let same : p ≡ u = cc in ap There same
found_there v (Nearest p) u h = let e : ◌≡◌ {A = Result Uid LdapResult} (Err (no_such_object (shown_name v p))) (Ok u) = h in cc

module _ (v : DirectoryView) (tree : IsNamedTree v) where
  place_there : (rdns : List Rdn) (u : Uid) → place_of v rdns ≡ There u → is_present v u ≡ true
  unfolding place_of
  place_there [] u h = subst (λ (w : Uid). is_present v w ≡ true) (there_only suffix_id u h) tree.root
  place_there (rdn ∷ above) u h = by (place_of v above) h
    where
      child : (p : Uid) (o : Option Uid) → child_of v p rdn ≡ o → elim o [ None ↦ Nearest p | Some c ↦ There c ] ≡ There u → is_present v u ≡ true
      child p None e k = absurd (not_there p u k)
      child p (Some c) e k = subst (λ (w : Uid). is_present v w ≡ true) (there_only c u k) (found_among (λ (d : PresentEntry). same_rdn d.shown rdn) (is_shown_below p) c v.present e)

      by : (place : Place) → below v rdn place ≡ There u → is_present v u ≡ true
      by (There p) k = child p (child_of v p rdn) refl k
      by (Nearest p) k = absurd (not_there p u k)

  pub base_there : (rdns : List Rdn) (u : Uid) → entry_at v rdns ≡ Ok u → is_present v u ≡ true
  base_there rdns u h = place_there rdns u (found_there v (place_of v rdns) u h)

-- The entry of a name that has an RDN is not the suffix entry.
use Rattle.std.proofs.Common.{◌≡◌, Bool, true, false, cond, List, [], ◌∷◌, Ok, refl, ap, subst, ◌∙◌, Option, Some, None}
use Rattle.std.specs.Prelude.{not, filter, find, option_map}
use Rattle.repl_data.specs.declared.csn.Uid.{Uid}
use Rattle.repl_data.specs.declared.change.Rdn.{Rdn}
use Rattle.repl_data.specs.Order.{uid_eq, suffix_id, same_rdn}
use Rattle.repl_data.specs.Check.{is_empty}
use Rattle.repl_data.specs.View.{DirectoryView, PresentEntry, child_of, is_shown_below}
use Rattle.repl_data.proofs.Sound.{both_true, not_true, not_both}
use Rattle.dn_text.specs.declared.place.Place.{Place}
use Rattle.dn_text.specs.declared.place.Place.TheVariants.{There, Nearest}
use Rattle.dn_text.specs.Names.{below, place_of, found, entry_at}

-- what is found among those that pass a test passes it
found_passes : (R : Uid → Type 0) (p q : PresentEntry → Bool) → ((e : PresentEntry) → q e ≡ true → R e.id) → (es : List PresentEntry) (u : Uid) → option_map (λ (e : PresentEntry). e.id) (find p (filter q es)) ≡ Some u → R u
found_passes R p q f [] u h = let n : ⊥ = cc in absurd n
found_passes R p q f (e ∷ es) u h = by (q e) refl h (found_passes R p q f es u)
  where
    first : (this : Bool) → q e ≡ true → option_map (λ (e : PresentEntry). e.id) (cond this (Some e) (find p (filter q es))) ≡ Some u → (option_map (λ (e : PresentEntry). e.id) (find p (filter q es)) ≡ Some u → R u) → R u
    first true k g more = let at : e.id ≡ u = cc in subst R at (f e k)
    first false k g more = more g

    by : (kept : Bool) → q e ≡ kept → option_map (λ (e : PresentEntry). e.id) (find p (cond kept (e ∷ filter q es) (filter q es))) ≡ Some u → (option_map (λ (e : PresentEntry). e.id) (find p (filter q es)) ≡ Some u → R u) → R u
    by true k g more = first (p e) k g more
    by false k g more = more g

child_below : (v : DirectoryView) (parent u : Uid) (rdn : Rdn) → child_of v parent rdn ≡ Some u → uid_eq u suffix_id ≡ false
child_below v parent u rdn h =
    found_passes (λ w. uid_eq w suffix_id ≡ false) (λ (e : PresentEntry). same_rdn e.shown rdn) (is_shown_below parent)
    (λ e k. not_true (uid_eq e.id suffix_id) (both_true (uid_eq e.parent parent) (not (uid_eq e.id suffix_id)) k).1) v.present u h

step_below : (v : DirectoryView) (rdn : Rdn) (u : Uid) (p : Place) → below v rdn p ≡ There u → uid_eq u suffix_id ≡ false
step_below v rdn u (Nearest w) h = let n : ⊥ = cc in absurd n
step_below v rdn u (There w) h = by (child_of v w rdn) refl h
  where
    by : (o : Option Uid) → child_of v w rdn ≡ o → elim o [ None ↦ Nearest w | Some child ↦ There child ] ≡ There u → uid_eq u suffix_id ≡ false
    by None e g = let n : ⊥ = cc in absurd n
    by (Some child) e g = let at : child ≡ u = cc in child_below v w u rdn (e ∙ ap Some at)

place_below : (v : DirectoryView) (rdns : List Rdn) (u : Uid) → is_empty rdns ≡ false → place_of v rdns ≡ There u → uid_eq u suffix_id ≡ false
unfolding place_of
place_below v [] u n h = absurd (not_both true refl n)
place_below v (rdn ∷ above) u n h = step_below v rdn u (place_of v above) h

pub entry_below : (v : DirectoryView) (rdns : List Rdn) (u : Uid) → is_empty rdns ≡ false → entry_at v rdns ≡ Ok u → uid_eq u suffix_id ≡ false
entry_below v rdns u n h = by (place_of v rdns) refl h
  where
    by : (p : Place) → place_of v rdns ≡ p → found v p ≡ Ok u → uid_eq u suffix_id ≡ false
    by (There w) e g = let at : w ≡ u = cc in place_below v rdns u n (e ∙ ap There at)
    by (Nearest w) e g = let m : ⊥ = cc in absurd m

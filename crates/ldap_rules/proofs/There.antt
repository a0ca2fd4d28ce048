-- The parent of an add is the suffix entry or an entry that the view has.
use Rattle.std.proofs.Common.{◌≡◌, Bool, true, false, cond, ◌||◌, List, [], ◌∷◌, Ok, refl, sym, ap, ◌∙◌, Option, Some, None}
use Rattle.std.specs.Prelude.{is_some, filter, find, option_map}
use Rattle.std.specs.List.{list_any}
use Rattle.repl_data.specs.declared.csn.Uid.{Uid}
use Rattle.repl_data.specs.declared.change.Rdn.{Rdn}
use Rattle.repl_data.specs.declared.change.Change.{Change}
use Rattle.repl_data.specs.declared.change.Suffix.{Suffix}
use Rattle.repl_data.specs.Order.{uid_eq, suffix_id, same_rdn}
use Rattle.repl_data.specs.View.{DirectoryView, PresentEntry, Tombstone, present_at, child_of, is_shown_below, view_of}
use Rattle.repl_data.specs.Closed.{is_known}
use Rattle.std.proofs.lemmas.Bool.{or_left, or_right}
use Rattle.repl_data.proofs.Known.{known_by_view, own_id}
use Rattle.repl_data.specs.Facts.{added_ids}
use Rattle.dn_text.specs.declared.place.Place.{Place}
use Rattle.dn_text.specs.declared.place.Place.TheVariants.{There, Nearest}
use Rattle.dn_text.specs.Names.{below, place_of, found, entry_at}
use Rattle.ldap_rules.specs.Laws.{has_entry}

-- what is found in a part of a list is there
found_there : (p q : PresentEntry → Bool) (es : List PresentEntry) (u : Uid) → option_map (λ (e : PresentEntry). e.id) (find p (filter q es)) ≡ Some u → is_some (find (λ (e : PresentEntry). uid_eq e.id u) es) ≡ true
found_there p q [] u h = let n : ⊥ = cc in absurd n
found_there p q (e ∷ es) u h = by (q e) (uid_eq e.id u) refl h (found_there p q es u)
  where
    later : (b : Bool) → is_some (find (λ (e : PresentEntry). uid_eq e.id u) es) ≡ true → is_some (cond b (Some e) (find (λ (e : PresentEntry). uid_eq e.id u) es)) ≡ true
    later true g = refl
    later false g = g

    here : (b : Bool) → uid_eq e.id u ≡ b → ◌≡◌ {A = Option Uid} (Some e.id) (Some u) → is_some (cond b (Some e) (find (λ (e : PresentEntry). uid_eq e.id u) es)) ≡ true
    here true s g = refl
    here false s g =
        let at : e.id ≡ u = cc in
        let t : true ≡ false = sym (own_id u) ∙ ap (λ w. uid_eq w u) (sym at) ∙ s in
        let n : ⊥ = cc in absurd n

    first : (this same : Bool) → uid_eq e.id u ≡ same → option_map (λ (e : PresentEntry). e.id) (cond this (Some e) (find p (filter q es))) ≡ Some u
        → (option_map (λ (e : PresentEntry). e.id) (find p (filter q es)) ≡ Some u → is_some (find (λ (e : PresentEntry). uid_eq e.id u) es) ≡ true)
        → is_some (cond same (Some e) (find (λ (e : PresentEntry). uid_eq e.id u) es)) ≡ true
    first true same s g more = here same s g
    first false same s g more = later same (more g)

    by : (kept same : Bool) → uid_eq e.id u ≡ same → option_map (λ (e : PresentEntry). e.id) (find p (cond kept (e ∷ filter q es) (filter q es))) ≡ Some u
        → (option_map (λ (e : PresentEntry). e.id) (find p (filter q es)) ≡ Some u → is_some (find (λ (e : PresentEntry). uid_eq e.id u) es) ≡ true)
        → is_some (cond same (Some e) (find (λ (e : PresentEntry). uid_eq e.id u) es)) ≡ true
    by true same s g more = first (p e) same s g more
    by false same s g more = later same (more g)

child_there : (v : DirectoryView) (parent u : Uid) (rdn : Rdn) → child_of v parent rdn ≡ Some u → is_some (present_at v u) ≡ true
child_there v parent u rdn h = found_there (λ (e : PresentEntry). same_rdn e.shown rdn) (is_shown_below parent) v.present u h

step_there : (v : DirectoryView) (rdn : Rdn) (u : Uid) (p : Place) → below v rdn p ≡ There u → has_entry v u ≡ true
step_there v rdn u (Nearest w) h = let n : ⊥ = cc in absurd n
step_there v rdn u (There w) h = by (child_of v w rdn) refl h
  where
    by : (o : Option Uid) → child_of v w rdn ≡ o → elim o [ None ↦ Nearest w | Some child ↦ There child ] ≡ There u → has_entry v u ≡ true
    by None e g = let n : ⊥ = cc in absurd n
    by (Some child) e g =
        let at : child ≡ u = cc in
        or_right (uid_eq u suffix_id) (is_some (present_at v u)) (child_there v w u rdn (e ∙ ap Some at))

place_there : (v : DirectoryView) (rdns : List Rdn) (u : Uid) → place_of v rdns ≡ There u → has_entry v u ≡ true
unfolding place_of
place_there v [] u h =
    let e : suffix_id ≡ u = cc in
    or_left (uid_eq u suffix_id) (is_some (present_at v u)) (ap (λ w. uid_eq w suffix_id) (sym e) ∙ own_id suffix_id)
place_there v (rdn ∷ above) u h = step_there v rdn u (place_of v above) h

pub entry_there : (v : DirectoryView) (rdns : List Rdn) (u : Uid) → entry_at v rdns ≡ Ok u → has_entry v u ≡ true
entry_there v rdns u h = by (place_of v rdns) refl h
  where
    by : (p : Place) → place_of v rdns ≡ p → found v p ≡ Ok u → has_entry v u ≡ true
    by (There w) e g = let at : w ≡ u = cc in place_there v rdns u (e ∙ ap There at)
    by (Nearest w) e g = let n : ⊥ = cc in absurd n

pub some_any : (q : PresentEntry → Bool) (es : List PresentEntry) → is_some (find q es) ≡ list_any q es
some_any q [] = refl
some_any q (e ∷ es) = by (q e) (some_any q es)
  where
    by : (b : Bool) → is_some (find q es) ≡ list_any q es → is_some (cond b (Some e) (find q es)) ≡ (b || list_any q es)
    by true h = refl
    by false h = h

pub entry_known : (suffix : Suffix) (changes : List Change) (u : Uid) → has_entry (view_of suffix changes) u ≡ true → is_known changes u ≡ true
entry_known suffix changes u h = by (uid_eq u suffix_id) refl h
  where
    by : (b : Bool) → uid_eq u suffix_id ≡ b → (b || is_some (present_at (view_of suffix changes) u)) ≡ true → is_known changes u ≡ true
    by true e g = or_left (uid_eq u suffix_id) (list_any (uid_eq u) (added_ids changes)) e
    by false e g =
        sym (known_by_view suffix changes u)
        ∙ or_left (list_any (λ (e : PresentEntry). uid_eq e.id u) (view_of suffix changes).present) (list_any (λ (e : Tombstone). uid_eq e.id u) (view_of suffix changes).gone)
        (sym (some_any (λ (e : PresentEntry). uid_eq e.id u) (view_of suffix changes).present) ∙ g)

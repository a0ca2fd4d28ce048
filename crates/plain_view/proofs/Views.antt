-- Questions to a view, answered by loops over its entries.
use Rattle.std.proofs.Common.{◌≡◌, ℕ, ◌+◌, ◌<◌, Bool, true, false, cond, List, [], ◌∷◌, ◌++◌, map, length, get_or, take, Some, refl, ap, sym, ◌∙◌}
use Rattle.std.specs.Prelude.{filter, find, flat_map, reverse, ◌&&◌, not, if◌then◌else◌}
use Rattle.std.proofs.lemmas.List.{take_more, reverse-append}
use Rattle.std.proofs.lemmas.Grind.{reverse_onto}
use Rattle.std.specs.declared.cmp.Ordering.{Ordering}
use Rattle.repl_data.specs.declared.csn.Uid.{Uid}
use Rattle.repl_data.specs.declared.change.Rdn.{Rdn}
use Rattle.repl_data.specs.Order.{in_order_by, uid_eq, suffix_id}
use Rattle.repl_data.specs.declared.change.Attr.{Attr}
use Rattle.repl_data.specs.declared.change.Shown.{Shown}
use Rattle.repl_data.specs.View.{PresentEntry, path_among, user}
use Rattle.plain_view.specs.Seen.{kept}
use Rattle.repl_data.proofs.Loops.{filter_append, flat_map_more, map_append}

module _ {X : Type 0} where
  -- the first of those that pass one test to pass another
  pub find_filter : (p q : X → Bool) (xs : List X) → find q (filter p xs) ≡ find (λ x. p x && q x) xs
  find_filter p q [] = refl
  find_filter p q (x ∷ xs) = by (p x) (find_filter p q xs)
    where
      by : (b : Bool) → find q (filter p xs) ≡ find (λ x. p x && q x) xs → find q (cond b (x ∷ filter p xs) (filter p xs)) ≡ cond (b && q x) (Some x) (find (λ x. p x && q x) xs)
      by true e = ap (λ r. cond (q x) (Some x) r) e
      by false e = e

  -- equal orders sort alike
  pub in_order_same : (R S : X → X → Ordering) → ((a b : X) → R a b ≡ S a b) → (xs : List X) → in_order_by (λ x. x) R xs ≡ in_order_by (λ x. x) S xs
  in_order_same R S h xs = λ i. in_order_by (λ x. x) (λ a b. h a b i) xs

module _ {X Y : Type 0} where
  pub map_flat_map_more : {Z : Type 0} (g : Y → Z) (f : X → List Y) (xs : List X) (i : ℕ) (d : X) → i < length xs → map g (flat_map f (take (i + 1) xs)) ≡ map g (flat_map f (take i xs)) ++ map g (f (get_or xs i d))
  map_flat_map_more g f xs i d l = ap (map g) (flat_map_more f xs i d l) ∙ map_append g (flat_map f (take i xs)) (f (get_or xs i d))

  pub reverse_map : (f : X → Y) (xs : List X) → reverse (map f xs) ≡ map f (reverse xs)
  reverse_map f [] = refl
  reverse_map f (x ∷ xs) =
      reverse_onto (map f xs) (f x) []
      ∙ ap (λ r. r ++ f x ∷ []) (reverse_map f xs)
      ∙ sym (map_append f (reverse xs) (x ∷ []))
      ∙ ap (map f) (sym (reverse_onto xs x []))

-- one step up from an entry
abbrev pub step_names : PresentEntry → Uid → List Rdn
step_names e up = if uid_eq e.id up && not (uid_eq up suffix_id) then e.shown ∷ [] else []

abbrev pub step_up : PresentEntry → Uid → Uid
step_up e up = if uid_eq e.id up then e.parent else up

pub path_more : (xs : List PresentEntry) (n : ℕ) (up : Uid) (d : PresentEntry) → n < length xs → path_among (reverse (take (n + 1) xs)) up ≡ step_names (get_or xs n d) up ++ path_among (reverse (take n xs)) (step_up (get_or xs n d) up)
path_more xs n up d l = ap (λ r. path_among (reverse r) up) (take_more xs n d l) ∙ ap (λ r. path_among r up) (reverse-append (take n xs) (get_or xs n d ∷ []))

-- attributes that are kept to be shown
pub kept_users : (attrs : List Attr) → map kept (map user attrs) ≡ attrs
kept_users [] = refl
kept_users (a ∷ attrs) = ap (λ r. a ∷ r) (kept_users attrs)

pub users_kept : (users : List Shown) (attrs : List Attr) → users ≡ map user attrs → users ≡ map user (map kept users)
users_kept users attrs h = h ∙ sym (ap (map user) (ap (map kept) h ∙ kept_users attrs))

-- What the place of a name among attributes says of a look-up.
use Rattle.std.proofs.Common.{◌≡◌, ℕ, zero, suc, ◌++◌, List, [], ◌∷◌, refl, sym, ap, subst, ◌∙◌, true, false, cond, Some, append-nil}
use Rattle.std.specs.Prelude.{slice_get}
use Rattle.std.specs.List.{AllByRecursion}
use Rattle.std.specs.declared.cmp.Ordering.{Ordering}
use Rattle.std.specs.declared.cmp.Ordering.TheVariants.{Less, Greater}
use Rattle.std.specs.Ordering.{is_eq}
use Rattle.std.proofs.lemmas.Cmp.{tied_itself}
use Rattle.repl_data.specs.Order.{bytes_cmp, bytes_eq}
use Rattle.repl_data.specs.Ordered.{Rises, IsAt, IsGap}
use Rattle.repl_data.specs.declared.change.Attr.{Attr}
use Rattle.repl_data.specs.View.{vals_at}
use Rattle.repl_data.proofs.Orders.{bytes_total}
use Rattle.repl_data.proofs.KeyPlaces.{above}
use Rattle.rule_values.specs.Having.{attr_name}

pub equal_key : (a k : List ℕ) → a ≡ k → bytes_eq a k ≡ true
equal_key a k h = ap (λ x. bytes_eq x k) h ∙ ap is_eq (tied_itself bytes_total k)

other_key : (a k : List ℕ) (o : Ordering) → bytes_cmp a k ≡ o → is_eq o ≡ false → bytes_eq a k ≡ false
other_key a k o h e = ap is_eq h ∙ e

-- those above a key are others
pub above_others : (k : List ℕ) (attrs : List Attr) → AllByRecursion (λ (a : Attr). bytes_cmp k a.attr.name ≡ Less) attrs → vals_at k attrs ≡ []
above_others k [] h = refl
above_others k (a ∷ attrs) h =
    ap (λ b. cond b a.vals [] ++ vals_at k attrs) (other_key a.attr.name k Greater (above k a.attr.name h.0) refl) ∙ above_others k attrs h.1

pub vals_at_place : (k : List ℕ) (attrs : List Attr) (n : ℕ) (a : Attr) → Rises attr_name attrs → IsAt attr_name k attrs n → slice_get attrs n ≡ Some a → a.vals ≡ vals_at k attrs
vals_at_place k [] n a r h e = elim h [ ]
vals_at_place k (b ∷ attrs) zero a r h e =
    let p : b ≡ a = cc in
    let none : vals_at k attrs ≡ [] = above_others k attrs (subst (λ x. AllByRecursion (λ (z : Attr). bytes_cmp x z.attr.name ≡ Less) attrs) h r.0) in
    ap (λ (x : Attr). x.vals) (sym p) ∙ sym (append-nil b.vals) ∙ ap (λ w. b.vals ++ w) (sym none) ∙ ap (λ t. cond t b.vals [] ++ vals_at k attrs) (sym (equal_key b.attr.name k h))
vals_at_place k (b ∷ attrs) (suc n) a r h e =
    vals_at_place k attrs n a r.1 h.1 e ∙ ap (λ t. cond t b.vals [] ++ vals_at k attrs) (sym (other_key b.attr.name k Less h.0 refl))

pub vals_at_gap : (k : List ℕ) (attrs : List Attr) (n : ℕ) → Rises attr_name attrs → IsGap attr_name k attrs n → [] ≡ vals_at k attrs
vals_at_gap k [] n r h = refl
vals_at_gap k (b ∷ attrs) zero r h =
    sym (above_others k (b ∷ attrs) (h, all_above k b attrs h r.0))
  where
    all_above : (k : List ℕ) (b : Attr) (as' : List Attr) → bytes_cmp k b.attr.name ≡ Less → AllByRecursion (λ (z : Attr). bytes_cmp b.attr.name z.attr.name ≡ Less) as' → AllByRecursion (λ (z : Attr). bytes_cmp k z.attr.name ≡ Less) as'
    all_above k b [] h g = tt
    all_above k b (z ∷ zs) h g = (bytes_total.trans k b.attr.name z.attr.name h g.0, all_above k b zs h g.1)
vals_at_gap k (b ∷ attrs) (suc n) r h =
    vals_at_gap k attrs n r.1 h.1 ∙ ap (λ t. cond t b.vals [] ++ vals_at k attrs) (sym (other_key b.attr.name k Less h.0 refl))

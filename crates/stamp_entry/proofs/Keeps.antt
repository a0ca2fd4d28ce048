-- Acts keep attributes and values in rising order.
use Rattle.std.proofs.Common.{◌≡◌, ℕ, Bool, true, false, cond, List, [], ◌∷◌, map, refl, sym, subst, Some}
use Rattle.std.specs.Prelude.{find, unwrap_or}
use Rattle.std.specs.List.{AllByRecursion}
use Rattle.std.specs.declared.cmp.Ordering.{Ordering}
use Rattle.std.specs.declared.cmp.Ordering.TheVariants.{Less, Equal, Greater}
use Rattle.repl_data.specs.declared.change.AttrKey.{AttrKey}
use Rattle.repl_data.specs.Order.{zero_csn, bytes_cmp, bytes_eq, put_by, by_order}
use Rattle.repl_data.specs.Stamps.{Act, Adds, Deletes, Clears}
use Rattle.repl_data.specs.Facts.{AttrFacts, attr_of}
use Rattle.repl_data.proofs.Orders.{bytes_total}
use Rattle.repl_data.proofs.InOrder.{put-Rises}
use Rattle.repl_data.proofs.InOrder as in_order
use Rattle.repl_data.specs.Ordered.{Rises}
use Rattle.stamp_entry.specs.Ordered.{val_key, attr_name, HasRisingVals, AreOrdered}
use Rattle.stamp_entry.specs.Raised.{raised_val, val_at, raised_attr, attr_at, raised, raised_by}

module _ {X : Type 0} (key : X → List ℕ) where
  pub to_rises : (xs : List X) → Rises key xs → in_order.Rises bytes_cmp bytes_total key xs
  to_rises [] h = tt
  to_rises (x ∷ xs) h = (h.0, to_rises xs h.1)

  pub from_rises : (xs : List X) → in_order.Rises bytes_cmp bytes_total key xs → Rises key xs
  from_rises [] h = tt
  from_rises (x ∷ xs) h = (h.0, from_rises xs h.1)

  pub rises_put : (x : X) (xs : List X) → Rises key xs → Rises key (put_by key bytes_cmp x xs)
  rises_put x xs h = from_rises (put_by key bytes_cmp x xs) (put-Rises bytes_cmp bytes_total key x xs (to_rises xs h))

  pub all_put : (P : X → Type 0) (x : X) (xs : List X) → P x → AllByRecursion P xs → AllByRecursion P (put_by key bytes_cmp x xs)
  all_put P x [] p h = (p, tt)
  all_put P x (y ∷ ys) p h = by (all_put P x ys p h.1) (bytes_cmp (key x) (key y))
    where
      by : AllByRecursion P (put_by key bytes_cmp x ys) → (o : Ordering) → AllByRecursion P (by_order o (x ∷ y ∷ ys) (x ∷ ys) (y ∷ put_by key bytes_cmp x ys))
      by more Less = (p, h)
      by more Equal = (p, h.1)
      by more Greater = (h.0, more)

  all_map : (P : List ℕ → Type 0) (f : X → X) → ((x : X) → key (f x) ≡ key x) → (xs : List X) → AllByRecursion (λ x. P (key x)) xs → AllByRecursion (λ x. P (key x)) (map f xs)
  all_map P f same [] h = tt
  all_map P f same (x ∷ xs) h = (subst P (sym (same x)) h.0, all_map P f same xs h.1)

  pub rises_map : (f : X → X) → ((x : X) → key (f x) ≡ key x) → (xs : List X) → Rises key xs → Rises key (map f xs)
  rises_map f same [] h = tt
  rises_map f same (x ∷ xs) h =
      (subst (λ k. AllByRecursion (λ y. bytes_cmp k (key y) ≡ Less) (map f xs)) (sym (same x)) (all_map (λ k. bytes_cmp (key x) k ≡ Less) f same xs h.0), rises_map f same xs h.1)

pub all_found : {X : Type 0} (P : X → Type 0) (test : X → Bool) (blank : X) (xs : List X) → P blank → AllByRecursion P xs → P (unwrap_or (find test xs) blank)
all_found P test blank [] b h = b
all_found P test blank (x ∷ xs) b h = by (test x) (all_found P test blank xs b h.1)
  where
    by : (t : Bool) → P (unwrap_or (find test xs) blank) → P (unwrap_or (cond t (Some x) (find test xs)) blank)
    by true more = h.0
    by false more = more

pub raised_attr-rises : (act : Act) (a : AttrFacts) → HasRisingVals a → HasRisingVals (raised_attr act a)
raised_attr-rises (Adds s t v) a h = rises_put val_key (raised_val (Adds s t v) (val_at v.key a)) a.vals h
raised_attr-rises (Deletes s t v) a h = rises_put val_key (raised_val (Deletes s t v) (val_at v.key a)) a.vals h
raised_attr-rises (Clears s t) a h = rises_map val_key (raised_val (Clears s t)) (λ v. refl) a.vals h

pub attr_at-rises : (t : AttrKey) (attrs : List AttrFacts) → AreOrdered attrs → HasRisingVals (attr_at t attrs)
attr_at-rises t attrs h = all_found HasRisingVals (λ (a : AttrFacts). bytes_eq t.name a.attr.name) (record { attr = t; whole = zero_csn; vals = [] }) attrs tt h.1

-- AN ACT KEEPS THE ORDER
pub raised-ordered : (act : Act) (attrs : List AttrFacts) → AreOrdered attrs → AreOrdered (raised act attrs)
raised-ordered act attrs h =
    (rises_put attr_name (raised_attr act (attr_at (attr_of act) attrs)) attrs h.0, all_put attr_name HasRisingVals (raised_attr act (attr_at (attr_of act) attrs)) attrs (raised_attr-rises act (attr_at (attr_of act) attrs) (attr_at-rises (attr_of act) attrs h)) h.1)

pub raised_by-ordered : (acts : List Act) (attrs : List AttrFacts) → AreOrdered attrs → AreOrdered (raised_by attrs acts)
raised_by-ordered [] attrs h = h
raised_by-ordered (a ∷ acts) attrs h = raised_by-ordered acts (raised a attrs) (raised-ordered a attrs h)

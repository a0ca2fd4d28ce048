-- Presence is what its rule says: an entry is present exactly if it is live or has a present child, and no
-- other choice of entries obeys the rule.
use Rattle.std.proofs.Common.{◌≡◌, List, [], ◌∷◌, refl, sym, ap, ◌∙◌, inl, inr}
use Rattle.std.specs.Prelude.{Bool, true, false, cond, not, ◌&&◌, ◌||◌, ◌⊎◌, filter}
use Rattle.std.specs.List.{AllByRecursion, list_any}
use Rattle.std.specs.declared.cmp.Ordering.TheVariants.{Less}
use Rattle.std.specs.Ordering.{is_eq, ordering_reverse}
use Rattle.std.proofs.lemmas.Cmp.{tied_itself}
use Rattle.repl_data.specs.declared.csn.Uid.{Uid}
use Rattle.repl_data.specs.Order.{uid_cmp, uid_eq, suffix_id}
use Rattle.repl_data.specs.Facts.{EntryFacts}
use Rattle.repl_data.specs.Presence.{is_live, is_child, present_of, is_among_entries, HasParentBelow, ObeysRule, is_present_in}
use Rattle.repl_data.proofs.Orders.{uid_total}
use Rattle.repl_data.proofs.Bools.{and_true, and_false}
use Rattle.repl_data.proofs.InOrder.{Rises}

abbrev id_of : EntryFacts → Uid
id_of e = e.id

not_child : (u : Uid) (d : EntryFacts) → (uid_eq d.id suffix_id ≡ true) ⊎ (uid_cmp d.parent u ≡ Less) → is_child u d ≡ false
not_child u d (inl h) = ap (λ b. uid_eq d.parent u && not b) h ∙ and_false (uid_eq d.parent u)
not_child u d (inr h) = ap (λ o. is_eq o && not (uid_eq d.id suffix_id)) h

-- an entry is no child of itself, nor of an entry above it
not_own_child : (d : EntryFacts) → HasParentBelow d → is_child d.id d ≡ false
not_own_child d h = not_child d.id d h

not_child_above : (d e : EntryFacts) → HasParentBelow d → uid_cmp d.id e.id ≡ Less → is_child e.id d ≡ false
not_child_above d e (inl h) l = not_child e.id d (inl h)
not_child_above d e (inr h) l = not_child e.id d (inr (uid_total.trans d.parent d.id e.id h l))

any-filter : {X : Type 0} (q p : X → Bool) (xs : List X) → list_any q (filter p xs) ≡ list_any (λ x. q x && p x) xs
any-filter q p [] = refl
any-filter {X = X} q p (x ∷ xs) = by (p x) (filter p xs) ∙ ap (λ b. (q x && p x) || b) (any-filter q p xs)
  where
    by : (b : Bool) (ys : List X) → list_any q (cond b (x ∷ ys) ys) ≡ ((q x && b) || list_any q ys)
    by true ys = ap (λ c. c || list_any q ys) (sym (and_true (q x)))
    by false ys = ap (λ c. c || list_any q ys) (sym (and_false (q x)))

-- without the lowest entry, which is no child of the others
drop_lowest : (p : EntryFacts → Bool) (d : EntryFacts) (above es : List EntryFacts) → HasParentBelow d → AllByRecursion (λ e. uid_cmp d.id e.id ≡ Less) es → AllByRecursion (ObeysRule p (d ∷ above)) es → AllByRecursion (ObeysRule p above) es
drop_lowest p d above [] h l r = tt
drop_lowest p d above (e ∷ es) h l r = (
  r.0 ∙ ap (λ b. is_live e || ((b && p d) || list_any (λ f. is_child e.id f && p f) above)) (not_child_above d e h l.0),
  drop_lowest p d above es h l.1 r.1,
)

-- NO OTHER CHOICE OBEYS THE RULE
pub present_of-unique : (p : EntryFacts → Bool) (es : List EntryFacts) → Rises uid_cmp uid_total id_of es → AllByRecursion HasParentBelow es → AllByRecursion (ObeysRule p es) es → filter p es ≡ present_of es
present_of-unique p [] o h r = refl
present_of-unique p (d ∷ above) o h r =
    let rest : filter p above ≡ present_of above = present_of-unique p above o.1 h.1 (drop_lowest p d above above h.0 o.0 r.1) in
    let own : p d ≡ (is_live d || list_any (is_child d.id) (present_of above)) =
    r.0 ∙ ap (λ b. is_live d || ((b && p d) || list_any (λ f. is_child d.id f && p f) above)) (not_own_child d h.0)
    ∙ ap (λ b. is_live d || b) (sym (any-filter (is_child d.id) p above) ∙ ap (list_any (is_child d.id)) rest) in
    λ i. cond (own i) (d ∷ rest i) (rest i)

-- THE CHOICE OBEYS THE RULE
none_is : (u : Uid) (es : List EntryFacts) → AllByRecursion (λ e. uid_cmp u e.id ≡ Less) es → is_among_entries (present_of es) u ≡ false
none_is u [] h = refl
none_is u (e ∷ es) h = by (is_live e || list_any (is_child e.id) (present_of es)) (none_is u es h.1)
  where
    other : uid_eq e.id u ≡ false
    other = ap is_eq (uid_total.antisymm e.id u) ∙ ap (λ o. is_eq (ordering_reverse o)) h.0

    by : (b : Bool) → is_among_entries (present_of es) u ≡ false → is_among_entries (cond b (e ∷ present_of es) (present_of es)) u ≡ false
    by true g = ap (λ c. c || is_among_entries (present_of es) u) other ∙ g
    by false g = g

-- an entry below all others adds itself alone
lowest_added : (d e : EntryFacts) (above : List EntryFacts) → HasParentBelow d → uid_cmp d.id e.id ≡ Less
    → is_present_in above e ≡ (is_live e || list_any (is_child e.id) (present_of above))
    → is_present_in (d ∷ above) e ≡ (is_live e || list_any (is_child e.id) (present_of (d ∷ above)))
lowest_added d e above h l g = by (is_live d || list_any (is_child d.id) (present_of above))
  where
    by : (b : Bool) → is_among_entries (cond b (d ∷ present_of above) (present_of above)) e.id ≡ (is_live e || list_any (is_child e.id) (cond b (d ∷ present_of above) (present_of above)))
    by true =
        ap (λ o. is_eq o || is_among_entries (present_of above) e.id) l
        ∙ g ∙ ap (λ c. is_live e || (c || list_any (is_child e.id) (present_of above))) (sym (not_child_above d e h l))
    by false = g

above_obey : (d : EntryFacts) (above es : List EntryFacts) → HasParentBelow d → AllByRecursion (λ e. uid_cmp d.id e.id ≡ Less) es
    → AllByRecursion (λ e. is_present_in above e ≡ (is_live e || list_any (is_child e.id) (present_of above))) es
    → AllByRecursion (λ e. is_present_in (d ∷ above) e ≡ (is_live e || list_any (is_child e.id) (present_of (d ∷ above)))) es
above_obey d above [] h l g = tt
above_obey d above (e ∷ es) h l g = (lowest_added d e above h l.0 g.0, above_obey d above es h l.1 g.1)

pub present_of-rule : (es : List EntryFacts) → Rises uid_cmp uid_total id_of es → AllByRecursion HasParentBelow es → AllByRecursion (λ e. is_present_in es e ≡ (is_live e || list_any (is_child e.id) (present_of es))) es
present_of-rule [] o h = tt
present_of-rule (d ∷ above) o h =
    (by (is_live d || list_any (is_child d.id) (present_of above)) refl, above_obey d above above h.0 o.0 (present_of-rule above o.1 h.1))
  where
    by : (b : Bool) → (is_live d || list_any (is_child d.id) (present_of above)) ≡ b → is_among_entries (cond b (d ∷ present_of above) (present_of above)) d.id ≡ (is_live d || list_any (is_child d.id) (cond b (d ∷ present_of above) (present_of above)))
    by true e =
        ap (λ r. is_eq r || is_among_entries (present_of above) d.id) (tied_itself uid_total d.id)
        ∙ sym e ∙ ap (λ c. is_live d || (c || list_any (is_child d.id) (present_of above))) (sym (not_own_child d h.0))
    by false e = none_is d.id above o.0 ∙ sym e

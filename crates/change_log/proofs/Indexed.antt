-- The index of a log has the CSNs of its changes.
use Rattle.std.proofs.Common.{◌≡◌, ℕ, ◌+◌, ◌<◌, ◌≤◌, zero, suc, Bool, true, false, ◌⊎◌, inl, inr, List, [], ◌∷◌, ◌++◌, sym, ap, subst, ◌∙◌, arith, Contains, filter, get_or, length, length-append, ltb-false}
use Rattle.std.specs.List.{insert}
use Rattle.std.proofs.lemmas.Bool.{cases_Bool, cases_eq, cases_lt}
use Rattle.std.proofs.Math.ListN.{get_or-append}
use Rattle.std.proofs.Math.Seq.{get_or-append_seam}
use Rattle.std.proofs.lemmas.List.{get_or_default}
use Rattle.std.proofs.lemmas.List.Edits.{length-insert, get_or-insert_below, get_or-insert_at, get_or-insert_above}
use Rattle.std.proofs.lemmas.List.Elements.{Contains-get_or}
use Rattle.repl_data.specs.declared.csn.Csn.{Csn}
use Rattle.repl_data.specs.declared.change.Change.{Change}
use Rattle.vector_core.specs.Greatest.{greatest}
use Rattle.vector_core.proofs.Lists.{Contains-filter, filter-Contains, Contains-map, map-Contains}
use Rattle.vector_core.proofs.Greatests.{greatest_same}
use Rattle.repl_data.proofs.CsnTests.{csn_lt-connected}
use Rattle.change_log.specs.declared.index.Place.{Place}
use Rattle.change_log.specs.Log.{is_before, csns_of, prev_in}
use Rattle.change_log.specs.Index.{place_lt, no_place, IsRising, IsIndex}
use Rattle.change_log.proofs.Places.{index_csns, place_lt-same, place_lt-other}

-- a CSN that stands at a place of the changes
at_change : (changes : List Change) (k : ℕ) (c : Csn) → k < length changes → ((d : Change) → (get_or changes k d).csn ≡ c) → Contains (csns_of changes) c
at_change [] k c l e = absurd (omega arith)
at_change (x ∷ xs) k c l e =
    subst (λ z. Contains (csns_of (x ∷ xs)) z) (e x) (map-Contains (λ (y : Change). y.csn) (x ∷ xs) (get_or (x ∷ xs) k x) (Contains-get_or (x ∷ xs) k x l))

-- a CSN of the index is that of a change, and the other way about
pub to_changes : (index : List Place) (changes : List Change) → IsIndex index changes → (c : Csn) → Contains (index_csns index) c → Contains (csns_of changes) c
to_changes index changes is c h =
    let m = Contains-map (λ (place : Place). place.csn) index c h in
    let l : m.1.0 < length index = m.1.1 in
    let here : get_or index m.1.0 no_place ≡ m.0 = get_or_default index m.1.0 no_place m.0 l ∙ m.1.2 in
    in_changes m.1.0 l (ap (λ (z : Place). z.csn) here ∙ m.2)
  where
    in_changes : (i : ℕ) → i < length index → (get_or index i no_place).csn ≡ c → Contains (csns_of changes) c
    in_changes i l e = at_change changes (get_or index i no_place).at c (is.within i l) (λ d. is.csns i d l ∙ e)

pub to_index : (index : List Place) (changes : List Change) → IsIndex index changes → (c : Csn) → Contains (csns_of changes) c → Contains (index_csns index) c
to_index index changes is c h =
    let m = Contains-map (λ (x : Change). x.csn) changes c h in
    let l : m.1.0 < length changes = m.1.1 in
    let a = is.all m.1.0 l in
    let la : a.0 < length index = a.1 in
    let e : (get_or changes (get_or index a.0 no_place).at m.0).csn ≡ (get_or index a.0 no_place).csn = is.csns a.0 m.0 la in
    let same : (get_or index a.0 no_place).csn ≡ c = sym e ∙ ap (λ n. (get_or changes n m.0).csn) a.2 ∙ ap (λ (x : Change). x.csn) m.1.2 ∙ m.2 in
    subst (λ z. Contains (index_csns index) z) same (map-Contains (λ (place : Place). place.csn) index (get_or index a.0 no_place) (Contains-get_or index a.0 no_place la))

filtered : (p : Csn → Bool) (xs ys : List Csn) → ((c : Csn) → Contains xs c → Contains ys c) → (c : Csn) → Contains (filter p xs) c → Contains (filter p ys) c
filtered p xs ys there c h = let f = Contains-filter p xs c h in filter-Contains p ys c (there c f.0) f.1

pub prev_indexed : (index : List Place) (changes : List Change) (c : Csn) → IsIndex index changes → greatest (filter (is_before c) (index_csns index)) ≡ prev_in changes c
prev_indexed index changes c is =
    greatest_same (filter (is_before c) (index_csns index)) (filter (is_before c) (csns_of changes))
    (filtered (is_before c) (index_csns index) (csns_of changes) (to_changes index changes is))
    (filtered (is_before c) (csns_of changes) (index_csns index) (to_index index changes is))

both_at : (a b x y : Place) → a ≡ x → b ≡ y → place_lt x.csn y.csn ≡ true → place_lt a.csn b.csn ≡ true
both_at a b x y p q h = subst (λ z. place_lt z.csn b.csn ≡ true) (sym p) (subst (λ z. place_lt x.csn z.csn ≡ true) (sym q) h)

-- an element after an insertion: one from before it, the new one, or one from behind it
Inserted : List Place → Place → ℕ → ℕ → Type 0
Inserted xs p i k =
    ((k < i) × (get_or (insert xs i p) k no_place ≡ get_or xs k no_place))
    ⊎ (((k ≡ i) × (get_or (insert xs i p) k no_place ≡ p))
    ⊎ ((m : ℕ) × (k ≡ m + 1) × (i ≤ m) × (m < length xs) × (get_or (insert xs i p) k no_place ≡ get_or xs m no_place)))

inserted : (xs : List Place) (p : Place) (i k : ℕ) → i ≤ length xs → k < length (insert xs i p) → Inserted xs p i k
unfolding Inserted
inserted xs p i k w l =
    let n : length (insert xs i p) ≡ length xs + 1 = length-insert xs i p w in
    elim (cases_lt k i) [
      | inl m ↦ inl (m, get_or-insert_below xs i p no_place k m w)
      | inr m ↦
          elim (cases_eq k i) [
            | inl e ↦ inr (inl (e, ap (λ n. get_or (insert xs i p) n no_place) e ∙ get_or-insert_at xs i p no_place w))
            | inr d ↦ inr (inr (behind k m d l))
          ]
    ]
  where
    behind : (k : ℕ) → i ≤ k → (k ≡ i → ⊥) → k < length (insert xs i p) → (m : ℕ) × (k ≡ m + 1) × (i ≤ m) × (m < length xs) × (get_or (insert xs i p) k no_place ≡ get_or xs m no_place)
    behind zero le d h = absurd (d (omega arith))
    behind (suc m) le d h =
        let n : length (insert xs i p) ≡ length xs + 1 = length-insert xs i p w in
        let e : suc m ≡ m + 1 = omega arith in
        let lm : i ≤ m = elim (cases_lt m i) [ inl q ↦ absurd (d (omega arith)) | inr q ↦ q ] in
        (m, e, lm, omega arith, ap (λ n. get_or (insert xs i p) n no_place) e ∙ get_or-insert_above xs i p no_place m lm w)

IsRising-insert : (xs : List Place) (p : Place) (i : ℕ) → IsRising xs → i ≤ length xs → ((k : ℕ) → k < i → place_lt (get_or xs k no_place).csn p.csn ≡ true)
    → ((k : ℕ) → i ≤ k → k < length xs → place_lt p.csn (get_or xs k no_place).csn ≡ true) → IsRising (insert xs i p)
unfolding Inserted
IsRising-insert xs p i is w b a = λ j k m h.
    elim (inserted xs p i j w (omega arith)) [
      | inl q ↦
          elim (inserted xs p i k w h) [
            | inl r ↦ both_at _ _ _ _ q.1 r.1 (is j k m (omega (arith, r.0)))
            | inr (inl r) ↦ both_at _ _ _ _ q.1 r.1 (b j q.0)
            | inr (inr r) ↦ both_at _ _ _ _ q.1 r.4 (is j r.0 (omega (arith, q.0, r.2)) r.3)
          ]
      | inr (inl q) ↦
          elim (inserted xs p i k w h) [
            | inl r ↦ absurd (omega (arith, q.0, r.0))
            | inr (inl r) ↦ absurd (omega (arith, q.0, r.0))
            | inr (inr r) ↦ both_at _ _ _ _ q.1 r.4 (a r.0 r.2 r.3)
          ]
      | inr (inr q) ↦
          elim (inserted xs p i k w h) [
            | inl r ↦ absurd (omega (arith, q.1, q.2, r.0))
            | inr (inl r) ↦ absurd (omega (arith, q.1, q.2, r.0))
            | inr (inr r) ↦ both_at _ _ _ _ q.4 r.4 (is q.0 r.0 (omega (arith, q.1, r.1)) r.3)
          ]
    ]

place_connected : (a b : Csn) → place_lt a b ≡ false → place_lt b a ≡ false → a ≡ b
place_connected a b p q =
    elim (cases_eq a.rid b.rid) [
      | inl e ↦ csn_lt-connected a b (sym (place_lt-same a b e) ∙ p) (sym (place_lt-same b a (sym e)) ∙ q)
      | inr d ↦
          absurd (d (let l = ltb-false a.rid b.rid (sym (place_lt-other a b d) ∙ p) in let m = ltb-false b.rid a.rid (sym (place_lt-other b a (λ e. d (sym e))) ∙ q) in omega arith))
    ]

-- the index with the place of one more change
pub IsIndex-more : (index : List Place) (changes : List Change) (x : Change) (i : ℕ) → IsIndex index changes → i ≤ length index
    → ((k : ℕ) → k < i → place_lt (get_or index k no_place).csn x.csn ≡ true) → ((k : ℕ) → i ≤ k → k < length index → place_lt (get_or index k no_place).csn x.csn ≡ false)
    → (Contains (csns_of changes) x.csn → ⊥) → IsIndex (insert index i (record { csn = x.csn; at = length changes })) (changes ++ x ∷ [])
unfolding Inserted
IsIndex-more index changes x i is w b a fresh =
    let p : Place = record { csn = x.csn; at = length changes } in
    let n : length (insert index i p) ≡ length index + 1 = length-insert index i p w in
    let nc : length (changes ++ x ∷ []) ≡ length changes + 1 = length-append changes (x ∷ []) in
    let strict : (k : ℕ) → i ≤ k → k < length index → place_lt x.csn (get_or index k no_place).csn ≡ true = λ k le l.
    elim (cases_Bool (place_lt x.csn (get_or index k no_place).csn)) [
      | inl t ↦ t
      | inr f ↦
          absurd (fresh (to_changes index changes is x.csn (subst (λ z. Contains (index_csns index) z) (place_connected (get_or index k no_place).csn x.csn (a k le l) f)
          (map-Contains (λ (place : Place). place.csn) index (get_or index k no_place) (Contains-get_or index k no_place l)))))
    ] in
    record {
      rising = IsRising-insert index p i is.rising w b strict;
      within = λ k h.
          elim (inserted index p i k w h) [
            | inl q ↦ (let s = is.within k (omega (arith, q.0)) in let e = ap (λ (z : Place). z.at) q.1 in omega arith)
            | inr (inl q) ↦ (let e : (get_or (insert index i p) k no_place).at ≡ length changes = ap (λ (z : Place). z.at) q.1 in omega arith)
            | inr (inr q) ↦ (let s = is.within q.0 q.3 in let e = ap (λ (z : Place). z.at) q.4 in omega arith)
          ];
      csns = λ k d h.
          elim (inserted index p i k w h) [
            | inl q ↦ old k (get_or (insert index i p) k no_place) d q.1 (omega (arith, q.0))
            | inr (inl q) ↦ ap (λ (z : Place). (get_or (changes ++ x ∷ []) z.at d).csn) q.1 ∙ ap (λ (z : Change). z.csn) (get_or-append_seam changes x [] d) ∙ sym (ap (λ (z : Place). z.csn) q.1)
            | inr (inr q) ↦ old q.0 (get_or (insert index i p) k no_place) d q.4 q.3
          ];
      all = λ k h.
          elim (cases_lt k (length changes)) [
            | inl l ↦ (let q = is.all k l in moved k q.0 q.1 q.2)
            | inr l ↦ (i, omega arith, ap (λ (z : Place). z.at) (get_or-insert_at index i p no_place w) ∙ last k l h)
          ];
    }
  where
    old : (m : ℕ) (z : Place) (d : Change) → z ≡ get_or index m no_place → m < length index → (get_or (changes ++ x ∷ []) z.at d).csn ≡ z.csn
    old m z d e l =
        ap (λ (y : Place). (get_or (changes ++ x ∷ []) y.at d).csn) e ∙ ap (λ (y : Change). y.csn) (get_or-append changes (x ∷ []) d (get_or index m no_place).at (is.within m l))
        ∙ is.csns m d l ∙ sym (ap (λ (y : Place). y.csn) e)

    last : (k : ℕ) → length changes ≤ k → k < length (changes ++ x ∷ []) → length changes ≡ k
    last k l h = let nc : length (changes ++ x ∷ []) ≡ length changes + 1 = length-append changes (x ∷ []) in omega arith

    moved : (k j : ℕ) → j < length index → (get_or index j no_place).at ≡ k → (m : ℕ) × (m < length (insert index i (record { csn = x.csn; at = length changes }))) × ((get_or (insert index i (record { csn = x.csn; at = length changes })) m no_place).at ≡ k)
    moved k j l e =
        let p : Place = record { csn = x.csn; at = length changes } in
        let n : length (insert index i p) ≡ length index + 1 = length-insert index i p w in
        elim (cases_lt j i) [
          | inl m ↦ (j, omega arith, ap (λ (z : Place). z.at) (get_or-insert_below index i p no_place j m w) ∙ e)
          | inr m ↦ (j + 1, omega arith, ap (λ (z : Place). z.at) (get_or-insert_above index i p no_place j m w) ∙ e)
        ]

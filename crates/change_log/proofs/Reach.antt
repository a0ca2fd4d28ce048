-- The least CSN beyond one vector and within another, by the places of an index.
use Rattle.std.proofs.Common.{◌≡◌, ℕ, ◌+◌, ◌<◌, ◌≤◌, Bool, true, false, not, ◌&&◌, inl, inr, List, refl, sym, ap, subst, ◌∙◌, arith, ◌==◌, get_or, length, Contains, eqb-true, eq-eqb, ltb-false, Option, Some, None}
use Rattle.std.proofs.lemmas.Bool.{cases_Bool, cases_eq, cases_lt, and_parts, and_from, not-false}
use Rattle.std.specs.List.{All}
use Rattle.repl_data.specs.declared.csn.Csn.{Csn}
use Rattle.repl_data.specs.declared.change.Change.{Change}
use Rattle.repl_data.specs.Order.{csn_lt, csn_le, zero_csn}
use Rattle.vector_core.specs.Vector.{entry_of}
use Rattle.vector_core.proofs.Lists.{if_true, if_false}
use Rattle.repl_data.proofs.CsnTests.{csn_lt-irreflexive, csn_lt-one_way, csn_lt-le_trans, csn_lt-zero, csn_le-from_not, csn_not-from_le}
use Rattle.vector_core.proofs.Greatests.{at_most-trans}
use Rattle.vector_core.proofs.Entries.{entry_none, entry_or_none}
use Rattle.change_log.specs.declared.index.Place.{Place}
use Rattle.change_log.specs.Log.{is_between}
use Rattle.change_log.specs.Index.{place_lt, no_place, IsRising, IsIndex, is_upto, is_in_reach, IsLeastPlace, HasNoPlace, lower_place, IsBestOf, IsLeastOf}
use Rattle.change_log.proofs.Places.{place_lt-same, place_cases, upto_here, upto_else}

abbrev Below : List Place → ℕ → Csn → ℕ → Type 0
Below xs o beyond at = (k : ℕ) → k < at → is_upto o beyond (get_or xs k no_place).csn ≡ true

abbrev Above : List Place → ℕ → Csn → ℕ → Type 0
Above xs o beyond at = (k : ℕ) → at ≤ k → k < length xs → is_upto o beyond (get_or xs k no_place).csn ≡ false

-- what is in reach stands behind
behind : (xs : List Place) (beyond limit : Csn) (at k : ℕ) → Below xs limit.rid beyond at → is_in_reach beyond limit (get_or xs k no_place).csn ≡ true
    → (at ≤ k) × ((get_or xs k no_place).csn.rid ≡ limit.rid) × (csn_lt beyond (get_or xs k no_place).csn ≡ true) × (csn_le (get_or xs k no_place).csn limit ≡ true)
behind xs beyond limit at k b t =
    let x = (get_or xs k no_place).csn in
    let p = and_parts (x.rid == limit.rid) (csn_lt beyond x && csn_le x limit) t in
    let q = and_parts (csn_lt beyond x) (csn_le x limit) p.1 in
    let e : x.rid ≡ limit.rid = eqb-true x.rid limit.rid p.0 in
    let le : at ≤ k =
    elim (cases_lt k at) [
      | inl m ↦ (let u : is_upto limit.rid beyond x ≡ true = b k m in let no : not true ≡ true = ap not (sym q.0) ∙ sym (upto_here limit.rid beyond x e) ∙ u in absurd cc)
      | inr m ↦ m
    ] in
    (le, e, q.0, q.1)

pub next_here : (xs : List Place) (beyond limit : Csn) (at : ℕ) → IsRising xs → Below xs limit.rid beyond at → Above xs limit.rid beyond at → at < length xs
    → (get_or xs at no_place).csn.rid ≡ limit.rid → csn_le (get_or xs at no_place).csn limit ≡ true → IsLeastPlace xs (is_in_reach beyond limit) (get_or xs at no_place)
next_here xs beyond limit at is b a l e le =
    let x = (get_or xs at no_place).csn in
    let out : csn_lt beyond x ≡ true = not-false (csn_lt beyond x) (sym (upto_here limit.rid beyond x e) ∙ a at (omega arith) l) in
    record {
      at = (at, l, refl);
      passes = and_from (x.rid == limit.rid) (csn_lt beyond x && csn_le x limit) (eq-eqb x.rid limit.rid e) (and_from (csn_lt beyond x) (csn_le x limit) out le);
      least = λ k h t.
          let f = behind xs beyond limit at k b t in
          let y = (get_or xs k no_place).csn in
          elim (cases_lt at k) [
            | inl m ↦ csn_lt-one_way x y (sym (place_lt-same x y (e ∙ sym f.1)) ∙ is at k m h)
            | inr m ↦ (let s : at ≡ k = omega (arith, f.0) in subst (λ n. csn_lt (get_or xs n no_place).csn x ≡ false) s (csn_lt-irreflexive x))
          ];
    }

pub next_none : (xs : List Place) (beyond limit : Csn) (at : ℕ) → IsRising xs → Below xs limit.rid beyond at → Above xs limit.rid beyond at
    → (at < length xs → (get_or xs at no_place).csn.rid ≡ limit.rid → csn_le (get_or xs at no_place).csn limit ≡ true → ⊥) → HasNoPlace xs (is_in_reach beyond limit)
next_none xs beyond limit at is b a never k h =
    elim (cases_Bool (is_in_reach beyond limit (get_or xs k no_place).csn)) [
      | inr f ↦ f
      | inl t ↦
          (let f = behind xs beyond limit at k b t in
          let x = (get_or xs at no_place).csn in
          let y = (get_or xs k no_place).csn in
          let l : at < length xs = omega (arith, f.0) in
          elim (cases_lt at k) [
            | inr m ↦ (let s : k ≡ at = omega (arith, f.0) in absurd (never l (ap (λ n. (get_or xs n no_place).csn.rid) (sym s) ∙ f.1) (subst (λ n. csn_le (get_or xs n no_place).csn limit ≡ true) s f.3)))
            | inl m ↦
                (let up : place_lt x y ≡ true = is at k m h in
                let r : x.rid ≡ limit.rid =
                elim (cases_eq x.rid limit.rid) [
                  | inl e ↦ e
                  | inr d ↦
                      (let over : limit.rid ≤ x.rid = ltb-false x.rid limit.rid (sym (upto_else limit.rid beyond x d) ∙ a at (omega arith) l) in
                      elim (place_cases x y up) [ inl q ↦ absurd (omega (arith, f.1)) | inr q ↦ q.0 ∙ f.1 ])
                ] in
                let lt : csn_lt x y ≡ true = sym (place_lt-same x y (r ∙ sym f.1)) ∙ up in
                let to : csn_lt x limit ≡ true = csn_lt-le_trans x y limit lt (csn_not-from_le y limit f.3) in
                absurd (never l r (csn_le-from_not x limit (csn_lt-one_way x limit to))))
          ])
    ]

-- with the entry of the limit, in reach is between
pub reach_between : (beyond limit : List Csn) (last x : Csn) → entry_of limit last.rid ≡ last → x.rid ≡ last.rid → is_in_reach (entry_of beyond last.rid) last x ≡ is_between beyond limit x
reach_between beyond limit last x e r =
    ap (λ b. b && (csn_lt (entry_of beyond last.rid) x && csn_le x last)) (eq-eqb x.rid last.rid r)
    ∙ ap (λ o. csn_lt (entry_of beyond o) x && csn_le x last) (sym r)
    ∙ ap (λ z. csn_lt (entry_of beyond x.rid) x && csn_le x z) (sym e ∙ ap (λ o. entry_of limit o) (sym r))

reach_rid : (beyond last x : Csn) → is_in_reach beyond last x ≡ true → x.rid ≡ last.rid
reach_rid beyond last x t = eqb-true x.rid last.rid (and_parts (x.rid == last.rid) (csn_lt beyond x && csn_le x last) t).0

pub best_none : (xs : List Place) (test : Csn → Bool) (limit : List Csn) → IsBestOf xs test limit 0 None
best_none xs test limit = λ k j h l e. absurd (omega arith)

-- one more entry of the limit
pub best_more : (xs : List Place) (beyond limit : List Csn) (n : ℕ) (last : Csn) (best next : Option Place) → last ≡ get_or limit n zero_csn → entry_of limit last.rid ≡ last
    → IsBestOf xs (is_between beyond limit) limit n best → IsLeastOf xs (is_in_reach (entry_of beyond last.rid) last) next → IsBestOf xs (is_between beyond limit) limit (n + 1) (lower_place best next)
best_more xs beyond limit n last None None here e old new = λ k j h l r.
    elim (cases_lt j n) [
      | inl m ↦ old k j h m r
      | inr m ↦ (let s : j ≡ n = omega arith in let q = sym r ∙ ap (λ i. (get_or limit i zero_csn).rid) s ∙ ap (λ (z : Csn). z.rid) (sym here) in sym (reach_between beyond limit last (get_or xs k no_place).csn e q) ∙ new k h)
    ]
best_more xs beyond limit n last None (Some q) here e old new =
    let test = is_between beyond limit in
    record {
      at = new.at;
      passes = sym (reach_between beyond limit last q.csn e (reach_rid (entry_of beyond last.rid) last q.csn new.passes)) ∙ new.passes;
      least = λ k j h l r t.
          elim (cases_lt j n) [
            | inl m ↦ (let f = old k j h m r in absurd cc)
            | inr m ↦ (let s : j ≡ n = omega arith in let w = sym r ∙ ap (λ i. (get_or limit i zero_csn).rid) s ∙ ap (λ (z : Csn). z.rid) (sym here) in new.least k h (reach_between beyond limit last (get_or xs k no_place).csn e w ∙ t))
          ];
    }
best_more xs beyond limit n last (Some p) None here e old new = record {
  at = old.at;
  passes = old.passes;
  least = λ k j h l r t.
      elim (cases_lt j n) [
        | inl m ↦ old.least k j h m r t
        | inr m ↦ (let s : j ≡ n = omega arith in let w = sym r ∙ ap (λ i. (get_or limit i zero_csn).rid) s ∙ ap (λ (z : Csn). z.rid) (sym here) in
            let f = new k h in let g = reach_between beyond limit last (get_or xs k no_place).csn e w ∙ t in absurd cc)
      ];
}
best_more xs beyond limit n last (Some p) (Some q) here e old new =
    elim (cases_Bool (csn_lt q.csn p.csn)) [
      | inl lt ↦
          subst (λ z. IsBestOf xs (is_between beyond limit) limit (n + 1) z) (sym (if_true (Some q) (Some p) lt))
          (record {
            at = new.at;
            passes = sym (reach_between beyond limit last q.csn e (reach_rid (entry_of beyond last.rid) last q.csn new.passes)) ∙ new.passes;
            least = λ k j h l r t.
                elim (cases_lt j n) [
                  | inl m ↦ csn_lt-one_way q.csn (get_or xs k no_place).csn (csn_lt-le_trans q.csn p.csn (get_or xs k no_place).csn lt (old.least k j h m r t))
                  | inr m ↦ (let s : j ≡ n = omega arith in let w = sym r ∙ ap (λ i. (get_or limit i zero_csn).rid) s ∙ ap (λ (z : Csn). z.rid) (sym here) in new.least k h (reach_between beyond limit last (get_or xs k no_place).csn e w ∙ t))
                ];
          })
      | inr ge ↦
          subst (λ z. IsBestOf xs (is_between beyond limit) limit (n + 1) z) (sym (if_false (Some q) (Some p) ge))
          (record {
            at = old.at;
            passes = old.passes;
            least = λ k j h l r t.
                elim (cases_lt j n) [
                  | inl m ↦ old.least k j h m r t
                  | inr m ↦ (let s : j ≡ n = omega arith in let w = sym r ∙ ap (λ i. (get_or limit i zero_csn).rid) s ∙ ap (λ (z : Csn). z.rid) (sym here) in
                      at_most-trans p.csn q.csn (get_or xs k no_place).csn ge (new.least k h (reach_between beyond limit last (get_or xs k no_place).csn e w ∙ t)))
                ];
          })
    ]

-- what is between is of an originator that the limit has
limit_has : (beyond limit : List Csn) (x : Csn) → is_between beyond limit x ≡ true → (j : ℕ) × (j < length limit) × ((get_or limit j zero_csn).rid ≡ x.rid)
limit_has beyond limit x t =
    let p = and_parts (csn_lt (entry_of beyond x.rid) x) (csn_le x (entry_of limit x.rid)) t in
    elim (entry_or_none limit x.rid) [
      | inl h ↦ (h.1.0, h.1.1, ap (λ (z : Csn). z.rid) h.1.2 ∙ h.2)
      | inr h ↦
          (let z : entry_of limit x.rid ≡ zero_csn = entry_none limit x.rid h in
          let le : csn_le x zero_csn ≡ true = subst (λ y. csn_le x y ≡ true) z p.1 in
          let low : csn_lt (entry_of beyond x.rid) zero_csn ≡ true = csn_lt-le_trans (entry_of beyond x.rid) x zero_csn p.0 (csn_not-from_le x zero_csn le) in
          let no = csn_lt-zero (entry_of beyond x.rid) in absurd cc)
    ]

pub best_all : (xs : List Place) (beyond limit : List Csn) (best : Option Place) → IsBestOf xs (is_between beyond limit) limit (length limit) best → IsLeastOf xs (is_between beyond limit) best
best_all xs beyond limit None old = λ k h.
    elim (cases_Bool (is_between beyond limit (get_or xs k no_place).csn)) [
      | inr f ↦ f
      | inl t ↦ (let j = limit_has beyond limit (get_or xs k no_place).csn t in old k j.0 h j.1 j.2)
    ]
best_all xs beyond limit (Some p) old = record {
  at = old.at;
  passes = old.passes;
  least = λ k h t. let j = limit_has beyond limit (get_or xs k no_place).csn t in old.least k j.0 h j.1 j.2 t;
}

-- THE CHANGES OF AN INDEX

-- the CSN of a change stands in the index
change_at : (index : List Place) (changes : List Change) (is : IsIndex index changes) (k : ℕ) (d : Change) → k < length changes
    → (i : ℕ) × (i < length index) × ((get_or index i no_place).csn ≡ (get_or changes k d).csn)
change_at index changes is k d h =
    let a = is.all k h in
    (a.0, a.1, sym (is.csns a.0 d a.1) ∙ ap (λ n. (get_or changes n d).csn) a.2)

pub none_passes : (index : List Place) (changes : List Change) (test : Csn → Bool) → IsIndex index changes → HasNoPlace index test → All (λ (c : Change). test c.csn ≡ false) changes
none_passes index changes test is h = λ k d l.
    let a = change_at index changes is k d l in
    subst (λ z. test z ≡ false) a.2 (h a.0 a.1)

pub none_lower : (index : List Place) (changes : List Change) (test : Csn → Bool) (place : Place) → IsIndex index changes → IsLeastPlace index test place
    → All (λ (c : Change). test c.csn ≡ true → csn_le place.csn c.csn ≡ true) changes
none_lower index changes test place is h = λ k d l t.
    let a = change_at index changes is k d l in
    csn_le-from_not place.csn (get_or changes k d).csn
    (subst (λ z. csn_lt z place.csn ≡ false) a.2 (h.least a.0 a.1 (subst (λ z. test z ≡ true) (sym a.2) t)))

pub place_within : (index : List Place) (changes : List Change) (test : Csn → Bool) (place : Place) → IsIndex index changes → IsLeastPlace index test place → place.at < length changes
place_within index changes test place is h = subst (λ (z : Place). z.at < length changes) h.at.2 (is.within h.at.0 h.at.1)

pub place_csn : (index : List Place) (changes : List Change) (test : Csn → Bool) (place : Place) (d : Change) → IsIndex index changes → IsLeastPlace index test place → (get_or changes place.at d).csn ≡ place.csn
place_csn index changes test place d is h = subst (λ (z : Place). (get_or changes z.at d).csn ≡ z.csn) h.at.2 (is.csns h.at.0 d h.at.1)

pub stands_in : (changes : List Change) (k : ℕ) (x : Change) → k < length changes → get_or changes k x ≡ x → Contains changes x
stands_in changes k x l e = (k, l, e)

-- Vectors with the same entries are the same, and a CSN above all others comes to stand at the end.
use Rattle.std.proofs.Common.{◌≡◌, ◌≢◌, ℕ, ◌<◌, zero, suc, inl, inr, List, [], ◌∷◌, ◌++◌, refl, sym, ap, subst, ◌∙◌, arith, get_or, length, ◌==◌, eqb-true, ne_eqb, filter}
use Rattle.std.specs.List.{insert}
use Rattle.std.proofs.lemmas.Bool.{cases_eq}
use Rattle.repl_data.specs.declared.csn.Csn.{Csn}
use Rattle.repl_data.specs.Order.{zero_csn}
use Rattle.vector_core.specs.Greatest.{greatest}
use Rattle.vector_core.specs.Vector.{IsVector, entry_of, IsRaised}
use Rattle.vector_core.proofs.Lists.{Contains-filter, if_false}
use Rattle.vector_core.proofs.Greatests.{greatest-among}
use Rattle.vector_core.proofs.Entries.{At, HasNone, Contains-At, entry_here, entry_none, insert_step}

-- an entry that is not zero stands somewhere
there : (v : List Csn) (o : ℕ) (c : Csn) → entry_of v o ≡ c → c ≢ zero_csn → At v c × (c.rid ≡ o)
there v o c e nz =
    elim (greatest-among (filter (λ (x : Csn). x.rid == o) v)) [
      | inl z ↦ absurd (nz (sym e ∙ z))
      | inr q ↦
          (let f = Contains-filter (λ (x : Csn). x.rid == o) v (entry_of v o) q in
          (subst (λ x. At v x) e (Contains-At v (entry_of v o) f.0), ap (λ (x : Csn). x.rid) (sym e) ∙ eqb-true (entry_of v o).rid o f.1))
    ]

first_is : (c : Csn) (cs : List Csn) → IsVector (c ∷ cs) → (entry_of (c ∷ cs) c.rid ≡ c) × (c ≢ zero_csn)
first_is c cs v = (entry_here (c ∷ cs) c.rid c v (0, omega arith, refl) refl, v.kept 0 (omega arith))

rest_is : (c : Csn) (cs : List Csn) → IsVector (c ∷ cs) → IsVector cs
rest_is c cs v = record {
  rising = λ i j lt le. v.rising (suc i) (suc j) (omega arith) (omega arith);
  kept = λ i lt. v.kept (suc i) (omega arith);
}

-- of the entries behind the first, none is of its originator
none_behind : (c : Csn) (cs : List Csn) → IsVector (c ∷ cs) → HasNone cs c.rid
none_behind c cs v k lt e = let up = v.rising 0 (suc k) (omega arith) (omega arith) in absurd (omega arith)

rest_entries : (c : Csn) (cs : List Csn) (o : ℕ) → c.rid ≢ o → entry_of (c ∷ cs) o ≡ entry_of cs o
rest_entries c cs o ne = ap greatest (if_false (c ∷ filter (λ (x : Csn). x.rid == o) cs) (filter (λ (x : Csn). x.rid == o) cs) (ne_eqb c.rid o ne))

abbrev SameEntries : List Csn → List Csn → Type 0
SameEntries v w = (o : ℕ) → entry_of v o ≡ entry_of w o

not_empty : (d : Csn) (ds : List Csn) → IsVector (d ∷ ds) → entry_of [] d.rid ≡ entry_of (d ∷ ds) d.rid → ⊥
not_empty d ds w e =
    let f = first_is d ds w in
    f.1 (sym f.0 ∙ sym e ∙ entry_none [] d.rid (λ k lt. absurd (omega arith)))

first_same : (c d : Csn) (cs ds : List Csn) → IsVector (c ∷ cs) → IsVector (d ∷ ds) → SameEntries (c ∷ cs) (d ∷ ds) → c ≡ d
first_same c d cs ds v w same =
    let f = first_is c cs v in
    let g = first_is d ds w in
    let a = there (d ∷ ds) c.rid c (sym (same c.rid) ∙ f.0) f.1 in
    let b = there (c ∷ cs) d.rid d (same d.rid ∙ g.0) g.1 in
    by_place a.0.0 b.0.0 a.0.1 b.0.1 a.0.2 b.0.2
  where
    by_place : (i j : ℕ) → i < length (d ∷ ds) → j < length (c ∷ cs) → get_or (d ∷ ds) i zero_csn ≡ c → get_or (c ∷ cs) j zero_csn ≡ d → c ≡ d
    by_place zero j hi hj e f = sym e
    by_place (suc i) zero hi hj e f = f
    by_place (suc i) (suc j) hi hj e f =
        let p = w.rising 0 (suc i) (omega arith) hi in
        let q = v.rising 0 (suc j) (omega arith) hj in
        let re : (get_or (d ∷ ds) (suc i) zero_csn).rid ≡ c.rid = ap (λ (x : Csn). x.rid) e in
        let rf : (get_or (c ∷ cs) (suc j) zero_csn).rid ≡ d.rid = ap (λ (x : Csn). x.rid) f in
        absurd (omega arith)

pub same_vectors : (v w : List Csn) → IsVector v → IsVector w → SameEntries v w → v ≡ w
same_vectors [] [] v w same = refl
same_vectors [] (d ∷ ds) v w same = absurd (not_empty d ds w (same d.rid))
same_vectors (c ∷ cs) [] v w same = absurd (not_empty c cs v (sym (same c.rid)))
same_vectors (c ∷ cs) (d ∷ ds) v w same =
    let e = first_same c d cs ds v w same in
    let w' = subst (λ x. IsVector (x ∷ ds)) (sym e) w in
    let same' : SameEntries (c ∷ cs) (c ∷ ds) = subst (λ x. SameEntries (c ∷ cs) (x ∷ ds)) (sym e) same in
    let rest : SameEntries cs ds = λ o.
    elim (cases_eq c.rid o) [
      | inl eq ↦
          (let n = entry_none cs o (subst (λ x. HasNone cs x) eq (none_behind c cs v)) in
          let m = entry_none ds o (subst (λ x. HasNone ds x) eq (none_behind c ds w')) in
          n ∙ sym m)
      | inr ne ↦ sym (rest_entries c cs o ne) ∙ same' o ∙ rest_entries c ds o ne
    ] in
    let k = same_vectors cs ds (rest_is c cs v) (rest_is d ds w) rest in
    ap (λ x. x ∷ cs) e ∙ ap (λ xs. d ∷ xs) k

-- a CSN of an originator above all others comes to stand at the end
at_end_of : (xs : List Csn) (c : Csn) → insert xs (length xs) c ≡ xs ++ c ∷ []
at_end_of [] c = refl
at_end_of (x ∷ xs) c = ap (λ ys. x ∷ ys) (at_end_of xs c)

pub raised_at_end : (v w : List Csn) (c : Csn) → IsVector v → IsVector w → IsRaised v w c → ((k : ℕ) → k < length v → (get_or v k zero_csn).rid < c.rid) → 0 < c.rid → w ≡ v ++ c ∷ []
raised_at_end v w c is is' r below some =
    let nz : c ≢ zero_csn = λ e. (let z : c.rid ≡ 0 = ap (λ (x : Csn). x.rid) e in absurd (omega arith)) in
    let k = insert_step v v c (length v) refl is (omega arith) below (λ i le lt. absurd (omega arith)) (λ lt. absurd (omega arith)) nz in
    same_vectors w (insert v (length v) c) is' k.0 (λ o. r o ∙ sym (k.1 o)) ∙ at_end_of v c

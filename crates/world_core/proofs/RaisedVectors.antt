-- A vector that is raised by a CSN is one, and it is the only one with its entries.
use Rattle.std.proofs.Common.{◌≡◌, ◌≢◌, ℕ, zero, suc, ◌<◌, inl, inr, List, [], ◌∷◌, length, sym, subst, ◌∙◌, arith, Contains, ◌==◌, eqb-true, eq-eqb}
use Rattle.std.specs.Prelude.{slice_index_or, if◌then◌else◌}
use Rattle.std.proofs.lemmas.Bool.{cases_Bool, true≢false}
use Rattle.std.proofs.lemmas.List.{get_or_default}
use Rattle.std.proofs.lemmas.List.Elements.{Contains-get_or}
use Rattle.repl_data.specs.declared.csn.Csn.{Csn}
use Rattle.repl_data.specs.Order.{zero_csn}
use Rattle.vector_core.specs.Greatest.{later_of}
use Rattle.vector_core.specs.Vector.{entry_of, IsVector, IsRaised}
use Rattle.vector_core.proofs.Lists.{if_true, if_false}
use Rattle.vector_core.proofs.Entries.{entry_none}
use Rattle.node_core.specs.Node.{raised}
use Rattle.node_core.proofs.Vectors.{Rises, Contains-raised, raised_rises, by_places, later_of-comm, entry_of-here, entry_of-past, entry_of-raised}
use Rattle.node_core.proofs.Listed.{same_vector}

rises_of : (v : List Csn) → ((i j : ℕ) → i < j → j < length v → (slice_index_or v i zero_csn).rid < (slice_index_or v j zero_csn).rid) → Rises v
rises_of [] h = tt
rises_of (x ∷ xs) h = (λ y c. at y c, rises_of xs (λ i j l b. h (suc i) (suc j) (omega arith) (omega arith)))
  where
    at : (y : Csn) → Contains xs y → x.rid < y.rid
    at y c =
        let l : x.rid < (slice_index_or xs c.0 zero_csn).rid = h zero (suc c.0) (omega arith) (omega (arith, c.1)) in
        subst (λ (z : Csn). x.rid < z.rid) (get_or_default xs c.0 zero_csn y c.1 ∙ c.2) l

-- a member of a vector is not zero
member_kept : (v : List Csn) (x : Csn) → IsVector v → Contains v x → x ≢ zero_csn
member_kept v x i c e = i.kept c.0 c.1 (get_or_default v c.0 zero_csn x c.1 ∙ c.2 ∙ e)

raised-vector : (c : Csn) (v : List Csn) → c ≢ zero_csn → IsVector v → IsVector (raised c v)
raised-vector c v n i = record {
  rising = by_places (raised c v) (raised_rises c v (rises_of v i.rising));
  kept = λ k l e.
      elim (Contains-raised c v (slice_index_or (raised c v) k zero_csn) (Contains-get_or (raised c v) k zero_csn l)) [
        | inl same ↦ n (same ∙ e)
        | inr m ↦ member_kept v (slice_index_or (raised c v) k zero_csn) i m e
      ];
}

raised-entries : (c : Csn) (v : List Csn) (o : ℕ) → entry_of (raised c v) o ≡ (if o == c.rid then later_of (entry_of v o) c else entry_of v o)
raised-entries c v o =
    elim (cases_Bool (o == c.rid)) [
      | inl t ↦
          (let e : o ≡ c.rid = eqb-true o c.rid t in
          entry_of-raised c v o ∙ entry_of-here c v o (sym e) ∙ later_of-comm c (entry_of v o) ∙ sym (if_true (later_of (entry_of v o) c) (entry_of v o) t))
      | inr f ↦
          entry_of-raised c v o ∙ entry_of-past c v o (λ e. true≢false (sym (eq-eqb o c.rid (sym e)) ∙ f)) ∙ sym (if_false (later_of (entry_of v o) c) (entry_of v o) f)
    ]

pub raised-only : (c : Csn) (v new : List Csn) → c ≢ zero_csn → IsVector v → IsVector new → IsRaised v new c → new ≡ raised c v
raised-only c v new n i j r = same_vector new (raised c v) j (raised-vector c v n i) (λ o. r o ∙ sym (raised-entries c v o))

pub empty-entry : (o : ℕ) → entry_of [] o ≡ zero_csn
empty-entry o = entry_none [] o (λ k h e. absurd (omega arith))

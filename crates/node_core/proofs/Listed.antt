-- A vector is the list of its entries, and how the vector of a node is listed.
use Rattle.std.proofs.Common.{◌≡◌, ◌≢◌, ℕ, ◌+◌, ◌<◌, ◌≤◌, zero, suc, Bool, true, false, ◌||◌, inl, inr, List, [], ◌∷◌, filter, refl, sym, ap, ap₂, subst, ◌∙◌, arith, get_or, length, take, ◌==◌, eq-eqb, ne_eqb, if◌then◌else◌}
use Rattle.std.specs.List.{list_any}
use Rattle.std.proofs.lemmas.Bool.{cases_Bool, cases_eq, cases_order}
use Rattle.std.proofs.lemmas.List.Folds.{list_any_more}
use Rattle.repl_data.specs.declared.csn.Csn.{Csn}
use Rattle.repl_data.specs.Order.{zero_csn, number_of}
use Rattle.repl_data.proofs.Bools.{or_true}
use Rattle.repl_data.proofs.CsnTests.{csn_lt-irreflexive}
use Rattle.vector_core.specs.Greatest.{later_of, greatest}
use Rattle.vector_core.specs.Vector.{IsVector, IsRaised, entry_of}
use Rattle.vector_core.proofs.Lists.{if_true, if_false}
use Rattle.vector_core.proofs.Greatests.{later_left, later_zero, zero_later}
use Rattle.vector_core.proofs.Entries.{entry_here, entry_none}
use Rattle.change_log.specs.Log.{csns_of}
use Rattle.node_core.specs.Node.{Node, front, vector_of}
use Rattle.node_core.specs.Sound.{IsPlain}
use Rattle.node_core.specs.Kept.{IsKept}
use Rattle.node_core.proofs.Orders.{number_of-zero, number_of-above_0}
use Rattle.node_core.proofs.Fronts.{ArePlain, entry-above, front-among, csns-in, csns-from}
use Rattle.node_core.proofs.Vectors.{entry_of-vector_of, vector_of-is}

-- ---- vectors with the same entries are the same

IsVector-tail : (x : Csn) (xs : List Csn) → IsVector (x ∷ xs) → IsVector xs
IsVector-tail x xs v = record {
  rising = λ i j l h. v.rising (suc i) (suc j) (omega arith) (omega arith);
  kept = λ i h. v.kept (suc i) (omega arith);
}

first-entry : (x : Csn) (xs : List Csn) → IsVector (x ∷ xs) → entry_of (x ∷ xs) x.rid ≡ x
first-entry x xs v = entry_here (x ∷ xs) x.rid x v (zero, omega arith, refl) refl

-- each entry behind the first is of a higher replica id
behind : (x : Csn) (xs : List Csn) → IsVector (x ∷ xs) → (k : ℕ) → k < length xs → x.rid < (get_or xs k zero_csn).rid
behind x xs v k h = v.rising zero (suc k) (omega arith) (omega arith)

-- one that is below the first has no entry
lower-none : (x : Csn) (xs : List Csn) (o : ℕ) → IsVector (x ∷ xs) → o < x.rid → entry_of (x ∷ xs) o ≡ zero_csn
lower-none x xs o v l = entry_none (x ∷ xs) o at
  where
    at : (k : ℕ) → k < length (x ∷ xs) → (get_or (x ∷ xs) k zero_csn).rid ≡ o → ⊥
    at zero h e = absurd (omega arith)
    at (suc k) h e = (let b = behind x xs v k (omega arith) in absurd (omega arith))

tail-none : (x : Csn) (xs : List Csn) → IsVector (x ∷ xs) → entry_of xs x.rid ≡ zero_csn
tail-none x xs v = entry_none xs x.rid (λ k h e. let b = behind x xs v k h in absurd (omega arith))

entry-past : (x : Csn) (xs : List Csn) (o : ℕ) → x.rid ≢ o → entry_of (x ∷ xs) o ≡ entry_of xs o
entry-past x xs o d = ap greatest (if_false (x ∷ filter (λ (c : Csn). c.rid == o) xs) (filter (λ (c : Csn). c.rid == o) xs) (ne_eqb x.rid o d))

not_first : (x : Csn) (xs : List Csn) → IsVector (x ∷ xs) → x ≡ zero_csn → ⊥
not_first x xs v e = v.kept zero (omega arith) e

pub same_vector : (xs ys : List Csn) → IsVector xs → IsVector ys → ((o : ℕ) → entry_of xs o ≡ entry_of ys o) → xs ≡ ys
same_vector [] [] v w same = refl
same_vector [] (y ∷ ys) v w same = absurd (not_first y ys w (sym (first-entry y ys w) ∙ sym (same y.rid) ∙ entry_none [] y.rid (λ k h e. absurd (omega arith))))
same_vector (x ∷ xs) [] v w same = absurd (not_first x xs v (sym (first-entry x xs v) ∙ same x.rid ∙ entry_none [] x.rid (λ k h e. absurd (omega arith))))
same_vector (x ∷ xs) (y ∷ ys) v w same =
    elim (cases_order x.rid y.rid) [
      | inr (inl l) ↦ absurd (not_first x xs v (sym (first-entry x xs v) ∙ same x.rid ∙ lower-none y ys x.rid w l))
      | inr (inr l) ↦ absurd (not_first y ys w (sym (first-entry y ys w) ∙ sym (same y.rid) ∙ lower-none x xs y.rid v l))
      | inl e ↦
          (let first : x ≡ y = sym (first-entry x xs v) ∙ same x.rid ∙ ap (entry_of (y ∷ ys)) e ∙ first-entry y ys w in
          ap₂ (λ (c : Csn) (cs : List Csn). c ∷ cs) first
          (same_vector xs ys (IsVector-tail x xs v) (IsVector-tail y ys w) (λ o.
          elim (cases_eq x.rid o) [
            | inl q ↦
                subst (λ r. entry_of xs r ≡ entry_of ys r) q
                (tail-none x xs v ∙ sym (ap (entry_of ys) e ∙ tail-none y ys w))
            | inr d ↦ sym (entry-past x xs o d) ∙ same o ∙ entry-past y ys o (λ q. d (e ∙ q))
          ])))
    ]

-- ---- the vector of a node, raised by the entries of its originators one after the other

abbrev pub is_of : ℕ → Csn → Bool
is_of o c = c.rid == o

-- the entries of a vector so far: those of the originators that came
pub record IsListed (n : Node) (heads vector : List Csn) : Type 0 where
  pub rising : IsVector vector
  pub entries : (o : ℕ) → entry_of vector o ≡ (if list_any (is_of o) heads then front n o else zero_csn)

front_rid : (n : Node) (o : ℕ) → front n o ≢ zero_csn → (front n o).rid ≡ o
front_rid n o d =
    elim (front-among n o) [
      | inl e ↦ absurd (d e)
      | inr f ↦ sym (ap (λ (z : Csn). z.rid) f.3) ∙ f.2
    ]

later_same : (c : Csn) → later_of c c ≡ c
later_same c = later_left c c (csn_lt-irreflexive c)

IsVector-nil : IsVector []
IsVector-nil = record { rising = λ i j l h. absurd (omega arith); kept = λ i h. absurd (omega arith) }

pub listed_none : (n : Node) (v : List Csn) → v ≡ [] → IsListed n [] v
listed_none n v e = record { rising = subst (λ z. IsVector z) (sym e) IsVector-nil; entries = λ o. ap (λ z. entry_of z o) e ∙ entry_none [] o (λ k h q. absurd (omega arith)) }

-- an originator that came, once more or for the first time
raised-own : (n : Node) (vector new : List Csn) (b : Bool) (o : ℕ) → IsRaised vector new (front n o) → entry_of vector o ≡ (if b then front n o else zero_csn) → entry_of new o ≡ front n o
raised-own n vector new b o raised e =
    elim (cases_eq o (front n o).rid) [
      | inl q ↦ raised o ∙ if_true (later_of (entry_of vector o) (front n o)) (entry_of vector o) (eq-eqb o (front n o).rid q) ∙ ap (λ z. later_of z (front n o)) e ∙ by_b b
      | inr d ↦
          raised o ∙ if_false (later_of (entry_of vector o) (front n o)) (entry_of vector o) (ne_eqb o (front n o).rid d) ∙ e
          ∙ none b
          (elim (front-among n o) [
            | inl z ↦ z
            | inr f ↦ absurd (d (sym (sym (ap (λ (z : Csn). z.rid) f.3) ∙ f.2)))
          ])
    ]
  where
    by_b : (b : Bool) → later_of (if b then front n o else zero_csn) (front n o) ≡ front n o
    by_b true = later_same (front n o)
    by_b false = zero_later (front n o)

    none : (b : Bool) → front n o ≡ zero_csn → (if b then front n o else zero_csn) ≡ front n o
    none true z = refl
    none false z = sym z

raised-other : (n : Node) (vector new : List Csn) (p o : ℕ) → p ≢ o → IsRaised vector new (front n p) → entry_of new o ≡ entry_of vector o
raised-other n vector new p o d raised =
    elim (cases_eq o (front n p).rid) [
      | inr q ↦ raised o ∙ if_false (later_of (entry_of vector o) (front n p)) (entry_of vector o) (ne_eqb o (front n p).rid q)
      | inl q ↦
          raised o ∙ if_true (later_of (entry_of vector o) (front n p)) (entry_of vector o) (eq-eqb o (front n p).rid q)
          ∙ elim (front-among n p) [
            | inl z ↦ ap (later_of (entry_of vector o)) z ∙ later_zero (entry_of vector o)
            | inr f ↦ absurd (d (sym (sym (ap (λ (z : Csn). z.rid) f.3) ∙ f.2) ∙ sym q))
          ]
    ]

pub listed_more : (n : Node) (heads vector new : List Csn) (i : ℕ) → i < length heads → IsListed n (take i heads) vector → IsVector new
    → IsRaised vector new (front n (get_or heads i zero_csn).rid) → IsListed n (take (i + 1) heads) new
listed_more n heads vector new i l before is raised = record {
  rising = is;
  entries = λ o.
      let more = list_any_more (is_of o) heads i zero_csn l in
      let p = (get_or heads i zero_csn).rid in
      elim (cases_eq (get_or heads i zero_csn).rid o) [
        | inl e ↦
            (let own : entry_of new o ≡ front n o = raised-own n vector new (list_any (is_of o) (take i heads)) o (subst (λ r. IsRaised vector new (front n r)) e raised) (before.entries o) in
            own ∙ sym (if_true (front n o) zero_csn (more ∙ ap (λ b. list_any (is_of o) (take i heads) || b) (eq-eqb (get_or heads i zero_csn).rid o e) ∙ or_true (list_any (is_of o) (take i heads)))))
        | inr d ↦
            raised-other n vector new (get_or heads i zero_csn).rid o d raised ∙ before.entries o
            ∙ ap (λ b. if b then front n o else zero_csn) (sym (more ∙ ap (λ b. list_any (is_of o) (take i heads) || b) (ne_eqb (get_or heads i zero_csn).rid o d) ∙ or_false (list_any (is_of o) (take i heads))))
      ];
}
  where
    or_false : (b : Bool) → (b || false) ≡ b
    or_false true = refl
    or_false false = refl

-- an originator without a head has no entry
none_of : (o : ℕ) (heads : List Csn) → list_any (is_of o) heads ≡ false → filter (is_of o) heads ≡ []
none_of o [] e = refl
none_of o (c ∷ cs) e =
    elim (cases_Bool (is_of o c)) [
      | inl t ↦ (let f : true ≡ false = sym (ap (λ b. b || list_any (is_of o) cs) t) ∙ e in absurd cc)
      | inr f ↦ if_false (c ∷ filter (is_of o) cs) (filter (is_of o) cs) f ∙ none_of o cs (sym (ap (λ b. b || list_any (is_of o) cs) f) ∙ e)
    ]

front_none : (n : Node) (heads : List Csn) (o : ℕ) → IsKept n heads → list_any (is_of o) heads ≡ false → front n o ≡ zero_csn
front_none n heads o k e =
    let none : entry_of (csns_of n.taken) o ≡ zero_csn = sym (k.entries o) ∙ ap greatest (none_of o heads e) ∙ entry_none [] o (λ j h q. absurd (omega arith)) in
    elim (front-among n o) [
      | inl z ↦ z
      | inr f ↦
          (let plain : ArePlain (csns_of n.taken) = λ x h. (let d = csns-from n.taken x h in subst (λ z. IsPlain z) d.2 (k.sound.taken_plain d.0 d.1)) in
          let low : number_of f.0.csn ≤ number_of (entry_of (csns_of n.taken) o) = entry-above (csns_of n.taken) o f.0.csn plain (csns-in n.taken f.0 f.1) f.2 in
          let z : number_of (entry_of (csns_of n.taken) o) ≡ 0 = ap number_of none ∙ number_of-zero in
          let pos : 0 < number_of f.0.csn = number_of-above_0 f.0.csn (k.sound.taken_named f.0 f.1) in
          absurd (omega arith))
    ]

pub listed_whole : (n : Node) (heads vector : List Csn) → IsKept n heads → IsListed n heads vector → vector ≡ vector_of n
listed_whole n heads vector k l =
    same_vector vector (vector_of n) l.rising (vector_of-is n k.sound) (λ o.
    l.entries o
    ∙ elim (cases_Bool (list_any (is_of o) heads)) [
      | inl t ↦ if_true (front n o) zero_csn t
      | inr f ↦ if_false (front n o) zero_csn f ∙ sym (front_none n heads o k f)
    ]
    ∙ sym (entry_of-vector_of n o))

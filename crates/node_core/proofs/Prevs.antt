-- The greatest CSN of its originator below one that is given, by its members.
use Rattle.std.proofs.Common.{◌≡◌, ◌<◌, ◌≤◌, ◌⊎◌, inl, inr, true, ◌||◌, ◌==◌, Bool, false, List, filter, refl, sym, ap, subst, ◌∙◌, Contains, eqb-true, eq-eqb}
use Rattle.std.proofs.lemmas.Bool.{and_parts, and_from, or_left, or_right}
use Rattle.repl_data.specs.declared.csn.Csn.{Csn}
use Rattle.repl_data.specs.declared.change.Change.{Change}
use Rattle.repl_data.specs.Order.{csn_lt, csn_eq, zero_csn, number_of}
use Rattle.repl_data.proofs.CsnTests.{csn_eq-same}
use Rattle.vector_core.proofs.Lists.{Contains-filter, filter-Contains}
use Rattle.vector_core.proofs.Greatests.{greatest-among, greatest_same}
use Rattle.change_log.specs.Log.{csns_of, is_before, prev_in}
use Rattle.node_core.specs.Steps.{is_prev}
use Rattle.node_core.specs.Sound.{IsPlain}
use Rattle.node_core.proofs.Orders.{number_lt, lt_number, zero_plain}
use Rattle.node_core.proofs.Fronts.{csns-in, csns-from, greatest-above}

abbrev pub TakePlain : List Change → Type 0
TakePlain taken = (c : Change) → Contains taken c → IsPlain c.csn

prev-in : (taken : List Change) (k : Csn) (c : Change) → TakePlain taken → IsPlain k → Contains taken c → c.csn.rid ≡ k.rid → number_of c.csn < number_of k → Contains (filter (is_before k) (csns_of taken)) c.csn
prev-in taken k c p q h e l =
    filter-Contains (is_before k) (csns_of taken) c.csn (csns-in taken c h)
    (and_from (c.csn.rid == k.rid) (csn_lt c.csn k) (eq-eqb c.csn.rid k.rid e) (number_lt c.csn k (p c h) q l))

-- the same, without a number
prev-from_test : (taken : List Change) (k x : Csn) → Contains (filter (is_before k) (csns_of taken)) x → (c : Change) × Contains taken c × (c.csn.rid ≡ k.rid) × (c.csn ≡ x) × (csn_lt x k ≡ true)
prev-from_test taken k x h =
    let g = Contains-filter (is_before k) (csns_of taken) x h in
    let f = csns-from taken x g.0 in
    let b = and_parts (x.rid == k.rid) (csn_lt x k) g.1 in
    (f.0, f.1, ap (λ (z : Csn). z.rid) f.2 ∙ eqb-true x.rid k.rid b.0, f.2, b.1)

prev-from : (taken : List Change) (k x : Csn) → TakePlain taken → IsPlain k → Contains (filter (is_before k) (csns_of taken)) x → (c : Change) × Contains taken c × (c.csn.rid ≡ k.rid) × (c.csn ≡ x) × (number_of c.csn < number_of k)
prev-from taken k x p q h =
    let f = prev-from_test taken k x h in
    (f.0, f.1, f.2, f.3, lt_number f.0.csn k (p f.0 f.1) q (subst (λ z. csn_lt z k ≡ true) (sym f.3) f.4))

pub prev-above : (taken : List Change) (k : Csn) (c : Change) → TakePlain taken → IsPlain k → Contains taken c → c.csn.rid ≡ k.rid → number_of c.csn < number_of k → number_of c.csn ≤ number_of (prev_in taken k)
prev-above taken k c p q h e l =
    greatest-above (filter (is_before k) (csns_of taken)) c.csn
    (λ x m. (let f = prev-from_test taken k x m in subst (λ z. IsPlain z) f.3 (p f.0 f.1)))
    (prev-in taken k c p q h e l)

-- two lists with the same changes of the originator below k have one prev
pub prev_same : (xs ys : List Change) (k : Csn) → TakePlain xs → TakePlain ys → IsPlain k → ((c : Change) → c.csn.rid ≡ k.rid → number_of c.csn < number_of k → Contains xs c → Contains ys c) → ((c : Change) → c.csn.rid ≡ k.rid → number_of c.csn < number_of k → Contains ys c → Contains xs c) → prev_in xs k ≡ prev_in ys k
prev_same xs ys k p p' q there back =
    greatest_same (filter (is_before k) (csns_of xs)) (filter (is_before k) (csns_of ys))
    (λ x h. (let f = prev-from xs k x p q h in subst (λ z. Contains (filter (is_before k) (csns_of ys)) z) f.3 (prev-in ys k f.0 p' q (there f.0 f.2 f.4 f.1) f.2 f.4)))
    (λ x h. (let f = prev-from ys k x p' q h in subst (λ z. Contains (filter (is_before k) (csns_of xs)) z) f.3 (prev-in xs k f.0 p q (back f.0 f.2 f.4 f.1) f.2 f.4)))

-- a prev that is the greatest below is well formed
pub prev_in-fits : (taken : List Change) (k : Csn) → TakePlain taken → is_prev (prev_in taken k) k ≡ true
prev_in-fits taken k plain =
    elim (greatest-among (filter (is_before k) (csns_of taken))) [
      | inl e ↦ or_left (csn_eq (prev_in taken k) zero_csn) _ (subst (λ z. csn_eq z zero_csn ≡ true) (sym e) (csn_eq-same zero_csn))
      | inr q ↦
          (let f = prev-from_test taken k (prev_in taken k) q in
          let pl : IsPlain (prev_in taken k) = subst (λ z. IsPlain z) f.3 (plain f.0 f.1) in
          or_right (csn_eq (prev_in taken k) zero_csn) _
          (and_from ((prev_in taken k).rid == k.rid) _ (eq-eqb (prev_in taken k).rid k.rid (ap (λ (z : Csn). z.rid) (sym f.3) ∙ f.2))
          (and_from ((prev_in taken k).sub == 0) (csn_lt (prev_in taken k) k) (eq-eqb (prev_in taken k).sub 0 pl.no_part) f.4)))
    ]

-- a prev is zero or the CSN of a change below, and plain
pub prev-among : (taken : List Change) (k : Csn) → TakePlain taken → IsPlain k → ((prev_in taken k ≡ zero_csn) ⊎ ((c : Change) × Contains taken c × (c.csn.rid ≡ k.rid) × (c.csn ≡ prev_in taken k) × (number_of c.csn < number_of k))) × IsPlain (prev_in taken k)
prev-among taken k p q =
    elim (greatest-among (filter (is_before k) (csns_of taken))) [
      | inl e ↦ (inl e, subst (λ z. IsPlain z) (sym e) zero_plain)
      | inr h ↦ (let f = prev-from taken k (prev_in taken k) p q h in (inr f, subst (λ z. IsPlain z) f.3 (p f.0 f.1)))
    ]

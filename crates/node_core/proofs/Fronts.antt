-- The greatest of plain CSNs, and the entries of a node's vector, by their members.
use Rattle.std.proofs.Common.{◌≡◌, ℕ, ◌<◌, ◌≤◌, ◌≢◌, true, ◌⊎◌, inl, inr, List, filter, refl, sym, ap, subst, ◌∙◌, Contains, ◌==◌, eqb-true, eq-eqb, ne_eqb}
use Rattle.std.proofs.lemmas.Bool.{cases_eq}
use Rattle.repl_data.specs.declared.csn.Csn.{Csn}
use Rattle.repl_data.specs.declared.change.Change.{Change}
use Rattle.repl_data.specs.Order.{csn_lt, zero_csn, number_of}
use Rattle.vector_core.specs.Greatest.{greatest}
use Rattle.vector_core.specs.Vector.{entry_of}
use Rattle.vector_core.proofs.Lists.{if_true, if_false, Contains-filter, filter-Contains, map-Contains, Contains-map, list_all-Contains, Contains-list_all}
use Rattle.pending_core.specs.Pending.{is_free}
use Rattle.change_log.specs.Log.{csns_of}
use Rattle.node_core.specs.Node.{Node, counted, front}
use Rattle.node_core.specs.Sound.{IsPlain, IsSoundNode}
use Rattle.node_core.proofs.Orders.{number_of-zero, zero_plain, number_lt, lt_number, not_lt_number}
use Rattle.vector_core.proofs.Greatests.{greatest-among}
use Rattle.vector_core.proofs.Greatests.{greatest-above as greatest-not_below}

abbrev pub ArePlain : List Csn → Type 0
ArePlain xs = (x : Csn) → Contains xs x → IsPlain x

pub greatest_plain : (xs : List Csn) → ArePlain xs → IsPlain (greatest xs)
greatest_plain xs p =
    elim (greatest-among xs) [
      | inl e ↦ subst (λ z. IsPlain z) (sym e) zero_plain
      | inr q ↦ p (greatest xs) q
    ]

pub greatest-above : (xs : List Csn) (x : Csn) → ArePlain xs → Contains xs x → number_of x ≤ number_of (greatest xs)
greatest-above xs x p h = not_lt_number (greatest xs) x (greatest_plain xs p) (p x h) (greatest-not_below xs x h)

-- ---- the entry of a list for an originator

pub entry-above : (xs : List Csn) (o : ℕ) (x : Csn) → ArePlain xs → Contains xs x → x.rid ≡ o → number_of x ≤ number_of (entry_of xs o)
entry-above xs o x p h e =
    greatest-above (filter (λ (c : Csn). c.rid == o) xs) x (λ y q. p y (Contains-filter (λ (c : Csn). c.rid == o) xs y q).0)
    (filter-Contains (λ (c : Csn). c.rid == o) xs x h (eq-eqb x.rid o e))

pub entry-among : (xs : List Csn) (o : ℕ) → (entry_of xs o ≡ zero_csn) ⊎ (Contains xs (entry_of xs o) × ((entry_of xs o).rid ≡ o))
entry-among xs o =
    elim (greatest-among (filter (λ (c : Csn). c.rid == o) xs)) [
      | inl e ↦ inl e
      | inr q ↦ (let f = Contains-filter (λ (c : Csn). c.rid == o) xs (entry_of xs o) q in inr (f.0, eqb-true (entry_of xs o).rid o f.1))
    ]

-- ---- what is counted

pub counted-other : (n : Node) (o : ℕ) → o ≢ n.rid → counted n o ≡ csns_of n.taken
counted-other n o d = if_false (filter (is_free n.pending) (csns_of n.taken)) (csns_of n.taken) (ne_eqb o n.rid d)

pub counted-own : (n : Node) → counted n n.rid ≡ filter (is_free n.pending) (csns_of n.taken)
counted-own n = if_true (filter (is_free n.pending) (csns_of n.taken)) (csns_of n.taken) (eq-eqb n.rid n.rid refl)

pub csns-in : (taken : List Change) (c : Change) → Contains taken c → Contains (csns_of taken) c.csn
csns-in taken c h = map-Contains (λ (d : Change). d.csn) taken c h

pub csns-from : (taken : List Change) (x : Csn) → Contains (csns_of taken) x → (c : Change) × Contains taken c × (c.csn ≡ x)
csns-from taken x h = Contains-map (λ (d : Change). d.csn) taken x h

-- what is counted is taken
pub counted-from : (n : Node) (o : ℕ) (x : Csn) → Contains (counted n o) x → (c : Change) × Contains n.taken c × (c.csn ≡ x)
counted-from n o x h =
    elim (cases_eq o n.rid) [
      | inl e ↦
          csns-from n.taken x
          (Contains-filter (is_free n.pending) (csns_of n.taken) x
          (subst (λ z. Contains z x) (ap (counted n) e ∙ counted-own n) h)).0
      | inr d ↦ csns-from n.taken x (subst (λ z. Contains z x) (counted-other n o d) h)
    ]

pub counted_plain : (n : Node) (o : ℕ) → IsSoundNode n → ArePlain (counted n o)
counted_plain n o s x h = (let f = counted-from n o x h in subst (λ z. IsPlain z) f.2 (s.taken_plain f.0 f.1))

pub front_plain : (n : Node) (o : ℕ) → IsSoundNode n → IsPlain (front n o)
front_plain n o s =
    greatest_plain (filter (λ (c : Csn). c.rid == o) (counted n o))
    (λ x h. counted_plain n o s x (Contains-filter (λ (c : Csn). c.rid == o) (counted n o) x h).0)

-- ---- any entry

-- it is zero, or the CSN of a change of the originator that is taken
pub front-among : (n : Node) (o : ℕ) → (front n o ≡ zero_csn) ⊎ ((c : Change) × Contains n.taken c × (c.csn.rid ≡ o) × (c.csn ≡ front n o))
front-among n o =
    elim (entry-among (counted n o) o) [
      | inl e ↦ inl e
      | inr q ↦ (let f = counted-from n o (front n o) q.0 in inr (f.0, f.1, ap (λ (z : Csn). z.rid) f.2 ∙ q.1, f.2))
    ]

-- ---- the entry of another

pub front_other-above : (n : Node) (o : ℕ) → IsSoundNode n → o ≢ n.rid → (c : Change) → Contains n.taken c → c.csn.rid ≡ o → number_of c.csn ≤ number_of (front n o)
front_other-above n o s d c m e =
    entry-above (counted n o) o c.csn (counted_plain n o s) (subst (λ z. Contains z c.csn) (sym (counted-other n o d)) (csns-in n.taken c m)) e

-- ---- the own entry

pub is_free-from : (n : Node) (c : Csn) → IsSoundNode n → IsPlain c → ((p : Csn) → Contains n.pending p → number_of c < number_of p) → is_free n.pending c ≡ true
is_free-from n c s plain h = Contains-list_all (λ p. csn_lt c p) n.pending (λ p q. number_lt c p plain (s.pending_plain p q) (h p q))

pub is_free-below : (n : Node) (c p : Csn) → IsSoundNode n → IsPlain c → is_free n.pending c ≡ true → Contains n.pending p → number_of c < number_of p
is_free-below n c p s plain e q = lt_number c p plain (s.pending_plain p q) (list_all-Contains (λ p. csn_lt c p) n.pending p e q)

pub front_own-above : (n : Node) (c : Change) → IsSoundNode n → Contains n.taken c → c.csn.rid ≡ n.rid → ((p : Csn) → Contains n.pending p → number_of c.csn < number_of p) → number_of c.csn ≤ number_of (front n n.rid)
front_own-above n c s m e free =
    entry-above (counted n n.rid) n.rid c.csn (counted_plain n n.rid s)
    (subst (λ z. Contains z c.csn) (sym (counted-own n))
    (filter-Contains (is_free n.pending) (csns_of n.taken) c.csn (csns-in n.taken c m) (is_free-from n c.csn s (s.taken_plain c m) free)))
    e

pub front_own-among : (n : Node) → IsSoundNode n → (front n n.rid ≡ zero_csn) ⊎ ((c : Change) × Contains n.taken c × (c.csn.rid ≡ n.rid) × (c.csn ≡ front n n.rid) × ((p : Csn) → Contains n.pending p → number_of c.csn < number_of p))
front_own-among n s =
    elim (entry-among (counted n n.rid) n.rid) [
      | inl e ↦ inl e
      | inr q ↦
          (let g = Contains-filter (is_free n.pending) (csns_of n.taken) (front n n.rid) (subst (λ z. Contains z (front n n.rid)) (counted-own n) q.0) in
          let f = csns-from n.taken (front n n.rid) g.0 in
          inr (
            f.0,
            f.1,
            ap (λ (z : Csn). z.rid) f.2 ∙ q.1,
            f.2,
            λ p w. is_free-below n f.0.csn p s (s.taken_plain f.0 f.1) (subst (λ z. is_free n.pending z ≡ true) (sym f.2) g.1) w,
          ))
    ]

-- an entry that is zero is below every CSN that names an originator
pub front-zero : (n : Node) (o : ℕ) → front n o ≡ zero_csn → number_of (front n o) ≡ 0
front-zero n o e = ap number_of e ∙ number_of-zero

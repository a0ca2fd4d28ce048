-- The laws over every run.
use Rattle.std.proofs.Common.{◌≡◌, ℕ, zero, suc, ◌+◌, ◌<◌, ◌≤◌, inl, inr, List, [], ◌∷◌, ◌++◌, refl, sym, ap, subst, ◌∙◌, arith, Contains, length, slice_index_or}
use Rattle.std.proofs.lemmas.Bool.{cases_eq}
use Rattle.repl_data.specs.declared.change.Change.{Change}
use Rattle.repl_data.specs.declared.change.Suffix.{Suffix}
use Rattle.repl_data.specs.declared.change.Update.{Update}
use Rattle.repl_data.specs.Order.{zero_csn, number_of}
use Rattle.vector_core.specs.Vector.{entry_of}
use Rattle.vector_core.proofs.Lists.{Contains-nil}
use Rattle.node_core.specs.Node.{Node, new_node, front, vector_of}
use Rattle.node_core.specs.Steps.{Judge}
use Rattle.node_core.specs.Sound.{IsSoundNode}
use Rattle.node_core.proofs.Orders.{number_of-zero}
use Rattle.node_core.proofs.Fronts.{front-among, front_own-above, front_other-above}
use Rattle.node_core.proofs.Vectors.{entry_of-vector_of}
use Rattle.node_core.proofs.Moves.{goes_on-refl, goes_on-then}
use Rattle.node_core.proofs.OwnEntries.{own_entry}
use Rattle.world_core.specs.World.{World, Deed, after, after_all, no_suffix, node_of, node_in, new_world, nodes_from, updates_of}
use Rattle.world_core.specs.Laws.{IsNode, AreSound, AreHonest, IsLawful, IsHonest, May, IsRun, IsHonestRun, HasRun, AllGoOn, IsOwnEntry, OwnEntriesExact, AllAgree, law_of_draws, law_of_own_entries, law_of_prefixes, law_of_agreement}
use Rattle.world_core.proofs.Events.{after-advances}
use Rattle.world_core.proofs.Kept.{ready, after-lawful, after-honest}

pub lawful_all : (judge : Judge) (w : World) (ds : List Deed) → IsRun judge w ds → IsLawful w → IsLawful (after_all judge w ds)
lawful_all judge w [] r l = l
lawful_all judge w (d ∷ ds) r l = lawful_all judge (after judge w d) ds r.1 (after-lawful judge w d l r.0)

pub honest_all : (judge : Judge) (w : World) (ds : List Deed) → IsRun judge w ds → IsHonestRun judge w ds → IsLawful w → IsHonest w → IsHonest (after_all judge w ds)
honest_all judge w [] r h l k = k
honest_all judge w (d ∷ ds) r h l k =
    honest_all judge (after judge w d) ds r.1 h.1 (after-lawful judge w d l r.0) (after-honest judge w d k l r.0 h.0)

pub all_go_on : (judge : Judge) (w : World) (ds : List Deed) → IsRun judge w ds → IsLawful w → AllGoOn w.nodes (after_all judge w ds).nodes
all_go_on judge w [] r l = λ k i. (i, goes_on-refl (node_in w k))
all_go_on judge w (d ∷ ds) r l =
    λ k i.
    (let a = (after-advances judge w d (ready w l) l.tickets r.0).on k i in
    let b = all_go_on judge (after judge w d) ds r.1 (after-lawful judge w d l r.0) k a.0 in
    (b.0, goes_on-then (node_in w k) (node_in (after judge w d) k) (node_in (after_all judge (after judge w d) ds) k) a.1 b.1))

-- ---- the new world

nodes_from-at : (suffix : Suffix) (first n i : ℕ) → i < n → slice_index_or (nodes_from suffix first n) i (new_node no_suffix 0) ≡ new_node suffix (first + i)
nodes_from-at suffix first zero i h = absurd (omega arith)
nodes_from-at suffix first (suc n) zero h = ap (new_node suffix) (let e : first ≡ first + 0 = omega arith in e)
nodes_from-at suffix first (suc n) (suc i) h = nodes_from-at suffix (first + 1) n i (omega arith) ∙ ap (new_node suffix) (let e : first + 1 + i ≡ first + suc i = omega arith in e)

length-nodes_from : (suffix : Suffix) (first n : ℕ) → length (nodes_from suffix first n) ≡ n
length-nodes_from suffix first zero = refl
length-nodes_from suffix first (suc n) = ap suc (length-nodes_from suffix (first + 1) n)

pub new-at : (suffix : Suffix) (n r : ℕ) → IsNode (nodes_from suffix 1 n) r → node_of (nodes_from suffix 1 n) r ≡ new_node suffix r
new-at suffix n zero i = absurd (let h : 0 < 0 = i.above in omega arith)
new-at suffix n (suc k) i =
    let l : length (nodes_from suffix 1 n) ≡ n = length-nodes_from suffix 1 n in
    let w : suc k ≤ length (nodes_from suffix 1 n) = i.within in
    nodes_from-at suffix 1 n k (omega arith) ∙ ap (new_node suffix) (let e : 1 + k ≡ suc k = omega arith in e)

new_sound : (suffix : Suffix) (r : ℕ) → 0 < r → r < 65535 → IsSoundNode (new_node suffix r)
new_sound suffix r low high = record {
  rid_above = low;
  rid_fits = high;
  last_fits = omega arith;
  taken_plain = λ c h. absurd (Contains-nil h);
  taken_named = λ c h. absurd (Contains-nil h);
  taken_reached = λ c h. absurd (Contains-nil h);
  pending_plain = λ p h. absurd (Contains-nil h);
  pending_own = λ p h. absurd (Contains-nil h);
  pending_reached = λ p h. absurd (Contains-nil h);
  once = λ c d h k e. absurd (Contains-nil h);
}

pub new_taken : (suffix : Suffix) (n r : ℕ) → (node_of (nodes_from suffix 1 n) r).taken ≡ []
new_taken suffix n zero = refl
new_taken suffix n (suc k) = by_get 1 n k
  where
    by_get : (first m j : ℕ) → (slice_index_or (nodes_from suffix first m) j (new_node no_suffix 0)).taken ≡ []
    by_get first zero j = refl
    by_get first (suc m) zero = refl
    by_get first (suc m) (suc j) = by_get (first + 1) m j

pub new_lawful : (suffix : Suffix) (n : ℕ) → n < 65535 → IsLawful (new_world suffix n)
new_lawful suffix n h = record {
  sound = record {
    named = λ r i. ap (λ (m : Node). m.rid) (new-at suffix n r i);
    sound = λ r i.
        subst (λ m. IsSoundNode m) (sym (new-at suffix n r i))
        (new_sound suffix r i.above (let l : length (nodes_from suffix 1 n) ≡ n = length-nodes_from suffix 1 n in let w : r ≤ length (nodes_from suffix 1 n) = i.within in omega arith));
  };
  tickets = record {
    at_node = λ t c. absurd (Contains-nil c);
    lived = λ t c. absurd (Contains-nil c);
    open_ones = λ t c. absurd (Contains-nil c);
    pending_ones = λ t c. absurd (Contains-nil c);
    apart = λ t u c. absurd (Contains-nil c);
    rising = tt;
    writes = λ t c. absurd (Contains-nil c);
  };
  offered = λ u c. absurd (Contains-nil c);
}

pub new_honest : (suffix : Suffix) (n : ℕ) → IsHonest (new_world suffix n)
new_honest suffix n = record {
  prefix = λ r o i d c e. (
    λ h. absurd (Contains-nil (subst (λ z. Contains z c) (new_taken suffix n r) h)),
    λ h. absurd (Contains-nil (subst (λ z. Contains z c) (new_taken suffix n o) h.0)),
  );
  behind = λ r o i. subst (λ z. number_of z ≤ number_of (front (node_of (nodes_from suffix 1 n) o) o)) (sym (front_of_none (node_of (nodes_from suffix 1 n) r) o (new_taken suffix n r))) (rw number_of-zero (omega arith));
  offers = λ u c. absurd (Contains-nil c);
}
  where
    front_of_none : (m : Node) (o : ℕ) → m.taken ≡ [] → front m o ≡ zero_csn
    front_of_none m o e = elim (front-among m o) [ inl f ↦ f | inr f ↦ absurd (Contains-nil (subst (λ z. Contains z f.0) e f.1)) ]

-- ---- agreement

-- with nothing pending, each change taken is at or below the vector
covered : (n : Node) → IsSoundNode n → n.pending ≡ [] → (c : Change) → Contains n.taken c → number_of c.csn ≤ number_of (front n c.csn.rid)
covered n s none c h =
    elim (cases_eq c.csn.rid n.rid) [
      | inl e ↦
          subst (λ z. number_of c.csn ≤ number_of (front n z)) (sym e)
          (front_own-above n c s h e (λ p q. absurd (Contains-nil (subst (λ z. Contains z p) none q))))
      | inr d ↦ front_other-above n c.csn.rid s d c h refl
    ]

-- one of two nodes with equal vectors holds what the other holds
holds_too : (nodes : List Node) (updates : List Update) (r s : ℕ) → IsNode nodes r → IsNode nodes s → AreSound nodes → AreHonest nodes updates → (node_of nodes r).pending ≡ [] → (node_of nodes s).pending ≡ [] → ((o : ℕ) → front (node_of nodes r) o ≡ front (node_of nodes s) o) → (c : Change) → Contains (node_of nodes r).taken c → Contains (node_of nodes s).taken c
holds_too nodes updates r s i j a h none none' same c t =
    let low : number_of c.csn ≤ number_of (front (node_of nodes r) c.csn.rid) = covered (node_of nodes r) (a.sound r i) none c t in
    let low' : number_of c.csn ≤ number_of (front (node_of nodes s) c.csn.rid) = subst (λ z. number_of c.csn ≤ number_of z) (same c.csn.rid) low in
    -- at the originator
    let origin : Contains (node_of nodes c.csn.rid).taken c =
    elim (cases_eq c.csn.rid r) [
      | inl e ↦ subst (λ z. Contains (node_of nodes z).taken c) (sym e) t
      | inr d ↦ ((h.prefix r c.csn.rid i d c refl).0 t).0
    ] in
    elim (cases_eq c.csn.rid s) [
      | inl e ↦ subst (λ z. Contains (node_of nodes z).taken c) e origin
      | inr d ↦ (h.prefix s c.csn.rid j d c refl).1 (origin, low')
    ]

-- ---- the laws

pub after_all-append : (judge : Judge) (w : World) (ds es : List Deed) → after_all judge w (ds ++ es) ≡ after_all judge (after_all judge w ds) es
after_all-append judge w [] es = refl
after_all-append judge w (d ∷ ds) es = after_all-append judge (after judge w d) ds es

pub IsRun-append : (judge : Judge) (w : World) (ds es : List Deed) → IsRun judge w (ds ++ es) → IsRun judge w ds × IsRun judge (after_all judge w ds) es
IsRun-append judge w [] es r = (tt, r)
IsRun-append judge w (d ∷ ds) es r = (let q = IsRun-append judge (after judge w d) ds es r.1 in ((r.0, q.0), q.1))

pub IsRun-join : (judge : Judge) (w : World) (ds es : List Deed) → IsRun judge w ds → IsRun judge (after_all judge w ds) es → IsRun judge w (ds ++ es)
IsRun-join judge w [] es r q = q
IsRun-join judge w (d ∷ ds) es r q = (r.0, IsRun-join judge (after judge w d) ds es r.1 q)

-- one deed more
pub came-on : (judge : Judge) (w : World) (d : Deed) → HasRun judge w → May w d → HasRun judge (after judge w d)
came-on judge w d h m = record {
  suffix = h.suffix;
  count = h.count;
  few = h.few;
  deeds = h.deeds ++ d ∷ [];
  run = IsRun-join judge (new_world h.suffix h.count) h.deeds (d ∷ []) h.run (subst (λ x. May x d) (sym h.ends) m, tt);
  ends = after_all-append judge (new_world h.suffix h.count) h.deeds (d ∷ []) ∙ ap (λ x. after judge x d) h.ends;
}

pub draws_hold : law_of_draws
draws_hold judge suffix n h before rest r =
    let q = IsRun-append judge (new_world suffix n) before rest r in
    let l = lawful_all judge (new_world suffix n) before q.0 (new_lawful suffix n h) in (
      l.sound,
      subst (λ (w : World). AllGoOn (after_all judge (new_world suffix n) before).nodes w.nodes) (sym (after_all-append judge (new_world suffix n) before rest))
          (all_go_on judge (after_all judge (new_world suffix n) before) rest q.1 l),
    )

-- in each lawful world
pub own_entries : (w : World) → IsLawful w → OwnEntriesExact w
own_entries w l k i =
    subst (λ z. IsOwnEntry (node_in w k) (front (node_in w k) z)) (l.sound.named k i) (own_entry (node_in w k) (l.sound.sound k i))

pub own_entries_hold : law_of_own_entries
own_entries_hold judge suffix n h ds r = own_entries (after_all judge (new_world suffix n) ds) (lawful_all judge (new_world suffix n) ds r (new_lawful suffix n h))

pub prefixes_hold : law_of_prefixes
prefixes_hold judge suffix n h ds r k = honest_all judge (new_world suffix n) ds r k (new_lawful suffix n h) (new_honest suffix n)

-- equal vectors have equal entries
same_front : (m n : Node) → vector_of m ≡ vector_of n → (o : ℕ) → front m o ≡ front n o
same_front m n e o = sym (entry_of-vector_of m o) ∙ ap (λ v. entry_of v o) e ∙ entry_of-vector_of n o

-- in each lawful and honest world
pub agree : (w : World) → IsLawful w → IsHonest w → AllAgree w
agree w l q a b i j none none' same c = (
  λ t. holds_too w.nodes (updates_of w) a b i j l.sound q none none' (same_front (node_in w a) (node_in w b) same) c t,
  λ t. holds_too w.nodes (updates_of w) b a j i l.sound q none' none (same_front (node_in w b) (node_in w a) (sym same)) c t,
)

pub agreement_holds : law_of_agreement
agreement_holds judge suffix n h ds r k =
    agree (after_all judge (new_world suffix n) ds) (lawful_all judge (new_world suffix n) ds r (new_lawful suffix n h)) (prefixes_hold judge suffix n h ds r k)

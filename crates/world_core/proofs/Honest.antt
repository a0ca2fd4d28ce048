-- Soundness of all nodes and honesty are kept by a step of one node alone, by the taking of an offered update, and by an offer.
use Rattle.std.proofs.Common.{◌≡◌, ℕ, zero, suc, ◌<◌, ◌≤◌, ◌≢◌, inl, inr, List, [], ◌∷◌, ◌++◌, refl, sym, ap, subst, ◌∙◌, arith, Contains, length, length-set, get_or-set_same, get_or-set_other}
use Rattle.std.specs.Prelude.{Ok}
use Rattle.std.proofs.lemmas.Bool.{cases_eq}
use Rattle.std.proofs.lemmas.List.Elements.{Contains-push_cases}
use Rattle.repl_data.specs.declared.change.Change.{Change}
use Rattle.repl_data.specs.declared.change.Update.{Update}
use Rattle.repl_data.specs.Order.{number_of}
use Rattle.vector_core.specs.declared.answers.Applied.TheVariants.{Taken}
use Rattle.node_core.specs.Node.{Node, new_node, front, update_of}
use Rattle.node_core.specs.Steps.{after_apply}
use Rattle.node_core.specs.Sound.{IsSoundNode, GoesOn}
use Rattle.node_core.proofs.Alone.{GoesAlone}
use Rattle.node_core.proofs.Applies.{TakesOne, IsTakeable}
use Rattle.world_core.specs.World.{no_suffix, node_of, with_node}
use Rattle.world_core.specs.Laws.{IsNode, AreSound, HoldsPrefix, IsOfferedBy, AreHonest}
use Rattle.world_core.proofs.Pairs.{prefix_of_origin, behind_of_origin, offered_of_origin, front_of_alone, prefix_of_alone, front_of_taken, prefix_of_taken, behind_of_taken_other, prefix_of_taken_other, offered_of_holder}

-- LOOK-UP

pub node_of-here : (nodes : List Node) (r : ℕ) (n : Node) → IsNode nodes r → node_of (with_node nodes r n) r ≡ n
node_of-here nodes zero n i = absurd (let h : 0 < 0 = i.above in omega arith)
node_of-here nodes (suc k) n i = (let h : suc k ≤ length nodes = i.within in get_or-set_same nodes k n (new_node no_suffix 0) (omega arith))

pub node_of-apart : (nodes : List Node) (r s : ℕ) (n : Node) → s ≢ r → node_of (with_node nodes r n) s ≡ node_of nodes s
node_of-apart nodes zero s n d = refl
node_of-apart nodes (suc k) zero n d = refl
node_of-apart nodes (suc k) (suc j) n d = get_or-set_other nodes k j n (new_node no_suffix 0) (λ e. d (ap suc e))

pub length-with_node : (nodes : List Node) (r : ℕ) (n : Node) → length (with_node nodes r n) ≡ length nodes
length-with_node nodes zero n = refl
length-with_node nodes (suc k) n = length-set nodes k n

pub IsNode-with : (nodes : List Node) (r s : ℕ) (n : Node) → IsNode (with_node nodes r n) s → IsNode nodes s
IsNode-with nodes r s n i = (let l : length (with_node nodes r n) ≡ length nodes = length-with_node nodes r n in let w : s ≤ length (with_node nodes r n) = i.within in record { above = i.above; within = omega arith })

pub with-IsNode : (nodes : List Node) (r s : ℕ) (n : Node) → IsNode nodes s → IsNode (with_node nodes r n) s
with-IsNode nodes r s n i = (let l : length (with_node nodes r n) ≡ length nodes = length-with_node nodes r n in let w : s ≤ length nodes = i.within in record { above = i.above; within = omega arith })

-- a fact of each node, at the one that was written and at the others
pub at_each : (P : ℕ → Node → Type 0) (nodes : List Node) (r : ℕ) (n : Node) → IsNode nodes r → P r n → (s : ℕ) → (s ≢ r → P s (node_of nodes s)) → P s (node_of (with_node nodes r n) s)
at_each P nodes r n i here s apart =
    elim (cases_eq s r) [
      | inl e ↦ subst (λ z. P z (node_of (with_node nodes r n) z)) (sym e) (subst (λ m. P r m) (sym (node_of-here nodes r n i)) here)
      | inr d ↦ subst (λ m. P s m) (sym (node_of-apart nodes r s n d)) (apart d)
    ]

pub sound_with : (nodes : List Node) (r : ℕ) (n : Node) → IsNode nodes r → AreSound nodes → n.rid ≡ r → IsSoundNode n → AreSound (with_node nodes r n)
sound_with nodes r n i a named s = record {
  named = λ k j. at_each (λ k m. m.rid ≡ k) nodes r n i named k (λ d. a.named k (IsNode-with nodes r k n j));
  sound = λ k j. at_each (λ k m. IsSoundNode m) nodes r n i s k (λ d. a.sound k (IsNode-with nodes r k n j));
}

-- the new node as the origin of what others hold and of what was offered
record SeenAs (nodes : List Node) (updates : List Update) (r : ℕ) (new : Node) : Type 0 where
  going : GoesOn (node_of nodes r) new
  sound : IsSoundNode new
  holds : (o : ℕ) → o ≢ r → HoldsPrefix new (node_of nodes o) o
  lags : (o : ℕ) → o ≢ r → number_of (front new o) ≤ number_of (front (node_of nodes o) o)

-- one node steps: what it holds is still a prefix, and it goes on
honest_with : (nodes : List Node) (updates : List Update) (r : ℕ) (new : Node) → IsNode nodes r → AreSound nodes → AreHonest nodes updates → SeenAs nodes updates r new → AreHonest (with_node nodes r new) updates
honest_with nodes updates r new i a h s = record {
  prefix = λ k o j apart.
      elim (cases_eq k r) [
        | inl e ↦
            (let d : o ≢ r = λ q. apart (q ∙ sym e) in
            subst (λ m. HoldsPrefix m (node_of (with_node nodes r new) o) o) (sym (holder_is k e))
            (subst (λ m. HoldsPrefix new m o) (sym (node_of-apart nodes r o new d)) (s.holds o d)))
        | inr d ↦
            subst (λ m. HoldsPrefix m (node_of (with_node nodes r new) o) o) (sym (node_of-apart nodes r k new d))
            (at_each (λ o m. HoldsPrefix (node_of nodes k) m o) nodes r new i
            (prefix_from k (IsNode-with nodes r k new j) d) o (λ d'. h.prefix k o (IsNode-with nodes r k new j) apart))
      ];
  behind = λ k o j.
      elim (cases_eq k r) [
        | inl e ↦
            elim (cases_eq o r) [
              | inl e' ↦ subst (λ z. number_of (front (node_of (with_node nodes r new) k) o) ≤ number_of (front (node_of (with_node nodes r new) z) o)) (e ∙ sym e') (omega arith)
              | inr d ↦
                  subst (λ m. number_of (front m o) ≤ number_of (front (node_of (with_node nodes r new) o) o)) (sym (holder_is k e))
                  (subst (λ m. number_of (front new o) ≤ number_of (front m o)) (sym (node_of-apart nodes r o new d)) (s.lags o d))
            ]
        | inr d ↦
            subst (λ m. number_of (front m o) ≤ number_of (front (node_of (with_node nodes r new) o) o)) (sym (node_of-apart nodes r k new d))
            (at_each (λ o m. number_of (front (node_of nodes k) o) ≤ number_of (front m o)) nodes r new i
            (behind_of_origin (node_of nodes k) (node_of nodes r) new r (a.named r i) s.going (h.behind k r (IsNode-with nodes r k new j))) o
            (λ d'. h.behind k o (IsNode-with nodes r k new j)))
      ];
  offers = λ u c.
      (let q = h.offers u c in (
        with-IsNode nodes r u.change.csn.rid new q.0,
        elim (cases_eq u.change.csn.rid r) [
          | inl e ↦
              (let named : (node_of nodes r).rid ≡ u.change.csn.rid = a.named r i ∙ sym e in
              subst (λ m. IsOfferedBy m u) (sym (holder_is u.change.csn.rid e))
              (offered_of_origin (node_of nodes r) new u named (a.sound r i) s.sound s.going (subst (λ z. IsOfferedBy (node_of nodes z) u) e q.1)))
          | inr d ↦ subst (λ m. IsOfferedBy m u) (sym (node_of-apart nodes r u.change.csn.rid new d)) q.1
        ],
      ));
}
  where
    holder_is : (k : ℕ) → k ≡ r → node_of (with_node nodes r new) k ≡ new
    holder_is k e = ap (λ z. node_of (with_node nodes r new) z) e ∙ node_of-here nodes r new i

    prefix_from : (k : ℕ) → IsNode nodes k → k ≢ r → HoldsPrefix (node_of nodes k) new r
    prefix_from k j d = prefix_of_origin (node_of nodes k) (node_of nodes r) new r (a.named r i) s.going (h.behind k r j) (h.prefix k r j (λ e. d (sym e)))

-- ---- a step alone

pub sound_of_alone : (nodes : List Node) (r : ℕ) (new : Node) → IsNode nodes r → AreSound nodes → GoesAlone (node_of nodes r) new → AreSound (with_node nodes r new)
sound_of_alone nodes r new i a g = sound_with nodes r new i a (g.on.same_rid ∙ a.named r i) g.sound

pub honest_of_alone : (nodes : List Node) (updates : List Update) (r : ℕ) (new : Node) → IsNode nodes r → AreSound nodes → AreHonest nodes updates → GoesAlone (node_of nodes r) new → AreHonest (with_node nodes r new) updates
honest_of_alone nodes updates r new i a h g =
    honest_with nodes updates r new i a h (record {
      going = g.on;
      sound = g.sound;
      holds = λ o d. prefix_of_alone (node_of nodes r) new (node_of nodes o) o (a.sound r i) (λ e. d (e ∙ a.named r i)) g (h.prefix r o i d);
      lags = λ o d.
          (let f : number_of (front new o) ≡ number_of (front (node_of nodes r) o) = front_of_alone (node_of nodes r) new o (a.sound r i) (λ e. d (e ∙ a.named r i)) g in
          let l : number_of (front (node_of nodes r) o) ≤ number_of (front (node_of nodes o) o) = h.behind r o i in
          omega arith);
    })

-- ---- an update that was offered is taken

pub honest_of_taken : (nodes : List Node) (updates : List Update) (r from : ℕ) (u : Update) (now : ℕ) → IsNode nodes r → AreSound nodes → AreHonest nodes updates → Contains updates u → IsTakeable (node_of nodes r) from u now → TakesOne (node_of nodes r) (after_apply (node_of nodes r) u.change (Ok Taken)) u.change → AreHonest (with_node nodes r (after_apply (node_of nodes r) u.change (Ok Taken))) updates
honest_of_taken nodes updates r from u now i a h c t one =
    let new = after_apply (node_of nodes r) u.change (Ok Taken) in
    let q = h.offers u c in
    let not_here : u.change.csn.rid ≢ r = λ e. t.not_own (e ∙ sym (a.named r i)) in
    honest_with nodes updates r (after_apply (node_of nodes r) u.change (Ok Taken)) i a h (record {
      going = one.on;
      sound = one.sound;
      holds = λ o d.
          elim (cases_eq o u.change.csn.rid) [
            | inl e ↦
                subst (λ z. HoldsPrefix (after_apply (node_of nodes r) u.change (Ok Taken)) (node_of nodes z) z) (sym e)
                (prefix_of_taken (node_of nodes r) (after_apply (node_of nodes r) u.change (Ok Taken)) (node_of nodes u.change.csn.rid) u (a.sound r i) t.not_own one t.above t.no_gap (a.sound u.change.csn.rid q.0) q.1 (h.prefix r u.change.csn.rid i not_here))
            | inr apart ↦
                prefix_of_taken_other (node_of nodes r) (after_apply (node_of nodes r) u.change (Ok Taken)) (node_of nodes o) u.change o (a.sound r i) (λ e. d (e ∙ a.named r i)) apart one (h.prefix r o i d)
          ];
      lags = λ o d.
          elim (cases_eq o u.change.csn.rid) [
            | inl e ↦
                subst (λ z. number_of (front (after_apply (node_of nodes r) u.change (Ok Taken)) z) ≤ number_of (front (node_of nodes z) z)) (sym e)
                (let f : number_of (front (after_apply (node_of nodes r) u.change (Ok Taken)) u.change.csn.rid) ≡ number_of u.change.csn = front_of_taken (node_of nodes r) (after_apply (node_of nodes r) u.change (Ok Taken)) u.change (a.sound r i) t.not_own one t.above in
                let l : number_of u.change.csn ≤ number_of (front (node_of nodes u.change.csn.rid) u.change.csn.rid) = q.1.settled in
                omega arith)
            | inr apart ↦ behind_of_taken_other (node_of nodes r) (after_apply (node_of nodes r) u.change (Ok Taken)) u.change o (number_of (front (node_of nodes o) o)) (a.sound r i) (λ e. d (e ∙ a.named r i)) apart one (h.behind r o i)
          ];
    })

-- ---- an offer

pub honest_of_offer : (nodes : List Node) (updates : List Update) (r : ℕ) (c : Change) → IsNode nodes r → IsNode nodes c.csn.rid → AreSound nodes → AreHonest nodes updates → Contains (node_of nodes r).taken c → number_of c.csn ≤ number_of (front (node_of nodes r) c.csn.rid) → AreHonest nodes (updates ++ update_of (node_of nodes r) c ∷ [])
honest_of_offer nodes updates r c i j a h t low = record {
  prefix = h.prefix;
  behind = h.behind;
  offers = λ u k.
      elim (Contains-push_cases updates (update_of (node_of nodes r) c) u k) [
        | inl q ↦ h.offers u q
        | inr e ↦ subst (λ z. IsNode nodes z.change.csn.rid × IsOfferedBy (node_of nodes z.change.csn.rid) z) e (j, offered)
      ];
}
  where
    offered : IsOfferedBy (node_of nodes c.csn.rid) (update_of (node_of nodes r) c)
    offered =
        elim (cases_eq c.csn.rid r) [
          | inl e ↦ subst (λ z. IsOfferedBy (node_of nodes z) (update_of (node_of nodes r) c)) (sym e) (record { committed = t; settled = subst (λ z. number_of c.csn ≤ number_of (front (node_of nodes r) z)) refl low; prev_is = refl })
          | inr d ↦ offered_of_holder (node_of nodes r) (node_of nodes c.csn.rid) c t (a.sound r i) (a.sound c.csn.rid j) (h.prefix r c.csn.rid i d) (h.behind r c.csn.rid i)
        ]

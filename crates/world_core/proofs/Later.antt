-- What a session offers is complete at the consumer, then and at each later time.
use Rattle.std.proofs.Common.{◌≡◌, ℕ, ◌<◌, ◌≤◌, ◌≢◌, true, inl, inr, List, [], ◌∷◌, ◌++◌, sym, ap, subst, ◌∙◌, arith, Contains, Some}
use Rattle.std.proofs.lemmas.Bool.{cases_eq}
use Rattle.repl_data.specs.declared.csn.Csn.{Csn}
use Rattle.repl_data.specs.declared.change.Change.{Change}
use Rattle.repl_data.specs.declared.change.Suffix.{Suffix}
use Rattle.repl_data.specs.declared.change.Update.{Update}
use Rattle.repl_data.specs.Order.{number_of}
use Rattle.repl_data.specs.Closed.{needed, is_known}
use Rattle.vector_core.specs.Vector.{entry_of}
use Rattle.vector_core.proofs.Greatests.{later_of-cases}
use Rattle.change_log.specs.Log.{prev_in}
use Rattle.node_core.specs.Node.{Node, front, raised, update_of, vector_of}
use Rattle.node_core.specs.Steps.{Judge, offer}
use Rattle.node_core.specs.Sound.{IsSoundNode, GoesOn}
use Rattle.node_core.proofs.Fronts.{front-zero, front-among, front_plain}
use Rattle.node_core.proofs.Orders.{plain_same}
use Rattle.node_core.proofs.Prevs.{prev-above, prev_in-fits, prev-among}
use Rattle.node_core.proofs.Known.{known-adds, suffix_known, adds-known}
use Rattle.node_core.proofs.LeastOffers.{offer-least}
use Rattle.node_core.proofs.Vectors.{entry_of-vector_of, entry_of-raised, entry_of-here, entry_of-past}
use Rattle.world_core.specs.World.{World, Deed, after, after_all, node_of, node_in, new_world, updates_of}
use Rattle.world_core.specs.Laws.{IsNode, AreSound, AreHonest, IsLawful, IsHonest, AllGoOn, IsHonestRun, IsRun, IsSoundJudge, Leads}
use Rattle.world_core.specs.Sessions.{IsFollowed, OffersWelcome, OffersTaken, law_of_sessions, law_of_progress, law_of_cursors}
use Rattle.world_core.proofs.Pairs.{front_low}
use Rattle.world_core.proofs.Advances.{taker_is_node}
use Rattle.world_core.proofs.Holding.{AreClosed, held_at_origin, held_by, sound_there}
use Rattle.world_core.proofs.Following.{IsServed, no_gap, need_known}
use Rattle.world_core.proofs.Welcome.{IsComplete, welcome, fine}
use Rattle.world_core.proofs.Forms.{formed}
use Rattle.world_core.proofs.Runs.{lawful_all, honest_all, new_lawful, prefixes_hold, all_go_on, after_all-append, IsRun-append}
use Rattle.world_core.proofs.ClosedRuns.{closed_holds}

-- each entry rises where a node goes on
rises : (m new : Node) (o : ℕ) → IsSoundNode new → GoesOn m new → number_of (front m o) ≤ number_of (front new o)
rises m new o s g =
    elim (cases_eq o m.rid) [
      | inl e ↦ subst (λ z. number_of (front m z) ≤ number_of (front new z)) (sym e) g.front_rises
      | inr k ↦ front_low m new o s k g.same_rid (λ x y h. g.kept x h)
    ]

module _ (old new : List Node) (uo un : List Update) (a : AreSound old) (h : AreHonest old uo) (cl : AreClosed old) (an : AreSound new) (hn : AreHonest new un) (g : AllGoOn old new) (s r : ℕ) (i : IsNode old s) (j : IsNode old r) (cursor : List Csn) (follows : IsFollowed (node_of old r) cursor) (c : Change) (sv : IsServed (node_of old s) (node_of old r) cursor c) where
  origin_is : IsNode old c.csn.rid
  origin_is = taker_is_node old c.csn.rid c (held_at_origin old uo a h s i c sv.has)

  low : number_of c.csn ≤ number_of (front (node_of old c.csn.rid) c.csn.rid)
  low =
      (let b : number_of (front (node_of old s) c.csn.rid) ≤ number_of (front (node_of old c.csn.rid) c.csn.rid) = h.behind s c.csn.rid i in
      let cov : number_of c.csn ≤ number_of (front (node_of old s) c.csn.rid) = sv.covered in
      omega arith)

  not_own : number_of (front (node_of new r) c.csn.rid) < number_of c.csn → c.csn.rid ≢ r
  not_own up e =
      let o = g c.csn.rid origin_is in
      let f : number_of (front (node_of old c.csn.rid) c.csn.rid) ≤ number_of (front (node_of new c.csn.rid) c.csn.rid) =
      rises (node_of old c.csn.rid) (node_of new c.csn.rid) c.csn.rid (an.sound c.csn.rid o.0) o.1 in
      let l : number_of c.csn ≤ number_of (front (node_of old c.csn.rid) c.csn.rid) = low in
      let q : number_of (front (node_of new c.csn.rid) c.csn.rid) ≡ number_of (front (node_of new r) c.csn.rid) = ap (λ z. number_of (front (node_of new z) c.csn.rid)) e in
      omega arith

  gap_free : number_of (front (node_of new r) c.csn.rid) < number_of c.csn → prev_in (node_of old s).taken c.csn ≡ front (node_of new r) c.csn.rid
  gap_free up =
      let p = prev_in (node_of old s).taken c.csn in
      let plain = (a.sound s i).taken_plain c sv.has in
      let f : number_of (front (node_of old r) c.csn.rid) ≤ number_of (front (node_of new r) c.csn.rid) = rises (node_of old r) (node_of new r) c.csn.rid (an.sound r (g r j).0) (g r j).1 in
      let e : number_of p ≡ number_of (front (node_of old r) c.csn.rid) = ap number_of (no_gap old uo a h s r i j cursor follows c sv (omega arith)) in
      let cov : number_of c.csn ≤ number_of (front (node_of old s) c.csn.rid) = sv.covered in
      let ge : number_of (front (node_of new r) c.csn.rid) ≤ number_of p =
      elim (front-among (node_of new r) c.csn.rid) [
        | inl z ↦ (let y : number_of (front (node_of new r) c.csn.rid) ≡ 0 = front-zero (node_of new r) c.csn.rid z in omega arith)
        | inr q ↦
            (let same : number_of q.0.csn ≡ number_of (front (node_of new r) c.csn.rid) = ap number_of q.3 in
            let b : number_of q.0.csn < number_of c.csn = omega arith in
            let at_new : Contains (node_of new c.csn.rid).taken q.0 = subst (λ z. Contains (node_of new z).taken q.0) q.2 (held_at_origin new un an hn r (g r j).0 q.0 q.1) in
            let l : number_of c.csn ≤ number_of (front (node_of old c.csn.rid) c.csn.rid) = low in
            let named : (node_of old c.csn.rid).rid ≡ c.csn.rid = a.named c.csn.rid origin_is in
            let under : number_of q.0.csn ≤ number_of (front (node_of old c.csn.rid) (node_of old c.csn.rid).rid) =
            subst (λ z. number_of q.0.csn ≤ number_of (front (node_of old c.csn.rid) z)) (sym named) (let m : number_of q.0.csn ≤ number_of (front (node_of old c.csn.rid) c.csn.rid) = omega arith in m) in
            let at_old : Contains (node_of old c.csn.rid).taken q.0 = (g c.csn.rid origin_is).1.closed_below q.0 at_new (q.2 ∙ sym named) under in
            let cov' : number_of q.0.csn ≤ number_of (front (node_of old s) q.0.csn.rid) =
            subst (λ z. number_of q.0.csn ≤ number_of (front (node_of old s) z)) (sym q.2) (let m : number_of q.0.csn ≤ number_of (front (node_of old s) c.csn.rid) = omega arith in m) in
            let m = held_by old uo a h s i q.0 (subst (λ z. Contains (node_of old z).taken q.0) (sym q.2) at_old) cov' in
            let w : number_of q.0.csn ≤ number_of p = prev-above (node_of old s).taken c.csn q.0 (a.sound s i).taken_plain plain m q.2 b in
            omega arith)
      ] in
      plain_same p (front (node_of new r) c.csn.rid) (prev-among (node_of old s).taken c.csn (a.sound s i).taken_plain plain).1 (front_plain (node_of new r) c.csn.rid (an.sound r (g r j).0)) (omega arith)

  known_later : is_known (node_of new r).taken (needed c.target c.body) ≡ true
  known_later =
      elim (known-adds (node_of old r).taken (needed c.target c.body) (need_known old uo a h s r i j cursor follows c sv cl)) [
        | inl z ↦ suffix_known (node_of new r).taken (needed c.target c.body) z
        | inr x ↦ adds-known (node_of new r).taken (needed c.target c.body) x.0 ((g r j).1.kept x.0 x.1) x.2
      ]

  pub complete_later : IsComplete (node_of new r) (update_of (node_of old s) c)
  complete_later = record {
    sound = an.sound r (g r j).0;
    plain = (a.sound s i).taken_plain c sv.has;
    formed = formed (update_of (node_of old s) c) (sound_there old uo a h cl s i c sv.has) (prev_in-fits (node_of old s).taken c.csn (a.sound s i).taken_plain);
    not_own = λ up e. not_own up (e ∙ an.named r (g r j).0);
    no_gap = gap_free;
    known = known_later;
  }

IsHonestRun-before : (judge : Judge) (w : World) (ds es : List Deed) → IsHonestRun judge w (ds ++ es) → IsHonestRun judge w ds
IsHonestRun-before judge w [] es r = tt
IsHonestRun-before judge w (d ∷ ds) es r = (r.0, IsHonestRun-before judge (after judge w d) ds es r.1)

-- ---- from one world to a later one

module _ (w v : World) (l : IsLawful w) (h : IsHonest w) (cl : AreClosed w.nodes) (lv : IsLawful v) (hv : IsHonest v) (g : AllGoOn w.nodes v.nodes) where
  complete_from : (x y : ℕ) → IsNode w.nodes x → IsNode w.nodes y → (cursor : List Csn) → IsFollowed (node_in w y) cursor →
      (u : Update) → offer (node_in w x) cursor ≡ Some u → IsComplete (node_in v y) u
  complete_from x y i j cursor follows u e =
      let o = offer-least (node_in w x) cursor u (l.sound.sound x i) e in
      subst (λ z. IsComplete (node_in v y) z) o.is
      (complete_later w.nodes v.nodes (updates_of w) (updates_of v) l.sound h cl lv.sound hv g x y i j cursor follows o.change
      (record {
        has = o.has;
        covered = o.covered;
        served = λ d m cov b less. (let k : number_of o.change.csn ≤ number_of d.csn = o.least d m cov b in absurd (omega arith));
      }))

-- a world that a lawful one leads to by honest deeds
led-lawful : (judge : Judge) (w v : World) → IsLawful w → Leads judge w v → IsLawful v
led-lawful judge w v l d = subst (λ x. IsLawful x) d.ends (lawful_all judge w d.deeds d.run l)

led-honest : (judge : Judge) (w v : World) → IsLawful w → IsHonest w → Leads judge w v → IsHonest v
led-honest judge w v l h d = subst (λ x. IsHonest x) d.ends (honest_all judge w d.deeds d.run d.honest l h)

led-on : (judge : Judge) (w v : World) → IsLawful w → Leads judge w v → AllGoOn w.nodes v.nodes
led-on judge w v l d = subst (λ (x : World). AllGoOn w.nodes x.nodes) d.ends (all_go_on judge w d.deeds d.run l)

complete_led : (judge : Judge) (w v : World) → IsLawful w → AreClosed w.nodes → IsHonest w → Leads judge w v → (x y : ℕ) → IsNode w.nodes x → IsNode w.nodes y →
    (cursor : List Csn) → IsFollowed (node_in w y) cursor → (u : Update) → offer (node_in w x) cursor ≡ Some u → IsComplete (node_in v y) u
complete_led judge w v l cl h d = complete_from w v l h cl (led-lawful judge w v l d) (led-honest judge w v l h d) (led-on judge w v l d)

pub offers_welcome : (judge : Judge) (w : World) → IsLawful w → AreClosed w.nodes → IsHonest w → OffersWelcome judge w
offers_welcome judge w l cl h v d x y i j apart cursor follows u e from now fails =
    welcome (node_in v y) u from now fails (complete_led judge w v l cl h d x y i j cursor follows u e)

pub offers_taken : (judge : Judge) (w : World) → IsLawful w → AreClosed w.nodes → IsHonest w → OffersTaken judge w
offers_taken judge w l cl h v d x y i j apart cursor follows u e from now held in_time =
    fine (node_in v y) u from now (complete_led judge w v l cl h d x y i j cursor follows u e) held in_time

-- ---- in runs

complete : (judge : Judge) → IsSoundJudge judge → (suffix : Suffix) → (n : ℕ) → n < 65535 → (before rest : List Deed) →
    IsRun judge (new_world suffix n) (before ++ rest) → IsHonestRun judge (new_world suffix n) (before ++ rest) →
    (x y : ℕ) → IsNode (after_all judge (new_world suffix n) before).nodes x → IsNode (after_all judge (new_world suffix n) before).nodes y →
    (cursor : List Csn) → IsFollowed (node_in (after_all judge (new_world suffix n) before) y) cursor →
    (u : Update) → offer (node_in (after_all judge (new_world suffix n) before) x) cursor ≡ Some u →
    IsComplete (node_in (after_all judge (new_world suffix n) (before ++ rest)) y) u
complete judge sj suffix n few before rest run honest x y i j cursor follows u e =
    let w = after_all judge (new_world suffix n) before in
    let v = after_all judge (new_world suffix n) (before ++ rest) in
    let q = IsRun-append judge (new_world suffix n) before rest run in
    let l = lawful_all judge (new_world suffix n) before q.0 (new_lawful suffix n few) in
    let h = prefixes_hold judge suffix n few before q.0 (IsHonestRun-before judge (new_world suffix n) before rest honest) in
    let lv = lawful_all judge (new_world suffix n) (before ++ rest) run (new_lawful suffix n few) in
    let hv = prefixes_hold judge suffix n few (before ++ rest) run honest in
    let g = subst (λ (z : World). AllGoOn w.nodes z.nodes) (sym (after_all-append judge (new_world suffix n) before rest)) (all_go_on judge w rest q.1 l) in
    complete_from w v l h (closed_holds judge sj suffix n few before q.0) lv hv g x y i j cursor follows u e

pub sessions_hold : law_of_sessions
sessions_hold judge sj suffix n few before rest run honest x y i j apart cursor follows u e from now fails =
    welcome (node_in (after_all judge (new_world suffix n) (before ++ rest)) y) u from now fails
    (complete judge sj suffix n few before rest run honest x y i j cursor follows u e)

pub progress_holds : law_of_progress
progress_holds judge sj suffix n few before rest run honest x y i j apart cursor follows u e from now held in_time =
    fine (node_in (after_all judge (new_world suffix n) (before ++ rest)) y) u from now
    (complete judge sj suffix n few before rest run honest x y i j cursor follows u e) held in_time

pub cursors_hold : law_of_cursors
cursors_hold = (
  λ n o. (let e : number_of (entry_of (vector_of n) o) ≡ number_of (front n o) = ap number_of (entry_of-vector_of n o) in omega arith),
  λ n cursor u f below o.
      (let g : number_of (entry_of cursor o) ≤ number_of (front n o) = f o in
      elim (cases_eq u.change.csn.rid o) [
        | inl q ↦
            (let here = entry_of-raised u.change.csn cursor o ∙ entry_of-here u.change.csn cursor o q in
            let l : number_of u.change.csn ≤ number_of (front n o) = subst (λ z. number_of u.change.csn ≤ number_of (front n z)) q below in
            elim (later_of-cases u.change.csn (entry_of cursor o)) [
              | inl m ↦ (let s : number_of (entry_of (raised u.change.csn cursor) o) ≡ number_of u.change.csn = ap number_of (here ∙ m.0) in omega arith)
              | inr m ↦ (let s : number_of (entry_of (raised u.change.csn cursor) o) ≡ number_of (entry_of cursor o) = ap number_of (here ∙ m.0) in omega arith)
            ])
        | inr d ↦
            (let s : number_of (entry_of (raised u.change.csn cursor) o) ≡ number_of (entry_of cursor o) = ap number_of (entry_of-raised u.change.csn cursor o ∙ entry_of-past u.change.csn cursor o d) in
            omega arith)
      ]),
  λ old new cursor s g f o.
      (let k : number_of (entry_of cursor o) ≤ number_of (front old o) = f o in
      let up : number_of (front old o) ≤ number_of (front new o) = rises old new o s g in
      omega arith),
)

-- What stands beside a node's parts, after each of its steps.
use Rattle.std.proofs.Common.{◌≡◌, ℕ, ◌<◌, ◌≤◌, Bool, true, false, List, [], ◌∷◌, ◌++◌, refl, sym, ap, subst, ◌∙◌, arith, Contains, Option, Some, None, length, if◌then◌else◌, option_map, get_or, ◌==◌, ◌||◌, ◌+◌, take}
use Rattle.std.specs.Prelude.{Ok, Err}
use Rattle.std.proofs.lemmas.Bool.{le-leb, lt-leb}
use Rattle.std.proofs.lemmas.List.{get_or_default, map-append, take_more}
use Rattle.std.proofs.lemmas.List.Elements.{All-from_get_or}
use Rattle.repl_data.specs.declared.csn.Csn.{Csn}
use Rattle.repl_data.specs.declared.change.Change.{Change}
use Rattle.repl_data.specs.declared.change.Update.{Update}
use Rattle.vector_core.specs.declared.answers.Applied.TheVariants.{Taken}
use Rattle.repl_data.specs.Order.{csn_lt, number_of, zero_csn}
use Rattle.repl_data.specs.Closed.{IsArrival}
use Rattle.vector_core.specs.Greatest.{later_of, greatest}
use Rattle.vector_core.specs.Vector.{HasEntries, IsMerged, IsRaised, entry_of}
use Rattle.vector_core.proofs.Greatests.{zero_later, greatest-push}
use Rattle.vector_core.proofs.Entries.{entry_of-push}
use Rattle.vector_core.proofs.Lists.{if_true, if_false, Contains-nil}
use Rattle.pending_core.specs.Draw.{draw}
use Rattle.pending_core.specs.Pending.{IsAbove, without}
use Rattle.change_log.specs.Log.{csns_of}
use Rattle.repl_data.specs.declared.change.Suffix.{Suffix}
use Rattle.node_core.specs.Node.{Node, front, new_node}
use Rattle.node_core.specs.Steps.{Full, Exhausted, begin_answer, begun_at, csn_at, after_begin, after_apply}
use Rattle.node_core.specs.Sound.{IsPlain, IsSoundNode}
use Rattle.node_core.specs.Kept.{IsKept, IsNext}
use Rattle.node_core.proofs.Orders.{number_lt}
use Rattle.node_core.proofs.Draws.{Some-same, None-Some, draw-above, reached_below}
use Rattle.node_core.proofs.Fronts.{csns-from, front_other-above}
use Rattle.node_core.proofs.Applies.{Fits, taken-means, takes_one}
use Rattle.node_core.proofs.ClosedSteps.{apply_closed}
use Rattle.node_core.proofs.NodeSteps.{with_pending, shrinks, draws, without-Contains}

-- ---- less is pending

pub kept-without : (n : Node) (heads : List Csn) (csn : Csn) → IsKept n heads → IsKept (with_pending n (without n.pending csn)) heads
kept-without n heads csn k = record {
  sound = (shrinks n (without n.pending csn) k.sound (without-Contains csn n.pending)).sound;
  arrival = k.arrival;
  entries = k.entries;
}

-- ---- a draw

pub begin_full : (n : Node) (now : ℕ) → 1024 ≤ length n.pending → begin_answer n now ≡ Err Full
begin_full n now h = if_true _ _ (le-leb 1024 (length n.pending) h)

-- a drawn CSN, with the pair that was drawn
pub drawn_pair : (n : Node) (now : ℕ) (csn : Csn) → option_map (csn_at n.rid) (draw n.last now) ≡ Some csn → (pair : ℕ × ℕ) × (draw n.last now ≡ Some pair) × (csn_at n.rid pair ≡ csn)
drawn_pair n now csn e = by_draw (draw n.last now) refl e
  where
    by_draw : (o : Option (ℕ × ℕ)) → draw n.last now ≡ o → option_map (csn_at n.rid) o ≡ Some csn → (pair : ℕ × ℕ) × (draw n.last now ≡ Some pair) × (csn_at n.rid pair ≡ csn)
    by_draw None d b = absurd (None-Some b)
    by_draw (Some pair) d b = (pair, d, Some-same b)

pub draw_none : (n : Node) (now : ℕ) → option_map (csn_at n.rid) (draw n.last now) ≡ None → draw n.last now ≡ None
draw_none n now e = by_draw (draw n.last now) refl e
  where
    by_draw : (o : Option (ℕ × ℕ)) → draw n.last now ≡ o → option_map (csn_at n.rid) o ≡ None → draw n.last now ≡ None
    by_draw None d b = d
    by_draw (Some pair) d b = absurd (None-Some (sym b))

pub begin_exhausted : (n : Node) (now : ℕ) → length n.pending < 1024 → option_map (csn_at n.rid) (draw n.last now) ≡ None → begin_answer n now ≡ Err (Exhausted (n.last.time, n.last.seq))
begin_exhausted n now f d = if_false _ _ (lt-leb 1024 (length n.pending) f) ∙ ap (begun_at n) (draw_none n now d)

pub begin_drawn : (n : Node) (now : ℕ) (csn : Csn) → length n.pending < 1024 → option_map (csn_at n.rid) (draw n.last now) ≡ Some csn → begin_answer n now ≡ Ok csn
begin_drawn n now csn f e = (let d = drawn_pair n now csn e in if_false _ _ (lt-leb 1024 (length n.pending) f) ∙ ap (begun_at n) d.1 ∙ ap (λ z. Ok z) d.2)

drawn_plain : (n : Node) (pair : ℕ × ℕ) → IsSoundNode n → pair.1 < 65536 → IsPlain (csn_at n.rid pair)
drawn_plain n pair s fits = (let r : n.rid < 65535 = s.rid_fits in record { seq_fits = fits; rid_fits = omega arith; no_part = refl })

-- what is drawn is above all pending ones
pub drawn_above : (n : Node) (now : ℕ) (csn : Csn) → IsSoundNode n → option_map (csn_at n.rid) (draw n.last now) ≡ Some csn → IsAbove n.pending csn
drawn_above n now csn s e =
    let d = drawn_pair n now csn e in
    let up = draw-above n.last now d.0 s.last_fits d.1 in
    All-from_get_or (λ held. csn_lt held csn ≡ true) n.pending zero_csn (λ i l.
    let h : Contains n.pending (get_or n.pending i zero_csn) = (i, l, get_or_default n.pending i (get_or n.pending i zero_csn) zero_csn l) in
    subst (λ z. csn_lt (get_or n.pending i zero_csn) z ≡ true) d.2
    (number_lt (get_or n.pending i zero_csn) (csn_at n.rid d.0) (s.pending_plain _ h) (drawn_plain n d.0 s up.1)
    (reached_below n.last d.0 n.rid (get_or n.pending i zero_csn) (s.pending_plain _ h) (s.pending_reached _ h) up.0)))

pub kept-drawn : (n : Node) (heads : List Csn) (now : ℕ) (csn : Csn) → IsKept n heads → option_map (csn_at n.rid) (draw n.last now) ≡ Some csn → IsKept (after_begin n (Ok csn)) heads
kept-drawn n heads now csn k e =
    let d = drawn_pair n now csn e in
    let up = draw-above n.last now d.0 k.sound.last_fits d.1 in
    subst (λ z. IsKept (after_begin n (Ok z)) heads) d.2
    (record { sound = (draws n n.pending d.0 k.sound (λ p h. h) up.0 up.1).sound; arrival = k.arrival; entries = k.entries })

-- ---- the greatest CSN of each originator

entry_of-nil : (o : ℕ) → entry_of [] o ≡ zero_csn
unfolding greatest
entry_of-nil o = refl

-- a raised copy of a vector
pub raised-copy : (empty old copy new : List Csn) (csn : Csn) → empty ≡ [] → IsMerged empty old copy → IsRaised copy new csn → IsRaised old new csn
raised-copy empty old copy new csn none merged raised = λ o.
    let same : entry_of copy o ≡ entry_of old o =
    merged o ∙ ap (λ z. later_of (entry_of z o) (entry_of old o)) none ∙ ap (λ z. later_of z (entry_of old o)) (entry_of-nil o) ∙ zero_later (entry_of old o) in
    raised o ∙ ap (λ z. if o == csn.rid then later_of z csn else z) same

pub entries-taken : (heads new : List Csn) (taken : List Change) (c : Change) → HasEntries heads (csns_of taken) → IsRaised heads new c.csn → HasEntries new (csns_of (taken ++ c ∷ []))
entries-taken heads new taken c same raised = λ o.
    raised o
    ∙ ap (λ z. if o == c.csn.rid then later_of z c.csn else z) (same o)
    ∙ sym (entry_of-push (csns_of taken) c.csn o)
    ∙ ap (λ cs. entry_of cs o) (sym (map-append (λ (d : Change). d.csn) taken (c ∷ [])))

-- ---- an update is taken

next-fits : (c : Change) (u : Update) → u.change ≡ c → c.csn.seq < 65536 → c.csn.rid < 65536 → Fits u
next-fits c u same seq rid = record {
  seq = subst (λ (z : Change). z.csn.seq < 65536) (sym same) seq;
  rid = subst (λ (z : Change). z.csn.rid < 65536) (sym same) rid;
}

pub next-takes : (n : Node) (c : Change) → IsSoundNode n → IsNext n c → c.csn.seq < 65536 → c.csn.rid < 65536 → IsSoundNode (after_apply n c (Ok Taken))
next-takes n c s next seq rid =
    let u = next.update in
    let fits = next-fits c next.update next.change seq rid in
    subst (λ z. IsSoundNode (after_apply n z (Ok Taken))) next.change
    (takes_one n next.from u next.now s fits (taken-means n next.from u next.now false s fits next.answer)).sound

pub fresh-next : (n : Node) (c : Change) → IsSoundNode n → IsNext n c → c.csn.seq < 65536 → c.csn.rid < 65536 → Contains (csns_of n.taken) c.csn → ⊥
fresh-next n c s next seq rid h =
    let u = next.update in
    let fits = next-fits c next.update next.change seq rid in
    let t = taken-means n next.from u next.now false s fits next.answer in
    let d = csns-from n.taken c.csn h in
    let csn : d.0.csn ≡ u.change.csn = d.2 ∙ ap (λ (z : Change). z.csn) (sym next.change) in
    let low : number_of d.0.csn ≤ number_of (front n u.change.csn.rid) =
    front_other-above n u.change.csn.rid s t.not_own d.0 d.1 (ap (λ (z : Csn). z.rid) csn) in
    let same : number_of d.0.csn ≡ number_of u.change.csn = ap number_of csn in
    let high : number_of (front n u.change.csn.rid) < number_of u.change.csn = t.above in
    omega arith

-- it comes after what it needs
pub next-arrives : (n : Node) (c : Change) → IsSoundNode n → IsArrival n.taken → IsNext n c → c.csn.seq < 65536 → c.csn.rid < 65536 → IsArrival (n.taken ++ c ∷ [])
next-arrives n c s arrival next seq rid =
    subst (λ z. IsArrival (after_apply n z (Ok Taken)).taken) next.change
    (subst (λ a. IsArrival (after_apply n next.update.change a).taken) next.answer
    (apply_closed n next.from next.update next.now false s (next-fits c next.update next.change seq rid) arrival))

pub kept-next : (n : Node) (heads new : List Csn) (c : Change) → IsKept n heads → IsNext n c → c.csn.seq < 65536 → c.csn.rid < 65536 → IsRaised heads new c.csn → IsKept (after_apply n c (Ok Taken)) new
kept-next n heads new c k next seq rid raised = record {
  sound = next-takes n c k.sound next seq rid;
  arrival = next-arrives n c k.sound k.arrival next seq rid;
  entries = entries-taken heads new n.taken c k.entries raised;
}

-- ---- what is known

pub greatest-more : (cs : List Csn) (i : ℕ) → i < length cs → greatest (take (i + 1) cs) ≡ later_of (greatest (take i cs)) (get_or cs i zero_csn)
greatest-more cs i l = ap greatest (take_more cs i zero_csn l) ∙ greatest-push (take i cs) (get_or cs i zero_csn)

-- ---- a new node

nothing-new : (suffix : Suffix) (rid : ℕ) → 0 < rid → rid < 65535 → IsKept (new_node suffix rid) []
nothing-new suffix rid above fits = record {
  sound = record {
    rid_above = above;
    rid_fits = fits;
    last_fits = omega arith;
    taken_plain = λ c h. absurd (Contains-nil h);
    taken_named = λ c h. absurd (Contains-nil h);
    taken_reached = λ c h. absurd (Contains-nil h);
    pending_plain = λ p h. absurd (Contains-nil h);
    pending_own = λ p h. absurd (Contains-nil h);
    pending_reached = λ p h. absurd (Contains-nil h);
    once = λ c d h k e. absurd (Contains-nil h);
  };
  arrival = record { once = refl; sound = refl; rooted = refl };
  entries = λ o. refl;
}

pub kept-new : (n : Node) (heads : List Csn) (suffix : Suffix) (rid : ℕ) → n ≡ new_node suffix rid → heads ≡ [] → 0 < rid → rid < 65535 → IsKept n heads
kept-new n heads suffix rid e none above fits =
    subst (λ m. IsKept m heads) (sym e) (subst (λ hs. IsKept (new_node suffix rid) hs) (sym none) (nothing-new suffix rid above fits))

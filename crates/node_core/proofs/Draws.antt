-- What is drawn is above all that was reached.
use Rattle.std.proofs.Common.{◌≡◌, ℕ, ◌+◌, ◌<◌, ◌≤◌, ◌⊎◌, inl, inr, true, false, refl, sym, ap, ◌∙◌, arith, Option, Some, None, nat_lt, nat_le, length, ltb-true, ltb-false, option_map}
use Rattle.std.specs.Prelude.{Ok, Err}
use Rattle.std.proofs.lemmas.Bool.{cases_Bool, cases_order}
use Rattle.repl_data.specs.declared.csn.Csn.{Csn}
use Rattle.repl_data.specs.declared.csn.Uid.{Uid}
use Rattle.repl_data.specs.Order.{csn_lt, number_of}
use Rattle.vector_core.proofs.Lists.{if_true, if_false}
use Rattle.pending_core.specs.declared.generator.Generator.{Generator}
use Rattle.pending_core.specs.Draw.{draw, generator_at, is_before, raised_to}
use Rattle.node_core.specs.Node.{Node}
use Rattle.node_core.specs.Steps.{Full, moment_of, csn_at, csn_for, begun_at, begin_answer}
use Rattle.node_core.specs.Sound.{IsPlain, number_at, IsReached}
use Rattle.node_core.proofs.Orders.{cmp_less, cmp_equal, cmp_greater}

pub Some-same : {X : Type 0} {a b : X} → Some a ≡ Some b → a ≡ b
Some-same e = cc

pub None-Some : {X : Type 0} {a : X} → None ≡ Some a → ⊥
None-Some e = cc

pub draw-above : (last : Generator) (now : ℕ) (m : ℕ × ℕ) → last.seq < 65536 → draw last now ≡ Some m → (number_at last < number_at (generator_at m)) × (m.1 < 65536)
draw-above last now m fits e =
    elim (cases_Bool (nat_lt last.time now)) [
      | inl t ↦
          (let r : (now, 0) ≡ m = Some-same (sym (if_true (Some (now, 0)) _ t) ∙ e) in
          let p : last.time < now = ltb-true last.time now t in
          let rt : now ≡ m.0 = ap (λ (x : ℕ × ℕ). x.0) r in
          let rs : 0 ≡ m.1 = ap (λ (x : ℕ × ℕ). x.1) r in
          (omega arith, omega arith))
      | inr f ↦
          elim (cases_Bool (nat_lt last.seq 65535)) [
            | inl t ↦
                (let r : (last.time, last.seq + 1) ≡ m = Some-same (sym (if_true _ _ t) ∙ sym (if_false _ _ f) ∙ e) in
                let p : last.seq < 65535 = ltb-true last.seq 65535 t in
                let rt : last.time ≡ m.0 = ap (λ (x : ℕ × ℕ). x.0) r in
                let rs : last.seq + 1 ≡ m.1 = ap (λ (x : ℕ × ℕ). x.1) r in
                (omega arith, omega arith))
            | inr g ↦
                elim (cases_Bool (nat_lt last.time 4294967295)) [
                  | inl t ↦
                      (let r : (last.time + 1, 0) ≡ m = Some-same (sym (if_true _ _ t) ∙ sym (if_false _ _ g) ∙ sym (if_false _ _ f) ∙ e) in
                      let p : 65535 ≤ last.seq = ltb-false last.seq 65535 g in
                      let rt : last.time + 1 ≡ m.0 = ap (λ (x : ℕ × ℕ). x.0) r in
                      let rs : 0 ≡ m.1 = ap (λ (x : ℕ × ℕ). x.1) r in
                      (omega arith, omega arith))
                  | inr h ↦ absurd (None-Some (sym (if_false _ _ h) ∙ sym (if_false _ _ g) ∙ sym (if_false _ _ f) ∙ e))
                ]
          ]
    ]

-- a plain CSN that is reached is below what is drawn
pub reached_below : (last : Generator) (m : ℕ × ℕ) (rid : ℕ) (c : Csn) → IsPlain c → IsReached last c → number_at last < number_at (generator_at m) → number_of c < number_of (csn_at rid m)
unfolding number_of
reached_below last m rid c p r h =
    let s : c.seq < 65536 = p.seq_fits in
    let i : c.rid < 65536 = p.rid_fits in
    let z : c.sub ≡ 0 = p.no_part in
    omega arith

pub begun-drawn : (n : Node) (now : ℕ) (csn : Csn) → begin_answer n now ≡ Ok csn → (m : ℕ × ℕ) × (draw n.last now ≡ Some m) × (csn_at n.rid m ≡ csn)
begun-drawn n now csn e =
    elim (cases_Bool (nat_le 1024 (length n.pending))) [
      | inl t ↦ (let c : Err Full ≡ Ok csn = sym (if_true _ _ t) ∙ e in absurd cc)
      | inr f ↦ from_draw (draw n.last now) refl (sym (if_false _ _ f) ∙ e)
    ]
  where
    from_draw : (o : Option (ℕ × ℕ)) → draw n.last now ≡ o → begun_at n o ≡ Ok csn → (m : ℕ × ℕ) × (draw n.last now ≡ Some m) × (csn_at n.rid m ≡ csn)
    from_draw None d b = absurd cc
    from_draw (Some m) d b = (m, d, cc)

pub csn_for-cases : (n : Node) (csn : Csn) (id : Uid) (now : ℕ) (new : Csn) → csn_for n csn id now ≡ Some new → ((csn_lt id.csn csn ≡ true) × (csn ≡ new)) ⊎ ((m : ℕ × ℕ) × (draw n.last now ≡ Some m) × (csn_at n.rid m ≡ new))
csn_for-cases n csn id now new e =
    elim (cases_Bool (csn_lt id.csn csn)) [
      | inl t ↦ inl (t, Some-same (sym (if_true _ _ t) ∙ e))
      | inr f ↦ inr (from_draw (draw n.last now) refl (sym (if_false _ _ f) ∙ e))
    ]
  where
    from_draw : (o : Option (ℕ × ℕ)) → draw n.last now ≡ o → option_map (csn_at n.rid) o ≡ Some new → (m : ℕ × ℕ) × (draw n.last now ≡ Some m) × (csn_at n.rid m ≡ new)
    from_draw None d b = absurd (None-Some b)
    from_draw (Some m) d b = (m, d, Some-same b)

-- ---- a generator raised to a CSN

before_number : (a b : Generator) → a.seq < 65536 → b.seq < 65536 → ((is_before a b ≡ true) × (number_at a < number_at b)) ⊎ ((is_before a b ≡ false) × (number_at b ≤ number_at a))
before_number a b p q =
    elim (cases_order a.time b.time) [
      | inr (inl l) ↦ inl (rw (cmp_less a.time b.time l) refl, omega arith)
      | inr (inr l) ↦ inr (rw (cmp_greater a.time b.time l) refl, omega arith)
      | inl e ↦
          elim (cases_order a.seq b.seq) [
            | inr (inl l) ↦ inl (rw (cmp_equal a.time b.time e, cmp_less a.seq b.seq l) refl, omega arith)
            | inr (inr l) ↦ inr (rw (cmp_equal a.time b.time e, cmp_greater a.seq b.seq l) refl, omega arith)
            | inl f ↦ inr (rw (cmp_equal a.time b.time e, cmp_equal a.seq b.seq f) refl, omega arith)
          ]
    ]

-- it is at or above both, and fits
pub raised_to-above : (last : Generator) (c : Csn) → last.seq < 65536 → c.seq < 65536 → (number_at last ≤ number_at (raised_to last c)) × IsReached (raised_to last c) c × ((raised_to last c).seq < 65536)
raised_to-above last c p q =
    elim (before_number last (generator_at (c.time, c.seq)) p q) [
      | inl t ↦
          (let e : raised_to last c ≡ moment_of c = if_true (moment_of c) last t.0 in
          let n : number_at (raised_to last c) ≡ number_at (moment_of c) = ap number_at e in
          let l : number_at last < number_at (moment_of c) = t.1 in
          let s : (raised_to last c).seq ≡ c.seq = ap (λ (x : Generator). x.seq) e in
          (omega arith, omega arith, omega arith))
      | inr t ↦
          (let e : raised_to last c ≡ last = if_false (moment_of c) last t.0 in
          let n : number_at (raised_to last c) ≡ number_at last = ap number_at e in
          let l : number_at (moment_of c) ≤ number_at last = t.1 in
          let s : (raised_to last c).seq ≡ last.seq = ap (λ (x : Generator). x.seq) e in
          (omega arith, omega arith, omega arith))
    ]

-- Each step keeps the rule of the lock.
use Rattle.std.proofs.Common.{◌≡◌, ◌≢◌, ◌⊎◌, inl, inr, ℕ, zero, suc, ◌+◌, ◌-◌, ◌%◌, ◌^◌, ◌<◌, ◌≤◌, eqb, true, false, Bool, List, [], ◌∷◌, ◌++◌, length, length-append, set, get_or, sym, refl, ap, ◌∙◌, subst, ⊎_elim, arith, le_refl, eq-eqb, ne_eqb}
use Rattle.std.proofs.lemmas.List.{append_assoc, append-nil}
use Rattle.std.proofs.lemmas.Bool.{ltb-true, ltb-false, lt-ltb}
use Rattle.std.proofs.lemmas.Bool.{false≢true, cases_Bool}
use Rattle.std.specs.Prelude.{nat_lt}
use Rattle.std.proofs.Math.Nat.{mod-add-mod}
use Rattle.std.specs.Prelude.{Option, Some, None, MatchBool, if◌then◌else◌}
use mathlib.Core.Logic.{dite}
use mathlib.Core.Option as core
use mathlib.Core.Option.{some-injective, some-ne-none}
use native.Mathlib.Decide.{ℕ_discrete, dec_le}
use lib.ListN.{get_elem?}
use Rattle.atomic_table.specs.Table.{State, Me, Step, step, keeps, takes, gives, stepped, rest, put_back, Allows, Splits, Joins, opening, Final, Seen}
use Rattle.atomic_table.proofs.Lists.{at_set, set_else, set_again, at_snoc, at_longer, one_turn}
use Rattle.seat_lock.specs.declared.view.View.{View}
use Rattle.seat_lock.specs.declared.view.Told.{Told}
use Rattle.seat_lock.specs.declared.view.Stage.{Stage}
use Rattle.seat_lock.specs.declared.view.Stage.TheVariants.{Idle, Waits, Holds}
use Rattle.seat_lock.specs.Counts.{one_if, times, count_up, total}
use Rattle.seat_lock.specs.Histories.{named, IsForeign, NamesOnly, GoesOn, longer, under, IsLeast, IsUnderLeast, IsRow}
use Rattle.seat_lock.specs.Turns.{at_turn, has_turn, is_holding, turn_word, held, but_last, last_alone, view, at_stage, told_of, first_view, kept_view, given_view, both_views, spent_view, IsOut, Fits, IsHome, IsTaken, Kept, draws, Gains, looks, passes, sees}
use Rattle.seat_lock.proofs.Counting.{one_same, one_other, times_append, count_up_length, count_up_more, count_up_within, count_up_once, count_up_all, total_set, total_same, total_more, total_one, total_two, total_under}

module _ {E : Type 0} (number : E → ℕ) where
  pub named_append : (k : ℕ) (xs ys : List E) → named number k (xs ++ ys) ≡ named number k xs + named number k ys
  named_append k [] ys = omega arith
  named_append k (x ∷ xs) ys = let h = named_append k xs ys in omega arith

  pub goes_nowhere : (numbers : List ℕ) (history : List E) → GoesOn number numbers history history
  goes_nowhere numbers history = ([], sym (append-nil history), λ k h. refl)

  -- further, by entries of others
  pub goes_further : (numbers : List ℕ) (seen so_far more : List E) → GoesOn number numbers seen so_far → IsForeign number numbers more → GoesOn number numbers seen (so_far ++ more)
  goes_further numbers seen so_far more g foreign = (
    g.0 ++ more,
    ap (λ z. z ++ more) g.1 ∙ append_assoc seen g.0 more,
    λ k h. let a = g.2 k h in let b = foreign k h in omega (arith, named_append k g.0 more),
  )

  pub least_further : (numbers : List ℕ) (seen history : List E) → GoesOn number numbers seen history → IsUnderLeast number numbers seen → IsUnderLeast number numbers history
  least_further numbers seen history g p k q has_k has_q below = let a = p k q has_k has_q below in let b = g.2 q has_q in ap (named number q) g.1 ∙ omega (arith, named_append q seen g.0)

  -- of two beginnings of one history, what comes behind the longer one comes behind the shorter one
  pub behind : (k : ℕ) (xs ys p q : List E) → xs ++ p ≡ ys ++ q → length xs ≤ length ys → named number k q ≤ named number k p
  behind k [] ys p q e l = let a : named number k p ≡ named number k (ys ++ q) = ap (named number k) e in omega (arith, named_append k ys q)
  behind k (x ∷ xs) [] p q e l = absurd (omega arith)
  behind k (x ∷ xs) (y ∷ ys) p q e l = behind k xs ys p q (ap tail_of e) (omega arith)
    where
      tail_of : List E → List E
      tail_of [] = []
      tail_of (z ∷ zs) = zs

  pub longer_goes : (a b : List ℕ) (xs ys so_far : List E) → GoesOn number a xs so_far → GoesOn number b ys so_far → GoesOn number (a ++ b) (longer xs ys) so_far
  longer_goes a b xs ys so_far g h = ⊎_elim
      (λ (less : nat_lt (length xs) (length ys) ≡ true). subst (λ (z : List E). GoesOn number (a ++ b) z so_far) (sym (ap (λ (c : Bool). if c then ys else xs) less)) (
        h.0,
        h.1,
        λ k some_there. ⊎_elim
            (λ (in_a : 0 < times k a). let u = behind k xs ys g.0 h.0 (sym g.1 ∙ h.1) (let l = ltb-true (length xs) (length ys) less in omega arith) in let v = g.2 k in_a in omega arith)
            (λ in_b. h.2 k in_b) (either_of k some_there),
      ))
      (λ (not_less : nat_lt (length xs) (length ys) ≡ false). subst (λ (z : List E). GoesOn number (a ++ b) z so_far) (sym (ap (λ (c : Bool). if c then ys else xs) not_less)) (
        g.0,
        g.1,
        λ k some_there. ⊎_elim
            (λ in_a. g.2 k in_a)
            (λ (in_b : 0 < times k b). let u = behind k ys xs h.0 g.0 (sym h.1 ∙ g.1) (let l = ltb-false (length xs) (length ys) not_less in omega arith) in let v = h.2 k in_b in omega arith) (either_of k some_there),
      )) (cases_Bool (nat_lt (length xs) (length ys)))
    where
      either_of : (k : ℕ) → 0 < times k (a ++ b) → (0 < times k a) ⊎ (0 < times k b)
      either_of k h = dite (ℕ_discrete (times k a) 0) (λ e. inr (omega (arith, times_append k a b))) (λ n. inl (omega arith))

  -- a history that names no number has no entries
  pub names_none : (es : List E) → ((k : ℕ) → named number k es ≡ 0) → es ≡ []
  names_none [] h = refl
  names_none (e ∷ es) h = let a = h (number e) in let b = one_same (number e) (number e) refl in absurd (omega arith)

pub set_there : {A : Type 0} (l : List A) (i : ℕ) (a b : A) → get_elem? l i ≡ core.some b → get_elem? (set l i a) i ≡ core.some a
set_there [] i a b e = absurd (some-ne-none b (sym e))
set_there (x ∷ xs) zero a b e = refl
set_there (x ∷ xs) (suc i) a b e = set_there xs i a b e

cut_times : (k : ℕ) (ns : List ℕ) → times k (but_last ns) + times k (last_alone ns) ≡ times k ns
cut_times k [] = refl
cut_times k (n ∷ []) = omega arith
cut_times k (n ∷ (m ∷ ns)) = let h = cut_times k (m ∷ ns) in omega arith

cut_length : (ns : List ℕ) → length (but_last ns) + length (last_alone ns) ≡ length ns
cut_length [] = refl
cut_length (n ∷ []) = omega arith
cut_length (n ∷ (m ∷ ns)) = let h = cut_length (m ∷ ns) in omega arith

cut_counts : (ns : List ℕ) → 2 ≤ length ns → (length (but_last ns) + 1 ≡ length ns) × (length (last_alone ns) ≡ 1)
cut_counts [] two = absurd (omega arith)
cut_counts (n ∷ []) two = absurd (omega arith)
cut_counts (n ∷ (m ∷ [])) two = (refl, refl)
cut_counts (n ∷ (m ∷ (l ∷ ns))) two = let h = cut_counts (m ∷ (l ∷ ns)) (omega arith) in let e = h.0 in (omega arith, h.1)

one_last : (k q : ℕ) (ns : List ℕ) → 0 < times k (last_alone ns) → 0 < times q (last_alone ns) → k < q → ⊥
one_last k q [] a b c = omega arith
one_last k q (n ∷ []) a b c = dite (ℕ_discrete n k) (λ e. let z = one_other n q (λ f. omega arith) in omega arith) (λ d. let z = one_other n k d in omega arith)
one_last k q (n ∷ (m ∷ ns)) a b c = one_last k q (m ∷ ns) a b c

pub times_few : (k : ℕ) (ns : List ℕ) → times k ns ≤ length ns
times_few k [] = omega arith
times_few k (n ∷ ns) = let h = times_few k ns in dite (ℕ_discrete n k) (λ e. let a = one_same n k e in omega arith) (λ d. let a = one_other n k d in omega arith)

pub some_in : (k : ℕ) (ns : List ℕ) → 0 < times k ns → 0 < length ns
some_in k ns h = let a = times_few k ns in omega arith

abbrev first_home : {T : Type 0} → List (core.Option (Option T)) → core.Option (Option T)
first_home [] = core.none
first_home (h ∷ hs) = h

module _ {E G : Type 0} where
  -- a seat that has the value out is another than one that does not
  apart : (views : List (View E G)) (j id : ℕ) (v w : View E G) → get_elem? views j ≡ core.some v → get_elem? views id ≡ core.some w → is_holding v.stage ≡ true → is_holding w.stage ≡ false → j ≢ id
  apart views j id v w a b h n e = let same : v ≡ w = some-injective v w (sym a ∙ ap (get_elem? views) e ∙ b) in false≢true (sym n ∙ ap (λ (u : View E G). is_holding u.stage) (sym same) ∙ h)

module _ {T E G : Type 0} (history : T → List E) (number : E → ℕ) (fixed : T → G) where
  -- where the value is home, no seat has it out
  home_out : (so_far so_far' : List E) (served served' : ℕ) (homes homes' : List (core.Option (Option T))) (x : Option T) (seen seen' : List E) (st : Stage)
      → homes ≡ core.some x ∷ [] → IsOut history number fixed so_far served homes seen st → IsOut history number fixed so_far' served' homes' seen' st
  home_out so_far so_far' served served' homes homes' x seen seen' Idle e o = tt
  home_out so_far so_far' served served' homes homes' x seen seen' (Waits t) e o = tt
  home_out so_far so_far' served served' homes homes' x seen seen' (Holds t) e o = absurd (some-ne-none x (sym (ap first_home e) ∙ ap first_home o.1))

  -- a seat that does not hold it owes nothing
  free_out : (so_far : List E) (served : ℕ) (homes : List (core.Option (Option T))) (seen : List E) (st : Stage) → (is_holding st ≡ true → ⊥) → IsOut history number fixed so_far served homes seen st
  free_out so_far served homes seen Idle n = tt
  free_out so_far served homes seen (Waits t) n = tt
  free_out so_far served homes seen (Holds t) n = absurd (n refl)

  -- a seat that has the value out has the turn that is served
  out_turn : (so_far : List E) (served : ℕ) (homes : List (core.Option (Option T))) (seen : List E) (st : Stage) → is_holding st ≡ true → IsOut history number fixed so_far served homes seen st → at_turn served st ≡ 1
  out_turn so_far served homes seen Idle h o = absurd (false≢true h)
  out_turn so_far served homes seen (Waits t) h o = absurd (false≢true h)
  out_turn so_far served homes seen (Holds t) h o = one_same t served o.0

  abbrev base_in : G → Option G → G
  base_in d None = d
  base_in d (Some x) = x

  some_base : {g h : G} → Some g ≡ Some h → g ≡ h
  some_base {g} {h} e = ap (base_in g) e

  abbrev carried_history : List (ℕ × Option T) → List E
  carried_history [] = []
  carried_history ((k, None) ∷ xs) = []
  carried_history ((k, Some y) ∷ xs) = history y

module _ {T E G : Type 0} (history : T → List E) (number : E → ℕ) (fixed : T → G) (seats : ℕ) where
  abbrev St : Type 0
  St = State (Option T) (View E G)

  abbrev M : Type 0
  M = Me (Option T) (View E G)

  abbrev Rule : St → Type 0
  Rule = Kept history number fixed seats

  -- few seats wait
  few_wait : (s : St) (r : Rule s) → r.waiting ≤ seats
  few_wait s r = let a = total_under (λ (v : View E G). has_turn v.stage) (λ (v : View E G). length v.numbers) s.views (λ j v e. (r.fits j v e).has_number) in let b = r.drawn in let c = r.dealt in omega arith

  -- the turn of a seat is served or waits
  turn_within : (s : St) (r : Rule s) (id : ℕ) (v : View E G) (t : ℕ) → get_elem? s.views id ≡ core.some v → at_turn t v.stage ≡ 1 → (r.served ≤ t) × (t < r.served + r.waiting)
  turn_within s r id v t at mine = let a = total_one (λ (u : View E G). at_turn t u.stage) s.views id v at in let b = r.turns t in count_up_within t r.served r.waiting (omega arith)

  -- no two seats have one turn
  turn_alone : (s : St) (r : Rule s) (i j : ℕ) (v w : View E G) (t : ℕ) → i ≢ j → get_elem? s.views i ≡ core.some v → get_elem? s.views j ≡ core.some w → at_turn t v.stage ≡ 1 → at_turn t w.stage ≡ 1 → ⊥
  turn_alone s r i j v w t n e g a b = let h = total_two (λ (u : View E G). at_turn t u.stage) s.views i j v w n e g in let c = r.turns t in let d = count_up_once t r.served r.waiting in omega arith

  -- nor one number
  number_alone : (s : St) (r : Rule s) (i j : ℕ) (v w : View E G) (k : ℕ) → i ≢ j → get_elem? s.views i ≡ core.some v → get_elem? s.views j ≡ core.some w → 0 < times k v.numbers → 0 < times k w.numbers → ⊥
  number_alone s r i j v w k n e g a b = let h = total_two (λ (u : View E G). times k u.numbers) s.views i j v w n e g in let c = r.numbers k in let d = count_up_once k 0 seats in omega arith

  -- the seat that has the value out stays, where the view of one that does not changes
  abbrev still_taken : (s : St) (id : ℕ) (v w : View E G) → get_elem? s.views id ≡ core.some v → is_holding v.stage ≡ false → IsTaken history number fixed s.homes s.views → IsTaken history number fixed s.homes (set s.views id w)
  still_taken s id v w at free o = (o.0, o.1, o.2, set_else s.views id o.1 w (apart s.views o.1 id o.2 v o.3 at o.4 free) ∙ o.3, o.4)

  pub drawing : (slots id : ℕ) (me : M) → me.0.stage ≡ Idle → 0 < length me.0.numbers → Allows Rule slots id me 0 (λ n. (n + 1) % 2 ^ 64) (draws history number fixed (step slots 0 1 0 core.none) me)
  drawing slots id me idle some_number s r _ at _ = let t : ℕ = r.served + r.waiting in let w : View E G = at_stage me.0 (Waits t) in
      let was : has_turn me.0.stage ≡ 0 = ap has_turn idle in
      let next : (t % 2 ^ 64 + 1) % 2 ^ 64 ≡ (r.served + (r.waiting + 1)) % 2 ^ 64 = mod-add-mod t (2 ^ 64) 1 ∙ ap (λ (z : ℕ). z % 2 ^ 64) (omega arith) in (
        w,
        keeps,
        tt,
        record {
          so_far = r.so_far;
          base = r.base;
          served = r.served;
          waiting = r.waiting + 1;
          words = ap (λ ws. set ws 0 ((get_or ws 0 0 + 1) % 2 ^ 64)) r.words ∙ ap (λ (z : ℕ). z ∷ (r.served % 2 ^ 64 ∷ [])) next;
          few = r.few;
          turns = λ x. let a = total_set (λ (v : View E G). at_turn x v.stage) s.views id me.0 w at in let b : at_turn x me.0.stage ≡ 0 = ap (at_turn x) idle in let c = r.turns x in let d = count_up_more x r.served r.waiting in
              let e : suc r.waiting ≡ r.waiting + 1 = omega arith in let f : times x (count_up r.served (suc r.waiting)) ≡ times x (count_up r.served (r.waiting + 1)) = ap (λ (z : ℕ). times x (count_up r.served z)) e in omega arith;
          drawn = let a = total_set (λ (v : View E G). has_turn v.stage) s.views id me.0 w at in let c = r.drawn in omega arith;
          numbers = λ k. total_same (λ (v : View E G). times k v.numbers) s.views id me.0 w at refl ∙ r.numbers k;
          dealt = total_same (λ (v : View E G). length v.numbers) s.views id me.0 w at refl ∙ r.dealt;
          place = ⊎_elim (λ h. inl h) (λ o. inr (still_taken s id me.0 w at (ap is_holding idle) o)) r.place;
          fits = λ j v e. ⊎_elim (λ h. subst (Fits history number fixed r.so_far r.base r.served s.homes) h.1 (let f = r.fits id me.0 at in record { goes_on = f.goes_on; fixes = f.fixes; alone = f.alone; has_number = omega arith; out = tt; heard = f.heard })) (λ h. r.fits j v h.1) (at_set s.views id j w v e);
          all_dealt = r.all_dealt;
        },
        (t, refl, ap (λ ws. get_or ws 0 0) r.words),
      )

  -- nothing changed
  unmoved : (s : St) (id : ℕ) (v : View E G) (carried : List (ℕ × Option T)) → Rule s → get_elem? s.views id ≡ core.some v → Rule (stepped s 1 (get_or s.words 1 0) id carried v keeps)
  unmoved s id v carried r at = record {
    so_far = r.so_far;
    base = r.base;
    served = r.served;
    waiting = r.waiting;
    words = ap (λ ws. set ws 1 (get_or ws 1 0)) r.words;
    few = r.few;
    turns = λ x. total_same (λ (u : View E G). at_turn x u.stage) s.views id v v at refl ∙ r.turns x;
    drawn = total_same (λ (u : View E G). has_turn u.stage) s.views id v v at refl ∙ r.drawn;
    numbers = λ k. total_same (λ (u : View E G). times k u.numbers) s.views id v v at refl ∙ r.numbers k;
    dealt = total_same (λ (u : View E G). length u.numbers) s.views id v v at refl ∙ r.dealt;
    place = subst (λ vs. IsHome history number fixed r.so_far r.base s.homes ⊎ IsTaken history number fixed s.homes vs) (sym (set_again s.views id v at)) r.place;
    fits = λ j u e. r.fits j u (ap (λ vs. get_elem? vs j) (sym (set_again s.views id v at)) ∙ e);
    all_dealt = r.all_dealt;
  }

  -- at its turn the seat takes the value
  gaining : (s : St) (r : Rule s) (id : ℕ) (me : M) (t : ℕ) → get_elem? s.views id ≡ core.some me.0 → me.0.stage ≡ Waits t → r.served ≡ t → (h : IsHome history number fixed r.so_far r.base s.homes)
      → Rule (stepped s 1 (get_or s.words 1 0) id me.1 (view (history h.0) me.0.numbers me.0.joined (held me.0.stage) me.0.told me.0.fixed) (takes 0 (Some h.0)))
  gaining s r id me t at waits now h = let w : View E G = view (history h.0) me.0.numbers me.0.joined (held me.0.stage) me.0.told me.0.fixed in let holds : held me.0.stage ≡ Holds t = ap held waits in let out : set s.homes 0 core.none ≡ core.none ∷ [] = ap (λ hs. set hs 0 core.none) h.1 in record {
    so_far = r.so_far;
    base = r.base;
    served = r.served;
    waiting = r.waiting;
    words = ap (λ ws. set ws 1 (get_or ws 1 0)) r.words;
    few = r.few;
    turns = λ x. total_same (λ (u : View E G). at_turn x u.stage) s.views id me.0 w at (ap (at_turn x) holds ∙ sym (ap (at_turn x) waits)) ∙ r.turns x;
    drawn = total_same (λ (u : View E G). has_turn u.stage) s.views id me.0 w at (ap has_turn holds ∙ sym (ap has_turn waits)) ∙ r.drawn;
    numbers = λ k. total_same (λ (u : View E G). times k u.numbers) s.views id me.0 w at refl ∙ r.numbers k;
    dealt = total_same (λ (u : View E G). length u.numbers) s.views id me.0 w at refl ∙ r.dealt;
    place = inr (out, id, w, set_there s.views id w me.0 at, ap is_holding holds);
    fits = λ j v e. ⊎_elim
        (λ g. subst (Fits history number fixed r.so_far r.base r.served (set s.homes 0 core.none)) g.1 (let f = r.fits id me.0 at in let a = f.has_number in let b : has_turn (held me.0.stage) ≡ has_turn me.0.stage = ap has_turn holds ∙ sym (ap has_turn waits) in record {
          goes_on = subst (λ z. GoesOn number me.0.numbers z r.so_far) (sym h.2) (goes_nowhere number me.0.numbers r.so_far);
          fixes = f.fixes;
          alone = λ free. subst (IsUnderLeast number me.0.numbers) (sym h.2) (least_further number me.0.numbers me.0.seen r.so_far f.goes_on (f.alone free));
          has_number = omega arith;
          out = subst (IsOut history number fixed r.so_far r.served (set s.homes 0 core.none) (history h.0)) (sym holds) (sym now, out, h.2);
          heard = f.heard;
        }))
        (λ g. let f = r.fits j v g.1 in record { goes_on = f.goes_on; fixes = f.fixes; alone = f.alone; has_number = f.has_number; out = home_out history number fixed r.so_far r.so_far r.served r.served s.homes (set s.homes 0 core.none) (Some h.0) v.seen v.seen v.stage h.1 f.out; heard = f.heard })
        (at_set s.views id j w v e);
    all_dealt = r.all_dealt;
  }

  pub looking : (slots id : ℕ) (me : M) (t : ℕ) → me.0.stage ≡ Waits t → Allows Rule slots id me 1 (λ n. n) (looks history number fixed (step slots 1 0 0 core.none) me)
  looking slots id me t waits s r _ at _ =
      let mine : at_turn t me.0.stage ≡ 1 = ap (at_turn t) waits ∙ one_same t t refl in
      let range = turn_within s r id me.0 t at mine in
      let mine_has = r.fits id me.0 at in
      let few = few_wait s r in
      let small = r.few in
      let low = range.0 in
      let high = range.1 in
      let found : get_or s.words 1 0 ≡ r.served % 2 ^ 64 = ap (λ ws. get_or ws 1 0) r.words in
      let word : turn_word me.0.stage ≡ t % 2 ^ 64 = ap turn_word waits in
      dite (ℕ_discrete (get_or s.words 1 0) (turn_word me.0.stage))
      (λ same. let now : r.served ≡ t = one_turn r.served t (2 ^ 64) low (omega arith) (sym found ∙ same ∙ word) in ⊎_elim
      (λ (h : IsHome history number fixed r.so_far r.base s.homes). let w : View E G = view (history h.0) me.0.numbers me.0.joined (held me.0.stage) me.0.told me.0.fixed in (
        w,
        takes 0 (Some h.0),
        ap (λ hs. get_elem? hs 0) h.1,
        gaining s r id me t at waits now h,
        subst (λ b. MatchBool b (Gains history number fixed me (w, (0, Some h.0) ∷ me.1)) ((w, (0, Some h.0) ∷ me.1) ≡ me)) (sym (eq-eqb (get_or s.words 1 0) (turn_word me.0.stage) same))
            (h.0, refl, subst (GoesOn number me.0.numbers me.0.seen) (sym h.2) (r.fits id me.0 at).goes_on, mine_has.fixes (let a = mine_has.has_number in let b : has_turn me.0.stage ≡ 1 = ap has_turn waits in omega arith) ∙ ap Some (sym h.3)),
      ))
      (λ (o : IsTaken history number fixed s.homes s.views). absurd (turn_alone s r o.1 id o.2 me.0 r.served (apart s.views o.1 id o.2 me.0 o.3 at o.4 (ap is_holding waits)) o.3 at
      (out_turn history number fixed r.so_far r.served s.homes o.2.seen o.2.stage o.4 (r.fits o.1 o.2 o.3).out) (ap (λ (z : ℕ). at_turn z me.0.stage) now ∙ mine)))
      r.place)
      (λ other. (me.0, keeps, tt, unmoved s id me.0 me.1 r at, subst (λ b. MatchBool b (Gains history number fixed me me) (me ≡ me)) (sym (ne_eqb (get_or s.words 1 0) (turn_word me.0.stage) other)) refl))

  -- at the end of its turn the seat brings the value home, with more entries that name one of its numbers
  passing_on : (s : St) (r : Rule s) (id : ℕ) (me : M) (t : ℕ) (x : T) (es : List E) (k : ℕ) → get_elem? s.views id ≡ core.some me.0 → me.0.stage ≡ Holds t → me.1 ≡ (0, Some x) ∷ []
      → history x ≡ me.0.seen ++ es → NamesOnly number k es → 0 < times k me.0.numbers → ((q : ℕ) → 0 < times q me.0.numbers → k ≤ q) → me.0.fixed ≡ Some (fixed x) → Rule (stepped s 1 ((get_or s.words 1 0 + 1) % 2 ^ 64) id me.1 (view (history x) me.0.numbers me.0.joined Idle [] me.0.fixed) gives)
  passing_on s r id me t x es k at holds carried grows only has least same_fixed =
      let w : View E G = view (history x) me.0.numbers me.0.joined Idle [] me.0.fixed in
      let out : IsOut history number fixed r.so_far r.served s.homes me.0.seen (Holds t) = subst (IsOut history number fixed r.so_far r.served s.homes me.0.seen) holds (r.fits id me.0 at).out in
      let mine : at_turn r.served me.0.stage ≡ 1 = ap (at_turn r.served) holds ∙ one_same t r.served out.0 in
      let one_turn_more : has_turn me.0.stage ≡ 1 = ap has_turn holds in
      let counted = total_one (λ (u : View E G). has_turn u.stage) s.views id me.0 at in
      let drawn = r.drawn in
      let some_wait : r.waiting ≡ suc (r.waiting - 1) = omega arith in
      let left : ℕ = r.waiting - 1 in
      let row : count_up r.served r.waiting ≡ r.served ∷ count_up (suc r.served) left = ap (count_up r.served) some_wait in
      let sum : r.served + r.waiting ≡ suc r.served + left = omega arith in
      let next : (r.served % 2 ^ 64 + 1) % 2 ^ 64 ≡ suc r.served % 2 ^ 64 = mod-add-mod r.served (2 ^ 64) 1 ∙ ap (λ (z : ℕ). z % 2 ^ 64) (omega arith) in
      let homes : put_back s.homes me.1 ≡ core.some (Some x) ∷ [] = λ i. put_back (out.1 i) (carried i) in
      let told : history x ≡ r.so_far ++ es = grows ∙ ap (λ z. z ++ es) out.2 in
      let dealt : k < seats = let a = total_one (λ (u : View E G). times k u.numbers) s.views id me.0 at in let b = r.numbers k in let c = (count_up_within k 0 seats (omega arith)).1 in omega arith in
      let foreign : (j : ℕ) (v : View E G) → j ≢ id → get_elem? s.views j ≡ core.some v → IsForeign number v.numbers es = λ j v other there q h. only q (λ same. number_alone s r j id v me.0 k other there at (subst (λ (z : ℕ). 0 < times z v.numbers) same h) has) in record {
        so_far = history x;
        base = r.base;
        served = suc r.served;
        waiting = left;
        words = ap (λ ws. set ws 1 ((get_or ws 1 0 + 1) % 2 ^ 64)) r.words ∙ (λ i. ap (λ (z : ℕ). z % 2 ^ 64) sum i ∷ (next i ∷ []));
        few = r.few;
        turns = λ y. let a = total_set (λ (u : View E G). at_turn y u.stage) s.views id me.0 w at in let b : times y (count_up r.served r.waiting) ≡ one_if (eqb r.served y) + times y (count_up (suc r.served) left) = ap (times y) row in
            let c : at_turn y me.0.stage ≡ one_if (eqb r.served y) = ap (at_turn y) holds ∙ ap (λ (z : ℕ). one_if (eqb z y)) out.0 in let d = r.turns y in omega arith;
        drawn = let a = total_set (λ (u : View E G). has_turn u.stage) s.views id me.0 w at in omega arith;
        numbers = λ q. total_same (λ (u : View E G). times q u.numbers) s.views id me.0 w at refl ∙ r.numbers q;
        dealt = total_same (λ (u : View E G). length u.numbers) s.views id me.0 w at refl ∙ r.dealt;
        place = inl (x, homes, refl, some_base history number fixed (sym same_fixed ∙ (r.fits id me.0 at).fixes (let a = times_few k me.0.numbers in omega arith)));
        fits = λ j v e. ⊎_elim
            (λ g. subst (Fits history number fixed (history x) r.base (suc r.served) (put_back s.homes me.1)) g.1 (record { goes_on = goes_nowhere number me.0.numbers (history x); fixes = (r.fits id me.0 at).fixes; alone = λ free k' q has_k has_q below. let a = (r.fits id me.0 at).alone free k' q has_k has_q below in let b = only q (λ same. let c = least k' has_k in omega arith) in ap (named number q) grows ∙ omega (arith, named_append number q me.0.seen es); has_number = omega arith; out = tt; heard = λ i p none. absurd (some-ne-none p (sym none)) }))
            (λ g. let f = r.fits j v g.1 in record {
              goes_on = subst (GoesOn number v.numbers v.seen) (sym told) (goes_further number v.numbers v.seen r.so_far es f.goes_on (foreign j v g.0 g.1));
              fixes = f.fixes;
              alone = f.alone;
              has_number = f.has_number;
              out = free_out history number fixed (history x) (suc r.served) (put_back s.homes me.1) v.seen v.stage (λ h. turn_alone s r j id v me.0 r.served g.0 g.1 at (out_turn history number fixed r.so_far r.served s.homes v.seen v.stage h f.out) mine);
              heard = λ i p there. let old = f.heard i p there in (subst (GoesOn number p.numbers p.seen) (sym told) (goes_further number p.numbers p.seen r.so_far es old.0 (λ q h. foreign j v g.0 g.1 q (old.1 q h))), old.1);
            })
            (at_set s.views id j w v e);
        all_dealt = λ q above. let a = r.all_dealt q above in let b = only q (λ same. omega arith) in ap (named number q) told ∙ omega (arith, named_append number q r.so_far es);
      }

  pub passing : (slots id : ℕ) (me : M) (t : ℕ) (x : T) (es : List E) (k : ℕ) → me.0.stage ≡ Holds t → me.1 ≡ (0, Some x) ∷ [] → history x ≡ me.0.seen ++ es → NamesOnly number k es → 0 < times k me.0.numbers → ((q : ℕ) → 0 < times q me.0.numbers → k ≤ q) → me.0.fixed ≡ Some (fixed x)
      → Allows Rule slots id me 1 (λ n. (n + 1) % 2 ^ 64) (passes history number fixed (step slots 1 1 0 core.none) me)
  passing slots id me t x es k holds carried grows only has least same_fixed s r _ at _ = (
    view (history x) me.0.numbers me.0.joined Idle [] me.0.fixed,
    gives,
    tt,
    passing_on s r id me t x es k at holds carried grows only has least same_fixed,
    λ y e. let same : history x ≡ history y = ap (carried_history history number fixed) (sym carried ∙ e) in λ i. (view (same i) me.0.numbers me.0.joined Idle [] me.0.fixed, rest (e i)),
  )

  -- an idle seat sees the history so far
  pub seeing : (slots id : ℕ) (me : M) → me.0.stage ≡ Idle → Allows Rule slots id me 1 (λ n. n) (sees history number fixed (step slots 1 0 0 core.none) me)
  seeing slots id me idle s r _ at _ = let f = r.fits id me.0 at in let w : View E G = view r.so_far me.0.numbers me.0.joined me.0.stage [] me.0.fixed in (
    w,
    keeps,
    tt,
    record {
      so_far = r.so_far;
      base = r.base;
      served = r.served;
      waiting = r.waiting;
      words = ap (λ ws. set ws 1 (get_or ws 1 0)) r.words;
      few = r.few;
      turns = λ x. total_same (λ (u : View E G). at_turn x u.stage) s.views id me.0 w at refl ∙ r.turns x;
      drawn = total_same (λ (u : View E G). has_turn u.stage) s.views id me.0 w at refl ∙ r.drawn;
      numbers = λ k. total_same (λ (u : View E G). times k u.numbers) s.views id me.0 w at refl ∙ r.numbers k;
      dealt = total_same (λ (u : View E G). length u.numbers) s.views id me.0 w at refl ∙ r.dealt;
      place = ⊎_elim (λ h. inl h) (λ o. inr (still_taken s id me.0 w at (ap is_holding idle) o)) r.place;
      fits = λ j v e. ⊎_elim
          (λ g. subst (Fits history number fixed r.so_far r.base r.served s.homes) g.1 (record {
            goes_on = goes_nowhere number me.0.numbers r.so_far;
            fixes = f.fixes;
            alone = λ free. least_further number me.0.numbers me.0.seen r.so_far f.goes_on (f.alone free);
            has_number = f.has_number;
            out = subst (IsOut history number fixed r.so_far r.served s.homes r.so_far) (sym idle) tt;
            heard = λ i p none. absurd (some-ne-none p (sym none));
          }))
          (λ g. r.fits j v g.1) (at_set s.views id j w v e);
      all_dealt = r.all_dealt;
    },
    (r.so_far, refl, f.goes_on, (λ i p there. (f.heard i p there).0), λ free. least_further number me.0.numbers me.0.seen r.so_far f.goes_on (f.alone free)),
  )

  -- an idle seat gives its last number to a new one
  pub splitting : (id : ℕ) (v : View E G) → v.stage ≡ Idle → Splits Rule id v (kept_view v) (given_view v)
  splitting id v idle s r at = let w : View E G = kept_view v in let u : View E G = given_view v in
      let cut : (f : View E G → ℕ) → f w + f u ≡ f v → total f (set s.views id w ++ u ∷ []) ≡ total f s.views = λ f sum. let a = total_set f s.views id v w at in let b = total_more f (set s.views id w) u in omega arith in
      let old = r.fits id v at in
      let fewer : (ns : List ℕ) → ((k : ℕ) → 0 < times k ns → 0 < times k v.numbers) → GoesOn number ns v.seen r.so_far = λ ns within. (old.goes_on.0, old.goes_on.1, λ k h. old.goes_on.2 k (within k h)) in
      let no_turn : has_turn v.stage ≡ 0 = ap has_turn idle in record {
        so_far = r.so_far;
        base = r.base;
        served = r.served;
        waiting = r.waiting;
        words = r.words;
        few = r.few;
        turns = λ x. let a : at_turn x v.stage ≡ 0 = ap (at_turn x) idle in cut (λ (z : View E G). at_turn x z.stage) (omega arith) ∙ r.turns x;
        drawn = cut (λ (z : View E G). has_turn z.stage) (omega arith) ∙ r.drawn;
        numbers = λ k. cut (λ (z : View E G). times k z.numbers) (cut_times k v.numbers) ∙ r.numbers k;
        dealt = cut (λ (z : View E G). length z.numbers) (cut_length v.numbers) ∙ r.dealt;
        place = ⊎_elim (λ h. inl h) (λ o. let n = still_taken s id v w at (ap is_holding idle) o in inr (n.0, n.1, n.2, at_longer (set s.views id w) (u ∷ []) n.1 n.2 n.3, n.4)) r.place;
        fits = λ j z e. ⊎_elim
            (λ e'. ⊎_elim
            (λ g. subst (Fits history number fixed r.so_far r.base r.served s.homes) g.1 (record {
              goes_on = fewer (but_last v.numbers) (λ k h. omega (arith, cut_times k v.numbers));
              fixes = λ some_number. old.fixes (omega (arith, cut_length v.numbers));
              alone = λ free k q has_k has_q below. old.alone free k q (omega (arith, cut_times k v.numbers)) (omega (arith, cut_times q v.numbers)) below;
              has_number = omega arith;
              out = subst (IsOut history number fixed r.so_far r.served s.homes v.seen) (sym idle) tt;
              heard = λ i p none. absurd (some-ne-none p (sym none));
            }))
            (λ g. r.fits j z g.1) (at_set s.views id j w z e'))
            (λ same. subst (Fits history number fixed r.so_far r.base r.served s.homes) same (record {
              goes_on = fewer (last_alone v.numbers) (λ k h. omega (arith, cut_times k v.numbers));
              fixes = λ some_number. old.fixes (omega (arith, cut_length v.numbers));
              alone = λ free k q has_k has_q below. absurd (one_last k q v.numbers has_k has_q below);
              has_number = omega arith;
              out = tt;
              heard = λ i p none. absurd (some-ne-none p (sym none));
            }))
            (at_snoc (set s.views id w) u z j e);
        all_dealt = r.all_dealt;
      }

  -- two idle seats become one
  pub joining : (id : ℕ) (v : View E G) (other : ℕ) (w : View E G) → v.stage ≡ Idle → w.stage ≡ Idle → 0 < length v.numbers → Joins Rule id v other w (both_views v w) spent_view
  joining id v other w idle idle' some_number s r at different there' = let u : View E G = both_views v w in let spent : View E G = spent_view in let vs : List (View E G) = set s.views id u in
      let there : get_elem? s.views other ≡ core.some w = sym (set_else s.views id other u different) ∙ there' in
      let put : (f : View E G → ℕ) → f u + f spent ≡ f v + f w → total f (set vs other spent) ≡ total f s.views = λ f sum. let a = total_set f s.views id v u at in let b = total_set f vs other w spent there' in omega arith in
      let f = r.fits id v at in let g = r.fits other w there in let no_turn : has_turn v.stage ≡ 0 = ap has_turn idle in let no_turn' : has_turn w.stage ≡ 0 = ap has_turn idle' in record {
        so_far = r.so_far;
        base = r.base;
        served = r.served;
        waiting = r.waiting;
        words = r.words;
        few = r.few;
        turns = λ x. let a : at_turn x v.stage ≡ 0 = ap (at_turn x) idle in let b : at_turn x w.stage ≡ 0 = ap (at_turn x) idle' in put (λ (z : View E G). at_turn x z.stage) (omega arith) ∙ r.turns x;
        drawn = put (λ (z : View E G). has_turn z.stage) (omega arith) ∙ r.drawn;
        numbers = λ k. put (λ (z : View E G). times k z.numbers) (omega (arith, times_append k v.numbers w.numbers)) ∙ r.numbers k;
        dealt = put (λ (z : View E G). length z.numbers) (omega (arith, length-append v.numbers w.numbers)) ∙ r.dealt;
        place = ⊎_elim (λ h. inl h)
            (λ o. let apart_other = apart s.views o.1 other o.2 w o.3 there o.4 (ap is_holding idle') in let n = still_taken s id v u at (ap is_holding idle) o in
            inr (n.0, n.1, n.2, set_else vs other n.1 spent apart_other ∙ n.3, n.4)) r.place;
        fits = λ j z e. ⊎_elim
            (λ h. subst (Fits history number fixed r.so_far r.base r.served s.homes) h.1 (record {
              goes_on = (r.so_far, refl, λ k none. absurd (omega arith));
              fixes = λ none. absurd (omega arith);
              alone = λ none. absurd (false≢true (sym none));
              has_number = omega arith;
              out = tt;
              heard = λ i p none. absurd (some-ne-none p (sym none));
            }))
            (λ h. ⊎_elim
            (λ h'. subst (Fits history number fixed r.so_far r.base r.served s.homes) h'.1 (record {
              goes_on = longer_goes number v.numbers w.numbers v.seen w.seen r.so_far f.goes_on g.goes_on;
              fixes = λ more. f.fixes some_number;
              alone = λ none. absurd (false≢true (sym none));
              has_number = omega arith;
              out = subst (IsOut history number fixed r.so_far r.served s.homes (longer v.seen w.seen)) (sym idle) tt;
              heard = both_heard v w r.so_far f.goes_on g.goes_on;
            }))
            (λ h'. r.fits j z h'.1) (at_set s.views id j u z h.1))
            (at_set vs other j spent z e);
        all_dealt = r.all_dealt;
      }
    where
      both_heard : (v w : View E G) (so_far : List E) → GoesOn number v.numbers v.seen so_far → GoesOn number w.numbers w.seen so_far
          → (i : ℕ) (p : Told E) → get_elem? (told_of v ∷ (told_of w ∷ [])) i ≡ core.some p → GoesOn number p.numbers p.seen so_far × ((k : ℕ) → 0 < times k p.numbers → 0 < times k (v.numbers ++ w.numbers))
      both_heard v w so_far f g zero p e = subst (λ (q : Told E). GoesOn number q.numbers q.seen so_far × ((k : ℕ) → 0 < times k q.numbers → 0 < times k (v.numbers ++ w.numbers))) (some-injective (told_of v) p e) (f, λ k h. omega (arith, times_append k v.numbers w.numbers))
      both_heard v w so_far f g (suc zero) p e = subst (λ (q : Told E). GoesOn number q.numbers q.seen so_far × ((k : ℕ) → 0 < times k q.numbers → 0 < times k (v.numbers ++ w.numbers))) (some-injective (told_of w) p e) (g, λ k h. omega (arith, times_append k v.numbers w.numbers))
      both_heard v w so_far f g (suc (suc i)) p e = absurd (some-ne-none p (sym e))

  -- the first seat, with a value that has no history
  pub starts : (x : T) → seats < 2 ^ 32 → history x ≡ [] → Rule (opening (0 ∷ (0 ∷ [])) (Some x ∷ []) (first_view seats (fixed x)))
  starts x few blank = record {
    so_far = [];
    base = fixed x;
    served = 0;
    waiting = 0;
    words = refl;
    few = few;
    turns = λ y. refl;
    drawn = refl;
    numbers = λ k. omega arith;
    dealt = let a = count_up_length 0 seats in omega arith;
    place = inl (x, refl, blank, refl);
    fits = λ j v e. at_first j v e;
    all_dealt = λ k h. refl;
  }
    where
      at_first : (j : ℕ) (v : View E G) → get_elem? (first_view seats (fixed x) ∷ []) j ≡ core.some v → Fits history number fixed [] (fixed x) 0 (core.some (Some x) ∷ []) v
      at_first zero v e = subst (Fits history number fixed [] (fixed x) 0 (core.some (Some x) ∷ [])) (some-injective (first_view seats (fixed x)) v e) (record { goes_on = ([], refl, λ k h. refl); fixes = λ h. refl; alone = λ free k q has_k has_q below. refl; has_number = omega arith; out = tt; heard = λ i p none. absurd (some-ne-none p (sym none)) })
      at_first (suc j) v e = absurd (some-ne-none v (sym e))

  -- a seat that has as many numbers as were dealt has each of them
  has_dealt : (s : St) (r : Rule s) (id : ℕ) (v : View E G) → get_elem? s.views id ≡ core.some v → length v.numbers ≡ seats → (k : ℕ) → k < seats → 0 < times k v.numbers
  has_dealt s r id v at all k below = let spent : View E G = spent_view in
      let a = total_set (λ (u : View E G). times k u.numbers) s.views id v spent at in let b = total_set (λ (u : View E G). length u.numbers) s.views id v spent at in
      let c = total_under (λ (u : View E G). times k u.numbers) (λ (u : View E G). length u.numbers) (set s.views id spent) (λ j u e. times_few k u.numbers) in
      let d = r.numbers k in let e = r.dealt in let f = count_up_all k 0 seats (omega arith) (omega arith) in omega arith

  -- and so each entry names one of its numbers
  pub names_own : (s : St) (r : Rule s) (id : ℕ) (v : View E G) → get_elem? s.views id ≡ core.some v → length v.numbers ≡ seats → (k : ℕ) → 0 < named number k r.so_far → 0 < times k v.numbers
  names_own s r id v at all k some_there = dite (dec_le seats k) (λ above. let a = r.all_dealt k above in absurd (omega arith)) (λ below. has_dealt s r id v at all k (omega arith))

  -- and it has seen the whole history
  pub whole_seen : (s : St) (r : Rule s) (id : ℕ) (v : View E G) → get_elem? s.views id ≡ core.some v → length v.numbers ≡ seats → r.so_far ≡ v.seen
  whole_seen s r id v at all = goes.1 ∙ (ap (λ z. v.seen ++ z) (names_none number goes.0 none_between) ∙ append-nil v.seen)
    where
      goes : GoesOn number v.numbers v.seen r.so_far
      goes = (r.fits id v at).goes_on

      none_between : (k : ℕ) → named number k goes.0 ≡ 0
      none_between k = dite (dec_le seats k)
          (λ above. let a = r.all_dealt k above in let b : named number k r.so_far ≡ named number k (v.seen ++ goes.0) = ap (named number k) goes.1 in omega (arith, named_append number k v.seen goes.0))
          (λ below. goes.2 k (has_dealt s r id v at all k (omega arith)))

  -- a seat that has all numbers and no turn: the value is at home, and tells what the seat has seen
  pub ends : (s : St) (r : Rule s) (id : ℕ) (v : View E G) → get_elem? s.views id ≡ core.some v → v.stage ≡ Idle → length v.numbers ≡ seats → 0 < length v.numbers → (x : T) × (s.homes ≡ core.some (Some x) ∷ []) × (history x ≡ v.seen) × (v.fixed ≡ Some (fixed x))
  ends s r id v at idle all some_number = ⊎_elim
      (λ h. (h.0, h.1, h.2 ∙ whole_seen s r id v at all, (r.fits id v at).fixes some_number ∙ ap Some (sym h.3)))
      (λ o. let a = total_two (λ (u : View E G). length u.numbers) s.views o.1 id o.2 v (apart s.views o.1 id o.2 v o.3 at o.4 (ap is_holding idle)) o.3 at in let b = (r.fits o.1 o.2 o.3).has_number in let c = r.dealt in
      let d = turn_one o.2.stage o.4 in absurd (omega arith)) r.place
    where
      turn_one : (st : Stage) → is_holding st ≡ true → has_turn st ≡ 1
      turn_one Idle h = absurd (false≢true h)
      turn_one (Waits t) h = refl
      turn_one (Holds t) h = refl

pub holding_at : (st : Stage) → is_holding st ≡ true → (t : ℕ) × (st ≡ Holds t)
holding_at Idle h = absurd (false≢true h)
holding_at (Waits t) h = absurd (false≢true h)
holding_at (Holds t) h = (t, refl)

-- what the calls of the lock ask and tell, of a seat before, between and after its steps
module _ {T E G : Type 0} (history : T → List E) (name : E → ℕ) (fixed : T → G) where
  pub brought : (old new : Me (Option T) (View E G)) (value : T) → old.1 ≡ (0, None) ∷ [] → new ≡ (old.0, (0, Some value) ∷ rest old.1) → new.1 ≡ (0, Some value) ∷ []
  brought old new value out e = ap (λ (m : Me (Option T) (View E G)). m.1) e ∙ ap (λ (xs : List (ℕ × Option T)). (0, Some value) ∷ rest xs) out

  pub took : (old new : Me (Option T) (View E G)) → (gained : Gains history name fixed old new) → new.1 ≡ (0, Some gained.0) ∷ rest new.1
  took old new gained = let p = ap (λ (m : Me (Option T) (View E G)). m.1) gained.1 in p ∙ ap (λ (xs : List (ℕ × Option T)). (0, Some gained.0) ∷ xs) (sym (ap rest p))

  -- handing back
  pub passes_as : (slots id number : ℕ) (old new : Me (Option T) (View E G)) (value : T) (seats : ℕ) → is_holding old.0.stage ≡ true → old.1 ≡ (0, None) ∷ [] → new ≡ (old.0, (0, Some value) ∷ rest old.1)
      → (es : List E) → history value ≡ old.0.seen ++ es → NamesOnly name number es → IsLeast number old.0.numbers → old.0.fixed ≡ Some (fixed value)
      → Allows (Kept history name fixed seats) slots id new 1 (λ n. (n + 1) % 2 ^ 64) (passes history name fixed (step slots 1 1 0 core.none) new)
  passes_as slots id number old new value seats holding out e es grows only least same_fixed =
      let held_at = holding_at old.0.stage holding in
      passing history name fixed seats slots id new held_at.0 value es number (ap (λ (m : Me (Option T) (View E G)). m.0.stage) e ∙ held_at.1) (brought old new value out e)
      (grows ∙ ap (λ (m : Me (Option T) (View E G)). m.0.seen ++ es) (sym e)) only (subst (λ (m : Me (Option T) (View E G)). 0 < times number m.0.numbers) (sym e) least.0) (subst (λ (m : Me (Option T) (View E G)). (q : ℕ) → 0 < times q m.0.numbers → number ≤ q) (sym e) least.1) (ap (λ (m : Me (Option T) (View E G)). m.0.fixed) e ∙ same_fixed)

  pub least_after : (number : ℕ) (old new last : Me (Option T) (View E G)) (value : T) → old.1 ≡ (0, None) ∷ [] → new ≡ (old.0, (0, Some value) ∷ rest old.1) → passes history name fixed (step 0 0 0 0 core.none) new 0 last → IsLeast number old.0.numbers → IsLeast number last.0.numbers
  least_after number old new last value out e told least =
      let went = told value (brought old new value out e) in
      let numbers : last.0.numbers ≡ old.0.numbers = ap (λ (m : Me (Option T) (View E G)). m.0.numbers) went ∙ ap (λ (m : Me (Option T) (View E G)). m.0.numbers) e in
      subst (IsLeast number) (sym numbers) least

  pub row_after : (number count : ℕ) (old new last : Me (Option T) (View E G)) (value : T) → old.1 ≡ (0, None) ∷ [] → new ≡ (old.0, (0, Some value) ∷ rest old.1) → passes history name fixed (step 0 0 0 0 core.none) new 0 last
      → (old.0.joined ≡ false → IsRow number count old.0.numbers) → last.0.joined ≡ false → IsRow number count last.0.numbers
  row_after number count old new last value out e told row free =
      let went = told value (brought old new value out e) in
      let numbers : last.0.numbers ≡ old.0.numbers = ap (λ (m : Me (Option T) (View E G)). m.0.numbers) went ∙ ap (λ (m : Me (Option T) (View E G)). m.0.numbers) e in
      let joined : last.0.joined ≡ old.0.joined = ap (λ (m : Me (Option T) (View E G)). m.0.joined) went ∙ ap (λ (m : Me (Option T) (View E G)). m.0.joined) e in
      subst (IsRow number count) (sym numbers) (row (sym joined ∙ free))

  -- taking a turn
  pub least_taken : (number t : ℕ) (old drew gained last : Me (Option T) (View E G)) (x : Option T) → drew ≡ (at_stage old.0 (Waits t), old.1) → Gains history name fixed drew gained → last ≡ (gained.0, (0, x) ∷ rest gained.1) → IsLeast number old.0.numbers → IsLeast number last.0.numbers
  least_taken number t old drew gained last x d g l least =
      let numbers : last.0.numbers ≡ old.0.numbers = ap (λ (m : Me (Option T) (View E G)). m.0.numbers) l ∙ (ap (λ (m : Me (Option T) (View E G)). m.0.numbers) g.1 ∙ ap (λ (m : Me (Option T) (View E G)). m.0.numbers) d) in
      subst (IsLeast number) (sym numbers) least

  pub row_taken : (number count t : ℕ) (old drew gained last : Me (Option T) (View E G)) (x : Option T) → drew ≡ (at_stage old.0 (Waits t), old.1) → Gains history name fixed drew gained → last ≡ (gained.0, (0, x) ∷ rest gained.1)
      → (old.0.joined ≡ false → IsRow number count old.0.numbers) → last.0.joined ≡ false → IsRow number count last.0.numbers
  row_taken number count t old drew gained last x d g l row free =
      let numbers : last.0.numbers ≡ old.0.numbers = ap (λ (m : Me (Option T) (View E G)). m.0.numbers) l ∙ (ap (λ (m : Me (Option T) (View E G)). m.0.numbers) g.1 ∙ ap (λ (m : Me (Option T) (View E G)). m.0.numbers) d) in
      let joined : last.0.joined ≡ old.0.joined = ap (λ (m : Me (Option T) (View E G)). m.0.joined) l ∙ (ap (λ (m : Me (Option T) (View E G)). m.0.joined) g.1 ∙ ap (λ (m : Me (Option T) (View E G)). m.0.joined) d) in
      subst (IsRow number count) (sym numbers) (row (sym joined ∙ free))

-- ---- a row of numbers that gives its last one away

but_last_up : (first n : ℕ) → but_last (count_up first (suc n)) ≡ count_up first n
but_last_up first zero = refl
but_last_up first (suc n) = ap (λ (ns : List ℕ). first ∷ ns) (but_last_up (suc first) n)

last_alone_up : (first n : ℕ) → last_alone (count_up first (suc n)) ≡ (first + n) ∷ []
last_alone_up first zero = ap (λ (k : ℕ). k ∷ []) (omega arith)
last_alone_up first (suc n) = last_alone_up (suc first) n ∙ ap (λ (k : ℕ). k ∷ []) (omega arith)

row_cut : (number count : ℕ) (ns : List ℕ) → ns ≡ count_up number count → 2 ≤ length ns → (but_last ns ≡ count_up number (count - 1)) × (last_alone ns ≡ (number + (count - 1)) ∷ [])
row_cut number count ns e two = let l : length ns ≡ count = ap length e ∙ count_up_length number count in let c : count ≡ suc (count - 1) = omega arith in let up : ns ≡ count_up number (suc (count - 1)) = e ∙ ap (count_up number) c in
    (ap but_last up ∙ but_last_up number (count - 1), ap last_alone up ∙ last_alone_up number (count - 1))

row_least : (number n : ℕ) → 0 < n → IsLeast number (count_up number n)
row_least number n some_number = (count_up_all number number n (le_refl number) (omega arith), λ k h. (count_up_within k number n h).0)

module _ {E : Type 0} (name : E → ℕ) where
  under_same : (ns ms : List ℕ) (es : List E) → ((k : ℕ) → 0 < named name k es → nat_lt 0 (times k ns) ≡ nat_lt 0 (times k ms)) → under name ns es ≡ under name ms es
  under_same ns ms [] h = refl
  under_same ns ms (e ∷ es) h = let one = one_same (name e) (name e) refl in
      (λ i. if h (name e) (omega arith) i then e ∷ under_same ns ms es (λ k p. h k (omega arith)) i else under_same ns ms es (λ k p. h k (omega arith)) i)

  under_none : (ns : List ℕ) (es : List E) → ((k : ℕ) → 0 < named name k es → times k ns ≡ 0) → under name ns es ≡ []
  under_none ns [] h = refl
  under_none ns (e ∷ es) h = let one = one_same (name e) (name e) refl in let z = h (name e) (omega arith) in
      ap (λ (n : ℕ). if nat_lt 0 n then e ∷ under name ns es else under name ns es) z ∙ under_none ns es (λ k p. h k (omega arith))

  pub under_all : (ns : List ℕ) (es : List E) → ((k : ℕ) → 0 < named name k es → 0 < times k ns) → under name ns es ≡ es
  under_all ns [] h = refl
  under_all ns (e ∷ es) h = let one = one_same (name e) (name e) refl in
      ap (λ (b : Bool). if b then e ∷ under name ns es else under name ns es) (lt-ltb 0 (times (name e) ns) (h (name e) (omega arith))) ∙ ap (λ (zs : List E). e ∷ zs) (under_all ns es (λ k p. h k (omega arith)))

  -- entries of others are not under the numbers
  under_foreign : (ns : List ℕ) (xs ys : List E) → IsForeign name ns ys → under name ns (xs ++ ys) ≡ under name ns xs
  under_foreign ns [] ys h = under_none ns ys (λ k some_there. dite (ℕ_discrete (times k ns) 0) (λ z. z) (λ nz. let a = h k (omega arith) in absurd (omega arith)))
  under_foreign ns (x ∷ xs) ys h = λ i. if nat_lt 0 (times (name x) ns) then x ∷ under_foreign ns xs ys h i else under_foreign ns xs ys h i

  pub cut_own : (number count : ℕ) (ns : List ℕ) (seen : List E) → IsRow number count ns → IsUnderLeast name ns seen → 2 ≤ length ns → (under name (but_last ns) seen ≡ under name ns seen) × (under name (last_alone ns) seen ≡ [])
  cut_own number count ns seen row p two =
      let l : length ns ≡ count = ap length row.1 ∙ count_up_length number count in
      let cut = row_cut number count ns row.1 two in
      let first : 0 < times number ns = subst (λ (z : List ℕ). 0 < times number z) (sym row.1) (count_up_all number number count (le_refl number) (omega arith)) in
      let here : (k : ℕ) → 0 < named name k seen → (k ≡ number) ⊎ (times k ns ≡ 0) = λ k h. dite (ℕ_discrete k number) (λ e. inl e) (λ n. inr (dite (ℕ_discrete (times k ns) 0) (λ z. z)
      (λ nz. let b = (count_up_within k number count (subst (λ (z : List ℕ). 0 < times k z) row.1 (omega arith))).0 in let a = p number k first (omega arith) (omega arith) in absurd (omega arith)))) in (
        under_same (but_last ns) ns seen (λ k h. ⊎_elim
            (λ (e : k ≡ number).
            let a : 0 < times k (but_last ns) = subst (λ (z : ℕ × List ℕ). 0 < times z.0 z.1) (λ i. (sym e i, sym cut.0 i)) (count_up_all number number (count - 1) (le_refl number) (omega arith)) in
            lt-ltb 0 (times k (but_last ns)) a ∙ sym (lt-ltb 0 (times k ns) (omega (arith, cut_times k ns))))
            (λ (z : times k ns ≡ 0). let a : times k (but_last ns) ≡ 0 = omega (arith, cut_times k ns) in ap (nat_lt 0) (a ∙ sym z)) (here k h)),
        under_none (last_alone ns) seen (λ k h. ⊎_elim
            (λ (e : k ≡ number). let a : times k (last_alone ns) ≡ times k ((number + (count - 1)) ∷ []) = ap (times k) cut.1 in let b = one_other (number + (count - 1)) k (λ same. omega arith) in omega arith)
            (λ (z : times k ns ≡ 0). omega (arith, cut_times k ns)) (here k h)),
      )

cut_least : (number count : ℕ) (ns : List ℕ) → IsRow number count ns → 2 ≤ length ns → IsLeast number (but_last ns)
cut_least number count ns row two = let l : length ns ≡ count = ap length row.1 ∙ count_up_length number count in subst (IsLeast number) (sym (row_cut number count ns row.1 two).0) (row_least number (count - 1) (omega arith))

cut_row : (number count : ℕ) (ns : List ℕ) → IsRow number count ns → 2 ≤ length ns → IsRow number (count - 1) (but_last ns)
cut_row number count ns row two = let fits = row.0 in (omega arith, (row_cut number count ns row.1 two).0)

given_least : (number count : ℕ) (ns : List ℕ) → IsRow number count ns → 2 ≤ length ns → IsLeast (number + (count - 1)) (last_alone ns)
given_least number count ns row two = subst (IsLeast (number + (count - 1))) (sym (row_cut number count ns row.1 two).1) (row_least (number + (count - 1)) 1 (omega arith))

given_row : (number count : ℕ) (ns : List ℕ) → IsRow number count ns → 2 ≤ length ns → IsRow (number + (count - 1)) 1 (last_alone ns)
given_row number count ns row two = let fits = row.0 in let l : length ns ≡ count = ap length row.1 ∙ count_up_length number count in (omega arith, (row_cut number count ns row.1 two).1)

-- ---- two seats in one

pub both_least : (a b r : ℕ) (xs ys : List ℕ) → IsLeast a xs → IsLeast b ys → (r ≤ a) × (r ≤ b) → (r ≡ a) ⊎ (r ≡ b) → IsLeast r (xs ++ ys)
both_least a b r xs ys f g below one = let below_a = below.0 in let below_b = below.1 in (
  ⊎_elim (λ e. let h : 0 < times r xs = subst (λ (z : ℕ). 0 < times z xs) (sym e) f.0 in omega (arith, times_append r xs ys)) (λ e. let h : 0 < times r ys = subst (λ (z : ℕ). 0 < times z ys) (sym e) g.0 in omega (arith, times_append r xs ys)) one,
  λ k h. dite (ℕ_discrete (times k xs) 0) (λ z. let u = g.1 k (omega (arith, times_append k xs ys)) in omega arith) (λ n. let u = f.1 k (omega arith) in omega arith),
)

module _ {T E G : Type 0} (history : T → List E) (name : E → ℕ) (fixed : T → G) where
  pub sees_as : (slots id : ℕ) (old other new : Me (Option T) (View E G)) (seats : ℕ) → old.0.stage ≡ Idle → new ≡ (both_views old.0 other.0, old.1) → Allows (Kept history name fixed seats) slots id new 1 (λ n. n) (sees history name fixed (step slots 1 0 0 core.none) new)
  sees_as slots id old other new seats idle e = seeing history name fixed seats slots id new (ap (λ (m : Me (Option T) (View E G)). m.0.stage) e ∙ idle)

  pub joined_seen : (found : ℕ) (s : Step (Option T)) (old other new last : Me (Option T) (View E G)) → new ≡ (both_views old.0 other.0, old.1) → sees history name fixed s new found last
      → GoesOn name old.0.numbers old.0.seen last.0.seen × GoesOn name other.0.numbers other.0.seen last.0.seen
  joined_seen found s old other new last e saw =
      let seen : saw.0 ≡ last.0.seen = sym (ap (λ (m : Me (Option T) (View E G)). m.0.seen) saw.1) in (
        subst (GoesOn name old.0.numbers old.0.seen) seen (saw.3 0 (told_of old.0) (ap (λ (m : Me (Option T) (View E G)). get_elem? m.0.told 0) e)),
        subst (GoesOn name other.0.numbers other.0.seen) seen (saw.3 1 (told_of other.0) (ap (λ (m : Me (Option T) (View E G)). get_elem? m.0.told 1) e)),
      )

  pub joined_least : (a b r found : ℕ) (s : Step (Option T)) (old other new last : Me (Option T) (View E G)) → new ≡ (both_views old.0 other.0, old.1) → sees history name fixed s new found last
      → IsLeast a old.0.numbers → IsLeast b other.0.numbers → (r ≤ a) × (r ≤ b) → (r ≡ a) ⊎ (r ≡ b) → IsLeast r last.0.numbers
  joined_least a b r found s old other new last e saw f g below one =
      let numbers : last.0.numbers ≡ old.0.numbers ++ other.0.numbers = ap (λ (m : Me (Option T) (View E G)). m.0.numbers) saw.1 ∙ ap (λ (m : Me (Option T) (View E G)). m.0.numbers) e in
      subst (IsLeast r) (sym numbers) (both_least a b r old.0.numbers other.0.numbers f g below one)

  pub joined_now : (found : ℕ) (s : Step (Option T)) (old other new last : Me (Option T) (View E G)) → new ≡ (both_views old.0 other.0, old.1) → sees history name fixed s new found last → last.0.joined ≡ true
  joined_now found s old other new last e saw = ap (λ (m : Me (Option T) (View E G)). m.0.joined) saw.1 ∙ ap (λ (m : Me (Option T) (View E G)). m.0.joined) e

  -- splitting: the seat sees the history so far, and then gives its last number away
  pub saw_idle : (found : ℕ) (s : Step (Option T)) (old new : Me (Option T) (View E G)) → sees history name fixed s old found new → old.0.stage ≡ Idle → new.0.stage ≡ Idle
  saw_idle found s old new saw idle = ap (λ (m : Me (Option T) (View E G)). m.0.stage) saw.1 ∙ idle

  pub saw_numbers : (found : ℕ) (s : Step (Option T)) (old new : Me (Option T) (View E G)) → sees history name fixed s old found new → new.0.numbers ≡ old.0.numbers
  saw_numbers found s old new saw = ap (λ (m : Me (Option T) (View E G)). m.0.numbers) saw.1

  pub saw_on : (found : ℕ) (s : Step (Option T)) (old new : Me (Option T) (View E G)) → sees history name fixed s old found new → GoesOn name old.0.numbers old.0.seen new.0.seen
  saw_on found s old new saw = subst (GoesOn name old.0.numbers old.0.seen) (sym (ap (λ (m : Me (Option T) (View E G)). m.0.seen) saw.1)) saw.2

  pub cut_seat : (number count : ℕ) (old new : Me (Option T) (View E G)) → new ≡ (kept_view old.0, old.1) → IsRow number count old.0.numbers → 2 ≤ length old.0.numbers → IsLeast number new.0.numbers × IsRow number (count - 1) new.0.numbers
  cut_seat number count old new e row two = subst (λ (m : Me (Option T) (View E G)). IsLeast number m.0.numbers × IsRow number (count - 1) m.0.numbers) (sym e) (cut_least number count old.0.numbers row two, cut_row number count old.0.numbers row two)

  pub given_seat : (number count : ℕ) (old new : Me (Option T) (View E G)) → new ≡ (given_view old.0, []) → IsRow number count old.0.numbers → 2 ≤ length old.0.numbers → IsLeast (number + (count - 1)) new.0.numbers × IsRow (number + (count - 1)) 1 new.0.numbers
  given_seat number count old new e row two = subst (λ (m : Me (Option T) (View E G)). IsLeast (number + (count - 1)) m.0.numbers × IsRow (number + (count - 1)) 1 m.0.numbers) (sym e) (given_least number count old.0.numbers row two, given_row number count old.0.numbers row two)

  pub row_seen : (number count found : ℕ) (s : Step (Option T)) (old new : Me (Option T) (View E G)) → sees history name fixed s old found new → IsRow number count old.0.numbers → IsRow number count new.0.numbers
  row_seen number count found s old new saw row = subst (IsRow number count) (sym (saw_numbers found s old new saw)) row

  pub cut_counted : (found : ℕ) (s : Step (Option T)) (old saw_me new given : Me (Option T) (View E G)) → sees history name fixed s old found saw_me → new ≡ (kept_view saw_me.0, saw_me.1) → given ≡ (given_view saw_me.0, [])
      → 2 ≤ length old.0.numbers → (length new.0.numbers + 1 ≡ length old.0.numbers) × (length given.0.numbers ≡ 1)
  cut_counted found s old saw_me new given saw e g two =
      let same = saw_numbers found s old saw_me saw in
      let counts = cut_counts old.0.numbers two in
      let left : new.0.numbers ≡ but_last old.0.numbers = ap (λ (m : Me (Option T) (View E G)). m.0.numbers) e ∙ ap but_last same in
      let right : given.0.numbers ≡ last_alone old.0.numbers = ap (λ (m : Me (Option T) (View E G)). m.0.numbers) g ∙ ap last_alone same in
      (ap (λ (ns : List ℕ). length ns + 1) left ∙ counts.0, ap length right ∙ counts.1)

  pub own_cut : (number count found : ℕ) (s : Step (Option T)) (old saw_me new given : Me (Option T) (View E G)) → sees history name fixed s old found saw_me → new ≡ (kept_view saw_me.0, saw_me.1) → given ≡ (given_view saw_me.0, []) → old.0.joined ≡ false
      → IsRow number count old.0.numbers → 2 ≤ length old.0.numbers → (under name new.0.numbers new.0.seen ≡ under name old.0.numbers old.0.seen) × (under name given.0.numbers given.0.seen ≡ [])
  own_cut number count found s old saw_me new given saw e g free row two =
      let numbers = saw_numbers found s old saw_me saw in
      let seen : saw_me.0.seen ≡ saw.0 = ap (λ (m : Me (Option T) (View E G)). m.0.seen) saw.1 in
      let cut = cut_own name number count old.0.numbers saw.0 row (saw.4 free) two in
      let there : under name old.0.numbers saw.0 ≡ under name old.0.numbers old.0.seen = ap (under name old.0.numbers) saw.2.1 ∙ under_foreign name old.0.numbers old.0.seen saw.2.0 saw.2.2 in (
        ap (λ (m : Me (Option T) (View E G)). under name m.0.numbers m.0.seen) e ∙ ((λ i. under name (but_last (numbers i)) (seen i)) ∙ (cut.0 ∙ there)),
        ap (λ (m : Me (Option T) (View E G)). under name m.0.numbers m.0.seen) g ∙ ((λ i. under name (last_alone (numbers i)) (seen i)) ∙ cut.1),
      )

  -- the first seat
  pub first_seat : (seats : ℕ) (base : G) (m : Me (Option T) (View E G)) → m ≡ (first_view seats base, []) → 0 < seats → seats < 2 ^ 32 → IsLeast 0 m.0.numbers × IsRow 0 seats m.0.numbers
  first_seat seats base m e some_seat few = subst (λ (m : Me (Option T) (View E G)). IsLeast 0 m.0.numbers × IsRow 0 seats m.0.numbers) (sym e) (row_least 0 seats some_seat, (omega arith, refl))

  pub starts_as : (seats : ℕ) (x y : T) (slots : List (Option T)) → slots ≡ Some x ∷ [] → y ≡ x → seats < 2 ^ 32 → history x ≡ [] → Kept history name fixed seats (opening (0 ∷ (0 ∷ [])) slots (first_view seats (fixed y)))
  starts_as seats x y slots e same few blank = subst (λ (z : List (Option T) × T). Kept history name fixed seats (opening (0 ∷ (0 ∷ [])) z.0 (first_view seats (fixed z.1)))) (λ i. (sym e i, sym same i)) (starts history name fixed seats x few blank)

  -- closing, with the seat that has all numbers
  pub closing : (seats id : ℕ) (v : View E G) (words : List ℕ) (slots : List (Option T)) (y : Option T) → Final (Seen (Kept history name fixed seats) id v) words slots → v.stage ≡ Idle → length v.numbers ≡ seats → 0 < length v.numbers → get_elem? slots 0 ≡ core.some y
      → (x : T) × (y ≡ Some x) × (history x ≡ v.seen) × (v.fixed ≡ Some (fixed x))
  closing seats id v words slots y f idle all some_number found = let last = ends history name fixed seats f.0 f.1.0 id v f.1.1 idle all some_number in (last.0, some-injective y (Some last.0) (sym found ∙ f.4 0 (Some last.0) (ap (λ hs. get_elem? hs 0) last.1)), last.2, last.3)

  abbrev fixed_in : G → Option T → G
  fixed_in g None = g
  fixed_in g (Some x) = fixed x

  pub closed : (seats id : ℕ) (v : View E G) (words : List ℕ) (slots : List (Option T)) (y : Option T) (z : T) → Final (Seen (Kept history name fixed seats) id v) words slots → v.stage ≡ Idle → length v.numbers ≡ seats → 0 < length v.numbers → get_elem? slots 0 ≡ core.some y
      → y ≡ Some z → (history z ≡ v.seen) × (v.fixed ≡ Some (fixed z))
  closed seats id v words slots y z f idle all some_number found is = let last = closing seats id v words slots y f idle all some_number found in
      (ap (λ (w : Option T). carried_history history name fixed ((0, w) ∷ [])) (sym is ∙ last.1) ∙ last.2, last.3 ∙ ap (λ (w : Option T). Some (fixed_in (fixed z) w)) (sym last.1 ∙ is))

  -- its own entries are all that there are
  pub closed_own : (seats id : ℕ) (v : View E G) (words : List ℕ) (slots : List (Option T)) → Final (Seen (Kept history name fixed seats) id v) words slots → length v.numbers ≡ seats → under name v.numbers v.seen ≡ v.seen
  closed_own seats id v words slots f all =
      let whole = whole_seen history name fixed seats f.0 f.1.0 id v f.1.1 all in
      under_all name v.numbers v.seen (λ k h. names_own history name fixed seats f.0 f.1.0 id v f.1.1 all k (subst (λ (z : List E). 0 < named name k z) (sym whole) h))

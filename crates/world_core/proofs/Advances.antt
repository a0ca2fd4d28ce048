-- How the nodes and the list of offered updates advance: by a step alone, by an apply, by an offer.
use Rattle.std.proofs.Common.{◌≡◌, ℕ, zero, suc, ◌≤◌, inl, inr, Bool, true, false, cond, List, [], ◌∷◌, ◌++◌, refl, sym, subst, ◌∙◌, arith, Contains, length, find, Some, slice_get, slice_index_or}
use Rattle.std.specs.Prelude.{Result, Ok, Err}
use Rattle.std.proofs.lemmas.Bool.{cases_eq, cases_Bool}
use Rattle.std.proofs.lemmas.List.Elements.{Contains-push_cases, Contains-get_or}
use Rattle.std.proofs.lemmas.Option.{slice_get_within, get_or_from_slice_get}
use Rattle.repl_data.specs.declared.change.Change.{Change}
use Rattle.repl_data.specs.declared.change.Update.{Update}
use Rattle.vector_core.specs.declared.answers.Applied.{Applied}
use Rattle.vector_core.specs.declared.answers.Applied.TheVariants.{Taken, Duplicate}
use Rattle.vector_core.specs.declared.answers.ApplyFault.{ApplyFault}
use Rattle.vector_core.proofs.Lists.{Contains-nil, Contains-here, Contains-there}
use Rattle.node_core.specs.Node.{Node, new_node, update_of}
use Rattle.node_core.specs.Steps.{apply_answer, after_apply}
use Rattle.node_core.specs.Sound.{IsPlain, GoesOn}
use Rattle.node_core.proofs.Moves.{goes_on-refl, goes_on-then}
use Rattle.node_core.proofs.Draws.{Some-same, None-Some}
use Rattle.node_core.proofs.Alone.{GoesAlone, alone}
use Rattle.node_core.proofs.NodeSteps.{stays}
use Rattle.node_core.proofs.Applies.{Fits, taken-means, takes_one}
use Rattle.node_core.proofs.Offers.{IsOffer}
use Rattle.world_core.specs.World.{no_suffix, node_of, with_node}
use Rattle.world_core.specs.Laws.{IsNode, AreSound, AreHonest, IsFitting, AllGoOn}
use Rattle.world_core.proofs.Honest.{node_of-here, node_of-apart, with-IsNode, length-with_node, sound_with, sound_of_alone, honest_of_alone, honest_of_taken, honest_of_offer}

pub fits_of : (u : Update) → IsFitting u → Fits u
fits_of u f = record { seq = f.seq; rid = f.rid }

pub fitting_of : (u : Update) → IsPlain u.change.csn → IsFitting u
fitting_of u p = record { seq = p.seq_fits; rid = p.rid_fits }

-- where the premise H holds, what is honest stays so
pub record Advance (H : Type 0) (nodes new : List Node) (updates more : List Update) : Type 0 where
  pub same_length : length new ≡ length nodes
  pub sound : AreSound new
  pub on : AllGoOn nodes new
  pub fits : (u : Update) → Contains more u → IsFitting u
  pub honest : H → AreHonest nodes updates → AreHonest new more

pub advance-refl : (nodes : List Node) (updates : List Update) → AreSound nodes → ((u : Update) → Contains updates u → IsFitting u) → Advance (Unit {0}) nodes nodes updates updates
advance-refl nodes updates a f = record {
  same_length = refl;
  sound = a;
  on = λ r i. (i, goes_on-refl (node_of nodes r));
  fits = f;
  honest = λ t h. h;
}

pub advance-then : (a b c : List Node) (u v w : List Update) → Advance (Unit {0}) a b u v → Advance (Unit {0}) b c v w → Advance (Unit {0}) a c u w
advance-then a b c u v w f g = record {
  same_length = g.same_length ∙ f.same_length;
  sound = g.sound;
  on = λ r i.
      (let p = f.on r i in let q = g.on r p.0 in (q.0, goes_on-then (node_of a r) (node_of b r) (node_of c r) p.1 q.1));
  fits = g.fits;
  honest = λ t h. g.honest tt (f.honest tt h);
}

on_with : (nodes : List Node) (r : ℕ) (new : Node) → IsNode nodes r → GoesOn (node_of nodes r) new → AllGoOn nodes (with_node nodes r new)
on_with nodes r new i g k j = (
  with-IsNode nodes r k new j,
  elim (cases_eq k r) [
    | inl e ↦
        subst (λ z. GoesOn (node_of nodes z) (node_of (with_node nodes r new) z)) (sym e)
        (subst (λ m. GoesOn (node_of nodes r) m) (sym (node_of-here nodes r new i)) g)
    | inr d ↦ subst (λ m. GoesOn (node_of nodes k) m) (sym (node_of-apart nodes r k new d)) (goes_on-refl (node_of nodes k))
  ],
)

pub advance_alone : (nodes : List Node) (updates : List Update) (r : ℕ) (new : Node) → AreSound nodes → ((u : Update) → Contains updates u → IsFitting u) → IsNode nodes r → GoesAlone (node_of nodes r) new → Advance (Unit {0}) nodes (with_node nodes r new) updates updates
advance_alone nodes updates r new a f i g = record {
  same_length = length-with_node nodes r new;
  sound = sound_of_alone nodes r new i a g;
  on = on_with nodes r new i g.on;
  fits = f;
  honest = λ t h. honest_of_alone nodes updates r new i a h g;
}

-- ---- an apply

pub advance_apply : (nodes : List Node) (updates : List Update) (r from : ℕ) (u : Update) (now : ℕ) (fails : Bool) → AreSound nodes → ((v : Update) → Contains updates v → IsFitting v) → IsNode nodes r → IsFitting u → Advance (Contains updates u) nodes (with_node nodes r (after_apply (node_of nodes r) u.change (apply_answer (node_of nodes r) from u now fails))) updates updates
advance_apply nodes updates r from u now fails a f i fit = by_answer (apply_answer (node_of nodes r) from u now fails) refl
  where
    stay : Advance (Contains updates u) nodes (with_node nodes r (node_of nodes r)) updates updates
    stay =
        let g = alone (node_of nodes r) (node_of nodes r) (a.sound r i) (stays (node_of nodes r) (a.sound r i)) in
        record {
          same_length = length-with_node nodes r (node_of nodes r);
          sound = sound_of_alone nodes r (node_of nodes r) i a g;
          on = on_with nodes r (node_of nodes r) i g.on;
          fits = f;
          honest = λ c h. honest_of_alone nodes updates r (node_of nodes r) i a h g;
        }

    by_answer : (ans : Result Applied ApplyFault) → apply_answer (node_of nodes r) from u now fails ≡ ans → Advance (Contains updates u) nodes (with_node nodes r (after_apply (node_of nodes r) u.change ans)) updates updates
    by_answer (Ok Taken) e =
        (let t = taken-means (node_of nodes r) from u now fails (a.sound r i) (fits_of u fit) e in
        let one = takes_one (node_of nodes r) from u now (a.sound r i) (fits_of u fit) t in
        record {
          same_length = length-with_node nodes r (after_apply (node_of nodes r) u.change (Ok Taken));
          sound = sound_with nodes r (after_apply (node_of nodes r) u.change (Ok Taken)) i a (one.on.same_rid ∙ a.named r i) one.sound;
          on = on_with nodes r (after_apply (node_of nodes r) u.change (Ok Taken)) i one.on;
          fits = f;
          honest = λ c h. honest_of_taken nodes updates r from u now i a h c t one;
        })
    by_answer (Ok Duplicate) e = stay
    by_answer (Err fault) e = stay

-- ---- an offer

-- who has taken something is a node
pub taker_is_node : (nodes : List Node) (o : ℕ) (c : Change) → Contains (node_of nodes o).taken c → IsNode nodes o
taker_is_node nodes zero c h = absurd (Contains-nil h)
taker_is_node nodes (suc k) c h = by_get nodes k h
  where
    by_get : (ns : List Node) (j : ℕ) → Contains (slice_index_or ns j (new_node no_suffix 0)).taken c → IsNode ns (suc j)
    by_get [] j q = absurd (Contains-nil q)
    by_get (n ∷ ns) zero q = record { above = omega arith; within = omega arith }
    by_get (n ∷ ns) (suc j) q =
        (let r = by_get ns j q in let w : suc j ≤ length ns = r.within in record { above = omega arith; within = omega arith })

pub advance_offer : (nodes : List Node) (updates : List Update) (r : ℕ) (u : Update) → AreSound nodes → ((v : Update) → Contains updates v → IsFitting v) → IsNode nodes r → IsOffer (node_of nodes r) u → Advance (Unit {0}) nodes nodes updates (updates ++ u ∷ [])
advance_offer nodes updates r u a f i o =
    record {
      same_length = refl;
      sound = a;
      on = λ k j. (j, goes_on-refl (node_of nodes k));
      fits = λ v h.
          elim (Contains-push_cases updates u v h) [
            | inl q ↦ f v q
            | inr e ↦ subst (λ (z : Update). IsFitting z) (o.is ∙ e) (fitting_of (update_of (node_of nodes r) o.change) ((a.sound r i).taken_plain o.change o.has))
          ];
      honest = λ t h. subst (λ z. AreHonest nodes (updates ++ z ∷ [])) o.is (honest_of_offer nodes updates r o.change i (origin_is h) a h o.has o.covered);
    }
  where
    origin_is : AreHonest nodes updates → IsNode nodes o.change.csn.rid
    origin_is h =
        elim (cases_eq o.change.csn.rid r) [
          | inl e ↦ subst (λ z. IsNode nodes z) (sym e) i
          | inr d ↦ taker_is_node nodes o.change.csn.rid o.change ((h.prefix r o.change.csn.rid i d o.change refl).0 o.has).0
        ]

-- LOOK-UPS

pub find-Contains : {X : Type 0} (p : X → Bool) (xs : List X) (x : X) → find p xs ≡ Some x → Contains xs x × (p x ≡ true)
find-Contains p [] x e = absurd (None-Some e)
find-Contains p (y ∷ ys) x e =
    elim (cases_Bool (p y)) [
      | inl t ↦
          (let q : y ≡ x = Some-same (sym (cond_true t) ∙ e) in
          (subst (λ z. Contains (y ∷ ys) z) q (Contains-here y ys), subst (λ z. p z ≡ true) q t))
      | inr f ↦ (let r = find-Contains p ys x (sym (cond_false f) ∙ e) in (Contains-there y ys x r.0, r.1))
    ]
  where
    cond_true : p y ≡ true → cond (p y) (Some y) (find p ys) ≡ Some y
    cond_true t = rw t refl

    cond_false : p y ≡ false → cond (p y) (Some y) (find p ys) ≡ find p ys
    cond_false f = rw f refl

pub slice_get-Contains : {X : Type 0} (xs : List X) (i : ℕ) (x : X) → slice_get xs i ≡ Some x → Contains xs x
slice_get-Contains xs i x e =
    subst (λ z. Contains xs z) (get_or_from_slice_get xs i x x e) (Contains-get_or xs i x (slice_get_within xs i x e))

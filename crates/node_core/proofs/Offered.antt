-- What a node offers is what its log finds between the vectors.
use Rattle.std.proofs.Common.{◌≡◌, true, false, inl, inr, List, [], ◌∷◌, map, filter, refl, sym, ap, subst, ◌∙◌, Contains, Option, Some, None, ◌&&◌, option_map}
use Rattle.std.specs.List.{All}
use Rattle.std.proofs.lemmas.Bool.{cases_Bool}
use Rattle.repl_data.specs.declared.csn.Csn.{Csn}
use Rattle.repl_data.specs.declared.change.Change.{Change}
use Rattle.repl_data.specs.declared.change.Update.{Update}
use Rattle.repl_data.specs.Order.{csn_lt, csn_le, number_of}
use Rattle.repl_data.proofs.CsnTests.{csn_lt-irreflexive, csn_lt-one_way, csn_lt-connected, csn_not-from_le}
use Rattle.vector_core.specs.Vector.{entry_of}
use Rattle.vector_core.proofs.Lists.{Contains-nil, Contains-here, Contains-there, Contains-cons_cases, if_true, if_false, Contains-filter, filter-Contains}
use Rattle.vector_core.proofs.Greatests.{at_most-trans}
use Rattle.change_log.specs.Log.{is_between}
use Rattle.node_core.specs.Node.{Node, vector_of, update_of}
use Rattle.node_core.specs.Steps.{is_offered_to, put_in_order, in_order, first_of, offer}
use Rattle.node_core.specs.Sound.{IsSoundNode}
use Rattle.node_core.proofs.Vectors.{entry_of-vector_of}

-- the change of least CSN, or none where there is no change
abbrev pub LeastIn : List Change → Option Change → Type 0
LeastIn xs None = (d : Change) → Contains xs d → ⊥
LeastIn xs (Some f) = Contains xs f × ((d : Change) → Contains xs d → csn_lt d.csn f.csn ≡ false)

put-least : (x : Change) (xs ds : List Change) → LeastIn xs (first_of ds) → LeastIn (x ∷ xs) (first_of (put_in_order x ds))
put-least x xs [] h = (
  Contains-here x xs,
  λ e k. elim (Contains-cons_cases x xs e k) [ inl q ↦ subst (λ (z : Change). csn_lt z.csn x.csn ≡ false) q (csn_lt-irreflexive x.csn) | inr q ↦ absurd (h e q) ],
)
put-least x xs (d ∷ ds) h =
    elim (cases_Bool (csn_lt d.csn x.csn)) [
      | inl t ↦
          subst (λ ys. LeastIn (x ∷ xs) (first_of ys)) (sym (if_true (d ∷ put_in_order x ds) (x ∷ (d ∷ ds)) t)) (
            Contains-there x xs d h.0,
            λ e k. elim (Contains-cons_cases x xs e k) [ inl q ↦ subst (λ (z : Change). csn_lt z.csn d.csn ≡ false) q (csn_lt-one_way d.csn x.csn t) | inr q ↦ h.1 e q ],
          )
      | inr f ↦
          subst (λ ys. LeastIn (x ∷ xs) (first_of ys)) (sym (if_false (d ∷ put_in_order x ds) (x ∷ (d ∷ ds)) f)) (
            Contains-here x xs,
            λ e k. elim (Contains-cons_cases x xs e k) [ inl q ↦ subst (λ (z : Change). csn_lt z.csn x.csn ≡ false) q (csn_lt-irreflexive x.csn) | inr q ↦ at_most-trans x.csn d.csn e.csn f (h.1 e q) ],
          )
    ]

pub first-least : (xs : List Change) → LeastIn xs (first_of (in_order xs))
first-least [] = λ d h. Contains-nil h
first-least (x ∷ xs) = put-least x xs (in_order xs) (first-least xs)

least-is : (xs : List Change) (c : Change) (o : Option Change) → LeastIn xs o → Contains xs c → ((d : Change) → Contains xs d → csn_lt d.csn c.csn ≡ false)
    → ((d : Change) → Contains xs d → d.csn ≡ c.csn → d ≡ c) → o ≡ Some c
least-is xs c None h here low once = absurd (h c here)
least-is xs c (Some f) h here low once = ap (λ (z : Change). Some z) (once f h.0 (csn_lt-connected f.csn c.csn (low f h.0) (h.1 c here)))

none-is : (xs : List Change) (o : Option Change) → LeastIn xs o → ((d : Change) → Contains xs d → ⊥) → o ≡ None
none-is xs None h none = refl
none-is xs (Some f) h none = absurd (none f h.0)

first_of-map : (f : Change → Update) (xs : List Change) → first_of (map f xs) ≡ option_map f (first_of xs)
first_of-map f [] = refl
first_of-map f (x ∷ xs) = refl

-- ---- by the log

between-offered : (n : Node) (beyond limit : List Csn) (d : Change) → limit ≡ vector_of n → is_between beyond limit d.csn ≡ is_offered_to n beyond d
between-offered n beyond limit d e =
    ap (λ z. csn_lt (entry_of beyond d.csn.rid) d.csn && csn_le d.csn z) (ap (λ v. entry_of v d.csn.rid) e ∙ entry_of-vector_of n d.csn.rid)

pub offer-next : (n : Node) (beyond limit : List Csn) (c : Change) → IsSoundNode n → limit ≡ vector_of n → Contains n.taken c → is_between beyond limit c.csn ≡ true
    → All (λ (d : Change). is_between beyond limit d.csn ≡ true → csn_le c.csn d.csn ≡ true) n.taken → offer n beyond ≡ Some (update_of n c)
offer-next n beyond limit c s e here passes least =
    let test = is_offered_to n beyond in
    let among = λ (d : Change) (h : Contains (filter (is_offered_to n beyond) n.taken) d). Contains-filter (is_offered_to n beyond) n.taken d h in
    first_of-map (update_of n) (in_order (filter (is_offered_to n beyond) n.taken))
    ∙ ap (option_map (update_of n))
    (least-is (filter (is_offered_to n beyond) n.taken) c (first_of (in_order (filter (is_offered_to n beyond) n.taken)))
    (first-least (filter (is_offered_to n beyond) n.taken))
    (filter-Contains (is_offered_to n beyond) n.taken c here (sym (between-offered n beyond limit c e) ∙ passes))
    (λ d h.
    let m = among d h in
    csn_not-from_le c.csn d.csn (at d m.0 (between-offered n beyond limit d e ∙ m.1)))
    (λ d h same. s.once d c (among d h).0 here (ap number_of same)))
  where
    at : (d : Change) → Contains n.taken d → is_between beyond limit d.csn ≡ true → csn_le c.csn d.csn ≡ true
    at d h = subst (λ (z : Change). is_between beyond limit z.csn ≡ true → csn_le c.csn z.csn ≡ true) h.2 (least h.0 d h.1)

pub offer-done : (n : Node) (beyond limit : List Csn) → limit ≡ vector_of n → All (λ (d : Change). is_between beyond limit d.csn ≡ false) n.taken → offer n beyond ≡ None
offer-done n beyond limit e none =
    first_of-map (update_of n) (in_order (filter (is_offered_to n beyond) n.taken))
    ∙ ap (option_map (update_of n))
    (none-is (filter (is_offered_to n beyond) n.taken) (first_of (in_order (filter (is_offered_to n beyond) n.taken)))
    (first-least (filter (is_offered_to n beyond) n.taken))
    (λ d h.
    let m = Contains-filter (is_offered_to n beyond) n.taken d h in
    let f : is_offered_to n beyond d ≡ false = sym (between-offered n beyond limit d e) ∙ at d m.0 in
    let t : is_offered_to n beyond d ≡ true = m.1 in absurd cc))
  where
    at : (d : Change) → Contains n.taken d → is_between beyond limit d.csn ≡ false
    at d h = subst (λ (z : Change). is_between beyond limit z.csn ≡ false) h.2 (none h.0 d h.1)

-- What a node has taken is an order of arrival, and stays one.
use Rattle.std.proofs.Common.{◌≡◌, ◌<◌, Bool, true, false, ◌||◌, not, ◌⊎◌, inl, inr, List, [], ◌∷◌, ◌++◌, map, refl, sym, ap, subst, ◌∙◌, arith, Contains, None, append_assoc, append-nil}
use Rattle.std.specs.Prelude.{is_none}
use Rattle.std.specs.List.{list_any, list_all}
use Rattle.std.proofs.lemmas.Bool.{or_cases, and_from, false≢true}
use Rattle.repl_data.specs.declared.csn.Csn.{Csn}
use Rattle.repl_data.specs.declared.csn.Uid.{Uid}
use Rattle.repl_data.specs.declared.change.Change.{Change}
use Rattle.repl_data.specs.declared.change.Body.{Body}
use Rattle.repl_data.specs.declared.change.Body.TheVariants.{Add, Mod as Modify, Ren, Del}
use Rattle.repl_data.specs.Order.{csn_eq, uid_eq, suffix_id, zero_csn, number_of}
use Rattle.repl_data.specs.Check.{fault_of, is_out_of_order}
use Rattle.repl_data.specs.Facts.{ids_added, added_ids}
use Rattle.repl_data.specs.Closed.{all_differ, needed, is_known, is_rooted, is_sound, arrives_rooted, IsArrival}
use Rattle.repl_data.proofs.Sound.{both_true, neither, not_false, not_true, sound_order}
use Rattle.repl_data.proofs.Orders.{uid_exact, csn_exact}
use Rattle.repl_data.proofs.InOrder.{is_equal}
use Rattle.vector_core.proofs.Lists.{Contains-here, Contains-there}
use Rattle.node_core.proofs.Orders.{number_of-zero, number_of-above_0, zero_plain}
use Rattle.node_core.specs.Sound.{IsPlain}

-- ---- one more change

any_push : (p : Csn → Bool) (xs : List Change) (c : Change) → list_any p (map (λ (d : Change). d.csn) xs) ≡ false → p c.csn ≡ false → list_any p (map (λ (d : Change). d.csn) (xs ++ c ∷ [])) ≡ false
any_push p [] c h e = (λ i. e i || false)
any_push p (x ∷ xs) c h e = (let q = neither _ _ h in (λ i. q.0 i || list_any p (map (λ (d : Change). d.csn) (xs ++ c ∷ []))) ∙ any_push p xs c q.1 e)

differ_push : (xs : List Change) (c : Change) → all_differ (map (λ (d : Change). d.csn) xs) ≡ true → ((d : Change) → Contains xs d → csn_eq d.csn c.csn ≡ false) → all_differ (map (λ (d : Change). d.csn) (xs ++ c ∷ [])) ≡ true
differ_push [] c h new = refl
differ_push (x ∷ xs) c h new =
    let q = both_true _ _ h in
    and_from _ _ (ap not (any_push (csn_eq x.csn) xs c (not_true _ q.0) (new x (Contains-here x xs))))
    (differ_push xs c q.1 (λ d m. new d (Contains-there x xs d m)))

all_push : (p : Change → Bool) (xs : List Change) (c : Change) → list_all p xs ≡ true → p c ≡ true → list_all p (xs ++ c ∷ []) ≡ true
all_push p [] c h e = and_from (p c) true e refl
all_push p (x ∷ xs) c h e = (let q = both_true _ _ h in and_from (p x) _ q.0 (all_push p xs c q.1 e))

rooted_push : (before xs : List Change) (c : Change) → arrives_rooted before xs ≡ true → is_rooted (before ++ xs) c ≡ true → arrives_rooted before (xs ++ c ∷ []) ≡ true
rooted_push before [] c h e = and_from (is_rooted before c) true (subst (λ z. is_rooted z c ≡ true) (append-nil before) e) refl
rooted_push before (x ∷ xs) c h e =
    let q = both_true _ _ h in
    and_from (is_rooted before x) _ q.0 (rooted_push (before ++ x ∷ []) xs c q.1 (subst (λ z. is_rooted z c ≡ true) (sym (append_assoc before (x ∷ []) xs)) e))

pub arrival_push : (xs : List Change) (c : Change) → IsArrival xs → ((d : Change) → Contains xs d → csn_eq d.csn c.csn ≡ false) → fault_of c ≡ None → is_known xs (needed c.target c.body) ≡ true → IsArrival (xs ++ c ∷ [])
arrival_push xs c a new sound known = record {
  once = differ_push xs c a.once new;
  sound = all_push is_sound xs c a.sound (ap is_none sound);
  rooted = rooted_push [] xs c a.rooted known;
}

-- ---- what is known

-- an Add that has no fault is its own target
add_target : (c : Csn) (t : Uid) (parent : Uid) (rdn : _) (attrs : _) → is_out_of_order c t (Add parent rdn attrs) ≡ false → t.csn ≡ c
add_target c t parent rdn attrs h = csn_exact t.csn c (is_equal _ (not_false _ (neither _ _ h).0))

-- an id that one of these changes adds is the CSN of that change
added-from : (xs : List Change) (id : Uid) → list_all is_sound xs ≡ true → list_any (uid_eq id) (added_ids xs) ≡ true → (c : Change) × Contains xs c × (id.csn ≡ c.csn)
added-from [] id h e = absurd (false≢true e)
added-from (x ∷ xs) id h e = by (λ k. added-from xs id (both_true _ _ h).1 k) x.body (sound_order x (both_true _ _ h).0) e
  where
    later : (list_any (uid_eq id) (added_ids xs) ≡ true → (c : Change) × Contains xs c × (id.csn ≡ c.csn)) → list_any (uid_eq id) (added_ids xs) ≡ true → (c : Change) × Contains (x ∷ xs) c × (id.csn ≡ c.csn)
    later rest k = (let r = rest k in (r.0, Contains-there x xs r.0 r.1, r.2))

    by : (list_any (uid_eq id) (added_ids xs) ≡ true → (c : Change) × Contains xs c × (id.csn ≡ c.csn)) → (b : Body) → is_out_of_order x.csn x.target b ≡ false → list_any (uid_eq id) (ids_added x.target b ++ added_ids xs) ≡ true → (c : Change) × Contains (x ∷ xs) c × (id.csn ≡ c.csn)
    by rest (Add parent rdn attrs) o k =
        elim (or_cases (uid_eq id x.target) (list_any (uid_eq id) (added_ids xs)) k) [
          | inl t ↦ (x, Contains-here x xs, ap (λ (u : Uid). u.csn) (uid_exact id x.target (is_equal _ t)) ∙ add_target x.csn x.target parent rdn attrs o)
          | inr f ↦ later rest f
        ]
    by rest (Modify mods) o k = later rest k
    by rest (Ren rdn dropped) o k = later rest k
    by rest Del o k = later rest k

-- what is known is the suffix entry, or is the CSN of a change
known-among : (xs : List Change) (id : Uid) → list_all is_sound xs ≡ true → is_known xs id ≡ true → (id.csn ≡ zero_csn) ⊎ ((c : Change) × Contains xs c × (id.csn ≡ c.csn))
known-among xs id h e =
    elim (or_cases (uid_eq id suffix_id) (list_any (uid_eq id) (added_ids xs)) e) [
      | inl t ↦ inl (ap (λ (u : Uid). u.csn) (uid_exact id suffix_id (is_equal _ t)))
      | inr f ↦ inr (added-from xs id h f)
    ]

pub known_plain : (xs : List Change) (id : Uid) → list_all is_sound xs ≡ true → ((c : Change) → Contains xs c → IsPlain c.csn) → is_known xs id ≡ true → IsPlain id.csn
known_plain xs id h plain e =
    elim (known-among xs id h e) [
      | inl z ↦ subst (λ z. IsPlain z) (sym z) zero_plain
      | inr f ↦ subst (λ z. IsPlain z) (sym f.2) (plain f.0 f.1)
    ]

-- what is known is below a CSN that is above all taken
pub known_below : (xs : List Change) (id : Uid) (k : Csn) → list_all is_sound xs ≡ true → is_known xs id ≡ true → 0 < k.rid → ((c : Change) → Contains xs c → number_of c.csn < number_of k) → number_of id.csn < number_of k
known_below xs id k h e pos above =
    elim (known-among xs id h e) [
      | inl z ↦
          (let i : number_of id.csn ≡ number_of zero_csn = ap number_of z in
          let z' : number_of zero_csn ≡ 0 = number_of-zero in
          let p : 0 < number_of k = number_of-above_0 k pos in
          omega arith)
      | inr f ↦
          (let i : number_of id.csn ≡ number_of f.0.csn = ap number_of f.2 in
          let l : number_of f.0.csn < number_of k = above f.0 f.1 in
          omega arith)
    ]

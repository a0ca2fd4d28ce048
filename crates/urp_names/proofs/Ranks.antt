-- CONTENDERS BY ID AND BY RANK: the same ones, whoever is put or taken.
use Rattle.std.proofs.Common.{◌≡◌, ℕ, zero, suc, ◌+◌, ◌-◌, ◌<◌, ◌≤◌, List, [], ◌∷◌, length, get_or, take, max, Bool, true, false, cond, not, Option, Some, None, refl, sym, ap, subst, ◌∙◌, arith, inl, inr}
use Rattle.std.specs.Prelude.{◌⊎◌, ◌||◌, insert, remove, slice_get, filter, find, is_some, Result, Ok, Err, OnOk}
use Rattle.std.specs.List.{AllByRecursion, list_any}
use Rattle.std.specs.declared.cmp.Ordering.{Ordering}
use Rattle.std.specs.declared.cmp.Ordering.TheVariants.{Less, Equal, Greater}
use Rattle.std.specs.Ordering.{is_eq, is_lt, is_gt, ordering_reverse, ordering_then, bool_cmp}
use Rattle.std.specs.Cmp.{IsTotalOrder, bool_cmp_total}
use Rattle.std.proofs.lemmas.Cmp.{tied_itself, on_total, then_total}
use Rattle.std.proofs.lemmas.Map.Lookups.{exact_pairs}
use Rattle.repl_data.specs.declared.csn.Csn.{Csn}
use Rattle.repl_data.specs.declared.csn.Uid.{Uid}
use Rattle.repl_data.specs.Order.{csn_cmp, uid_cmp, uid_eq, by_order}
use Rattle.repl_data.proofs.Orders.{csn_exact, uid_total, uid_exact, split, put_swap}
use Rattle.repl_data.proofs.InOrder.{put-Rises, in_order_by-Rises}
use Rattle.repl_data.proofs.Known.{same_id, eq_turned}
use Rattle.repl_data.proofs.Bools.{cases, neither_then}
use Rattle.urp_names.specs.declared.contenders.Contender.{Contender}
use Rattle.urp_names.specs.Contending.{Contending, IsOneOf, IsCut, HasRisingIds, id_of, comes_before, first_of, least_of, contends, put_one, without, claim_cmp, rank_cmp, by_rank, is_beaten, IsFront, IsInFront, of_id, place_for, after_put, after_take}
use Rattle.urp_names.proofs.Cuts.{Pairs, put_in, IsFresh, below, below_first, put_fresh, taken_out, all_put, put_above, rises_kept, filter_put, in_front, front_has, all_front}
use Rattle.urp_names.proofs.Least.{claim_total, before_is, turned, any_before, before_of, before_any, least_member, taken_gone}

-- THE ORDER
abbrev pub same : Contender → Contender
same c = c

pub rank_total : IsTotalOrder rank_cmp
rank_total = then_total claim_total (on_total id_of uid_total)

bool_exact : (a b : Bool) → bool_cmp a b ≡ Equal → a ≡ b
bool_exact true true h = refl
bool_exact true false h = let f : Greater ≡ Equal = h in cc
bool_exact false true h = let f : Less ≡ Equal = h in cc
bool_exact false false h = refl

pub rank_exact : (a b : Contender) → rank_cmp a b ≡ Equal → a ≡ b
rank_exact a b h =
    let exact2 = exact_pairs bool_cmp csn_cmp bool_exact csn_exact in
    let exact3 = exact_pairs (λ (x y : Bool × Csn). ordering_then (bool_cmp x.0 y.0) (csn_cmp x.1 y.1)) uid_cmp exact2 uid_exact in
    ap (λ (p : (Bool × Csn) × Uid). record { id = p.1; glue = p.0.0; named = p.0.1 }) (exact3 ((a.glue, a.named), a.id) ((b.glue, b.named), b.id) h)

abbrev pub put_rank : Contender → List Contender → List Contender
put_rank = put_in rank_cmp rank_total same

abbrev pub RisesByRank : List Contender → Type 0
RisesByRank cs = Pairs (λ (c d : Contender). rank_cmp c d ≡ Less) cs

pub ranked_rises : (cs : List Contender) → RisesByRank (by_rank cs)
ranked_rises cs = in_order_by-Rises rank_cmp rank_total same cs

-- BY ID
pub put_rises : (c : Contender) (cs : List Contender) → HasRisingIds cs → HasRisingIds (put_one c cs)
put_rises c cs h = put-Rises uid_cmp uid_total id_of c cs h

pub left_rises : (u : Uid) (cs : List Contender) → HasRisingIds cs → HasRisingIds (without u cs)
left_rises u cs h = rises_kept uid_cmp uid_total id_of (λ (c : Contender). not (uid_eq c.id u)) cs h

pub fresh_id : (c : Contender) (cs : List Contender) → contends c.id cs ≡ false → IsFresh uid_cmp uid_total id_of c cs
fresh_id c [] h = tt
fresh_id c (d ∷ ds) h = neither_then (uid_eq d.id c.id) (contends c.id ds) h (λ a b. (eq_turned c.id d.id ∙ a, fresh_id c ds b))

pub kept_all : (u : Uid) (cs : List Contender) → contends u cs ≡ false → without u cs ≡ cs
kept_all u [] h = refl
kept_all u (c ∷ cs) h = neither_then (uid_eq c.id u) (contends u cs) h (λ a b. ap (λ t. cond (not t) (c ∷ without u cs) (without u cs)) a ∙ ap (λ xs. c ∷ xs) (kept_all u cs b))

none_above : (u : Uid) (c : Contender) (cs : List Contender) → uid_cmp u c.id ≡ Less → AllByRecursion (λ (d : Contender). uid_cmp c.id d.id ≡ Less) cs → contends u cs ≡ false
none_above u c [] h g = refl
none_above u c (d ∷ ds) h g =
    ap (λ b. b || contends u ds) (eq_turned d.id u ∙ ap is_eq (uid_total.trans u c.id d.id h g.0)) ∙ none_above u c ds h g.1

none_behind : (u : Uid) (c : Contender) (cs : List Contender) → c.id ≡ u → AllByRecursion (λ (d : Contender). uid_cmp c.id d.id ≡ Less) cs → contends u cs ≡ false
none_behind u c [] e g = refl
none_behind u c (d ∷ ds) e g = ap (λ b. b || contends u ds) (eq_turned d.id u ∙ ap (λ v. uid_eq v d.id) (sym e) ∙ ap is_eq g.0) ∙ none_behind u c ds e g.1

abbrev pub lower : Uid → Contender → Bool
lower u c = is_lt (uid_cmp c.id u)

not_eq : (u v : Uid) → is_lt (uid_cmp u v) ≡ true → uid_eq u v ≡ false
not_eq u v h = by (uid_cmp u v) h
  where
    by : (o : Ordering) → is_lt o ≡ true → is_eq o ≡ false
    by Less k = refl
    by Equal k = let f : false ≡ true = k in cc
    by Greater k = refl

-- what stands at the cut decides
pub at_cut : (u : Uid) (cs : List Contender) (n : ℕ) → HasRisingIds cs → IsCut (lower u) cs n → contends u cs ≡ is_some (of_id u (slice_get cs n))
at_cut u [] zero r h = refl
at_cut u [] (suc n) r h = elim h [ ]
at_cut u (c ∷ cs) zero r h = by (uid_eq c.id u) refl
  where
    by : (b : Bool) → uid_eq c.id u ≡ b → (b || contends u cs) ≡ is_some (cond b (Some c) None)
    by true e = refl
    by false e = none_above u c cs (above e) r.0
      where
        above : uid_eq c.id u ≡ false → uid_cmp u c.id ≡ Less
        above e = split (uid_cmp c.id u)
            (λ k. let f : true ≡ false = sym (ap is_lt k) ∙ h.0 in cc)
            (λ k. let f : true ≡ false = sym (ap is_eq k) ∙ e in cc)
            (λ k. uid_total.antisymm u c.id ∙ ap ordering_reverse k)
at_cut u (c ∷ cs) (suc n) r h = ap (λ b. b || contends u cs) (not_eq c.id u h.0) ∙ at_cut u cs n r.1 h.1

of_eq : {G : Type 0} (u : Uid) (x c : Contender) → of_id u (Some x) ≡ Some c → (x ≡ c → uid_eq x.id u ≡ true → G) → G
of_eq {G = G} u x c e f = by (uid_eq x.id u) refl e
  where
    by : (b : Bool) → uid_eq x.id u ≡ b → cond b (Some x) None ≡ Some c → G
    by true k h = (let p : x ≡ c = cc in f p k)
    by false k h = let g : ◌≡◌ {A = Option Contender} None (Some c) = h in cc

-- the one at the cut is taken out there, and put back it stands there again
pub cut_out : (u : Uid) (cs : List Contender) (n : ℕ) (c : Contender) → HasRisingIds cs → IsCut (lower u) cs n → of_id u (slice_get cs n) ≡ Some c
    → (n < length cs) × (c.id ≡ u) × (remove cs n ≡ without u cs) × (put_one c (without u cs) ≡ cs)
cut_out u [] n c r h e = let f : ◌≡◌ {A = Option Contender} None (Some c) = e in cc
cut_out u (x ∷ xs) zero c r h e =
    of_eq u x c e (λ p k.
    let rest : without u (x ∷ xs) ≡ xs = ap (λ b. cond (not b) (x ∷ without u xs) (without u xs)) k ∙ kept_all u xs (none_behind u x xs (same_id x.id u k) r.0) in (
      omega arith,
      ap id_of (sym p) ∙ same_id x.id u k,
      sym rest,
      ap (put_one c) rest ∙ subst (λ w. put_one w xs ≡ x ∷ xs) p (put_above uid_cmp uid_total id_of x xs r.0),
    ))
cut_out u (x ∷ xs) (suc n) c r h e =
    let more = cut_out u xs n c r.1 h.1 e in
    let l : n < length xs = more.0 in
    let keep : without u (x ∷ xs) ≡ x ∷ without u xs = ap (λ b. cond (not b) (x ∷ without u xs) (without u xs)) (not_eq x.id u h.0) in
    let g : uid_cmp c.id x.id ≡ Greater = ap (λ v. uid_cmp v x.id) more.1 ∙ above x.id u h.0 in (
      omega arith,
      more.1,
      ap (λ ys. x ∷ ys) more.2 ∙ sym keep,
      ap (put_one c) keep ∙ ap (λ o. by_order o (c ∷ x ∷ without u xs) (c ∷ without u xs) (x ∷ put_one c (without u xs))) g ∙ ap (λ ys. x ∷ ys) more.3,
    )
  where
    above : (a b : Uid) → is_lt (uid_cmp a b) ≡ true → uid_cmp b a ≡ Greater
    above a b k = uid_total.antisymm b a ∙ ap ordering_reverse (less (uid_cmp a b) k)
      where
        less : (o : Ordering) → is_lt o ≡ true → o ≡ Less
        less Less e = refl
        less Equal e = let f : false ≡ true = e in cc
        less Greater e = let f : false ≡ true = e in cc

pub put_instead : (c : Contender) (cs : List Contender) → HasRisingIds cs → put_one c (without c.id cs) ≡ put_one c cs
put_instead c [] r = refl
put_instead c (d ∷ ds) r =
    split (uid_cmp c.id d.id)
    (λ k. ap (put_one c) (kept_all c.id (d ∷ ds) (ap (λ b. b || contends c.id ds) (eq_turned d.id c.id ∙ ap is_eq k) ∙ none_above c.id d ds k r.0)))
    (λ k. let e : c.id ≡ d.id = uid_exact c.id d.id k in
    ap (put_one c) (ap (λ b. cond (not b) (d ∷ without c.id ds) (without c.id ds)) (eq_turned d.id c.id ∙ ap is_eq k) ∙ kept_all c.id ds (none_behind c.id d ds (sym e) r.0))
    ∙ put_above uid_cmp uid_total id_of c ds (subst (λ v. AllByRecursion (λ (x : Contender). uid_cmp v x.id ≡ Less) ds) (sym e) r.0)
    ∙ ap (λ o. by_order o (c ∷ d ∷ ds) (c ∷ ds) (d ∷ put_one c ds)) (sym k))
    (λ k. ap (put_one c) (ap (λ b. cond (not b) (d ∷ without c.id ds) (without c.id ds)) (eq_turned d.id c.id ∙ ap is_eq k))
    ∙ ap (λ o. by_order o (c ∷ d ∷ without c.id ds) (c ∷ without c.id ds) (d ∷ put_one c (without c.id ds))) k ∙ ap (λ xs. d ∷ xs) (put_instead c ds r.1)
    ∙ ap (λ o. by_order o (c ∷ d ∷ ds) (c ∷ ds) (d ∷ put_one c ds)) (sym k))

-- BY RANK
pub rank_put : (c : Contender) (cs : List Contender) → contends c.id cs ≡ false → by_rank (put_one c cs) ≡ put_rank c (by_rank cs)
rank_put c [] h = refl
rank_put c (d ∷ ds) h =
    neither_then (uid_eq d.id c.id) (contends c.id ds) h (λ a b.
    split (uid_cmp c.id d.id)
    (λ k. ap (λ o. by_rank (by_order o (c ∷ d ∷ ds) (c ∷ ds) (d ∷ put_one c ds))) k)
    (λ k. let f : true ≡ false = sym (eq_turned d.id c.id ∙ ap is_eq k) ∙ a in cc)
    (λ k. ap (λ o. by_rank (by_order o (c ∷ d ∷ ds) (c ∷ ds) (d ∷ put_one c ds))) k
    ∙ ap (put_rank d) (rank_put c ds b) ∙ put_swap rank_cmp rank_total same rank_exact d c (by_rank ds)))

pub all_ranked : (P : Contender → Type 0) (cs : List Contender) → AllByRecursion P cs → AllByRecursion P (by_rank cs)
all_ranked P [] h = tt
all_ranked P (c ∷ cs) h = all_put rank_cmp rank_total same P c (by_rank cs) h.0 (all_ranked P cs h.1)

pub fresh_rank : (c : Contender) (cs : List Contender) → contends c.id cs ≡ false → IsFresh rank_cmp rank_total same c (by_rank cs)
fresh_rank c cs h = all_ranked (λ (d : Contender). is_eq (rank_cmp c d) ≡ false) cs (all cs h)
  where
    behind : (o p : Ordering) → is_eq p ≡ false → is_eq (ordering_then o p) ≡ false
    behind Less p k = refl
    behind Equal p k = k
    behind Greater p k = refl

    all : (cs : List Contender) → contends c.id cs ≡ false → AllByRecursion (λ (d : Contender). is_eq (rank_cmp c d) ≡ false) cs
    all [] h = tt
    all (d ∷ ds) h = neither_then (uid_eq d.id c.id) (contends c.id ds) h (λ a b. (behind (claim_cmp c d) (uid_cmp c.id d.id) (eq_turned c.id d.id ∙ a), all ds b))

pub rank_without : (u : Uid) (cs : List Contender) → without u (by_rank cs) ≡ by_rank (without u cs)
rank_without u [] = refl
rank_without u (c ∷ cs) =
    filter_put rank_cmp rank_total same (λ (d : Contender). not (uid_eq d.id u)) (λ a b h. ap (λ (d : Contender). not (uid_eq d.id u)) (rank_exact a b h)) c (by_rank cs) (ranked_rises cs)
    ∙ by (not (uid_eq c.id u)) (rank_without u cs)
  where
    by : (b : Bool) → without u (by_rank cs) ≡ by_rank (without u cs) → cond b (put_rank c (without u (by_rank cs))) (without u (by_rank cs)) ≡ by_rank (cond b (c ∷ without u cs) (without u cs))
    by true more = ap (put_rank c) more
    by false more = more

-- THE FIRST ONE
abbrev pub head_of : List Contender → Option Contender
head_of [] = None
head_of (c ∷ cs) = Some c

pub first_ranked : (cs : List Contender) → HasRisingIds cs → head_of (by_rank cs) ≡ least_of cs
first_ranked [] r = refl
first_ranked (c ∷ cs) r = by (by_rank cs) (all_ranked (λ (d : Contender). uid_cmp c.id d.id ≡ Less) cs r.0) ∙ ap (λ o. Some (first_of c o)) (first_ranked cs r.1)
  where
    by : (ds : List Contender) → AllByRecursion (λ (d : Contender). uid_cmp c.id d.id ≡ Less) ds → head_of (put_rank c ds) ≡ Some (first_of c (head_of ds))
    by [] h = refl
    by (d ∷ ds) h =
        split (claim_cmp c d)
        (λ k. ap head_of (put_as Less (ap (λ o. ordering_then o (uid_cmp c.id d.id)) k)) ∙ ap (λ b. Some (cond b d c)) (sym (not_before k)))
        (λ k. ap head_of (put_as Less (ap (λ o. ordering_then o (uid_cmp c.id d.id)) k ∙ h.0)) ∙ ap (λ b. Some (cond b d c)) (sym (not_tied k)))
        (λ k. ap head_of (put_as Greater (ap (λ o. ordering_then o (uid_cmp c.id d.id)) k)) ∙ ap (λ b. Some (cond b d c)) (sym (is_before k)))
      where
        put_as : (o : Ordering) → rank_cmp c d ≡ o → put_rank c (d ∷ ds) ≡ by_order o (c ∷ d ∷ ds) (c ∷ ds) (d ∷ put_rank c ds)
        put_as o k = ap (λ p. by_order p (c ∷ d ∷ ds) (c ∷ ds) (d ∷ put_rank c ds)) k

        not_before : claim_cmp c d ≡ Less → comes_before d c ≡ false
        not_before k = before_is d c ∙ turned d c ∙ ap is_gt k

        not_tied : claim_cmp c d ≡ Equal → comes_before d c ≡ false
        not_tied k = before_is d c ∙ turned d c ∙ ap is_gt k

        is_before : claim_cmp c d ≡ Greater → comes_before d c ≡ true
        is_before k = before_is d c ∙ turned d c ∙ ap is_gt k

pub head_kept : (p : Contender → Bool) (cs : List Contender) → head_of (filter p cs) ≡ find p cs
head_kept p [] = refl
head_kept p (c ∷ cs) = by (p c) (head_kept p cs)
  where
    by : (b : Bool) → head_of (filter p cs) ≡ find p cs → head_of (cond b (c ∷ filter p cs) (filter p cs)) ≡ cond b (Some c) (find p cs)
    by true more = refl
    by false more = more

pub first_others : (u : Uid) (cs : List Contender) → HasRisingIds cs → find (λ (c : Contender). not (uid_eq c.id u)) (by_rank cs) ≡ least_of (without u cs)
first_others u cs r = sym (head_kept (λ (c : Contender). not (uid_eq c.id u)) (by_rank cs)) ∙ ap head_of (rank_without u cs) ∙ first_ranked (without u cs) (left_rises u cs r)

-- THE FRONT: who is not behind the first one
pub front_first : (f x y : Contender) → rank_cmp x y ≡ Less → not (comes_before f y) ≡ true → not (comes_before f x) ≡ true
front_first f x y h k =
    cases (comes_before f x)
    (λ t. let less : claim_cmp f x ≡ Less = is_less (claim_cmp f x) (sym (before_is f x) ∙ t) in
    let far : comes_before f y ≡ true = before_is f y ∙ ap is_lt (beyond less (claim_cmp x y) refl h) in
    let g : false ≡ true = ap not (sym far) ∙ k in cc)
    (λ n. ap not n)
  where
    is_less : (o : Ordering) → is_lt o ≡ true → o ≡ Less
    is_less Less e = refl
    is_less Equal e = let g : false ≡ true = e in cc
    is_less Greater e = let g : false ≡ true = e in cc

    beyond : claim_cmp f x ≡ Less → (o : Ordering) → claim_cmp x y ≡ o → ordering_then (claim_cmp x y) (uid_cmp x.id y.id) ≡ Less → claim_cmp f y ≡ Less
    beyond less Less e w = claim_total.trans f x y less e
    beyond less Equal e w =
        let back : claim_cmp y x ≡ Equal = claim_total.antisymm y x ∙ ap ordering_reverse e in
        claim_total.antisymm f y ∙ ap ordering_reverse (claim_total.congr y x f back ∙ claim_total.antisymm x f ∙ ap ordering_reverse less)
    beyond less Greater e w = let g : Greater ≡ Less = ap (λ o. ordering_then o (uid_cmp x.id y.id)) (sym e) ∙ w in cc

behind_one : (c : Contender) (cs ds : List Contender) → AllByRecursion (λ (d : Contender). IsOneOf d cs) ds → AllByRecursion (λ (d : Contender). IsOneOf d (c ∷ cs)) ds
behind_one c cs [] h = tt
behind_one c cs (d ∷ ds) h = (inr h.0, behind_one c cs ds h.1)

members : (cs : List Contender) → AllByRecursion (λ (c : Contender). IsOneOf c cs) cs
members [] = tt
members (c ∷ cs) = (inl refl, behind_one c cs cs (members cs))

put_there : (x c : Contender) (cs : List Contender) → (IsOneOf x cs ⊎ (x ≡ c)) → IsOneOf x (put_rank c cs)
put_there x c [] (inl m) = elim m [ ]
put_there x c [] (inr e) = inl e
put_there x c (d ∷ ds) m = split (rank_cmp c d)
    (λ k. subst (IsOneOf x) (sym (ap (λ o. by_order o (c ∷ d ∷ ds) (c ∷ ds) (d ∷ put_rank c ds)) k)) (first m))
    (λ k. subst (IsOneOf x) (sym (ap (λ o. by_order o (c ∷ d ∷ ds) (c ∷ ds) (d ∷ put_rank c ds)) k)) (instead (rank_exact c d k) m))
    (λ k. subst (IsOneOf x) (sym (ap (λ o. by_order o (c ∷ d ∷ ds) (c ∷ ds) (d ∷ put_rank c ds)) k)) (later m (put_there x c ds)))
  where
    first : (IsOneOf x (d ∷ ds) ⊎ (x ≡ c)) → IsOneOf x (c ∷ d ∷ ds)
    first (inl m) = inr m
    first (inr e) = inl e

    instead : c ≡ d → (IsOneOf x (d ∷ ds) ⊎ (x ≡ c)) → IsOneOf x (c ∷ ds)
    instead e (inl (inl m)) = inl (m ∙ sym e)
    instead e (inl (inr m)) = inr m
    instead e (inr m) = inl m

    later : (IsOneOf x (d ∷ ds) ⊎ (x ≡ c)) → ((IsOneOf x ds ⊎ (x ≡ c)) → IsOneOf x (put_rank c ds)) → IsOneOf x (d ∷ put_rank c ds)
    later (inl (inl e)) more = inl e
    later (inl (inr m)) more = inr (more (inl m))
    later (inr e) more = inr (more (inr e))

pub ranked_member : (x : Contender) (cs : List Contender) → IsOneOf x cs → IsOneOf x (by_rank cs)
ranked_member x [] m = elim m [ ]
ranked_member x (c ∷ cs) (inl e) = put_there x c (by_rank cs) (inr e)
ranked_member x (c ∷ cs) (inr m) = put_there x c (by_rank cs) (inl (ranked_member x cs m))

member_contends : (c : Contender) (cs : List Contender) → IsOneOf c cs → contends c.id cs ≡ true
member_contends c [] m = elim m [ ]
member_contends c (d ∷ ds) (inl e) = ap (λ (x : Contender). uid_eq x.id c.id || contends c.id ds) (sym e) ∙ ap (λ o. is_eq o || contends c.id ds) (tied_itself uid_total c.id)
member_contends c (d ∷ ds) (inr m) = either (uid_eq d.id c.id) (contends c.id ds) (member_contends c ds m)
  where
    either : (a b : Bool) → b ≡ true → (a || b) ≡ true
    either true b h = refl
    either false b h = h

-- with the first one f of the others
module _ (u : Uid) (who : List Contender) (f : Contender) (is : Some f ≡ least_of (without u who)) where
  beaten_is : (c : Contender) → is_beaten (without u who) c ≡ comes_before f c
  beaten_is c = sym (any_before c (without u who) (Some f) is)

  unbeaten : (c : Contender) → not (comes_before f c) ≡ true → is_beaten (without u who) c ≡ false
  unbeaten c h = beaten_is c ∙ flip (comes_before f c) h
    where
      flip : (b : Bool) → not b ≡ true → b ≡ false
      flip true k = let g : false ≡ true = k in cc
      flip false k = refl

  pub front_is : (n : ℕ) → IsCut (λ (c : Contender). not (comes_before f c)) (by_rank who) n → AllByRecursion (IsFront u who) (take n (by_rank who))
  front_is n cut = both (take n (by_rank who)) (all_front (λ (c : Contender). IsOneOf c who) (by_rank who) n (all_ranked (λ (c : Contender). IsOneOf c who) who (members who))) (front_has (λ (c : Contender). not (comes_before f c)) (by_rank who) n cut)
    where
      both : (cs : List Contender) → AllByRecursion (λ (c : Contender). IsOneOf c who) cs → AllByRecursion (λ (c : Contender). not (comes_before f c) ≡ true) cs → AllByRecursion (IsFront u who) cs
      both [] a b = tt
      both (c ∷ cs) a b = ((a.0, λ k. unbeaten c b.0), both cs a.1 b.1)

  pub front_all : (n : ℕ) → IsCut (λ (c : Contender). not (comes_before f c)) (by_rank who) n
      → AllByRecursion (λ (c : Contender). uid_eq c.id u ≡ false → is_beaten (without u who) c ≡ false → contends c.id (take n (by_rank who)) ≡ true) who
  front_all n cut = each who (members who)
    where
      each : (cs : List Contender) → AllByRecursion (λ (c : Contender). IsOneOf c who) cs → AllByRecursion (λ (c : Contender). uid_eq c.id u ≡ false → is_beaten (without u who) c ≡ false → contends c.id (take n (by_rank who)) ≡ true) cs
      each [] h = tt
      each (c ∷ cs) h = (
        (λ k b. member_contends c (take n (by_rank who)) (in_front (λ (d : Contender). not (comes_before f d)) (by_rank who) n c cut (ranked_member c who h.0) (ap not (sym (beaten_is c) ∙ b)))),
        each cs h.1,
      )

-- and where there are no others
nobody_else : (u : Uid) (cs : List Contender) → None ≡ least_of (without u cs) → AllByRecursion (λ (c : Contender). uid_eq c.id u ≡ true) cs
nobody_else u [] h = tt
nobody_else u (c ∷ cs) h = by (uid_eq c.id u) refl h (nobody_else u cs)
  where
    by : (b : Bool) → uid_eq c.id u ≡ b → None ≡ least_of (cond (not b) (c ∷ without u cs) (without u cs)) → (None ≡ least_of (without u cs) → AllByRecursion (λ (d : Contender). uid_eq d.id u ≡ true) cs) → AllByRecursion (λ (d : Contender). uid_eq d.id u ≡ true) (c ∷ cs)
    by true e k more = (e, more k)
    by false e k more = let g : ◌≡◌ {A = Option Contender} None (Some (first_of c (least_of (without u cs)))) = k in cc

pub front_none : (u : Uid) (who xs : List Contender) → None ≡ least_of (without u who) → AllByRecursion (λ (c : Contender). uid_eq c.id u ≡ false → is_beaten (without u who) c ≡ false → contends c.id xs ≡ true) who
front_none u who xs h = each who (nobody_else u who h)
  where
    never : {G : Type 0} (b : Bool) → b ≡ true → b ≡ false → G
    never b t f = let e : true ≡ false = sym t ∙ f in cc

    each : (cs : List Contender) → AllByRecursion (λ (c : Contender). uid_eq c.id u ≡ true) cs → AllByRecursion (λ (c : Contender). uid_eq c.id u ≡ false → is_beaten (without u who) c ≡ false → contends c.id xs ≡ true) cs
    each [] k = tt
    each (c ∷ cs) k = ((λ n b. never (uid_eq c.id u) k.0 n), each cs k.1)

-- HOW MANY
pub fewer : (u : Uid) (cs : List Contender) → length (without u cs) ≤ length cs
fewer u [] = omega arith
fewer u (c ∷ cs) = by (not (uid_eq c.id u)) (fewer u cs)
  where
    by : (b : Bool) → length (without u cs) ≤ length cs → length (cond b (c ∷ without u cs) (without u cs)) ≤ suc (length cs)
    by true h = omega arith
    by false h = omega arith

fewer_there : (u : Uid) (cs : List Contender) → contends u cs ≡ true → length (without u cs) < length cs
fewer_there u [] h = let f : false ≡ true = h in cc
fewer_there u (c ∷ cs) h = by (uid_eq c.id u) h (fewer_there u cs)
  where
    by : (b : Bool) → (b || contends u cs) ≡ true → (contends u cs ≡ true → length (without u cs) < length cs) → length (cond (not b) (c ∷ without u cs) (without u cs)) < suc (length cs)
    by true k more = let l = fewer u cs in omega arith
    by false k more = let l = more k in omega arith

-- a place for one more, once it is taken out
pub has_room : (u : Uid) (cs : List Contender) (spare : ℕ) → (contends u cs ≡ true) ⊎ (0 < spare) → 0 < length cs + spare - length (without u cs)
has_room u cs spare (inl h) = let l = fewer_there u cs h in omega arith
has_room u cs spare (inr h) = let l = fewer u cs in omega arith

pub longer : (c : Contender) (cs : List Contender) → contends c.id cs ≡ false → length (put_one c cs) ≡ suc (length cs)
longer c [] h = refl
longer c (d ∷ ds) h =
    neither_then (uid_eq d.id c.id) (contends c.id ds) h (λ a b.
    split (uid_cmp c.id d.id)
    (λ k. ap (λ o. length (by_order o (c ∷ d ∷ ds) (c ∷ ds) (d ∷ put_one c ds))) k)
    (λ k. let f : true ≡ false = sym (eq_turned d.id c.id ∙ ap is_eq k) ∙ a in cc)
    (λ k. ap (λ o. length (by_order o (c ∷ d ∷ ds) (c ∷ ds) (d ∷ put_one c ds))) k ∙ ap suc (longer c ds b)))

-- WHAT PUTS AND TAKES LEAVE
pub lower_first : (u : Uid) (x y : Contender) → uid_cmp x.id y.id ≡ Less → lower u y ≡ true → lower u x ≡ true
lower_first u x y h k = below_first uid_cmp uid_total id_of (record { id = u; glue = false; named = u.csn }) x y h k

pub rank_first : (c x y : Contender) → rank_cmp x y ≡ Less → is_lt (rank_cmp y c) ≡ true → is_lt (rank_cmp x c) ≡ true
rank_first c x y h k = below_first rank_cmp rank_total same c x y h k

pub in_ranks : (rs cs : List Contender) → rs ≡ by_rank cs → RisesByRank rs
in_ranks rs cs e = subst RisesByRank (sym e) (ranked_rises cs)

pub first_at : (cs : List Contender) → HasRisingIds cs → slice_get (by_rank cs) 0 ≡ least_of cs
first_at cs r = head (by_rank cs) ∙ first_ranked cs r
  where
    head : (xs : List Contender) → slice_get xs 0 ≡ head_of xs
    head [] = refl
    head (x ∷ xs) = refl

-- the one that is taken, where it stands by rank
pub out_ranked : (u : Uid) (cs : List Contender) (n : ℕ) (c : Contender) (rs : List Contender) (k : ℕ) → HasRisingIds cs → IsCut (lower u) cs n → of_id u (slice_get cs n) ≡ Some c → rs ≡ by_rank cs → IsCut (λ (d : Contender). is_lt (rank_cmp d c)) rs k
    → (k < length rs) × (remove rs k ≡ by_rank (without u cs))
out_ranked u cs n c rs k r cut is e low =
    let out = cut_out u cs n c r cut is in
    let none : contends c.id (without u cs) ≡ false = ap (λ v. contends v (without u cs)) out.1 ∙ taken_gone u cs in
    let as_put : rs ≡ put_rank c (by_rank (without u cs)) = e ∙ ap by_rank (sym out.3) ∙ rank_put c (without u cs) none in
    subst (λ xs. (k < length xs) × (remove xs k ≡ by_rank (without u cs))) (sym as_put)
    (taken_out rank_cmp rank_total same c (by_rank (without u cs)) k (fresh_rank c (without u cs) none) (subst (λ xs. IsCut (λ (d : Contender). is_lt (rank_cmp d c)) xs k) as_put low))

pub took : (u : Uid) (s : Contending) (n : ℕ) (c : Contender) (cs : List Contender) → HasRisingIds s.who → IsCut (lower u) s.who n → of_id u (slice_get s.who n) ≡ Some c → cs ≡ remove s.who n → record { who = cs; spare = s.spare + 1 } ≡ after_take u s
took u s n c cs r cut is e =
    let out = cut_out u s.who n c r cut is in
    let none : contends c.id (without u s.who) ≡ false = ap (λ v. contends v (without u s.who)) out.1 ∙ taken_gone u s.who in
    let l : length s.who ≡ suc (length (without u s.who)) = ap length (sym out.3) ∙ longer c (without u s.who) none in
    let m : s.spare + 1 ≡ length s.who + s.spare - length (without u s.who) = omega (arith, l) in
    λ i. record { who = (e ∙ out.2) i; spare = m i }

pub none_taken : (u : Uid) (s : Contending) → contends u s.who ≡ false → s ≡ after_take u s
none_taken u s h =
    let k : without u s.who ≡ s.who = kept_all u s.who h in
    let m : s.spare ≡ length s.who + s.spare - length s.who = omega arith in
    (λ i. record { who = s.who; spare = m i }) ∙ ap (λ (cs : List Contender). record { who = cs; spare = length s.who + s.spare - length cs }) (sym k)

-- room for one more is made, or is there
pub room_after : (u : Uid) (s t w : Contending) → t ≡ record s { spare = place_for u s } → w ≡ after_take u t → 0 < w.spare
room_after u s t w p q = subst (λ (x : Contending). 0 < x.spare) (sym (q ∙ ap (after_take u) p)) (by (contends u s.who) refl)
  where
    by : (b : Bool) → contends u s.who ≡ b → 0 < length s.who + cond b s.spare (max s.spare 1) - length (without u s.who)
    by true e = let l = fewer_there u s.who e in omega arith
    by false e = let l = fewer u s.who in let m : 1 ≤ max s.spare 1 = omega arith in omega arith

pub fresh_after : (u : Uid) (t w : Contending) → w ≡ after_take u t → contends u w.who ≡ false
fresh_after u t w q = ap (λ (x : Contending). contends u x.who) q ∙ taken_gone u t.who

pub put_after : (c : Contender) (s t w v : Contending) → HasRisingIds s.who → t ≡ record s { spare = place_for c.id s } → w ≡ after_take c.id t → v.who ≡ put_one c w.who → v.spare + 1 ≡ w.spare → v ≡ after_put c s
put_after c s t w v r p q h k =
    let is : w ≡ after_take c.id (record s { spare = place_for c.id s }) = q ∙ ap (after_take c.id) p in
    let who : v.who ≡ put_one c s.who = h ∙ ap (λ (x : Contending). put_one c x.who) is ∙ put_instead c s.who r in
    let spare : v.spare + 1 ≡ length s.who + place_for c.id s - length (without c.id s.who) = k ∙ ap (λ (x : Contending). x.spare) is in
    let long : length (put_one c s.who) ≡ suc (length (without c.id s.who)) = ap length (sym (put_instead c s.who r)) ∙ longer c (without c.id s.who) (taken_gone c.id s.who) in
    let left : v.spare ≡ length s.who + s.spare - length (put_one c s.who) = by (contends c.id s.who) refl spare long in
    λ i. record { who = who i; spare = left i }
  where
    by : (b : Bool) → contends c.id s.who ≡ b → v.spare + 1 ≡ length s.who + cond b s.spare (max s.spare 1) - length (without c.id s.who) → length (put_one c s.who) ≡ suc (length (without c.id s.who)) → v.spare ≡ length s.who + s.spare - length (put_one c s.who)
    by true e k l = omega (arith, k, l)
    by false e k l =
        let same_long : length (without c.id s.who) ≡ length s.who = ap length (kept_all c.id s.who e) in
        grind (arith, k, l, same_long)

pub ok_more : {A E P Q : Type 0} (r : Result A E) → (P → Q) → OnOk r P → OnOk r Q
ok_more (Ok x) f h = f h
ok_more (Err x) f h = h

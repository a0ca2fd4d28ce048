-- THOSE IN FRONT OF A NAME, which are the only ones to change places where one comes to the name or leaves it.
use Rattle.std.proofs.Common.{◌≡◌, ℕ, zero, suc, arith, ◌+◌, ◌<◌, List, [], ◌∷◌, ◌++◌, length, get_or, take, Bool, true, false, cond, not, Option, Some, None, Result, Ok, Err, OnOk, refl, sym, ap, subst, ◌∙◌, inl, inr}
use Rattle.std.specs.Prelude.{◌||◌, filter, is_some}
use Rattle.std.specs.List.{AllByRecursion, list_any}
use Rattle.std.proofs.lemmas.List.{take_more}
use Rattle.std.specs.BTreeMap.{BTreeMap, get}
use Rattle.std.specs.Ordering.{is_eq, ordering_reverse}
use Rattle.std.specs.declared.cmp.Ordering.{Ordering}
use Rattle.std.specs.declared.cmp.Ordering.TheVariants.{Less, Equal, Greater}
use Rattle.repl_data.specs.declared.csn.Uid.{Uid}
use Rattle.repl_data.specs.declared.change.Rdn.{Rdn}
use Rattle.repl_data.specs.Order.{uid_cmp, uid_eq, by_order}
use Rattle.repl_data.proofs.Orders.{uid_total}
use Rattle.urp_names.specs.declared.contenders.Contender.{Contender}
use Rattle.urp_names.specs.Contending.{IsOneOf, IsFront, IsInFront, comes_before, contends, put_one, without}
use Rattle.urp_names.proofs.Least.{taken_gone, put_there, not_self}
use Rattle.urp_tree.specs.declared.child.Child.{Child}
use Rattle.urp_tree.specs.Index.{contender, wanting, HasRisingIds}
use Rattle.urp_tree.specs.Placed.{is_beaten, place_in, beats, with_entered, HasId, Turns, ArePlaces, HasPlaces, HasFront, KeepsPlaces, StaysSo, Covers}
use Rattle.urp_tree.proofs.Placed.{after_placed}
use Rattle.repl_data.proofs.Known.{same_id, own_id}
use Rattle.repl_data.proofs.Bools.{or-right, never}

-- AS FAR AS THE PLACE i of those in front
pub record FrontAt (front : List Contender) (u : Uid) (entered : Option Child) (old new : BTreeMap Uid (Option Bool)) (i : ℕ) : Type 0 where
  pub places : (ds : List Child) → AllByRecursion (StaysSo ds entered u) front → ArePlaces ds old → ArePlaces ds new
  pub keeps : KeepsPlaces old new
  pub covers : HasPlaces new u (take i front)

all_get : (P : Contender → Type 0) (who : List Contender) (i : ℕ) (d : Contender) → AllByRecursion P who → i < length who → P (get_or who i d)
all_get P [] i d h l = let k : i < 0 = l in absurd (omega arith)
all_get P (c ∷ cs) zero d h l = h.0
all_get P (c ∷ cs) (suc i) d h l = all_get P cs i d h.1 (let k : suc i < suc (length cs) = l in omega arith)

has_last : (a b : BTreeMap Uid (Option Bool)) (u : Uid) (xs : List Contender) (c : Contender) → KeepsPlaces a b → HasPlaces a u xs → (uid_eq c.id u ≡ false → is_some (get uid_cmp b c.id) ≡ true) → HasPlaces b u (xs ++ c ∷ [])
has_last a b u [] c keeps h k = (k, tt)
has_last a b u (x ∷ xs) c keeps h k = ((λ n. keeps x.id (h.0 n)), has_last a b u xs c keeps h.1 k)

pub front_init : (front : List Contender) (u : Uid) (entered : Option Child) (old : BTreeMap Uid (Option Bool)) → FrontAt front u entered old old 0
front_init front u entered old = record { places = λ ds all are. are; keeps = λ v h. h; covers = none front }
  where
    none : (xs : List Contender) → HasPlaces old u (take 0 xs)
    none [] = tt
    none (x ∷ xs) = tt

pub front_more : (front : List Contender) (u : Uid) (entered : Option Child) (i : ℕ) (d : Contender) (old a b : BTreeMap Uid (Option Bool)) → i < length front
    → ((ds : List Child) → StaysSo ds entered u (get_or front i d) → ArePlaces ds a → ArePlaces ds b) → KeepsPlaces a b → (uid_eq (get_or front i d).id u ≡ false → is_some (get uid_cmp b (get_or front i d).id) ≡ true)
    → FrontAt front u entered old a i → FrontAt front u entered old b (i + 1)
front_more front u entered i d old a b l step keeps there was = record {
  places = λ ds all are. step ds (all_get (StaysSo ds entered u) front i d all l) (was.places ds all are);
  keeps = λ v h. keeps v (was.keeps v h);
  covers = subst (HasPlaces b u) (sym (take_more front i d l)) (has_last a b u (take i front) (get_or front i d) keeps was.covers there);
}

-- WHO CONTENDS AFTER: those of other ids, with who came
any_put : (q : Contender → Bool) (c : Contender) (cs : List Contender) → contends c.id cs ≡ false → list_any q (put_one c cs) ≡ (q c || list_any q cs)
any_put q c [] h = refl
any_put q c (d ∷ ds) h = by (uid_cmp c.id d.id) refl (any_put q c ds (or-right (uid_eq d.id c.id) (contends c.id ds) h))
  where
    turned : (a b x : Bool) → (b || (a || x)) ≡ (a || (b || x))
    turned true true x = refl
    turned true false x = refl
    turned false true x = refl
    turned false false x = refl

    by : (o : Ordering) → uid_cmp c.id d.id ≡ o → list_any q (put_one c ds) ≡ (q c || list_any q ds) → list_any q (by_order o (c ∷ d ∷ ds) (c ∷ ds) (d ∷ put_one c ds)) ≡ (q c || list_any q (d ∷ ds))
    by Less k more = refl
    by Equal k more = never (uid_eq d.id c.id || contends c.id ds) (ap (λ o. is_eq o || contends c.id ds) (uid_total.antisymm d.id c.id ∙ ap ordering_reverse k)) h
    by Greater k more = ap (λ b. q d || b) more ∙ turned (q c) (q d) (list_any q ds)

put_kept : (x c : Contender) (cs : List Contender) → contends c.id cs ≡ false → IsOneOf x cs → IsOneOf x (put_one c cs)
put_kept x c [] h m = elim m [ ]
put_kept x c (d ∷ ds) h m = by (uid_cmp c.id d.id) refl m (put_kept x c ds (or-right (uid_eq d.id c.id) (contends c.id ds) h))
  where
    by : (o : Ordering) → uid_cmp c.id d.id ≡ o → IsOneOf x (d ∷ ds) → (IsOneOf x ds → IsOneOf x (put_one c ds)) → IsOneOf x (by_order o (c ∷ d ∷ ds) (c ∷ ds) (d ∷ put_one c ds))
    by Less k m more = inr m
    by Equal k m more = never (uid_eq d.id c.id || contends c.id ds) (ap (λ o. is_eq o || contends c.id ds) (uid_total.antisymm d.id c.id ∙ ap ordering_reverse k)) h
    by Greater k (inl e) more = inl e
    by Greater k (inr n) more = inr (more n)

all_put : (P : Contender → Type 0) (c : Contender) (cs : List Contender) → P c → AllByRecursion P cs → AllByRecursion P (put_one c cs)
all_put P c [] p h = (p, tt)
all_put P c (d ∷ ds) p h = by (all_put P c ds p h.1) (uid_cmp c.id d.id)
  where
    by : AllByRecursion P (put_one c ds) → (o : Ordering) → AllByRecursion P (by_order o (c ∷ d ∷ ds) (c ∷ ds) (d ∷ put_one c ds))
    by more Less = (p, h)
    by more Equal = (p, h.1)
    by more Greater = (h.0, more)

one_of_all : (P : Contender → Type 0) (c : Contender) (cs : List Contender) → AllByRecursion P cs → IsOneOf c cs → P c
one_of_all P c [] h m = elim m [ ]
one_of_all P c (d ∷ ds) h (inl e) = subst P (sym e) h.0
one_of_all P c (d ∷ ds) h (inr m) = one_of_all P c ds h.1 m

left_member : (u : Uid) (x : Contender) (cs : List Contender) → uid_eq x.id u ≡ false → IsOneOf x cs → IsOneOf x (without u cs)
left_member u x [] n m = elim m [ ]
left_member u x (d ∷ ds) n (inl e) = by (uid_eq d.id u) (ap (λ (c : Contender). uid_eq c.id u) (sym e) ∙ n)
  where
    by : (b : Bool) → b ≡ false → IsOneOf x (cond (not b) (d ∷ without u ds) (without u ds))
    by true k = let f : true ≡ false = k in cc
    by false k = inl e
left_member u x (d ∷ ds) n (inr m) = by (uid_eq d.id u) (left_member u x ds n m)
  where
    by : (b : Bool) → IsOneOf x (without u ds) → IsOneOf x (cond (not b) (d ∷ without u ds) (without u ds))
    by true more = more
    by false more = inr more

all_left : (P : Contender → Type 0) (u : Uid) (cs : List Contender) → AllByRecursion P cs → AllByRecursion P (without u cs)
all_left P u [] h = tt
all_left P u (c ∷ cs) h = by (not (uid_eq c.id u)) (all_left P u cs h.1)
  where
    by : (b : Bool) → AllByRecursion P (without u cs) → AllByRecursion P (cond b (c ∷ without u cs) (without u cs))
    by true more = (h.0, more)
    by false more = more

less_beaten : (u : Uid) (x : Contender) (cs : List Contender) → is_beaten cs x ≡ false → is_beaten (without u cs) x ≡ false
less_beaten u x [] h = refl
less_beaten u x (c ∷ cs) h = by (not (uid_eq c.id u)) (comes_before c x) h (less_beaten u x cs (or-right (comes_before c x) (is_beaten cs x) h))
  where
    by : (b a : Bool) → (a || is_beaten cs x) ≡ false → is_beaten (without u cs) x ≡ false → list_any (λ (d : Contender). comes_before d x) (cond b (c ∷ without u cs) (without u cs)) ≡ false
    by true a k more = front (comes_before c x) h
      where
        front : (a : Bool) → (a || is_beaten cs x) ≡ false → (a || is_beaten (without u cs) x) ≡ false
        front true j = let e : true ≡ false = j in cc
        front false j = more
    by false a k more = more

beaten_with : (entered : Option Child) (u : Uid) (cs : List Contender) (x : Contender) → HasId u entered → contends u cs ≡ false → is_beaten (with_entered entered cs) x ≡ (beats entered x || is_beaten cs x)
beaten_with None u cs x own h = refl
beaten_with (Some d) u cs x own h = any_put (λ (c : Contender). comes_before c x) (contender d) cs (ap (λ v. contends v cs) own ∙ h)

kept_with : (entered : Option Child) (u : Uid) (cs : List Contender) (x : Contender) → HasId u entered → contends u cs ≡ false → IsOneOf x cs → IsOneOf x (with_entered entered cs)
kept_with None u cs x own h m = m
kept_with (Some d) u cs x own h m = put_kept x (contender d) cs (ap (λ v. contends v cs) own ∙ h) m

all_with : (P : Contender → Type 0) (entered : Option Child) (u : Uid) (cs : List Contender) → HasId u entered → ((d : Child) → d.id ≡ u → P (contender d)) → AllByRecursion P cs → AllByRecursion P (with_entered entered cs)
all_with P None u cs own f h = h
all_with P (Some d) u cs own f h = all_put P (contender d) cs (f d own) h

or_none : (a b : Bool) → b ≡ false → (a || b) ≡ a
or_none true b h = refl
or_none false b h = h

-- WHERE THOSE IN FRONT STAND AFTER
module _ (parent : Uid) (rdn : Rdn) (u : Uid) (entered : Option Child) (cs ds : List Child) (turns : Turns parent rdn u entered cs ds) where
  abbrev before : List Contender
  before = wanting parent rdn cs

  abbrev others : List Contender
  others = without u before

  none_left : contends u others ≡ false
  none_left = taken_gone u before

  pub names_placed : HasRisingIds ds → (front : List Contender) → AllByRecursion (IsFront u before) front → AllByRecursion (StaysSo ds entered u) front
  names_placed rises [] h = tt
  names_placed rises (x ∷ xs) h = (
    (λ n.
        sym
        (one_of_all (λ (c : Contender). place_in ds c.id ≡ Some (is_beaten (wanting parent rdn ds) c)) x (wanting parent rdn ds) (after_placed parent rdn ds rises)
        (subst (IsOneOf x) (sym turns.who) (kept_with entered u others x turns.own none_left (left_member u x before n h.0.0)))
        ∙ ap (λ (who : List Contender). Some (is_beaten who x)) turns.who
        ∙ ap Some (beaten_with entered u others x turns.own none_left ∙ or_none (beats entered x) (is_beaten others x) (h.0.1 n)))),
    names_placed rises xs h.1,
  )

  -- and that they have places
  reach : (places : BTreeMap Uid (Option Bool)) (v : Uid) (front : List Contender) → contends v front ≡ true → uid_eq v u ≡ false → HasPlaces places u front → is_some (get uid_cmp places v) ≡ true
  reach places v [] h n has = let e : false ≡ true = h in cc
  reach places v (x ∷ xs) h n has = by (uid_eq x.id v) refl h (λ k. reach places v xs k n has.1)
    where
      by : (b : Bool) → uid_eq x.id v ≡ b → (b || contends v xs) ≡ true → (contends v xs ≡ true → is_some (get uid_cmp places v) ≡ true) → is_some (get uid_cmp places v) ≡ true
      by true e k more = let is : x.id ≡ v = same_id x.id v e in subst (λ w. is_some (get uid_cmp places w) ≡ true) is (has.0 (ap (λ w. uid_eq w u) is ∙ n))
      by false e k more = more k

  abbrev IsHeld : BTreeMap Uid (Option Bool) → Contender → Type 0
  IsHeld places c = uid_eq c.id u ≡ false → is_beaten (with_entered entered others) c ≡ false → is_some (get uid_cmp places c.id) ≡ true

  pub names_covered : (places : BTreeMap Uid (Option Bool)) (front : List Contender) → AllByRecursion (IsInFront u before front) before → HasPlaces places u front → Covers cs ds places parent rdn u
  names_covered places front all has = record {
    before = was before all;
    after = subst (HasFront places u) (sym turns.who)
        (all_with (IsHeld places) entered u others turns.own (λ d is n. never (uid_eq d.id u) (ap (λ w. uid_eq w u) is ∙ own_id u) n) (all_left (IsHeld places) u before (is before all)));
  }
    where
      was : (who : List Contender) → AllByRecursion (IsInFront u before front) who → AllByRecursion (λ (c : Contender). uid_eq c.id u ≡ false → is_beaten before c ≡ false → is_some (get uid_cmp places c.id) ≡ true) who
      was [] h = tt
      was (c ∷ who) h = ((λ n k. reach places c.id front (h.0 n (less_beaten u c before k)) n has), was who h.1)

      is : (who : List Contender) → AllByRecursion (IsInFront u before front) who → AllByRecursion (IsHeld places) who
      is [] h = tt
      is (c ∷ who) h = (
        (λ n k. reach places c.id front (h.0 n (or-right (beats entered c) (is_beaten others c) (sym (beaten_with entered u others c turns.own none_left) ∙ k))) n has),
        is who h.1,
      )

-- where nobody contended
pub none_covered : (parent : Uid) (rdn : Rdn) (u : Uid) (entered : Option Child) (cs ds : List Child) (places : BTreeMap Uid (Option Bool)) → wanting parent rdn cs ≡ [] → Turns parent rdn u entered cs ds → Covers cs ds places parent rdn u
none_covered parent rdn u entered cs ds places none turns =
    names_covered parent rdn u entered cs ds turns places [] (subst (AllByRecursion (IsInFront u (wanting parent rdn cs) [])) (sym none) tt) tt

-- the place of the one that came
pub came_placed : (c : Child) (cs ds : List Child) → HasRisingIds ds → Turns c.parent c.rdn c.id (Some c) cs ds → Some (is_beaten (without c.id (wanting c.parent c.rdn cs)) (contender c)) ≡ place_in ds c.id
came_placed c cs ds rises turns =
    let others : List Contender = without c.id (wanting c.parent c.rdn cs) in
    sym
    (one_of_all (λ (x : Contender). place_in ds x.id ≡ Some (is_beaten (wanting c.parent c.rdn ds) x)) (contender c) (wanting c.parent c.rdn ds) (after_placed c.parent c.rdn ds rises)
    (subst (IsOneOf (contender c)) (sym turns.who) (put_there (contender c) others))
    ∙ ap (λ (who : List Contender). Some (is_beaten who (contender c))) turns.who
    ∙ ap Some (any_put (λ (x : Contender). comes_before x (contender c)) (contender c) others (taken_gone c.id (wanting c.parent c.rdn cs)) ∙ ap (λ b. b || is_beaten others (contender c)) (not_self (contender c))))

pub on_both : {A E : Type 0} {P Q R : Type 0} (r : Result A E) → (P → Q → R) → OnOk r P → OnOk r Q → OnOk r R
on_both (Ok x) f p q = f p q
on_both (Err x) f p q = tt

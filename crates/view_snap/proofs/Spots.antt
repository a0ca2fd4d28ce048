-- WHERE ENTRIES STAND, and what an entry that is put changes of it.
use Rattle.std.proofs.Common.{◌≡◌, List, [], ◌∷◌, Bool, true, false, cond, not, Option, Some, None, refl, sym, ap, subst, ◌∙◌, inl, inr}
use Rattle.std.specs.Prelude.{◌&&◌, ◌||◌, is_some, option_map, Result, Ok, Err, IfOk}
use Rattle.std.specs.Cmp.{IsTotalOrder}
use Rattle.std.specs.Map.{keys_of}
use Rattle.std.specs.Ordering.{is_eq, is_lt, ordering_then}
use Rattle.std.specs.declared.cmp.Ordering.{Ordering}
use Rattle.std.specs.declared.cmp.Ordering.TheVariants.{Less, Equal, Greater}
use Rattle.std.proofs.lemmas.Cmp.{tied_itself, on_total, then_total}
use Rattle.repl_data.specs.declared.csn.Uid.{Uid}
use Rattle.repl_data.specs.declared.change.Rdn.{Rdn}
use Rattle.repl_data.specs.Order.{uid_cmp, uid_eq, suffix_id, rdn_key, rdn_key_cmp}
use Rattle.repl_data.proofs.Orders.{uid_total, uid_exact, rdn_key_total, rdn_key_exact}
use Rattle.repl_data.proofs.InOrder.{is_equal}
use Rattle.cow_map.specs.Rows.{value_at}
use Rattle.view_walk.specs.Tree.{IsAmong}
use Rattle.view_snap.specs.declared.spot.Spot.{Spot}
use Rattle.view_snap.specs.declared.maps.Maps.{Maps}
use Rattle.view_snap.specs.Told.{Told}
use Rattle.view_snap.specs.Maps.{AreMaps, spot_cmp, told_at, spot_with, spot_of, spot_in, is_spot, has_spot}
use Rattle.repl_data.proofs.Bools.{cases, never}
use Rattle.repl_data.proofs.Known.{same_id}

pub spot_total : IsTotalOrder spot_cmp
spot_total =
    then_total (on_total (λ (k : Spot). k.parent) uid_total)
    (then_total (on_total (λ (k : Spot). rdn_key k.shown) rdn_key_total) (on_total (λ (k : Spot). k.id) uid_total))

-- all parts tie
pub first_equal : (a b : Ordering) → ordering_then a b ≡ Equal → a ≡ Equal
first_equal Less b h = let e : Less ≡ Equal = h in cc
first_equal Equal b h = refl
first_equal Greater b h = let e : Greater ≡ Equal = h in cc

pub last_equal : (a b : Ordering) → ordering_then a b ≡ Equal → b ≡ Equal
last_equal Less b h = let e : Less ≡ Equal = h in cc
last_equal Equal b h = h
last_equal Greater b h = let e : Greater ≡ Equal = h in cc

pub same_parent : (k q : Spot) → spot_cmp k q ≡ Equal → k.parent ≡ q.parent
same_parent k q h = uid_exact k.parent q.parent (first_equal _ _ h)

pub same_shown : (k q : Spot) → spot_cmp k q ≡ Equal → rdn_key k.shown ≡ rdn_key q.shown
same_shown k q h = rdn_key_exact (rdn_key k.shown) (rdn_key q.shown) (first_equal _ _ (last_equal _ _ h))

pub same_owner : (k q : Spot) → spot_cmp k q ≡ Equal → k.id ≡ q.id
same_owner k q h = uid_exact k.id q.id (last_equal _ _ (last_equal _ _ h))

pub tied_spots : (a b : Spot) → is_eq (spot_cmp a b) ≡ true → (q : Spot) → is_eq (spot_cmp a q) ≡ is_eq (spot_cmp b q)
tied_spots a b h q = ap is_eq (spot_total.congr a b q (is_equal (spot_cmp a b) h))

-- ONE ENTRY MORE, or as it is after
not_last : (a o : Ordering) → is_eq o ≡ false → is_eq (ordering_then a o) ≡ false
not_last Less o h = refl
not_last Equal o h = h
not_last Greater o h = refl

pub other_owner : (u : Uid) (t : Told) (q : Spot) → uid_eq u q.id ≡ false → is_spot (spot_of u t) q ≡ false
other_owner u t q n = by (uid_eq u suffix_id) t.shown
  where
    by : (b : Bool) (o : Option Rdn) → is_spot (cond b None (option_map (spot_with u t) o)) q ≡ false
    by true o = refl
    by false None = refl
    by false (Some rdn) = not_last (uid_cmp t.parent q.parent) (ordering_then (rdn_key_cmp (rdn_key rdn) (rdn_key q.shown)) (uid_cmp u q.id)) (not_last (rdn_key_cmp (rdn_key rdn) (rdn_key q.shown)) (uid_cmp u q.id) n)

pub other_spot : (u : Uid) (o : Option Told) (q : Spot) → uid_eq u q.id ≡ false → is_spot (spot_in u o) q ≡ false
other_spot u None q n = refl
other_spot u (Some t) q n = other_owner u t q n

-- the suffix entry and tombstones stand nowhere
pub root_nowhere : (u : Uid) → uid_eq u suffix_id ≡ true → (o : Option Told) → spot_in u o ≡ None
root_nowhere u h None = refl
root_nowhere u h (Some t) = ap (λ b. cond b None (option_map (spot_with u t) t.shown)) h

pub gone_nowhere : (u : Uid) (t : Told) → is_some t.shown ≡ false → spot_of u t ≡ None
gone_nowhere u t h = by (uid_eq u suffix_id) t.shown h
  where
    by : (b : Bool) (o : Option Rdn) → is_some o ≡ false → cond b None (option_map (spot_with u t) o) ≡ None
    by true o k = refl
    by false None k = refl
    by false (Some rdn) k = let e : true ≡ false = k in cc

-- where an entry stands, its spot is
pub spot_there : (m : Maps) → AreMaps m → (u : Uid) (q : Spot) → is_spot (spot_in u (told_at m.entries u)) q ≡ true → has_spot m.below q ≡ true
spot_there m a u q h =
    cases (uid_eq u q.id)
    (λ t. a.spots q ∙ ap (λ w. is_spot (spot_in w (told_at m.entries w)) q) (sym (same_id u q.id t)) ∙ h)
    (λ f. never (is_spot (spot_in u (told_at m.entries u)) q) h (other_spot u (told_at m.entries u) q f))

pub put_spots : (m : Maps) → AreMaps m → (u : Uid) (t : Told) (below : List (Spot × Unit {0})) (entries : List (Uid × Told))
    → ((q : Spot) → has_spot below q ≡ (is_spot (spot_of u t) q || (not (is_spot (spot_in u (told_at m.entries u)) q) && has_spot m.below q)))
    → ((w : Uid) → told_at entries w ≡ cond (uid_eq u w) (Some t) (told_at m.entries w))
    → (q : Spot) → has_spot below q ≡ is_spot (spot_in q.id (told_at entries q.id)) q
put_spots m a u t below entries g h q =
    cases (uid_eq u q.id)
    (λ e. own (same_id u q.id e) e)
    (λ n. g q
    ∙ (λ i. other_owner u t q n i || (not (other_spot u (told_at m.entries u) q n i) && has_spot m.below q))
    ∙ a.spots q
    ∙ ap (λ o. is_spot (spot_in q.id o) q) (sym (h q.id ∙ ap (λ b. cond b (Some t) (told_at m.entries q.id)) n)))
  where
    either : (a b : Bool) → (a || (not b && b)) ≡ a
    either true b = refl
    either false true = refl
    either false false = refl

    own : u ≡ q.id → uid_eq u q.id ≡ true → has_spot below q ≡ is_spot (spot_in q.id (told_at entries q.id)) q
    own is e =
        g q
        ∙ ap (λ b. is_spot (spot_of u t) q || (not (is_spot (spot_in u (told_at m.entries u)) q) && b)) (a.spots q ∙ ap (λ w. is_spot (spot_in w (told_at m.entries w)) q) (sym is))
        ∙ either (is_spot (spot_of u t) q) (is_spot (spot_in u (told_at m.entries u)) q)
        ∙ ap (λ w. is_spot (spot_of w t) q) is
        ∙ ap (λ o. is_spot (spot_in q.id o) q) (sym (h q.id ∙ ap (λ b. cond b (Some t) (told_at m.entries q.id)) e))

-- a spot less, and a spot more
pub without_one : (below after : List (Spot × Unit {0})) (k : Spot) → ((q : Spot) → value_at spot_cmp after q ≡ cond (is_eq (spot_cmp k q)) None (value_at spot_cmp below q)) → (q : Spot) → has_spot after q ≡ (not (is_spot (Some k) q) && has_spot below q)
without_one below after k h q = ap is_some (h q) ∙ by (is_eq (spot_cmp k q))
  where
    by : (b : Bool) → is_some (cond b None (value_at spot_cmp below q)) ≡ (not b && has_spot below q)
    by true = refl
    by false = refl

pub with_one : (below after : List (Spot × Unit {0})) (k : Spot) (v : Unit {0}) → ((q : Spot) → value_at spot_cmp after q ≡ cond (is_eq (spot_cmp k q)) (Some v) (value_at spot_cmp below q)) → (q : Spot) → has_spot after q ≡ (is_spot (Some k) q || has_spot below q)
with_one below after k v h q = ap is_some (h q) ∙ by (is_eq (spot_cmp k q))
  where
    by : (b : Bool) → is_some (cond b (Some v) (value_at spot_cmp below q)) ≡ (b || has_spot below q)
    by true = refl
    by false = refl

-- an entry that stays, and one that goes from one spot to another
pub respot_same : {E : Type 0} (below : List (Spot × Unit {0})) (old new : Option Spot) → ((q : Spot) → is_spot old q ≡ true → has_spot below q ≡ true) → ((q : Spot) → is_spot old q ≡ is_spot new q) → (r : Result (List (Spot × Unit {0})) E) → IfOk r (λ b. b ≡ below)
    → IfOk r (λ b. (q : Spot) → has_spot b q ≡ (is_spot new q || (not (is_spot old q) && has_spot below q)))
respot_same below old new there same (Err e) h = h
respot_same below old new there same (Ok b) h = λ q. ap (λ z. has_spot z q) h ∙ by q (is_spot old q) refl ∙ ap (λ x. x || (not (is_spot old q) && has_spot below q)) (same q)
  where
    by : (q : Spot) (x : Bool) → is_spot old q ≡ x → has_spot below q ≡ (is_spot old q || (not (is_spot old q) && has_spot below q))
    by q true e = there q e ∙ sym (ap (λ x. x || (not x && has_spot below q)) e)
    by q false e = sym (ap (λ x. x || (not x && has_spot below q)) e)

pub respot_moved : {E : Type 0} (below less : List (Spot × Unit {0})) (old new : Option Spot) → ((q : Spot) → has_spot less q ≡ (not (is_spot old q) && has_spot below q)) → (r : Result (List (Spot × Unit {0})) E) → IfOk r (λ b. (q : Spot) → has_spot b q ≡ (is_spot new q || has_spot less q))
    → IfOk r (λ b. (q : Spot) → has_spot b q ≡ (is_spot new q || (not (is_spot old q) && has_spot below q)))
respot_moved below less old new f (Err e) h = h
respot_moved below less old new f (Ok b) h = λ q. h q ∙ ap (λ x. is_spot new q || x) (f q)

-- THE ROWS BELOW
pub spot_kept : (k : Spot) (below : List (Spot × Unit {0})) → IsAmong k (keys_of below) → has_spot below k ≡ true
spot_kept k [] m = elim m [ ]
spot_kept k (r ∷ rows) (inl e) = ap (λ o. is_some (cond (is_eq o) (Some r.1) (rest rows))) (ap (spot_cmp k) (sym e) ∙ tied_itself spot_total k)
  where
    rest : List (Spot × Unit {0}) → Option (Unit {0})
    rest xs = value_at spot_cmp xs k
spot_kept k (r ∷ rows) (inr m) = by (is_eq (spot_cmp k r.0)) (spot_kept k rows m)
  where
    by : (b : Bool) → has_spot rows k ≡ true → is_some (cond b (Some r.1) (value_at spot_cmp rows k)) ≡ true
    by true h = refl
    by false h = h

pub spot_found : (q : Spot) (below : List (Spot × Unit {0})) → has_spot below q ≡ true → (k : Spot) × IsAmong k (keys_of below) × (spot_cmp q k ≡ Equal)
spot_found q [] h = let e : false ≡ true = h in cc
spot_found q (r ∷ rows) h = by (is_eq (spot_cmp q r.0)) refl h (spot_found q rows)
  where
    by : (b : Bool) → is_eq (spot_cmp q r.0) ≡ b → is_some (cond b (Some r.1) (value_at spot_cmp rows q)) ≡ true → (has_spot rows q ≡ true → (k : Spot) × IsAmong k (keys_of rows) × (spot_cmp q k ≡ Equal)) → (k : Spot) × IsAmong k (r.0 ∷ keys_of rows) × (spot_cmp q k ≡ Equal)
    by true e k more = (r.0, inl refl, is_equal (spot_cmp q r.0) e)
    by false e k more = let f = more k in (f.0, inr f.1, f.2)

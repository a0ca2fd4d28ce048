-- STEPS THAT CAN BE TAKEN: they tell the truth, and who enters has room.
use Rattle.std.proofs.Common.{◌≡◌, ℕ, suc, ◌+◌, ◌<◌, ◌≤◌, ◌^◌, List, [], ◌∷◌, ◌++◌, map, length, Bool, true, false, cond, Option, Some, None, refl, sym, ap, subst, ◌∙◌, inl, inr, arith}
use Rattle.std.specs.Prelude.{◌&&◌, ◌||◌, filter, IfSome}
use Rattle.std.specs.List.{AllByRecursion}
use Rattle.std.specs.BTreeMap.{BTreeMap}
use Rattle.std.specs.Ordering.{is_eq}
use Rattle.std.proofs.lemmas.Cmp.{tied_itself}
use Rattle.std.proofs.lemmas.List.Sums.{length-filter, count_by-le-length}
use Rattle.repl_data.specs.declared.csn.Uid.{Uid}
use Rattle.repl_data.specs.declared.change.Rdn.{Rdn}
use Rattle.repl_data.specs.Order.{uid_eq}
use Rattle.repl_data.specs.Ranks.{rdn_total}
use Rattle.repl_data.proofs.Orders.{uid_total, uid_exact}
use Rattle.repl_data.proofs.InOrder.{is_equal}
use Rattle.urp_names.specs.Contending.{contends}
use Rattle.urp_tree.specs.declared.child.Child.{Child}
use Rattle.urp_tree.specs.declared.row.Row.{Row}
use Rattle.urp_tree.specs.declared.step.Step.{Step}
use Rattle.urp_tree.specs.declared.step.Step.TheVariants.{Enter, Leave}
use Rattle.urp_tree.specs.Index.{stands_below, wants, wanting, contender, spare_at, HasRisingIds, IsOneOf}
use Rattle.urp_tree.specs.Rows.{row_at, AreIndexed, HasRoomFor, HasChild, SeatLeaves, SeatWidens}
use Rattle.urp_tree.specs.Walk.{step_of, Steps, CanWalk}
use Rattle.urp_tree.specs.Climb.{count_below, AreTrue, IsApart, AreApart, RoomFor}
use Rattle.urp_tree.proofs.Ways.{count_less}
use Rattle.urp_tree.proofs.Walks.{rises_step, indexed_step}
use Rattle.repl_data.proofs.Bools.{cases, either_second}

-- a child contends for its name
pub contends_one : (u : Uid) (rdn : Rdn) (c : Child) (cs : List Child) → IsOneOf c cs → wants u rdn c ≡ true → contends c.id (wanting u rdn cs) ≡ true
contends_one u rdn c [] m h = elim m [ ]
contends_one u rdn c (d ∷ ds) (inl m) h =
    ap (λ t. contends c.id (map contender (cond t (d ∷ filter (wants u rdn) ds) (filter (wants u rdn) ds)))) (ap (wants u rdn) (sym m) ∙ h)
    ∙ ap (λ (x : Child). uid_eq x.id c.id || contends c.id (wanting u rdn ds)) (sym m)
    ∙ ap (λ t. is_eq t || contends c.id (wanting u rdn ds)) (tied_itself uid_total c.id)
contends_one u rdn c (d ∷ ds) (inr m) h = by (wants u rdn d) (contends_one u rdn c ds m h)
  where
    by : (t : Bool) → contends c.id (wanting u rdn ds) ≡ true → contends c.id (map contender (cond t (d ∷ filter (wants u rdn) ds) (filter (wants u rdn) ds))) ≡ true
    by true more = either_second (uid_eq d.id c.id) (contends c.id (wanting u rdn ds)) more
    by false more = more

above_zero : (a b : ℕ) → a ≡ suc b → 0 < a
above_zero a b h = omega (arith, h)

place_leave : (c : Child) (cs : List Child) (rows : BTreeMap Uid (Option Row)) → HasRisingIds cs → IsOneOf c cs → stands_below c.parent c ≡ true → AreIndexed cs rows → IfSome (row_at rows c.parent) (HasChild c)
place_leave c cs rows rises m h indexed = by (row_at rows c.parent) refl
  where
    by : (o : Option Row) → row_at rows c.parent ≡ o → IfSome o (HasChild c)
    by None e = tt
    by (Some r) e = record {
      some = above_zero r.children (count_below c.parent _) ((indexed c.parent r e).count ∙ count_less c.parent c cs rises m h);
      there = ap (contends c.id) ((indexed c.parent r e).who c.rdn) ∙ contends_one c.parent c.rdn c cs m (λ i. h i && is_eq (tied_itself rdn_total c.rdn i));
    }

few : (a b l n : ℕ) → a ≡ b → b ≤ l → l ≤ n → n ≤ 2 ^ 63 → a + 1 < 2 ^ 64
few a b l n e f g s = omega arith

count_few : (u : Uid) (cs : List Child) → count_below u cs ≤ length cs
count_few u cs = omega (arith, length-filter (stands_below u) cs, count_by-le-length (stands_below u) cs)

place_enter : (n : ℕ) (c : Child) (cs : List Child) (rows : BTreeMap Uid (Option Row)) → n ≤ 2 ^ 63 → length cs ≤ n → AreIndexed cs rows → RoomFor rows (Enter c) → IfSome (row_at rows c.parent) (HasRoomFor c)
place_enter n c cs rows small l indexed room = by (row_at rows c.parent) refl room
  where
    by : (o : Option Row) → row_at rows c.parent ≡ o → IfSome o (λ (r : Row). 0 < spare_at r.names c.rdn) → IfSome o (HasRoomFor c)
    by None e g = tt
    by (Some r) e g = record { room = g; fits = few r.children (count_below c.parent cs) (length cs) n (indexed c.parent r e).count (count_few c.parent cs) l small }

-- ROOM STAYS
less_then : (a b : ℕ) → 0 < a → a ≤ b → 0 < b
less_then a b h g = omega (arith, h, g)

room_entered : (c : Child) (t : Step) (rows new : BTreeMap Uid (Option Row)) → Steps (Enter c) rows new → IsApart c.parent t → RoomFor rows t → RoomFor new t
room_entered c (Leave d) rows new st a room = tt
room_entered c (Enter d) rows new st a room = subst (λ o. IfSome o (λ (r : Row). 0 < spare_at r.names d.rdn)) (sym (st.others d.parent a)) room

abbrev HasSpare : Rdn → Option Row → Type 0
HasSpare rdn o = IfSome o (λ (r : Row). 0 < spare_at r.names rdn)

spare_left : (c : Child) (rdn : Rdn) (o p : Option Row) → SeatLeaves c o p → HasSpare rdn o → HasSpare rdn p
spare_left c rdn None p h g = subst (HasSpare rdn) (sym h) tt
spare_left c rdn (Some r) p h g = subst (HasSpare rdn) (sym h.1) (less_then (spare_at r.names rdn) (spare_at h.0.names rdn) g (h.2.spare rdn))

room_left : (c : Child) (t : Step) (rows new : BTreeMap Uid (Option Row)) → Steps (Leave c) rows new → RoomFor rows t → RoomFor new t
room_left c (Leave d) rows new st room = tt
room_left c (Enter d) rows new st room =
    cases (uid_eq c.parent d.parent)
    (λ y. let same : c.parent ≡ d.parent = uid_exact c.parent d.parent (is_equal _ y) in
    subst (λ v. HasSpare d.rdn (row_at new v)) same (spare_left c d.rdn (row_at rows c.parent) (row_at new c.parent) st.parent (subst (λ v. HasSpare d.rdn (row_at rows v)) (sym same) room)))
    (λ f. subst (HasSpare d.rdn) (sym (st.others d.parent f)) room)

rooms_entered : (c : Child) (ss : List Step) (rows new : BTreeMap Uid (Option Row)) → Steps (Enter c) rows new → AllByRecursion (IsApart c.parent) ss → AllByRecursion (RoomFor rows) ss → AllByRecursion (RoomFor new) ss
rooms_entered c [] rows new st a r = tt
rooms_entered c (s ∷ ss) rows new st a r = (room_entered c s rows new st a.0 r.0, rooms_entered c ss rows new st a.1 r.1)

rooms_left : (c : Child) (ss : List Step) (rows new : BTreeMap Uid (Option Row)) → Steps (Leave c) rows new → AllByRecursion (RoomFor rows) ss → AllByRecursion (RoomFor new) ss
rooms_left c [] rows new st r = tt
rooms_left c (s ∷ ss) rows new st r = (room_left c s rows new st r.0, rooms_left c ss rows new st r.1)

pub can_walk : (n : ℕ) (ss : List Step) (cs : List Child) (rows : BTreeMap Uid (Option Row)) → n ≤ 2 ^ 63 → HasRisingIds cs → AreTrue n cs ss → AreApart ss → AllByRecursion (RoomFor rows) ss → AreIndexed cs rows → CanWalk cs rows ss
can_walk n [] cs rows small rises t a r indexed = tt
can_walk n (Enter c ∷ ss) cs rows small rises t a r indexed = (
  t.0,
  place_enter n c cs rows small t.1 indexed r.0,
  (λ new st. can_walk n ss (step_of (Enter c) cs) new small (rises_step (Enter c) cs rises) t.2 a.1 (rooms_entered c ss rows new st a.0 r.1) (indexed_step (Enter c) cs rows new rises t.0 st indexed)),
)
can_walk n (Leave c ∷ ss) cs rows small rises t a r indexed = (
  t.0,
  place_leave c cs rows rises t.0.0 t.0.1 indexed,
  (λ new st. can_walk n ss (step_of (Leave c) cs) new small (rises_step (Leave c) cs rises) t.2 a (rooms_left c ss rows new st r.1) (indexed_step (Leave c) cs rows new rises t.0 st indexed)),
)

-- where room is made below another entry, or below the same
spare_kept : (rdn : Rdn) (o p : Option Row) → SeatWidens o p → HasSpare rdn o → HasSpare rdn p
spare_kept rdn None p h g = subst (HasSpare rdn) (sym h) tt
spare_kept rdn (Some r) p h g = subst (HasSpare rdn) (sym h.1) (less_then (spare_at r.names rdn) (spare_at h.0.names rdn) g (h.2.spare rdn))

pub room_kept : (parent : Uid) (rows new : BTreeMap Uid (Option Row)) → ((u : Uid) → uid_eq parent u ≡ false → row_at new u ≡ row_at rows u) → SeatWidens (row_at rows parent) (row_at new parent) → (t : Step) → RoomFor rows t → RoomFor new t
room_kept parent rows new others kept (Leave d) room = tt
room_kept parent rows new others kept (Enter d) room =
    cases (uid_eq parent d.parent)
    (λ y. let same : parent ≡ d.parent = uid_exact parent d.parent (is_equal _ y) in
    subst (λ v. HasSpare d.rdn (row_at new v)) same (spare_kept d.rdn (row_at rows parent) (row_at new parent) kept (subst (λ v. HasSpare d.rdn (row_at rows v)) (sym same) room)))
    (λ f. subst (HasSpare d.rdn) (sym (others d.parent f)) room)

pub room_seated : (rows new : BTreeMap Uid (Option Row)) → ((u : Uid) → row_at new u ≡ row_at rows u) → (t : Step) → RoomFor rows t → RoomFor new t
room_seated rows new same (Leave d) room = tt
room_seated rows new same (Enter d) room = subst (HasSpare d.rdn) (sym (same d.parent)) room

pub rooms_all : (rows new : BTreeMap Uid (Option Row)) → ((t : Step) → RoomFor rows t → RoomFor new t) → (ss : List Step) → AllByRecursion (RoomFor rows) ss → AllByRecursion (RoomFor new) ss
rooms_all rows new f [] h = tt
rooms_all rows new f (s ∷ ss) h = (f s h.0, rooms_all rows new f ss h.1)

pub rooms_last : (rows : BTreeMap Uid (Option Row)) (ss : List Step) (s : Step) → AllByRecursion (RoomFor rows) ss → RoomFor rows s → AllByRecursion (RoomFor rows) (ss ++ s ∷ [])
rooms_last rows [] s h r = (r, tt)
rooms_last rows (t ∷ ss) s h r = (h.0, rooms_last rows ss s h.1 r)

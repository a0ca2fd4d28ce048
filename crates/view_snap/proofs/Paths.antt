-- THE WAY UP from an entry, by the rows that are kept.
use Rattle.std.proofs.Common.{◌≡◌, ℕ, ◌<◌, ◌≤◌, List, [], ◌∷◌, ◌++◌, Bool, true, false, cond, not, Option, Some, None, length, filter, refl, sym, ap, subst, ◌∙◌, inl, inr, arith}
use Rattle.std.specs.Prelude.{◌&&◌, ◌||◌, reverse, option_map, find}
use Rattle.std.specs.List.{AllByRecursion}
use Rattle.std.specs.Map.{keys_of}
use Rattle.std.specs.Ordering.{is_eq, is_lt, is_le, ordering_reverse}
use Rattle.std.specs.declared.cmp.Ordering.{Ordering}
use Rattle.std.specs.declared.cmp.Ordering.TheVariants.{Less, Equal, Greater}
use Rattle.std.proofs.lemmas.Grind.{reverse_onto}
use Rattle.std.proofs.lemmas.Cmp.{tied_itself}
use Rattle.repl_data.specs.declared.csn.Uid.{Uid}
use Rattle.repl_data.specs.declared.change.Rdn.{Rdn}
use Rattle.repl_data.specs.Order.{uid_cmp, uid_eq, suffix_id}
use Rattle.repl_data.specs.View.{DirectoryView, PresentEntry, present_at, path_among, path_of}
use Rattle.repl_data.proofs.Orders.{uid_total, uid_exact, split}
use Rattle.repl_data.proofs.ClosedLaws.{no_csn_below}
use Rattle.cow_map.specs.Rows.{IsRising}
use Rattle.view_walk.specs.Tree.{IsAmong}
use Rattle.view_walk.proofs.Rising.{Rise}
use Rattle.view_walk.proofs.Members.{one_of}
use Rattle.view_snap.specs.declared.spot.Spot.{Spot}
use Rattle.view_snap.specs.Told.{Told, present_with, view_of_rows}
use Rattle.view_snap.specs.Maps.{told_at, above, spot_in, spot_with}
use Rattle.view_snap.specs.Shown.{IsPresentChild}
use Rattle.view_snap.proofs.Entries.{found_among, IsBefore, present_rise, shown_is, hidden_is, unknown_is}
use Rattle.repl_data.proofs.Bools.{cases, never}
use Rattle.repl_data.proofs.Known.{same_id, own_id}
use Rattle.repl_data.proofs.Arrival.{other_order}

-- entries of other ids do not count
abbrev AreOthers : Uid → List PresentEntry → Type 0
AreOthers u es = AllByRecursion (λ (e : PresentEntry). uid_eq e.id u ≡ false) es

abbrev AreAbove : Uid → List PresentEntry → Type 0
AreAbove u es = AllByRecursion (λ (e : PresentEntry). uid_cmp u e.id ≡ Less) es

abbrev own_name : PresentEntry → Uid → List Rdn
own_name e u = cond (uid_eq e.id u && not (uid_eq u suffix_id)) (e.shown ∷ []) []

none_among : (u : Uid) (xs : List PresentEntry) → AreOthers u xs → path_among xs u ≡ []
none_among u [] h = refl
none_among u (e ∷ xs) h =
    (λ i. cond (h.0 i && not (uid_eq u suffix_id)) (e.shown ∷ []) [] ++ path_among xs (cond (h.0 i) e.parent u))
    ∙ none_among u xs h.1

skip : (u : Uid) (xs ys : List PresentEntry) → AreOthers u xs → path_among (xs ++ ys) u ≡ path_among ys u
skip u [] ys h = refl
skip u (e ∷ xs) ys h =
    (λ i. cond (h.0 i && not (uid_eq u suffix_id)) (e.shown ∷ []) [] ++ path_among (xs ++ ys) (cond (h.0 i) e.parent u))
    ∙ skip u xs ys h.1

others_reverse : (u : Uid) (xs : List PresentEntry) → AreOthers u xs → AreOthers u (reverse xs)
others_reverse u [] h = tt
others_reverse u (x ∷ xs) h = subst (AreOthers u) (sym (reverse_onto xs x [])) (both (reverse xs) (others_reverse u xs h.1))
  where
    both : (ys : List PresentEntry) → AreOthers u ys → AreOthers u (ys ++ x ∷ [])
    both [] k = (h.0, tt)
    both (y ∷ ys) k = (k.0, both ys k.1)

above_others : (u w : Uid) (xs : List PresentEntry) → AreAbove u xs → is_le (uid_cmp w u) ≡ true → AreOthers w xs
above_others u w [] h l = tt
above_others u w (x ∷ xs) h l = (one (uid_cmp w u) refl l, above_others u w xs h.1 l)
  where
    less : uid_cmp w x.id ≡ Less → uid_eq x.id w ≡ false
    less k = ap is_eq (uid_total.antisymm x.id w ∙ ap ordering_reverse k)

    one : (o : Ordering) → uid_cmp w u ≡ o → is_le o ≡ true → uid_eq x.id w ≡ false
    one Less k t = less (uid_total.trans w u x.id k h.0)
    one Equal k t = less (uid_total.congr w u x.id k ∙ h.0)
    one Greater k t = let f : false ≡ true = t in cc

-- a rising list, cut at an entry: what is before it and what is behind
record Cut (es : List PresentEntry) (e : PresentEntry) : Type 0 where
  pub front : List PresentEntry
  pub back : List PresentEntry
  pub whole : es ≡ front ++ e ∷ back
  pub behind : AreAbove e.id back
  pub before : AllByRecursion (λ (f : PresentEntry). uid_cmp f.id e.id ≡ Less) front

cut : (es : List PresentEntry) (e : PresentEntry) → Rise (IsBefore (λ (x : PresentEntry). x.id)) es → IsAmong e es → Cut es e
cut [] e r m = elim m [ ]
cut (x ∷ es) e r (inl p) = record { front = []; back = es; whole = ap (λ z. z ∷ es) (sym p); behind = subst (λ (z : PresentEntry). AreAbove z.id es) (sym p) r.0; before = tt }
cut (x ∷ es) e r (inr m) =
    let c = cut es e r.1 m in
    record { front = x ∷ c.front; back = c.back; whole = ap (λ z. x ∷ z) c.whole; behind = c.behind; before = (one_of (λ (y : PresentEntry). uid_cmp x.id y.id ≡ Less) e es m r.0, c.before) }

all_front : {X : Type 0} (P : X → Type 0) (xs ys : List X) → AllByRecursion P (xs ++ ys) → AllByRecursion P xs
all_front P [] ys h = tt
all_front P (x ∷ xs) ys h = (h.0, all_front P xs ys h.1)

reverse_cut : (xs : List PresentEntry) (e : PresentEntry) (ys : List PresentEntry) → reverse (xs ++ e ∷ ys) ≡ reverse ys ++ (e ∷ reverse xs)
reverse_cut [] e ys = reverse_onto ys e []
reverse_cut (x ∷ xs) e ys =
    reverse_onto (xs ++ e ∷ ys) x []
    ∙ ap (λ z. z ++ x ∷ []) (reverse_cut xs e ys)
    ∙ assoc (reverse ys) (e ∷ reverse xs)
    ∙ ap (λ z. reverse ys ++ (e ∷ z)) (sym (reverse_onto xs x []))
  where
    assoc : (us bs : List PresentEntry) → (us ++ bs) ++ x ∷ [] ≡ us ++ (bs ++ x ∷ [])
    assoc [] bs = refl
    assoc (a ∷ us) bs = ap (λ z. a ∷ z) (assoc us bs)

module _ (suffix : List ℕ) (rows : List (Uid × Told)) (r : IsRising uid_cmp rows) where
  abbrev view : DirectoryView
  view = view_of_rows suffix rows

  nobody : (u : Uid) → present_at view u ≡ None → AreOthers u view.present
  nobody u h = by view.present h
    where
      by : (es : List PresentEntry) → find (λ (e : PresentEntry). uid_eq e.id u) es ≡ None → AreOthers u es
      by [] k = tt
      by (e ∷ es) k = one (uid_eq e.id u) refl k (by es)
        where
          one : (b : Bool) → uid_eq e.id u ≡ b → cond b (Some e) (find (λ (x : PresentEntry). uid_eq x.id u) es) ≡ None → (find (λ (x : PresentEntry). uid_eq x.id u) es ≡ None → AreOthers u es) → AreOthers u (e ∷ es)
          one true p o more = let f : ◌≡◌ {A = Option PresentEntry} (Some e) None = o in cc
          one false p o more = (p, more o)

  pub path_nobody : (u : Uid) → present_at view u ≡ None → path_of view u ≡ []
  path_nobody u h = none_among u (reverse view.present) (others_reverse u view.present (nobody u h))

  -- from an entry that is present, whoever is not behind it
  path_cut : (e : PresentEntry) (c : Cut view.present e) (u : Uid) → is_le (uid_cmp u e.id) ≡ true → path_of view u ≡ own_name e u ++ path_among (reverse c.front) (cond (uid_eq e.id u) e.parent u)
  path_cut e c u l =
      ap (λ z. path_among (reverse z) u) c.whole
      ∙ ap (λ z. path_among z u) (reverse_cut c.front e c.back)
      ∙ skip u (reverse c.back) (e ∷ reverse c.front) (others_reverse u c.back (above_others e.id u c.back c.behind l))

  -- the suffix entry ends it
  pub path_root : path_of view suffix_id ≡ []
  path_root = by (present_at view suffix_id) refl
    where
      no_front : (xs : List PresentEntry) → AllByRecursion (λ (f : PresentEntry). uid_cmp f.id suffix_id ≡ Less) xs → xs ≡ []
      no_front [] h = refl
      no_front (x ∷ xs) h = absurd (no_csn_below x.id.csn h.0)

      ended : (e : PresentEntry) → e.id ≡ suffix_id → Cut view.present e → path_of view suffix_id ≡ []
      ended e is c =
          let same : uid_eq e.id suffix_id ≡ true = ap (λ w. uid_eq w suffix_id) is ∙ own_id suffix_id in
          path_cut e c suffix_id (ap (λ w. is_le (uid_cmp suffix_id w)) is ∙ ap is_le (tied_itself uid_total suffix_id))
          ∙ (λ i. cond (same i && not (uid_eq suffix_id suffix_id)) (e.shown ∷ []) [] ++ path_among (reverse c.front) (cond (same i) e.parent suffix_id))
          ∙ ap (λ z. path_among (reverse z) e.parent) (no_front c.front (subst (λ w. AllByRecursion (λ (f : PresentEntry). uid_cmp f.id w ≡ Less) c.front) is c.before))

      by : (o : Option PresentEntry) → present_at view suffix_id ≡ o → path_of view suffix_id ≡ []
      by None h = path_nobody suffix_id h
      by (Some e) h =
          let f = found_among (λ (x : PresentEntry). x.id) suffix_id e view.present h in
          ended e f.1 (cut view.present e (present_rise suffix rows r) f.0)

  pub path_end : (u : Uid) → spot_in u (told_at rows u) ≡ None → path_of view u ≡ []
  path_end u h = by (told_at rows u) refl h
    where
      deeper : (t : Told) → told_at rows u ≡ Some t → (b : Bool) (o : Option Rdn) → uid_eq u suffix_id ≡ b → t.shown ≡ o → cond b None (option_map (spot_with u t) o) ≡ None → path_of view u ≡ []
      deeper t k true o e s g = ap (path_of view) (same_id u suffix_id e) ∙ path_root
      deeper t k false None e s g = path_nobody u (hidden_is suffix rows r u t k s)
      deeper t k false (Some rdn) e s g = let f : ◌≡◌ {A = Option Spot} (Some (spot_with u t rdn)) None = g in cc

      by : (o : Option Told) → told_at rows u ≡ o → spot_in u o ≡ None → path_of view u ≡ []
      by None k g = path_nobody u (unknown_is suffix rows r u k)
      by (Some t) k g = deeper t k (uid_eq u suffix_id) t.shown refl refl g

  -- the names from an entry up are its own, and those from its parent up
  module _ (u : Uid) (t : Told) (c : IsPresentChild rows u t) (rdn : Rdn) (shown : t.shown ≡ Some rdn) where
    abbrev e : PresentEntry
    e = present_with u t rdn

    there : IsAmong e view.present
    there = (found_among (λ (x : PresentEntry). x.id) u e view.present (shown_is suffix rows r u t rdn c.there shown)).0

    parted : Cut view.present e
    parted = cut view.present e (present_rise suffix rows r) there

    own : path_of view u ≡ rdn ∷ path_among (reverse parted.front) t.parent
    own =
        path_cut e parted u (ap is_le (tied_itself uid_total u))
        ∙ (λ i. cond (own_id u i && not (c.child i)) (rdn ∷ []) [] ++ path_among (reverse parted.front) (cond (own_id u i) t.parent u))

    not_less : (w : Uid) → is_lt (uid_cmp w u) ≡ false → (xs : List PresentEntry) → AllByRecursion (λ (f : PresentEntry). uid_cmp f.id u ≡ Less) xs → AreOthers w xs
    not_less w n [] h = tt
    not_less w n (x ∷ xs) h = (
      cases (uid_eq x.id w) (λ k. never (is_lt (uid_cmp w u)) (ap (λ z. is_lt (uid_cmp z u)) (sym (same_id x.id w k)) ∙ ap is_lt h.0) n) (λ k. k),
      not_less w n xs h.1,
    )

    pub path_more : path_of view u ≡ rdn ∷ path_of view (above t.parent u)
    path_more = own ∙ ap (λ z. rdn ∷ z) (cases (is_lt (uid_cmp t.parent u)) less more)
      where
        less : is_lt (uid_cmp t.parent u) ≡ true → path_among (reverse parted.front) t.parent ≡ path_of view (above t.parent u)
        less h =
            let n : uid_eq u t.parent ≡ false = other_order t.parent u (by (uid_cmp t.parent u) h) in
            sym (ap (λ b. path_of view (cond b t.parent suffix_id)) h
            ∙ path_cut e parted t.parent (by_le (uid_cmp t.parent u) h)
            ∙ (λ i. cond (n i && not (uid_eq t.parent suffix_id)) (rdn ∷ []) [] ++ path_among (reverse parted.front) (cond (n i) t.parent t.parent)))
          where
            by : (o : Ordering) → is_lt o ≡ true → is_eq o ≡ false
            by Less k = refl
            by Equal k = let f : false ≡ true = k in cc
            by Greater k = refl

            by_le : (o : Ordering) → is_lt o ≡ true → is_le o ≡ true
            by_le Less k = refl
            by_le Equal k = refl
            by_le Greater k = let f : false ≡ true = k in cc

        more : is_lt (uid_cmp t.parent u) ≡ false → path_among (reverse parted.front) t.parent ≡ path_of view (above t.parent u)
        more h =
            none_among t.parent (reverse parted.front) (others_reverse t.parent parted.front (not_less t.parent h parted.front parted.before))
            ∙ sym (ap (λ b. path_of view (cond b t.parent suffix_id)) h ∙ path_root)

-- how many rows are at an id or before it
abbrev pub low_count : Uid → List (Uid × Told) → ℕ
low_count u rows = length (filter (λ (x : Uid × Told). is_le (uid_cmp x.0 u)) rows)

le_less : (k w u : Uid) → uid_cmp w u ≡ Less → is_le (uid_cmp k w) ≡ true → uid_cmp k u ≡ Less
le_less k w u h l = by (uid_cmp k w) refl l
  where
    by : (o : Ordering) → uid_cmp k w ≡ o → is_le o ≡ true → uid_cmp k u ≡ Less
    by Less e t = uid_total.trans k w u e h
    by Equal e t = uid_total.congr k w u e ∙ h
    by Greater e t = let f : false ≡ true = t in cc

low_le : (w u : Uid) → uid_cmp w u ≡ Less → (rows : List (Uid × Told)) → low_count w rows ≤ low_count u rows
low_le w u h [] = omega arith
low_le w u h (x ∷ rows) = by (is_le (uid_cmp x.0 w)) (is_le (uid_cmp x.0 u)) refl refl (low_le w u h rows)
  where
    by : (a b : Bool) → is_le (uid_cmp x.0 w) ≡ a → is_le (uid_cmp x.0 u) ≡ b → low_count w rows ≤ low_count u rows → length (cond a (x ∷ filter (λ (y : Uid × Told). is_le (uid_cmp y.0 w)) rows) (filter (λ (y : Uid × Told). is_le (uid_cmp y.0 w)) rows)) ≤ length (cond b (x ∷ filter (λ (y : Uid × Told). is_le (uid_cmp y.0 u)) rows) (filter (λ (y : Uid × Told). is_le (uid_cmp y.0 u)) rows))
    by true true p q m = omega (arith, m)
    by false false p q m = m
    by false true p q m = omega (arith, m)
    by true false p q m = never (is_le (uid_cmp x.0 u)) (ap is_le (le_less x.0 w u h p)) q

low_less : (w u : Uid) → uid_cmp w u ≡ Less → (rows : List (Uid × Told)) (t : Told) → told_at rows u ≡ Some t → low_count w rows < low_count u rows
low_less w u h [] t k = let f : ◌≡◌ {A = Option Told} None (Some t) = k in cc
low_less w u h (x ∷ rows) t k = by (is_eq (uid_cmp u x.0)) refl k (low_less w u h rows t)
  where
    after : (b : Bool) → ℕ
    after b = length (cond b (x ∷ filter (λ (y : Uid × Told). is_le (uid_cmp y.0 u)) rows) (filter (λ (y : Uid × Told). is_le (uid_cmp y.0 u)) rows))

    before : (b : Bool) → ℕ
    before b = length (cond b (x ∷ filter (λ (y : Uid × Told). is_le (uid_cmp y.0 w)) rows) (filter (λ (y : Uid × Told). is_le (uid_cmp y.0 w)) rows))

    either : (a b : Bool) → is_le (uid_cmp x.0 w) ≡ a → is_le (uid_cmp x.0 u) ≡ b → low_count w rows < low_count u rows → before a < after b
    either true true p q m = omega (arith, m)
    either false false p q m = m
    either false true p q m = omega (arith, m)
    either true false p q m = never (is_le (uid_cmp x.0 u)) (ap is_le (le_less x.0 w u h p)) q

    by : (b : Bool) → is_eq (uid_cmp u x.0) ≡ b → cond b (Some x.1) (told_at rows u) ≡ Some t → (told_at rows u ≡ Some t → low_count w rows < low_count u rows) → before (is_le (uid_cmp x.0 w)) < after (is_le (uid_cmp x.0 u))
    by true e o more =
        let is : u ≡ x.0 = same_id u x.0 e in
        let in_u : is_le (uid_cmp x.0 u) ≡ true = ap (λ z. is_le (uid_cmp z u)) (sym is) ∙ ap is_le (tied_itself uid_total u) in
        let not_w : is_le (uid_cmp x.0 w) ≡ false = ap (λ z. is_le (uid_cmp z w)) (sym is) ∙ ap is_le (uid_total.antisymm u w ∙ ap ordering_reverse h) in
        let m : low_count w rows ≤ low_count u rows = low_le w u h rows in
        subst (λ b. before b < after (is_le (uid_cmp x.0 u))) (sym not_w) (subst (λ b. before false < after b) (sym in_u) (omega (arith, m)))
    by false e o more = either (is_le (uid_cmp x.0 w)) (is_le (uid_cmp x.0 u)) refl refl (more o)

pub path_less : (rows : List (Uid × Told)) (u : Uid) (t : Told) → IsPresentChild rows u t → low_count (above t.parent u) rows < low_count u rows
path_less rows u t c = low_less (above t.parent u) u (cases (is_lt (uid_cmp t.parent u)) less more) rows t c.there
  where
    is_less : (o : Ordering) → is_lt o ≡ true → o ≡ Less
    is_less Less k = refl
    is_less Equal k = let f : false ≡ true = k in cc
    is_less Greater k = let f : false ≡ true = k in cc

    less : is_lt (uid_cmp t.parent u) ≡ true → uid_cmp (above t.parent u) u ≡ Less
    less h = ap (λ b. uid_cmp (cond b t.parent suffix_id) u) h ∙ is_less (uid_cmp t.parent u) h

    more : is_lt (uid_cmp t.parent u) ≡ false → uid_cmp (above t.parent u) u ≡ Less
    more h =
        ap (λ b. uid_cmp (cond b t.parent suffix_id) u) h
        ∙ split (uid_cmp suffix_id u)
        (λ o. o)
        (λ o. never (uid_eq u suffix_id) (ap (λ z. uid_eq z suffix_id) (sym (uid_exact suffix_id u o)) ∙ own_id suffix_id) c.child)
        (λ o. absurd (no_csn_below u.csn (uid_total.antisymm u suffix_id ∙ ap ordering_reverse o)))

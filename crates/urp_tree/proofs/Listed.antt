-- CHILDREN IN ORDER: who contends for the names below an entry are its children, and by the names that they
-- show these stand in their order.
use Rattle.std.proofs.Common.{◌≡◌, ℕ, zero, suc, ◌+◌, ◌<◌, ◌≤◌, List, [], ◌∷◌, ◌++◌, length, take, get_or, map, filter, Bool, true, false, cond, not, Option, Some, None, refl, sym, ap, subst, ◌∙◌, inl, inr, append-nil, arith}
use Rattle.std.specs.Prelude.{◌⊎◌, ◌&&◌, ◌||◌, flat_map}
use Rattle.std.specs.List.{AllByRecursion, list_any}
use Rattle.std.specs.List.Sorted.{IsStrictlySortedBy}
use Rattle.std.specs.Cmp.{IsTotalOrder}
use Rattle.std.specs.Map.{lookup, keys_of}
use Rattle.std.specs.BTreeMap.{BTreeMap, is_at, get, IsOrdered as HasOrderedKeys}
use Rattle.std.specs.BTreeSet.{insert_key}
use Rattle.std.specs.Ordering.{is_eq, ordering_reverse, ordering_then, match_ordering}
use Rattle.std.specs.declared.cmp.Ordering.{Ordering}
use Rattle.std.specs.declared.cmp.Ordering.TheVariants.{Less, Equal, Greater}
use Rattle.std.proofs.lemmas.Cmp.{tied_itself, then_total, on_total}
use Rattle.std.proofs.lemmas.Map.Lookups.{exact_pairs}
use Rattle.std.proofs.lemmas.Map.Keys.{sorted_head, sorted_tail}
use Rattle.std.proofs.lemmas.List.{length-map}
use Rattle.repl_data.specs.declared.csn.Uid.{Uid}
use Rattle.repl_data.specs.declared.change.Rdn.{Rdn}
use Rattle.repl_data.specs.Order.{uid_cmp, uid_eq, rdn_key, rdn_key_cmp, same_rdn, foldr, put_by, by_order, in_order, in_order_by}
use Rattle.repl_data.specs.Facts.{EntryFacts}
use Rattle.repl_data.specs.Presence.{is_child, present_of, is_among_entries, StandsIn}
use Rattle.repl_data.specs.Names.{has_name, with_id, shown_rdn}
use Rattle.repl_data.specs.View.{PresentEntry, view_of_facts, is_shown_below, shown_key, shown_key_cmp, children_of}
use Rattle.repl_data.proofs.Orders.{uid_total, uid_exact, rdn_key_total, rdn_key_exact}
use Rattle.repl_data.proofs.InOrder.{is_equal, in_order_by-append}
use Rattle.repl_data.proofs.Loops.{put_by_map, flat_map_more, map_map}
use Rattle.repl_data.proofs.Sound.{both_true, not_false}
use Rattle.repl_data.proofs.Steps.{flat_map-append}
use Rattle.urp_names.specs.declared.contenders.Contender.{Contender}
use Rattle.urp_names.specs.Contending.{Contending, id_of, comes_before}
use Rattle.urp_tree.specs.declared.child.Child.{Child}
use Rattle.urp_tree.specs.declared.row.Row.{Row}
use Rattle.urp_tree.specs.Index.{rdn_cmp, who_at, who_of, contender, stands_below, wanting, wants}
use Rattle.urp_tree.specs.Rows.{row_at, facts_in}
use Rattle.urp_tree.specs.Walk.{child_of}
use Rattle.urp_tree.specs.Known.{IsTree}
use Rattle.urp_tree.specs.Seen.{present_entry}
use Rattle.urp_tree.specs.Listed.{Kid, kid_key, kids_of, kids_at, ids_in, IsAlone}
use Rattle.urp_tree.proofs.Settled.{others_none}
use Rattle.urp_tree.proofs.Fits.{no_row, row_there}
use Rattle.urp_tree.proofs.Children.{wanting_same}
use Rattle.urp_tree.proofs.Seen.{only_present}
use Rattle.urp_tree.proofs.Lost.{lost_same}
use Rattle.urp_tree.proofs.Paths.{among_facts}
use Rattle.urp_tree.proofs.Holder.{turned}
use Rattle.urp_tree.proofs.Rising.{Rise, is_in, AreIn, same_order, own_order}
use Rattle.repl_data.proofs.Bools.{either_second, either_first, never}
use Rattle.repl_data.proofs.Paths.{all_present}
use Rattle.urp_names.proofs.Least.{not_self}
use Rattle.repl_data.proofs.Known.{own_id}

-- THE ORDER OF CHILDREN
pub kid_total : IsTotalOrder shown_key_cmp
kid_total = then_total (on_total (λ (k : Kid). k.0) rdn_key_total) (on_total (λ (k : Kid). k.1) uid_total)

pub kid_exact : (a b : Kid) → shown_key_cmp a b ≡ Equal → a ≡ b
kid_exact a b h = exact_pairs rdn_key_cmp uid_cmp rdn_key_exact uid_exact a b h

abbrev put_kid : Kid → List Kid → List Kid
put_kid = put_by (λ (k : Kid). k) shown_key_cmp

abbrev named_cmp : Rdn × Uid → Rdn × Uid → Ordering
named_cmp a b = shown_key_cmp (kid_key a) (kid_key b)

-- a set of names and ids, by the keys
pub kids_insert : (k : Rdn × Uid) (ks : List (Rdn × Uid)) → map kid_key (insert_key named_cmp ks k) ≡ put_kid (kid_key k) (map kid_key ks)
kids_insert k [] = refl
kids_insert k (x ∷ xs) = by (shown_key_cmp (kid_key k) (kid_key x)) refl (kids_insert k xs)
  where
    by : (o : Ordering) → shown_key_cmp (kid_key k) (kid_key x) ≡ o → map kid_key (insert_key named_cmp xs k) ≡ put_kid (kid_key k) (map kid_key xs)
        → map kid_key (match_ordering o (k ∷ x ∷ xs) (x ∷ xs) (x ∷ insert_key named_cmp xs k)) ≡ by_order o (kid_key k ∷ kid_key x ∷ map kid_key xs) (kid_key k ∷ map kid_key xs) (kid_key x ∷ put_kid (kid_key k) (map kid_key xs))
    by Less e more = refl
    by Equal e more = ap (λ (w : Kid). w ∷ map kid_key xs) (sym (kid_exact (kid_key k) (kid_key x) e))
    by Greater e more = ap (λ r. kid_key x ∷ r) more

pub order_more : (present : List EntryFacts) (u : Uid) (o : Option Row) (ks : List Kid) → foldr put_kid (in_order shown_key_cmp ks) (kids_of present u o) ≡ in_order shown_key_cmp (ks ++ kids_of present u o)
order_more present u None ks = ap (in_order shown_key_cmp) (sym (append-nil ks))
order_more present u (Some r) ks = sym (in_order_by-append shown_key_cmp kid_total (λ (k : Kid). k) kid_exact ks (rdn_key (shown_rdn present r.entry), u))

pub sorted_step : (rows : BTreeMap Uid (Option Row)) (us : List Uid) (i : ℕ) (d : Uid) (old new : List Kid) → i < length us → new ≡ foldr put_kid old (kids_at rows (get_or us i d))
    → old ≡ in_order shown_key_cmp (flat_map (kids_at rows) (take i us)) → new ≡ in_order shown_key_cmp (flat_map (kids_at rows) (take (i + 1) us))
sorted_step rows us i d old new l step was =
    step
    ∙ ap (λ ks. foldr put_kid ks (kids_at rows (get_or us i d))) was
    ∙ order_more (present_of (facts_in rows.entries)) (get_or us i d) (row_at rows (get_or us i d)) (flat_map (kids_at rows) (take i us))
    ∙ ap (in_order shown_key_cmp) (sym (flat_map_more (kids_at rows) us i d l))

in_order_map : (es : List PresentEntry) → map shown_key (in_order_by shown_key shown_key_cmp es) ≡ in_order shown_key_cmp (map shown_key es)
in_order_map [] = refl
in_order_map (e ∷ es) = put_by_map (λ (k : Kid). k) shown_key_cmp shown_key e (in_order_by shown_key shown_key_cmp es) ∙ ap (put_kid (shown_key e)) (in_order_map es)

-- LISTS
abbrev ids : List Kid → List Uid
ids ks = map (λ (k : Kid). k.1) ks

ids_kids : (es : List PresentEntry) → map (λ (e : PresentEntry). e.id) es ≡ ids (map shown_key es)
ids_kids [] = refl
ids_kids (e ∷ es) = ap (λ us. e.id ∷ us) (ids_kids es)

pub ids_keys : (ks : List (Rdn × Uid)) → map (λ (k : Rdn × Uid). k.1) ks ≡ ids (map kid_key ks)
ids_keys [] = refl
ids_keys (k ∷ ks) = ap (λ us. k.1 ∷ us) (ids_keys ks)

ids_append : (xs ys : List Kid) → ids (xs ++ ys) ≡ ids xs ++ ids ys
ids_append [] ys = refl
ids_append (x ∷ xs) ys = ap (λ us. x.1 ∷ us) (ids_append xs ys)

filter_map : {X Y : Type 0} (p : Y → Bool) (F : X → Y) (xs : List X) → filter p (map F xs) ≡ map F (filter (λ x. p (F x)) xs)
filter_map p F [] = refl
filter_map p F (x ∷ xs) = by (p (F x)) (filter_map p F xs)
  where
    by : (b : Bool) → filter p (map F xs) ≡ map F (filter (λ x. p (F x)) xs) → cond b (F x ∷ filter p (map F xs)) (filter p (map F xs)) ≡ map F (cond b (x ∷ filter (λ x. p (F x)) xs) (filter (λ x. p (F x)) xs))
    by true h = ap (λ r. F x ∷ r) h
    by false h = h

filter_none : (p : EntryFacts → Bool) (es : List EntryFacts) → AllByRecursion (λ (e : EntryFacts). p e ≡ false) es → filter p es ≡ []
filter_none p [] h = refl
filter_none p (e ∷ es) h = ap (λ b. cond b (e ∷ filter p es) (filter p es)) h.0 ∙ filter_none p es h.1

each_self : (P : EntryFacts → Type 0) (es : List EntryFacts) → ((e : EntryFacts) → StandsIn e es → P e) → AllByRecursion P es
each_self P [] f = tt
each_self P (e ∷ es) f = (f e (inl refl), each_self P es (λ d s. f d (inr s)))

all_self : (P : EntryFacts → Type 0) (e : EntryFacts) (es : List EntryFacts) → StandsIn e es → AllByRecursion P es → P e
all_self P e [] s h = elim s [ ]
all_self P e (d ∷ es) (inl p) h = subst P (sym p) h.0
all_self P e (d ∷ es) (inr s) h = all_self P e es s h.1

among_self : (e : EntryFacts) (es : List EntryFacts) → StandsIn e es → is_among_entries es e.id ≡ true
among_self e [] s = elim s [ ]
among_self e (d ∷ es) (inl p) = ap (λ b. b || is_among_entries es e.id) (ap (λ (x : EntryFacts). uid_eq x.id e.id) (sym p) ∙ own_id e.id)
among_self e (d ∷ es) (inr s) = either_second (uid_eq d.id e.id) (is_among_entries es e.id) (among_self e es s)

filter_stands : (p : EntryFacts → Bool) (e : EntryFacts) (es : List EntryFacts) → StandsIn e (filter p es) → (p e ≡ true) × StandsIn e es
filter_stands p e [] s = elim s [ ]
filter_stands p e (d ∷ es) s = by (p d) refl s (filter_stands p e es)
  where
    by : (b : Bool) → p d ≡ b → StandsIn e (cond b (d ∷ filter p es) (filter p es)) → (StandsIn e (filter p es) → (p e ≡ true) × StandsIn e es) → (p e ≡ true) × StandsIn e (d ∷ es)
    by true t (inl q) more = (ap p q ∙ t, inl q)
    by true t (inr q) more = ((more q).0, inr (more q).1)
    by false t q more = ((more q).0, inr (more q).1)

all_filter : (P : EntryFacts → Type 0) (p : EntryFacts → Bool) (es : List EntryFacts) → AllByRecursion P es → AllByRecursion P (filter p es)
all_filter P p es h = each_self P (filter p es) (λ e s. all_self P e es (filter_stands p e es s).1 h)

-- MEMBERS
abbrev among : List Kid → Kid → Bool
among = is_in shown_key_cmp kid_total kid_exact

abbrev Among : List Kid → List Kid → Type 0
Among = AreIn shown_key_cmp kid_total kid_exact

itself : (k : Kid) → is_eq (shown_key_cmp k k) ≡ true
itself k = ap is_eq (tied_itself kid_total k)

among_append : (xs ys : List Kid) (k : Kid) → among (xs ++ ys) k ≡ (among xs k || among ys k)
among_append [] ys k = refl
among_append (x ∷ xs) ys k = ap (λ b. is_eq (shown_key_cmp k x) || b) (among_append xs ys k) ∙ assoc (is_eq (shown_key_cmp k x)) (among xs k) (among ys k)
  where
    assoc : (a b c : Bool) → (a || (b || c)) ≡ ((a || b) || c)
    assoc true b c = refl
    assoc false b c = refl

wider : (y : Kid) (ys xs : List Kid) → Among ys xs → Among (y ∷ ys) xs
wider y ys [] h = tt
wider y ys (x ∷ xs) h = (either_second (is_eq (shown_key_cmp x y)) (among ys x) h.0, wider y ys xs h.1)

both_among : (ks xs ys : List Kid) → Among ks xs → Among ks ys → Among ks (xs ++ ys)
both_among ks [] ys h g = g
both_among ks (x ∷ xs) ys h g = (h.0, both_among ks xs ys h.1 g)

module _ (kid : EntryFacts → Kid) where
  -- a member of a choice
  chosen : (p : EntryFacts → Bool) (e : EntryFacts) (es : List EntryFacts) → StandsIn e es → p e ≡ true → among (map kid (filter p es)) (kid e) ≡ true
  chosen p e [] s t = elim s [ ]
  chosen p e (d ∷ es) (inl q) t = ap (λ b. among (map kid (cond b (d ∷ filter p es) (filter p es))) (kid e)) (ap p (sym q) ∙ t) ∙ ap (λ (x : EntryFacts). is_eq (shown_key_cmp (kid e) (kid x)) || among (map kid (filter p es)) (kid e)) (sym q) ∙ either_first (is_eq (shown_key_cmp (kid e) (kid e))) (among (map kid (filter p es)) (kid e)) (itself (kid e))
  chosen p e (d ∷ es) (inr q) t = by (p d) (chosen p e es q t)
    where
      by : (b : Bool) → among (map kid (filter p es)) (kid e) ≡ true → among (map kid (cond b (d ∷ filter p es) (filter p es))) (kid e) ≡ true
      by true h = either_second (is_eq (shown_key_cmp (kid e) (kid d))) (among (map kid (filter p es)) (kid e)) h
      by false h = h

  all_kids : (ks : List Kid) (es : List EntryFacts) → ((e : EntryFacts) → StandsIn e es → among ks (kid e) ≡ true) → Among ks (map kid es)
  all_kids ks [] f = tt
  all_kids ks (e ∷ es) f = (f e (inl refl), all_kids ks es (λ d s. f d (inr s)))

abbrev both_is : Bool → Bool → Bool
both_is a b = a && b

-- NAMES AND THEIR CONTENDERS
rdn_total : IsTotalOrder rdn_cmp
rdn_total = on_total rdn_key rdn_key_total

later_keys : (all fs : List (Rdn × Contending)) (e : Rdn × Contending) → AllByRecursion (λ (k : Rdn). rdn_cmp e.0 k ≡ Less) (keys_of fs) → AllByRecursion (λ (x : Rdn × Contending). lookup (is_at (rdn_cmp x.0)) all ≡ Some x.1) fs
    → AllByRecursion (λ (x : Rdn × Contending). lookup (is_at (rdn_cmp x.0)) (e ∷ all) ≡ Some x.1) fs
later_keys all [] e h g = tt
later_keys all (f ∷ fs) e h g =
    (ap (λ o. cond (is_eq o) (Some e.1) (lookup (is_at (rdn_cmp f.0)) all)) (rdn_total.antisymm f.0 e.0 ∙ ap ordering_reverse h.0) ∙ g.0, later_keys all fs e h.1 g.1)

-- each name is looked up where it stands
own_keys : (es : List (Rdn × Contending)) → IsStrictlySortedBy rdn_cmp (keys_of es) → AllByRecursion (λ (x : Rdn × Contending). lookup (is_at (rdn_cmp x.0)) es ≡ Some x.1) es
own_keys [] s = tt
own_keys (e ∷ es) s = (
  ap (λ o. cond (is_eq o) (Some e.1) (lookup (is_at (rdn_cmp e.0)) es)) (tied_itself rdn_total e.0),
  later_keys es es e (sorted_head rdn_cmp e.0 (keys_of es) s) (own_keys es (sorted_tail rdn_cmp e.0 (keys_of es) s)),
)

module _ (rows : BTreeMap Uid (Option Row)) (tree : IsTree rows None []) (ordered : HasOrderedKeys uid_cmp rows) (parent : Uid) where
  abbrev facts : List EntryFacts
  facts = facts_in rows.entries

  abbrev present : List EntryFacts
  present = present_of facts

  abbrev kid : EntryFacts → Kid
  kid e = (rdn_key (shown_rdn present e), e.id)

  abbrev kids : List Kid
  kids = map kid (filter (is_child parent) present)

  listed : (suffix : List ℕ) → children_of (view_of_facts suffix facts) parent ≡ ids (in_order shown_key_cmp kids)
  listed suffix =
      ids_kids (in_order_by shown_key shown_key_cmp (filter (is_shown_below parent) (map (present_entry present) present)))
      ∙ ap ids
      (in_order_map (filter (is_shown_below parent) (map (present_entry present) present))
      ∙ ap (in_order shown_key_cmp)
      (ap (map shown_key) (filter_map (is_shown_below parent) (present_entry present) present)
      ∙ map_map shown_key (present_entry present) (filter (is_child parent) present)))

  -- below an entry that was never added stands nobody
  pub none_listed : (suffix : List ℕ) → row_at rows parent ≡ None → [] ≡ children_of (view_of_facts suffix facts) parent
  none_listed suffix none =
      sym (listed suffix ∙ ap (λ es. ids (in_order shown_key_cmp (map kid es)))
      (filter_none (is_child parent) present (all_present (λ (x : EntryFacts). stands_below parent (child_of x) ≡ false) facts (others_none parent facts facts (no_row rows tree ordered parent none) tree.rooted))))

  -- an entry as a child of its row
  own_kid : (e : EntryFacts) → StandsIn e present → kids_at rows e.id ≡ kid e ∷ []
  own_kid e s =
      let r = row_there rows tree ordered e.id (among_facts e.id facts (among_self e present s)) in
      let same : e ≡ r.0.entry = all_self (λ (x : EntryFacts). uid_eq x.id e.id ≡ true → x ≡ r.0.entry) e present s (only_present rows tree ordered e.id r.0 r.1) (own_id e.id) in
      ap (kids_of present e.id) r.1 ∙ ap (λ (x : EntryFacts). (rdn_key (shown_rdn present x), e.id) ∷ []) (sym same)

  own_kids : AllByRecursion (λ (e : EntryFacts). kids_at rows e.id ≡ kid e ∷ []) present
  own_kids = each_self (λ (e : EntryFacts). kids_at rows e.id ≡ kid e ∷ []) present own_kid

  abbrev contends : EntryFacts → Contender
  contends e = contender (child_of e)

  kids_are : (es : List EntryFacts) → AllByRecursion (λ (e : EntryFacts). kids_at rows e.id ≡ kid e ∷ []) es → flat_map (kids_at rows) (map id_of (map contends es)) ≡ map kid es
  kids_are [] h = refl
  kids_are (e ∷ es) h = (λ i. h.0 i ++ kids_are es h.1 i)

  -- the children that want a name
  abbrev wants_name : Rdn → EntryFacts → Bool
  wants_name rdn e = is_child parent e && same_rdn rdn e.rdn

  abbrev chunk : Rdn → List EntryFacts
  chunk rdn = filter (wants_name rdn) present

  wanting_is : (rdn : Rdn) → wanting parent rdn (map child_of present) ≡ map contends (chunk rdn)
  wanting_is rdn = ap (map contender) (filter_map (wants parent rdn) child_of present) ∙ map_map contender child_of (chunk rdn)

  abbrev kids_in : List (Rdn × Contending) → List Kid
  kids_in [] = []
  kids_in (e ∷ es) = map kid (chunk e.0) ++ kids_in es

  abbrev IsWanted : Rdn × Contending → Type 0
  IsWanted e = e.1.who ≡ map contends (chunk e.0)

  kids_in_are : (es : List (Rdn × Contending)) → AllByRecursion IsWanted es → flat_map (kids_at rows) (ids_in es) ≡ kids_in es
  kids_in_are [] h = refl
  kids_in_are (e ∷ es) h =
      flat_map-append (kids_at rows) (map id_of e.1.who) (ids_in es)
      ∙ (λ i. (ap (λ who. flat_map (kids_at rows) (map id_of who)) h.0 ∙ kids_are (chunk e.0) (all_filter (λ (e : EntryFacts). kids_at rows e.id ≡ kid e ∷ []) (wants_name e.0) present own_kids)) i ++ kids_in_are es h.1 i)

  ids_chunk : (es : List EntryFacts) → map id_of (map contends es) ≡ ids (map kid es)
  ids_chunk [] = refl
  ids_chunk (e ∷ es) = ap (λ us. e.id ∷ us) (ids_chunk es)

  ids_are : (es : List (Rdn × Contending)) → AllByRecursion IsWanted es → ids_in es ≡ ids (kids_in es)
  ids_are [] h = refl
  ids_are (e ∷ es) h = (λ i. (ap (map id_of) h.0 ∙ ids_chunk (chunk e.0)) i ++ ids_are es h.1 i) ∙ sym (ids_append (map kid (chunk e.0)) (kids_in es))

  no_chunk : (es : List EntryFacts) → map contends es ≡ [] → map kid es ≡ []
  no_chunk [] h = refl
  no_chunk (e ∷ es) h = let f : suc (length (map contends es)) ≡ 0 = ap length h in absurd (omega (arith, f))

  -- those in the names are children
  chunk_among : (rdn : Rdn) → Among kids (map kid (chunk rdn))
  chunk_among rdn = all_kids kid kids (chunk rdn) (λ e s. let h = filter_stands (wants_name rdn) e present s in chosen kid (is_child parent) e present h.1 (both_true (is_child parent e) (same_rdn rdn e.rdn) h.0).0)

  names_among : (es : List (Rdn × Contending)) → Among kids (kids_in es)
  names_among [] = tt
  names_among (e ∷ es) = both_among kids (map kid (chunk e.0)) (kids_in es) (chunk_among e.0) (names_among es)

  module _ (row : Row) (there : row_at rows parent ≡ Some row) (sorted : HasOrderedKeys rdn_cmp row.names) where
    abbrev slots : List (Rdn × Contending)
    slots = row.names.entries

    each_wanted : (es : List (Rdn × Contending)) → AllByRecursion (λ (x : Rdn × Contending). lookup (is_at (rdn_cmp x.0)) slots ≡ Some x.1) es → AllByRecursion IsWanted es
    each_wanted [] h = tt
    each_wanted (x ∷ es) h = (sym (ap who_of h.0) ∙ (tree.indexed parent row there).who x.0 ∙ wanting_is x.0, each_wanted es h.1)

    wanted : AllByRecursion IsWanted slots
    wanted = each_wanted slots (own_keys slots sorted)

    -- each child is in the names
    child_among : (e : EntryFacts) (es : List (Rdn × Contending)) (s : Contending) → StandsIn e present → is_child parent e ≡ true → lookup (is_at (rdn_cmp e.rdn)) es ≡ Some s → among (kids_in es) (kid e) ≡ true
    child_among e [] s in_it below h = let f : ◌≡◌ {A = Option Contending} None (Some s) = h in cc
    child_among e (x ∷ es) s in_it below h = among_append (map kid (chunk x.0)) (kids_in es) (kid e) ∙ by (is_at (rdn_cmp e.rdn) x.0) refl h (child_among e es s in_it below)
      where
        by : (b : Bool) → is_at (rdn_cmp e.rdn) x.0 ≡ b → cond b (Some x.1) (lookup (is_at (rdn_cmp e.rdn)) es) ≡ Some s → (lookup (is_at (rdn_cmp e.rdn)) es ≡ Some s → among (kids_in es) (kid e) ≡ true) → (among (map kid (chunk x.0)) (kid e) || among (kids_in es) (kid e)) ≡ true
        by true t k more = either_first (among (map kid (chunk x.0)) (kid e)) (among (kids_in es) (kid e)) (chosen kid (wants_name x.0) e present in_it (λ i. both_is (below i) ((turned x.0 e.rdn ∙ t) i)))
        by false t k more = either_second (among (map kid (chunk x.0)) (kid e)) (among (kids_in es) (kid e)) (more k)

    slot_there : (e : EntryFacts) → StandsIn e present → is_child parent e ≡ true → (s : Contending) × (lookup (is_at (rdn_cmp e.rdn)) slots ≡ Some s)
    slot_there e in_it below = by (lookup (is_at (rdn_cmp e.rdn)) slots) refl
      where
        self : wants_name e.rdn e ≡ true
        self = (λ i. both_is (below i) (ap is_eq (tied_itself rdn_total e.rdn) i))

        by : (o : Option Contending) → lookup (is_at (rdn_cmp e.rdn)) slots ≡ o → (s : Contending) × (lookup (is_at (rdn_cmp e.rdn)) slots ≡ Some s)
        by (Some s) h = (s, h)
        by None h =
            let none : map contends (chunk e.rdn) ≡ [] = sym (wanting_is e.rdn) ∙ sym ((tree.indexed parent row there).who e.rdn) ∙ ap who_of h in
            let some : among (map kid (chunk e.rdn)) (kid e) ≡ true = chosen kid (wants_name e.rdn) e present in_it self in
            let f : true ≡ false = sym some ∙ ap (λ ks. among ks (kid e)) (no_chunk (chunk e.rdn) none) in cc

    children_among : Among (kids_in slots) kids
    children_among = all_kids kid (kids_in slots) (filter (is_child parent) present)
        (λ e s. let h = filter_stands (is_child parent) e present s in
        let slot = slot_there e h.1 h.0 in child_among e slots slot.0 h.1 h.0 slot.1)

    same_kids : in_order shown_key_cmp (kids_in slots) ≡ in_order shown_key_cmp kids
    same_kids = same_order shown_key_cmp kid_total kid_exact (kids_in slots) kids (names_among slots) children_among

    -- where they are sorted
    pub in_sorted : (suffix : List ℕ) (ks : List (Rdn × Uid)) → map kid_key ks ≡ in_order shown_key_cmp (flat_map (kids_at rows) (ids_in slots)) → map (λ (k : Rdn × Uid). k.1) ks ≡ children_of (view_of_facts suffix facts) parent
    in_sorted suffix ks h = ids_keys ks ∙ ap ids (h ∙ ap (in_order shown_key_cmp) (kids_in_are slots wanted) ∙ same_kids) ∙ sym (listed suffix)

    -- who alone wants a name shows it
    alone_name : (rdn : Rdn) (e : EntryFacts) → chunk rdn ≡ e ∷ [] → kid e ≡ (rdn_key rdn, e.id)
    alone_name rdn e is =
        let h = filter_stands (wants_name rdn) e present (subst (StandsIn e) (sym is) (inl refl)) in
        let wants = both_true (is_child parent e) (same_rdn rdn e.rdn) h.0 in
        let up : e.parent ≡ parent = uid_exact e.parent parent (is_equal (uid_cmp e.parent parent) (both_true _ _ wants.0).0) in
        let who : wanting e.parent e.rdn (map child_of present) ≡ contends e ∷ [] =
        ap (λ u. wanting u e.rdn (map child_of present)) up ∙ sym (wanting_same parent rdn e.rdn (map child_of present) wants.1) ∙ wanting_is rdn ∙ ap (map contends) is in
        let unbeaten : not (has_name present e) ≡ false = sym (lost_same e present) ∙ ap (list_any (λ (d : Contender). comes_before d (contends e))) who ∙ ap (λ b. b || false) (not_self (contends e)) in
        let key : rdn_key e.rdn ≡ rdn_key rdn = sym (rdn_key_exact (rdn_key rdn) (rdn_key e.rdn) (is_equal (rdn_key_cmp (rdn_key rdn) (rdn_key e.rdn)) wants.1)) in
        ap (λ b. (rdn_key (cond b e.rdn (with_id e.id e.rdn)), e.id)) (not_false (has_name present e) unbeaten) ∙ ap (λ (k : List (List ℕ × List ℕ)). (k, e.id)) key

    abbrev IsShort : Rdn × Contending → Type 0
    IsShort x = (map kid (chunk x.0) ≡ []) ⊎ ((u : Uid) × (map kid (chunk x.0) ≡ (rdn_key x.0, u) ∷ []))

    short : (x : Rdn × Contending) → IsWanted x → IsAlone x → IsShort x
    short x is alone = by (chunk x.0) refl (subst (λ n. n ≤ 1) (ap length is ∙ length-map (chunk x.0) contends) alone)
      where
        by : (es : List EntryFacts) → chunk x.0 ≡ es → length es ≤ 1 → IsShort x
        by [] h l = inl (ap (map kid) h)
        by (e ∷ []) h l = inr (e.id, ap (map kid) h ∙ ap (λ (k : Kid). k ∷ []) (alone_name x.0 e h))
        by (e ∷ f ∷ es) h l = let g : suc (suc (length es)) ≤ 1 = l in absurd (omega (arith, g))

    all_short : (es : List (Rdn × Contending)) → AllByRecursion IsWanted es → AllByRecursion IsAlone es → AllByRecursion IsShort es
    all_short [] h g = tt
    all_short (x ∷ es) h g = (short x h.0 g.0, all_short es h.1 g.1)

    above : (rdn : Rdn) (u : Uid) (es : List (Rdn × Contending)) → AllByRecursion (λ (k : Rdn). rdn_cmp rdn k ≡ Less) (keys_of es) → AllByRecursion IsShort es → AllByRecursion (λ (k : Kid). shown_key_cmp (rdn_key rdn, u) k ≡ Less) (kids_in es)
    above rdn u [] h g = tt
    above rdn u (x ∷ es) h g = by g.0 (above rdn u es h.1 g.1)
      where
        All : List Kid → Type 0
        All ks = AllByRecursion (λ (k : Kid). shown_key_cmp (rdn_key rdn, u) k ≡ Less) ks

        by : IsShort x → All (kids_in es) → All (map kid (chunk x.0) ++ kids_in es)
        by (inl e) more = subst (λ ks. All (ks ++ kids_in es)) (sym e) more
        by (inr e) more = subst (λ ks. All (ks ++ kids_in es)) (sym e.1) (ap (λ o. ordering_then o (uid_cmp u e.0)) h.0, more)

    rises : (es : List (Rdn × Contending)) → IsStrictlySortedBy rdn_cmp (keys_of es) → AllByRecursion IsShort es → Rise shown_key_cmp kid_total kid_exact (kids_in es)
    rises [] s g = tt
    rises (x ∷ es) s g = by g.0 (rises es (sorted_tail rdn_cmp x.0 (keys_of es) s) g.1)
      where
        by : IsShort x → Rise shown_key_cmp kid_total kid_exact (kids_in es) → Rise shown_key_cmp kid_total kid_exact (map kid (chunk x.0) ++ kids_in es)
        by (inl e) more = subst (λ ks. Rise shown_key_cmp kid_total kid_exact (ks ++ kids_in es)) (sym e) more
        by (inr e) more = subst (λ ks. Rise shown_key_cmp kid_total kid_exact (ks ++ kids_in es)) (sym e.1) (above x.0 e.0 es (sorted_head rdn_cmp x.0 (keys_of es) s) g.1, more)

    -- where nobody lost a name, they stand in order
    pub in_names : AllByRecursion IsAlone slots → (suffix : List ℕ) → ids_in slots ≡ children_of (view_of_facts suffix facts) parent
    in_names alone suffix =
        ids_are slots wanted
        ∙ ap ids (sym (own_order shown_key_cmp kid_total kid_exact (kids_in slots) (rises slots sorted (all_short slots wanted alone))) ∙ same_kids)
        ∙ sym (listed suffix)

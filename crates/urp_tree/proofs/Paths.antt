-- THE PATH of a present entry: its shown name, and then the path of its parent.
use Rattle.std.proofs.Common.{◌≡◌, ℕ, ◌<◌, List, [], ◌∷◌, ◌++◌, map, reverse, Bool, true, false, cond, not, Option, Some, None, refl, sym, ap, subst, ◌∙◌, inl, inr, append_assoc}
use Rattle.std.specs.Prelude.{◌&&◌, ◌||◌}
use Rattle.std.specs.List.{AllByRecursion, list_any}
use Rattle.std.specs.BTreeMap.{BTreeMap, IsOrdered as HasOrderedKeys}
use Rattle.std.specs.Ordering.{is_eq, ordering_reverse}
use Rattle.std.specs.declared.cmp.Ordering.TheVariants.{Less}
use Rattle.std.proofs.lemmas.List.{reverse-append}
use Rattle.repl_data.specs.declared.csn.Uid.{Uid}
use Rattle.repl_data.specs.declared.change.Rdn.{Rdn}
use Rattle.repl_data.specs.Order.{uid_cmp, uid_eq, suffix_id}
use Rattle.repl_data.specs.Facts.{EntryFacts}
use Rattle.repl_data.specs.Presence.{is_live, is_child, present_of, is_among_entries, HasParentBelow}
use Rattle.repl_data.specs.Names.{shown_rdn}
use Rattle.repl_data.specs.View.{PresentEntry, view_of_facts, path_among, path_of}
use Rattle.repl_data.proofs.Orders.{uid_total, uid_exact}
use Rattle.repl_data.proofs.InOrder.{is_equal}
use Rattle.urp_tree.specs.declared.row.Row.{Row}
use Rattle.urp_tree.specs.Rows.{row_at, facts_in}
use Rattle.urp_tree.specs.Known.{IsTree, IsPlain, HasRisingFacts}
use Rattle.urp_tree.specs.Seen.{present_entry, IsChildAt, IsHere}
use Rattle.urp_tree.proofs.Levels.{AllAbove, all_above_at, all_at}
use Rattle.urp_tree.proofs.Ways.{below_parent}
use Rattle.urp_tree.proofs.Chains.{lower_count, lower_lt}
use Rattle.urp_tree.proofs.Seen.{IsOnly, rule, only, at, any_child, fewer_present}
use Rattle.urp_tree.proofs.Fits.{no_row, row_there, row_id}
use Rattle.repl_data.proofs.Bools.{cases, never}
use Rattle.repl_data.proofs.Paths.{all_present}
use Rattle.repl_data.proofs.Known.{own_id}

-- PRESENT ENTRIES, with one of them in their midst
rising_present : (es : List EntryFacts) → HasRisingFacts es → HasRisingFacts (present_of es)
rising_present [] r = tt
rising_present (d ∷ es) r = by (is_live d || list_any (is_child d.id) (present_of es)) (rising_present es r.1)
  where
    by : (b : Bool) → HasRisingFacts (present_of es) → HasRisingFacts (cond b (d ∷ present_of es) (present_of es))
    by true more = (all_present (λ (x : EntryFacts). uid_cmp d.id x.id ≡ Less) es r.0, more)
    by false more = more

record IsMidst (u : Uid) (f : EntryFacts) (es : List EntryFacts) : Type 0 where
  low : List EntryFacts
  high : List EntryFacts
  is : es ≡ low ++ f ∷ high
  above : AllAbove u high

midst : (u : Uid) (f : EntryFacts) (es : List EntryFacts) → HasRisingFacts es → IsOnly u f es → is_among_entries es u ≡ true → IsMidst u f es
midst u f [] r o h = let e : false ≡ true = h in cc
midst u f (d ∷ es) r o h =
    cases (uid_eq d.id u)
    (λ t. record { low = []; high = es; is = ap (λ x. x ∷ es) (o.0 t); above = subst (λ v. AllAbove v es) (uid_exact d.id u (is_equal (uid_cmp d.id u) t)) r.0 })
    (λ n. let m = midst u f es r.1 o.1 (sym (ap (λ b. b || is_among_entries es u) n) ∙ h) in
    record { low = d ∷ m.low; high = m.high; is = ap (λ xs. d ∷ xs) m.is; above = m.above })

any_midst : (p : EntryFacts → Bool) (f : EntryFacts) (low high : List EntryFacts) → p f ≡ true → list_any p (low ++ f ∷ high) ≡ true
any_midst p f [] high h = ap (λ b. b || list_any p high) h
any_midst p f (d ∷ low) high h = later (p d) (list_any p (low ++ f ∷ high)) (any_midst p f low high h)
  where
    later : (a b : Bool) → b ≡ true → (a || b) ≡ true
    later true b h = refl
    later false b h = h

-- LISTS OF PRESENT ENTRIES, from the greatest id down
abbrev AllOther : Uid → List PresentEntry → Type 0
AllOther u ps = AllByRecursion (λ (p : PresentEntry). uid_eq p.id u ≡ false) ps

both_all : (P : PresentEntry → Type 0) (xs ys : List PresentEntry) → AllByRecursion P xs → AllByRecursion P ys → AllByRecursion P (xs ++ ys)
both_all P [] ys h g = g
both_all P (x ∷ xs) ys h g = (h.0, both_all P xs ys h.1 g)

turned_all : (P : PresentEntry → Type 0) (xs : List PresentEntry) → AllByRecursion P xs → AllByRecursion P (reverse xs)
turned_all P [] h = tt
turned_all P (x ∷ xs) h = subst (AllByRecursion P) (sym (reverse-append (x ∷ []) xs)) (both_all P (reverse xs) (x ∷ []) (turned_all P xs h.1) (h.0, tt))

map_both : (F : EntryFacts → PresentEntry) (xs ys : List EntryFacts) → map F (xs ++ ys) ≡ map F xs ++ map F ys
map_both F [] ys = refl
map_both F (x ∷ xs) ys = ap (λ zs. F x ∷ zs) (map_both F xs ys)

one_step : (p : PresentEntry) (below : List PresentEntry) (u : Uid) (a b : Bool) → uid_eq p.id u ≡ a → uid_eq u suffix_id ≡ b → path_among (p ∷ below) u ≡ cond (a && not b) (p.shown ∷ []) [] ++ path_among below (cond a p.parent u)
one_step p below u a b h g = λ i. cond (h i && not (g i)) (p.shown ∷ []) [] ++ path_among below (cond (h i) p.parent u)

skip : (u : Uid) (ys zs : List PresentEntry) → AllOther u ys → path_among (ys ++ zs) u ≡ path_among zs u
skip u [] zs h = refl
skip u (y ∷ ys) zs h = one_step y (ys ++ zs) u false (uid_eq u suffix_id) h.0 refl ∙ skip u ys zs h.1

-- the suffix entry has no path
abbrev IsRooted : PresentEntry → Type 0
IsRooted p = uid_eq p.id suffix_id ≡ true → p.parent ≡ suffix_id

root_among : (ys : List PresentEntry) → AllByRecursion IsRooted ys → path_among ys suffix_id ≡ []
root_among [] h = refl
root_among (y ∷ ys) h =
    cases (uid_eq y.id suffix_id)
    (λ t. one_step y ys suffix_id true true t refl ∙ ap (path_among ys) (h.0 t) ∙ root_among ys h.1)
    (λ f. one_step y ys suffix_id false true f refl ∙ root_among ys h.1)

other_above : (F : EntryFacts → PresentEntry) (same : (e : EntryFacts) → (F e).id ≡ e.id) (u : Uid) (es : List EntryFacts) → AllAbove u es → AllOther u (map F es)
other_above F same u [] h = tt
other_above F same u (e ∷ es) h = (ap (λ v. uid_eq v u) (same e) ∙ ap is_eq (uid_total.antisymm e.id u ∙ ap ordering_reverse h.0), other_above F same u es h.1)

all_rooted : (F : EntryFacts → PresentEntry) (same : (e : EntryFacts) → (F e).id ≡ e.id) (up : (e : EntryFacts) → (F e).parent ≡ e.parent) (es : List EntryFacts) → AllByRecursion IsPlain es → AllByRecursion IsRooted (map F es)
all_rooted F same up [] h = tt
all_rooted F same up (e ∷ es) h = ((λ t. up e ∙ (h.0.root (ap (λ v. uid_eq v suffix_id) (sym (same e)) ∙ t)).1), all_rooted F same up es h.1)

module _ (rows : BTreeMap Uid (Option Row)) (tree : IsTree rows None []) (ordered : HasOrderedKeys uid_cmp rows) (suffix : List ℕ) where
  abbrev facts : List EntryFacts
  facts = facts_in rows.entries

  abbrev present : List EntryFacts
  present = present_of facts

  abbrev shows : EntryFacts → PresentEntry
  shows = present_entry present

  pub path_root : (u : Uid) → uid_eq u suffix_id ≡ true → path_of (view_of_facts suffix facts) u ≡ []
  path_root u t =
      ap (path_among (reverse (map shows present))) (uid_exact u suffix_id (is_equal (uid_cmp u suffix_id) t))
      ∙ root_among (reverse (map shows present)) (turned_all IsRooted (map shows present) (all_rooted shows (λ e. refl) (λ e. refl) present (all_present IsPlain facts tree.plain)))

  module _ (u : Uid) (r : Row) (there : row_at rows u ≡ Some r) (here : is_among_entries present u ≡ true) (child : uid_eq u suffix_id ≡ false) where
    abbrev pub e : EntryFacts
    e = r.entry

    id : e.id ≡ u
    id = row_id rows tree ordered u r there

    split : IsMidst u e present
    split = midst u e present (rising_present facts tree.rises) (all_present (λ (x : EntryFacts). uid_eq x.id u ≡ true → x ≡ e) facts (only rows tree ordered u r there)) here

    pub lower : uid_cmp e.parent u ≡ Less
    lower =
        elim (all_at HasParentBelow u e facts (at rows tree ordered u r there) tree.below) [
          | inl t ↦ never (uid_eq u suffix_id) (ap (λ v. uid_eq v suffix_id) (sym id) ∙ t) child
          | inr l ↦ ap (uid_cmp e.parent) (sym id) ∙ l
        ]

    -- the parent is present, too
    pub parent_here : is_among_entries present e.parent ≡ true
    parent_here =
        let q = row_there rows tree ordered e.parent (all_at (λ (x : EntryFacts). is_among_entries facts x.parent ≡ true) u e facts (at rows tree ordered u r there) tree.rooted) in
        let below : is_child e.parent e ≡ true = below_parent e (ap (λ v. uid_eq v suffix_id) id ∙ child) in
        rule rows tree ordered e.parent q.0 q.1
        ∙ ap (λ b. is_live q.0.entry || b) (sym (any_child e.parent present) ∙ ap (list_any (is_child e.parent)) split.is ∙ any_midst (is_child e.parent) e split.low split.high below)
        ∙ any (is_live q.0.entry)
      where
        any : (b : Bool) → (b || true) ≡ true
        any true = refl
        any false = refl

    pub parent_less : lower_count e.parent facts < lower_count u facts
    parent_less = lower_lt e.parent u lower facts (all_at (λ (x : EntryFacts). is_among_entries facts x.parent ≡ true) u e facts (at rows tree ordered u r there) tree.rooted)

    falling : reverse (map shows present) ≡ reverse (map shows split.high) ++ shows e ∷ reverse (map shows split.low)
    falling =
        ap (λ es. reverse (map shows es)) split.is
        ∙ ap reverse (map_both shows split.low (e ∷ split.high))
        ∙ reverse-append (map shows split.low) (shows e ∷ map shows split.high)
        ∙ ap (λ ps. ps ++ reverse (map shows split.low)) (reverse-append (shows e ∷ []) (map shows split.high))
        ∙ append_assoc (reverse (map shows split.high)) (shows e ∷ []) (reverse (map shows split.low))

    pub path_child : path_of (view_of_facts suffix facts) u ≡ shown_rdn present e ∷ path_of (view_of_facts suffix facts) e.parent
    path_child =
        let low : List PresentEntry = reverse (map shows split.low) in
        let high : List PresentEntry = reverse (map shows split.high) in
        let not_parent : uid_eq e.id e.parent ≡ false = ap (λ v. uid_eq v e.parent) id ∙ ap is_eq (uid_total.antisymm u e.parent ∙ ap ordering_reverse lower) in
        ap (λ ps. path_among ps u) falling
        ∙ skip u high (shows e ∷ low) (turned_all (λ (p : PresentEntry). uid_eq p.id u ≡ false) (map shows split.high) (other_above shows (λ e. refl) u split.high split.above))
        ∙ one_step (shows e) low u true false (ap (λ v. uid_eq v u) id ∙ own_id u) child
        ∙ ap (λ rest. shown_rdn present e ∷ rest)
        (sym
        (ap (λ ps. path_among ps e.parent) falling
        ∙ skip e.parent high (shows e ∷ low) (turned_all (λ (p : PresentEntry). uid_eq p.id e.parent ≡ false) (map shows split.high) (other_above shows (λ e. refl) e.parent split.high (all_above_at e.parent u split.high lower split.above)))
        ∙ one_step (shows e) low e.parent false (uid_eq e.parent suffix_id) not_parent refl))

  -- one step more on the way up
  module _ (u : Uid) (e : EntryFacts) (k : IsChildAt rows u e) (here : is_among_entries present u ≡ true) (up : Uid) (above : up ≡ e.parent) where
    up_is : up ≡ k.row.entry.parent
    up_is = above ∙ ap (λ (x : EntryFacts). x.parent) (sym k.entry)

    pub path_up : is_among_entries present up ≡ true
    path_up = ap (is_among_entries present) up_is ∙ parent_here u k.row k.there here k.child

    pub path_less : lower_count up facts < lower_count u facts
    path_less = subst (λ v. lower_count v facts < lower_count u facts) (sym up_is) (parent_less u k.row k.there here k.child)

    pub path_parent : is_among_entries facts e.parent ≡ true
    path_parent = ap (λ (x : EntryFacts). is_among_entries facts x.parent) (sym k.entry) ∙ all_at (λ (x : EntryFacts). is_among_entries facts x.parent ≡ true) u k.row.entry facts (at rows tree ordered u k.row k.there) tree.rooted

    pub path_more : (path : List Rdn) (name : Rdn) (all : List Rdn) → name ≡ shown_rdn present e → path ++ path_of (view_of_facts suffix facts) u ≡ all → (path ++ name ∷ []) ++ path_of (view_of_facts suffix facts) up ≡ all
    path_more path name all n h =
        append_assoc path (name ∷ []) (path_of (view_of_facts suffix facts) up)
        ∙ ap (λ (rest : List Rdn). path ++ rest)
        ((λ i. (n ∙ ap (shown_rdn present) (sym k.entry)) i ∷ path_of (view_of_facts suffix facts) (up_is i)) ∙ sym (path_child u k.row k.there here k.child))
        ∙ h

  pub path_end : (u : Uid) → (uid_eq u suffix_id ≡ false → row_at rows u ≡ None) → is_among_entries present u ≡ true → path_of (view_of_facts suffix facts) u ≡ []
  path_end u none here =
      cases (uid_eq u suffix_id)
      (λ t. path_root u t)
      (λ f. never (is_among_entries present u) here (fewer_present u facts (no_row rows tree ordered u (none f))))

  -- a present entry and its parent
  pub here_is : (u : Uid) (r : Row) → row_at rows u ≡ Some r → is_among_entries present u ≡ true → IsHere facts r
  here_is u r there here = record {
    own = ap (is_among_entries present) (row_id rows tree ordered u r there) ∙ here;
    parent =
        cases (uid_eq u suffix_id)
        (λ t. let root : uid_eq r.entry.id suffix_id ≡ true = ap (λ v. uid_eq v suffix_id) (row_id rows tree ordered u r there) ∙ t in
        ap (is_among_entries present) (((all_at IsPlain u r.entry facts (at rows tree ordered u r there) tree.plain).root root).1 ∙ sym (uid_exact u suffix_id (is_equal (uid_cmp u suffix_id) t))) ∙ here)
        (λ f. parent_here u r there here f);
  }

pub among_facts : (u : Uid) (es : List EntryFacts) → is_among_entries (present_of es) u ≡ true → is_among_entries es u ≡ true
among_facts u es h = cases (is_among_entries es u) (λ t. t) (λ f. never (is_among_entries (present_of es) u) h (fewer_present u es f))

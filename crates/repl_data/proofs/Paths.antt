-- The path of a present entry is its shown RDN and then the path of its parent, in the view of a closed set. So
-- a listing has parents first, and siblings in order of shown RDN.
use Rattle.std.proofs.Common.{◌≡◌, ℕ, List, [], ◌∷◌, ◌++◌, refl, sym, ap, subst, ◌∙◌, inl, inr}
use Rattle.std.specs.Prelude.{Bool, true, false, cond, not, ◌&&◌, ◌||◌, ◌⊎◌, map, find, reverse, Some}
use Rattle.std.specs.List.{AllByRecursion, list_any}
use Rattle.std.specs.Cmp.Lexicographic.{slice_cmp}
use Rattle.std.specs.declared.cmp.Ordering.TheVariants.{Less}
use Rattle.std.specs.Ordering.{is_eq, ordering_reverse, ordering_then}
use Rattle.std.proofs.lemmas.Cmp.{tied_itself}
use Rattle.std.proofs.lemmas.Grind.{reverse_onto}
use Rattle.repl_data.specs.declared.csn.Uid.{Uid}
use Rattle.repl_data.specs.declared.change.Rdn.{Rdn}
use Rattle.repl_data.specs.declared.change.Change.{Change}
use Rattle.repl_data.specs.declared.change.Suffix.{Suffix}
use Rattle.repl_data.specs.Order.{uid_cmp, uid_eq, suffix_id, rdn_key, rdn_key_cmp}
use Rattle.repl_data.specs.Facts.{EntryFacts, all_facts}
use Rattle.repl_data.specs.Presence.{is_live, is_child, present_of, HasParentBelow}
use Rattle.repl_data.specs.Closed.{IsClosed}
use Rattle.repl_data.specs.View.{DirectoryView, PresentEntry, view_of, present_at, path_among, path_of, path_key, path_key_cmp}
use Rattle.repl_data.proofs.Orders.{uid_total, uid_exact, rdn_key_total}
use Rattle.repl_data.proofs.InOrder.{Rises, is_equal}
use Rattle.repl_data.proofs.ClosedLaws.{all_facts-Rises, all_facts-below, no_csn_below}
use Rattle.repl_data.proofs.Known.{present_entry}
use Rattle.repl_data.proofs.Loops.{all_append, all_map}
use Rattle.repl_data.proofs.Sound.{not_both}

abbrev id_of : EntryFacts → Uid
id_of e = e.id

-- ---- lists

all_reverse : {X : Type 0} (P : X → Type 0) (xs : List X) → AllByRecursion P xs → AllByRecursion P (reverse xs)
all_reverse P [] h = tt
all_reverse P (x ∷ xs) h = subst (AllByRecursion P) (sym (reverse_onto xs x [])) (all_append P (reverse xs) (x ∷ []) (all_reverse P xs h.1) (h.0, tt))

-- an entry stands in a list
abbrev Stands : PresentEntry → List PresentEntry → Type 0
Stands e [] = ⊥
Stands e (f ∷ fs) = (e ≡ f) ⊎ Stands e fs

one : (P : PresentEntry → Type 0) (e : PresentEntry) (es : List PresentEntry) → Stands e es → AllByRecursion P es → P e
one P e [] s h = elim s [ ]
one P e (f ∷ fs) (inl same) h = subst P (sym same) h.0
one P e (f ∷ fs) (inr s) h = one P e fs s h.1

stands_front : (e : PresentEntry) (es fs : List PresentEntry) → Stands e es → Stands e (es ++ fs)
stands_front e [] fs s = elim s [ ]
stands_front e (d ∷ es) fs (inl same) = inl same
stands_front e (d ∷ es) fs (inr s) = inr (stands_front e es fs s)

stands_behind : (e : PresentEntry) (es fs : List PresentEntry) → Stands e fs → Stands e (es ++ fs)
stands_behind e [] fs s = s
stands_behind e (d ∷ es) fs s = inr (stands_behind e es fs s)

stands_reverse : (e : PresentEntry) (es : List PresentEntry) → Stands e es → Stands e (reverse es)
stands_reverse e [] s = elim s [ ]
stands_reverse e (d ∷ es) (inl same) = subst (Stands e) (sym (reverse_onto es d [])) (stands_behind e (reverse es) (d ∷ []) (inl same))
stands_reverse e (d ∷ es) (inr s) = subst (Stands e) (sym (reverse_onto es d [])) (stands_front e (reverse es) (d ∷ []) (stands_reverse e es s))

found_stands : (p : PresentEntry → Bool) (e : PresentEntry) (es : List PresentEntry) → find p es ≡ Some e → Stands e es × (p e ≡ true)
found_stands p e [] h = cc
found_stands p e (d ∷ es) h = by (p d) refl h (found_stands p e es)
  where
    by : (b : Bool) → p d ≡ b → cond b (Some d) (find p es) ≡ Some e → (find p es ≡ Some e → Stands e es × (p e ≡ true)) → Stands e (d ∷ es) × (p e ≡ true)
    by true k h more = let same : d ≡ e = cc in (inl (sym same), subst (λ (x : PresentEntry). p x ≡ true) same k)
    by false k h more = let found = more h in (inr found.0, found.1)

-- ---- in falling order of id

abbrev Falls : List PresentEntry → Type 0
Falls [] = Unit {0}
Falls (e ∷ es) = AllByRecursion (λ (f : PresentEntry). uid_cmp f.id e.id ≡ Less) es × Falls es

abbrev HasBelow : PresentEntry → Type 0
HasBelow e = (uid_eq e.id suffix_id ≡ true) ⊎ (uid_cmp e.parent e.id ≡ Less)

abbrev Rising : List PresentEntry → Type 0
Rising [] = Unit {0}
Rising (e ∷ es) = AllByRecursion (λ (f : PresentEntry). uid_cmp e.id f.id ≡ Less) es × Rising es

falls_append : (e : PresentEntry) (es : List PresentEntry) → Falls es → AllByRecursion (λ (f : PresentEntry). uid_cmp e.id f.id ≡ Less) es → Falls (es ++ e ∷ [])
falls_append e [] f h = (tt, tt)
falls_append e (d ∷ es) f h = (all_append _ es (e ∷ []) f.0 (h.0, tt), falls_append e es f.1 h.1)

falls_reverse : (es : List PresentEntry) → Rising es → Falls (reverse es)
falls_reverse [] r = tt
falls_reverse (e ∷ es) r = subst Falls (sym (reverse_onto es e [])) (falls_append e (reverse es) (falls_reverse es r.1) (all_reverse _ es r.0))

pub differs : (u v : Uid) → uid_cmp u v ≡ Less → uid_eq v u ≡ false
differs u v h = ap is_eq (uid_total.antisymm v u) ∙ ap (λ o. is_eq (ordering_reverse o)) h

-- ---- the path among entries

-- an entry of another id is passed by
passed : (d : PresentEntry) (es : List PresentEntry) (u : Uid) → uid_eq d.id u ≡ false → path_among (d ∷ es) u ≡ path_among es u
passed d es u h = λ i. cond (h i && not (uid_eq u suffix_id)) (d.shown ∷ []) [] ++ path_among es (cond (h i) d.parent u)

at_entry : (d : PresentEntry) (es : List PresentEntry) (u : Uid) (r : Bool) → uid_eq d.id u ≡ true → uid_eq u suffix_id ≡ r → path_among (d ∷ es) u ≡ cond (not r) (d.shown ∷ []) [] ++ path_among es d.parent
at_entry d es u r h g = λ i. cond (h i && not (g i)) (d.shown ∷ []) [] ++ path_among es (cond (h i) d.parent u)

step_among : (es : List PresentEntry) (e : PresentEntry) → Falls es → AllByRecursion HasBelow es → Stands e es → uid_eq e.id suffix_id ≡ false → path_among es e.id ≡ e.shown ∷ path_among es e.parent
step_among [] e f b s r = elim s [ ]
step_among (d ∷ es) e f b (inl same) r =
    subst (λ (x : PresentEntry). path_among (d ∷ es) x.id ≡ x.shown ∷ path_among (d ∷ es) x.parent) (sym same)
    (at_entry d es d.id false (ap is_eq (tied_itself uid_total d.id)) own
    ∙ ap (λ p. d.shown ∷ p) (sym (passed d es d.parent (below b.0))))
  where
    own : uid_eq d.id suffix_id ≡ false
    own = subst (λ (x : PresentEntry). uid_eq x.id suffix_id ≡ false) same r

    below : HasBelow d → uid_eq d.id d.parent ≡ false
    below (inl root) = absurd (not_both _ root own)
    below (inr l) = differs d.parent d.id l
step_among (d ∷ es) e f b (inr s) r =
    let l : uid_cmp e.id d.id ≡ Less = one _ e es s f.0 in
    passed d es e.id (differs e.id d.id l)
    ∙ step_among es e f.1 b.1 s r
    ∙ ap (λ p. e.shown ∷ p) (sym (passed d es e.parent (differs e.parent d.id (above l (one HasBelow e es s b.1)))))
  where
    above : uid_cmp e.id d.id ≡ Less → HasBelow e → uid_cmp e.parent d.id ≡ Less
    above l (inl root) = absurd (not_both _ root r)
    above l (inr k) = uid_total.trans e.parent e.id d.id k l

suffix_among : (es : List PresentEntry) → Falls es → path_among es suffix_id ≡ []
suffix_among [] f = refl
suffix_among (d ∷ es) f = by (uid_eq d.id suffix_id) refl (suffix_among es f.1)
  where
    lowest : (es : List PresentEntry) (u : Uid) → d.id ≡ suffix_id → AllByRecursion (λ (f : PresentEntry). uid_cmp f.id d.id ≡ Less) es → path_among es u ≡ []
    lowest [] u root h = refl
    lowest (f ∷ fs) u root h = absurd (no_csn_below f.id.csn (subst (λ (v : Uid). uid_cmp f.id v ≡ Less) root h.0))

    by : (b : Bool) → uid_eq d.id suffix_id ≡ b → path_among es suffix_id ≡ [] → path_among (d ∷ es) suffix_id ≡ []
    by true h more = at_entry d es suffix_id true h refl ∙ lowest es d.parent (uid_exact d.id suffix_id (is_equal _ h)) f.0
    by false h more = passed d es suffix_id h ∙ more

-- ---- the present entries of a view

pub all_present : (P : EntryFacts → Type 0) (es : List EntryFacts) → AllByRecursion P es → AllByRecursion P (present_of es)
all_present P [] h = tt
all_present P (e ∷ es) h = by (is_live e || list_any (is_child e.id) (present_of es)) (all_present P es h.1)
  where
    by : (b : Bool) → AllByRecursion P (present_of es) → AllByRecursion P (cond b (e ∷ present_of es) (present_of es))
    by true more = (h.0, more)
    by false more = more

rises_present : (es : List EntryFacts) → Rises uid_cmp uid_total id_of es → Rises uid_cmp uid_total id_of (present_of es)
rises_present [] h = tt
rises_present (e ∷ es) h = by (is_live e || list_any (is_child e.id) (present_of es)) (rises_present es h.1)
  where
    by : (b : Bool) → Rises uid_cmp uid_total id_of (present_of es) → Rises uid_cmp uid_total id_of (cond b (e ∷ present_of es) (present_of es))
    by true more = (all_present (λ (f : EntryFacts). uid_cmp e.id f.id ≡ Less) es h.0, more)
    by false more = more

rising_entries : (all es : List EntryFacts) → Rises uid_cmp uid_total id_of es → Rising (map (present_entry all) es)
rising_entries all [] h = tt
rising_entries all (e ∷ es) h = (all_map (λ (f : PresentEntry). uid_cmp e.id f.id ≡ Less) (present_entry all) es h.0, rising_entries all es h.1)

module _ (suffix : Suffix) (xs : List Change) where
  falls_view : Falls (reverse (view_of suffix xs).present)
  falls_view = falls_reverse (view_of suffix xs).present (rising_entries (present_of (all_facts suffix xs)) (present_of (all_facts suffix xs)) (rises_present (all_facts suffix xs) (all_facts-Rises suffix xs)))

  below_view : IsClosed xs → AllByRecursion HasBelow (reverse (view_of suffix xs).present)
  below_view closed = all_reverse HasBelow (view_of suffix xs).present (all_map HasBelow (present_entry (present_of (all_facts suffix xs))) (present_of (all_facts suffix xs)) (all_present HasParentBelow (all_facts suffix xs) (all_facts-below suffix xs closed.sound)))

  -- THE SUFFIX ENTRY HAS THE EMPTY PATH
  pub path_of_suffix : path_of (view_of suffix xs) suffix_id ≡ []
  path_of_suffix = suffix_among (reverse (view_of suffix xs).present) falls_view

  -- ANY OTHER: its shown RDN, and then its parent's path
  pub path_of_step : (u : Uid) (e : PresentEntry) → IsClosed xs → present_at (view_of suffix xs) u ≡ Some e → uid_eq u suffix_id ≡ false → path_of (view_of suffix xs) u ≡ e.shown ∷ path_of (view_of suffix xs) e.parent
  path_of_step u e closed there other =
      let found = found_stands (λ (f : PresentEntry). uid_eq f.id u) e (view_of suffix xs).present there in
      let own : e.id ≡ u = uid_exact e.id u (is_equal _ found.1) in
      subst (λ (w : Uid). path_of (view_of suffix xs) w ≡ e.shown ∷ path_of (view_of suffix xs) e.parent) own
      (step_among (reverse (view_of suffix xs).present) e falls_view (below_view closed) (stands_reverse e (view_of suffix xs).present found.0) (subst (λ (w : Uid). uid_eq w suffix_id ≡ false) (sym own) other))

  -- THE KEYS FROM THE SUFFIX DOWN: those of the parent, and then its own
  pub path_key_step : (e : PresentEntry) → IsClosed xs → present_at (view_of suffix xs) e.id ≡ Some e → uid_eq e.id suffix_id ≡ false
      → (path_key (view_of suffix xs) e).0 ≡ reverse (map rdn_key (path_of (view_of suffix xs) e.parent)) ++ rdn_key e.shown ∷ []
  path_key_step e closed there other =
      ap (λ (p : List Rdn). reverse (map rdn_key p)) (path_of_step e.id e closed there other)
      ∙ reverse_onto (map rdn_key (path_of (view_of suffix xs) e.parent)) (rdn_key e.shown) []

-- ---- the order of a listing

prefix_less : (ks : List (List (List ℕ × List ℕ))) (k : List (List ℕ × List ℕ)) → slice_cmp rdn_key_cmp ks (ks ++ k ∷ []) ≡ Less
prefix_less [] k = refl
prefix_less (j ∷ ks) k = ap (λ o. ordering_then o (slice_cmp rdn_key_cmp ks (ks ++ k ∷ []))) (tied_itself rdn_key_total j) ∙ prefix_less ks k

last_less : (ks : List (List (List ℕ × List ℕ))) (j k : List (List ℕ × List ℕ)) → rdn_key_cmp j k ≡ Less → slice_cmp rdn_key_cmp (ks ++ j ∷ []) (ks ++ k ∷ []) ≡ Less
last_less [] j k h = ap (λ o. ordering_then o (slice_cmp rdn_key_cmp [] [])) h
last_less (i ∷ ks) j k h = ap (λ o. ordering_then o (slice_cmp rdn_key_cmp (ks ++ j ∷ []) (ks ++ k ∷ []))) (tied_itself rdn_key_total i) ∙ last_less ks j k h

-- a parent is listed before its child
pub parent_first : (suffix : Suffix) (xs : List Change) (p e : PresentEntry) → IsClosed xs → present_at (view_of suffix xs) e.id ≡ Some e → uid_eq e.id suffix_id ≡ false → p.id ≡ e.parent
    → path_key_cmp (path_key (view_of suffix xs) p) (path_key (view_of suffix xs) e) ≡ Less
parent_first suffix xs p e closed there other parent =
    let v : DirectoryView = view_of suffix xs in
    ap (λ o. ordering_then o (uid_cmp p.id e.id))
    ((λ i. slice_cmp rdn_key_cmp (reverse (map rdn_key (path_of v (parent i)))) (path_key_step suffix xs e closed there other i))
    ∙ prefix_less (reverse (map rdn_key (path_of v e.parent))) (rdn_key e.shown))

-- and siblings by the RDNs that they show
pub siblings_by_key : (suffix : Suffix) (xs : List Change) (e f : PresentEntry) → IsClosed xs
    → present_at (view_of suffix xs) e.id ≡ Some e → uid_eq e.id suffix_id ≡ false → present_at (view_of suffix xs) f.id ≡ Some f → uid_eq f.id suffix_id ≡ false
    → e.parent ≡ f.parent → rdn_key_cmp (rdn_key e.shown) (rdn_key f.shown) ≡ Less
    → path_key_cmp (path_key (view_of suffix xs) e) (path_key (view_of suffix xs) f) ≡ Less
siblings_by_key suffix xs e f closed there other its_there its_other same less =
    let v : DirectoryView = view_of suffix xs in
    ap (λ o. ordering_then o (uid_cmp e.id f.id))
    ((λ i. slice_cmp rdn_key_cmp (path_key_step suffix xs e closed there other i) (path_key_step suffix xs f closed its_there its_other i))
    ∙ (λ i. slice_cmp rdn_key_cmp (reverse (map rdn_key (path_of v (same i))) ++ rdn_key e.shown ∷ []) (reverse (map rdn_key (path_of v f.parent)) ++ rdn_key f.shown ∷ []))
    ∙ last_less (reverse (map rdn_key (path_of v f.parent))) (rdn_key e.shown) (rdn_key f.shown) less)

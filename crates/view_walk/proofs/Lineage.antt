-- The entries above an entry: those above its parent, and then itself.
use Rattle.std.proofs.Common.{◌≡◌, List, [], ◌∷◌, ◌++◌, map, refl, sym, ap, subst, ◌∙◌, inl, inr}
use Rattle.std.specs.Prelude.{Bool, true, false, cond, not, ◌&&◌, ◌||◌, reverse, find, Option, Some}
use Rattle.std.specs.List.{AllByRecursion, list_any}
use Rattle.std.specs.declared.cmp.Ordering.TheVariants.{Less}
use Rattle.std.specs.Ordering.{is_eq}
use Rattle.repl_data.specs.declared.csn.Uid.{Uid}
use Rattle.repl_data.specs.declared.change.Rdn.{Rdn}
use Rattle.repl_data.specs.Order.{uid_cmp, uid_eq, suffix_id}
use Rattle.repl_data.specs.View.{DirectoryView, PresentEntry, path_among}
use Rattle.repl_data.proofs.Orders.{uid_total}
use Rattle.repl_data.proofs.ClosedLaws.{no_csn_below}
use Rattle.repl_data.proofs.Known.{own_id, same_id}
use Rattle.repl_data.proofs.Paths.{differs}
use Rattle.view_walk.specs.Tree.{IsAmong, AreRising, HasParentBelow, is_present, IsNamedTree}
use Rattle.view_walk.specs.Walk.{lineage_among}
use Rattle.view_walk.proofs.Members.{of_reverse, in_reverse, one_of, each_of}
use Rattle.view_walk.proofs.Rising.{Rise, rise_reverse}
use Rattle.repl_data.proofs.Bools.{never}

abbrev Below : PresentEntry → PresentEntry → Type 0
Below a b = uid_cmp b.id a.id ≡ Less

-- ---- among entries in falling order of id

passed : (d : PresentEntry) (es : List PresentEntry) (u : Uid) → uid_eq d.id u ≡ false → lineage_among (d ∷ es) u ≡ lineage_among es u
passed d es u h = λ i. cond (h i && not (uid_eq u suffix_id)) (d ∷ []) [] ++ lineage_among es (cond (h i) d.parent u)

at_entry : (d : PresentEntry) (es : List PresentEntry) (u : Uid) (r : Bool) → uid_eq d.id u ≡ true → uid_eq u suffix_id ≡ r → lineage_among (d ∷ es) u ≡ cond (not r) (d ∷ []) [] ++ lineage_among es d.parent
at_entry d es u r h g = λ i. cond (h i && not (g i)) (d ∷ []) [] ++ lineage_among es (cond (h i) d.parent u)

step_among : (es : List PresentEntry) (e : PresentEntry) → Rise Below es → AllByRecursion HasParentBelow es → IsAmong e es → uid_eq e.id suffix_id ≡ false → lineage_among es e.id ≡ e ∷ lineage_among es e.parent
step_among [] e f b s r = elim s [ ]
step_among (d ∷ es) e f b (inl same) r =
    subst (λ (x : PresentEntry). lineage_among (d ∷ es) x.id ≡ x ∷ lineage_among (d ∷ es) x.parent) (sym same)
    (at_entry d es d.id false (own_id d.id) own ∙ ap (λ p. d ∷ p) (sym (passed d es d.parent (below b.0))))
  where
    own : uid_eq d.id suffix_id ≡ false
    own = subst (λ (x : PresentEntry). uid_eq x.id suffix_id ≡ false) same r

    below : HasParentBelow d → uid_eq d.id d.parent ≡ false
    below (inl root) = never _ root own
    below (inr l) = differs d.parent d.id l
step_among (d ∷ es) e f b (inr s) r =
    let l : uid_cmp e.id d.id ≡ Less = one_of (λ (x : PresentEntry). Below d x) e es s f.0 in
    passed d es e.id (differs e.id d.id l)
    ∙ step_among es e f.1 b.1 s r
    ∙ ap (λ p. e ∷ p) (sym (passed d es e.parent (differs e.parent d.id (above l (one_of HasParentBelow e es s b.1)))))
  where
    above : uid_cmp e.id d.id ≡ Less → HasParentBelow e → uid_cmp e.parent d.id ≡ Less
    above l (inl root) = never _ root r
    above l (inr k) = uid_total.trans e.parent e.id d.id k l

suffix_among : (es : List PresentEntry) → Rise Below es → lineage_among es suffix_id ≡ []
suffix_among [] f = refl
suffix_among (d ∷ es) f = by (uid_eq d.id suffix_id) refl (suffix_among es f.1)
  where
    lowest : (es : List PresentEntry) (u : Uid) → d.id ≡ suffix_id → AllByRecursion (λ (x : PresentEntry). Below d x) es → lineage_among es u ≡ []
    lowest [] u root h = refl
    lowest (x ∷ xs) u root h = absurd (no_csn_below x.id.csn (subst (λ (w : Uid). uid_cmp x.id w ≡ Less) root h.0))

    by : (b : Bool) → uid_eq d.id suffix_id ≡ b → lineage_among es suffix_id ≡ [] → lineage_among (d ∷ es) suffix_id ≡ []
    by true h more = at_entry d es suffix_id true h refl ∙ lowest es d.parent (same_id d.id suffix_id h) f.0
    by false h more = passed d es suffix_id h ∙ more

absent_among : (es : List PresentEntry) (u : Uid) → AllByRecursion (λ (e : PresentEntry). uid_eq e.id u ≡ false) es → lineage_among es u ≡ []
absent_among [] u h = refl
absent_among (d ∷ es) u h = passed d es u h.0 ∙ absent_among es u h.1

-- a path is what the lineage shows
pub path_lineage : (es : List PresentEntry) (u : Uid) → path_among es u ≡ map (λ (e : PresentEntry). e.shown) (lineage_among es u)
path_lineage [] u = refl
path_lineage (d ∷ es) u =
    let w : Uid = cond (uid_eq d.id u) d.parent u in
    by (uid_eq d.id u && not (uid_eq u suffix_id)) (path_among es w) (lineage_among es w) (path_lineage es w)
  where
    by : (b : Bool) (ps : List Rdn) (ls : List PresentEntry) → ps ≡ map (λ (e : PresentEntry). e.shown) ls → cond b (d.shown ∷ []) [] ++ ps ≡ map (λ (e : PresentEntry). e.shown) (cond b (d ∷ []) [] ++ ls)
    by true ps ls h = ap (λ r. d.shown ∷ r) h
    by false ps ls h = h

-- ---- present, or not
-- an entry of this id
pub record HasEntry (es : List PresentEntry) (u : Uid) : Type 0 where
  pub entry : PresentEntry
  pub among : IsAmong entry es
  pub own : entry.id ≡ u

pub find_entry : (es : List PresentEntry) (u : Uid) → list_any (λ (e : PresentEntry). uid_eq e.id u) es ≡ true → HasEntry es u
find_entry [] u h = let e : false ≡ true = h in cc
find_entry (d ∷ es) u h = by (uid_eq d.id u) refl h (find_entry es u)
  where
    by : (b : Bool) → uid_eq d.id u ≡ b → (b || list_any (λ (e : PresentEntry). uid_eq e.id u) es) ≡ true → (list_any (λ (e : PresentEntry). uid_eq e.id u) es ≡ true → HasEntry es u) → HasEntry (d ∷ es) u
    by true k g more = record { entry = d; among = inl refl; own = same_id d.id u k }
    by false k g more = let f = more g in record { entry = f.entry; among = inr f.among; own = f.own }

no_entry : (es : List PresentEntry) (u : Uid) → list_any (λ (e : PresentEntry). uid_eq e.id u) es ≡ false → AllByRecursion (λ (e : PresentEntry). uid_eq e.id u ≡ false) es
no_entry [] u h = tt
no_entry (d ∷ es) u h = by (uid_eq d.id u) refl h (no_entry es u)
  where
    by : (b : Bool) → uid_eq d.id u ≡ b → (b || list_any (λ (e : PresentEntry). uid_eq e.id u) es) ≡ false
        → (list_any (λ (e : PresentEntry). uid_eq e.id u) es ≡ false → AllByRecursion (λ (e : PresentEntry). uid_eq e.id u ≡ false) es)
        → AllByRecursion (λ (e : PresentEntry). uid_eq e.id u ≡ false) (d ∷ es)
    by true k g more = let e : true ≡ false = g in cc
    by false k g more = (k, more g)

pub entry_there : (es : List PresentEntry) (e : PresentEntry) → IsAmong e es → list_any (λ (f : PresentEntry). uid_eq f.id e.id) es ≡ true
entry_there [] e m = elim m [ ]
entry_there (d ∷ es) e (inl p) = ap (λ b. b || list_any (λ (f : PresentEntry). uid_eq f.id e.id) es) (ap (λ (x : PresentEntry). uid_eq x.id e.id) (sym p) ∙ own_id e.id)
entry_there (d ∷ es) e (inr m) = later (uid_eq d.id e.id) (entry_there es e m)
  where
    later : (a : Bool) {b : Bool} → b ≡ true → (a || b) ≡ true
    later true h = refl
    later false h = h

-- an entry is found by its id
pub find_own : (es : List PresentEntry) (e : PresentEntry) → AreRising es → IsAmong e es → find (λ (f : PresentEntry). uid_eq f.id e.id) es ≡ Some e
find_own [] e r m = elim m [ ]
find_own (d ∷ es) e r (inl same) =
    ap (λ b. cond b (Some d) (find (λ (f : PresentEntry). uid_eq f.id e.id) es)) (ap (λ (x : PresentEntry). uid_eq x.id e.id) (sym same) ∙ own_id e.id)
    ∙ ap Some (sym same)
find_own (d ∷ es) e r (inr m) =
    ap (λ b. cond b (Some d) (find (λ (f : PresentEntry). uid_eq f.id e.id) es)) (ap is_eq (one_of (λ (f : PresentEntry). uid_cmp d.id f.id ≡ Less) e es m r.0))
    ∙ find_own es e r.1 m

-- so no two have one id
pub one_entry : (es : List PresentEntry) (e f : PresentEntry) → AreRising es → IsAmong e es → IsAmong f es → e.id ≡ f.id → e ≡ f
one_entry es e f r m k same =
    let a : find (λ (d : PresentEntry). uid_eq d.id e.id) es ≡ Some e = find_own es e r m in
    let b : find (λ (d : PresentEntry). uid_eq d.id e.id) es ≡ Some f = subst (λ (u : Uid). find (λ (d : PresentEntry). uid_eq d.id u) es ≡ Some f) (sym same) (find_own es f r k) in
    let both : Some e ≡ Some f = sym a ∙ b in
    cc

-- ---- in a tree

module _ (v : DirectoryView) (t : IsNamedTree v) where
  abbrev pub lineage : Uid → List PresentEntry
  lineage u = lineage_among (reverse v.present) u

  falls : Rise Below (reverse v.present)
  falls = rise_reverse (λ (a : PresentEntry) (b : PresentEntry). uid_cmp a.id b.id ≡ Less) v.present t.rising

  parents_below : AllByRecursion HasParentBelow (reverse v.present)
  parents_below = each_of HasParentBelow (reverse v.present) (λ e m. one_of HasParentBelow e v.present (of_reverse e v.present m) t.below)

  pub lineage_suffix : lineage suffix_id ≡ []
  lineage_suffix = suffix_among (reverse v.present) falls

  pub lineage_step : (e : PresentEntry) → IsAmong e v.present → uid_eq e.id suffix_id ≡ false → lineage e.id ≡ e ∷ lineage e.parent
  lineage_step e m r = step_among (reverse v.present) e falls parents_below (in_reverse e v.present m) r

  lineage_absent : (u : Uid) → is_present v u ≡ false → lineage u ≡ []
  lineage_absent u h =
      absent_among (reverse v.present) u
      (each_of (λ (e : PresentEntry). uid_eq e.id u ≡ false) (reverse v.present)
      (λ e m. one_of (λ (e : PresentEntry). uid_eq e.id u ≡ false) e v.present (of_reverse e v.present m) (no_entry v.present u h)))

  -- WHAT HOLDS WHERE NOTHING IS ABOVE, and of an entry where it holds of its parent, holds of all
  module _ (P : Uid → Type 0)
      (first : (u : Uid) → lineage u ≡ [] → P u)
      (more : (e : PresentEntry) → IsAmong e v.present → uid_eq e.id suffix_id ≡ false → P e.parent → P e.id) where
    by_length : (ls : List PresentEntry) (u : Uid) → lineage u ≡ ls → P u
    by_length [] u h = first u h
    by_length (l ∷ ls) u h = there (is_present v u) refl (λ w. by_length ls w)
      where
        of_entry : HasEntry v.present u → ((w : Uid) → lineage w ≡ ls → P w) → (r : Bool) → uid_eq u suffix_id ≡ r → P u
        of_entry f again true r = first u (subst (λ (w : Uid). lineage w ≡ []) (sym (same_id u suffix_id r)) lineage_suffix)
        of_entry f again false r =
            let child : uid_eq f.entry.id suffix_id ≡ false = subst (λ (w : Uid). uid_eq w suffix_id ≡ false) (sym f.own) r in
            let at : lineage f.entry.id ≡ l ∷ ls = subst (λ (w : Uid). lineage w ≡ l ∷ ls) (sym f.own) h in
            let step : lineage f.entry.id ≡ f.entry ∷ lineage f.entry.parent = lineage_step f.entry f.among child in
            let rest : lineage f.entry.parent ≡ ls = cc in
            subst P f.own (more f.entry f.among child (again f.entry.parent rest))

        there : (b : Bool) → is_present v u ≡ b → ((w : Uid) → lineage w ≡ ls → P w) → P u
        there true k again = of_entry (find_entry v.present u k) again (uid_eq u suffix_id) refl
        there false k again = first u (lineage_absent u k)

    pub climb : (u : Uid) → P u
    climb u = by_length (lineage u) u refl

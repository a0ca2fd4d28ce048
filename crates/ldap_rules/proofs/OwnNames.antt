-- The own name of each entry but the suffix entry is one that a change gave.
use Rattle.std.proofs.Common.{◌≡◌, ◌⊎◌, inl, inr, Bool, true, false, cond, ◌||◌, List, [], ◌∷◌, ◌++◌, map, refl, sym, ap, subst, ◌∙◌, Option, Some, None}
use Rattle.std.specs.Prelude.{find, option_map, if◌then◌else◌}
use Rattle.std.specs.List.{AllByRecursion, list_any}
use Rattle.std.specs.declared.cmp.Ordering.{Ordering}
use Rattle.std.specs.declared.cmp.Ordering.TheVariants.{Less, Equal, Greater}
use Rattle.std.specs.Ordering.{is_eq}
use Rattle.std.proofs.lemmas.Cmp.{tied_itself}
use Rattle.std.proofs.lemmas.Bool.{or_right}
use Rattle.repl_data.specs.declared.csn.Csn.{Csn}
use Rattle.repl_data.specs.declared.csn.Uid.{Uid}
use Rattle.repl_data.specs.declared.change.Rdn.{Rdn}
use Rattle.repl_data.specs.declared.change.Change.{Change}
use Rattle.repl_data.specs.declared.change.Suffix.{Suffix}
use Rattle.repl_data.specs.Order.{uid_cmp, uid_eq, suffix_id, put_by, by_order, in_order}
use Rattle.repl_data.specs.Facts.{EntryFacts, entry_facts, names_given, added_ids, ids_known, all_facts}
use Rattle.repl_data.specs.Presence.{present_of, gone_of}
use Rattle.repl_data.specs.View.{DirectoryView, PresentEntry, Tombstone, present_at, gone_at, first_of_two, name_of, view_of}
use Rattle.repl_data.proofs.Orders.{uid_total, uid_exact}
use Rattle.repl_data.proofs.InOrder.{is_equal}
use Rattle.repl_data.proofs.Loops.{all_append, all_map, all_filter, all_mono}
use Rattle.repl_data.proofs.Sound.{not_both}
use Rattle.repl_data.proofs.Paths.{all_present}
use Rattle.repl_data.proofs.NamesClosed.{added_named, names_with, own_names, picked_some}

-- ---- all items of a list

all_put : (P : Uid → Type 0) (u : Uid) (us : List Uid) → P u → AllByRecursion P us → AllByRecursion P (put_by (λ (w : Uid). w) uid_cmp u us)
all_put P u [] p h = (p, tt)
all_put P u (w ∷ us) p h = by (uid_cmp u w) (all_put P u us p h.1)
  where
    by : (o : Ordering) → AllByRecursion P (put_by (λ (w : Uid). w) uid_cmp u us) → AllByRecursion P (by_order o (u ∷ w ∷ us) (u ∷ us) (w ∷ put_by (λ (w : Uid). w) uid_cmp u us))
    by Less g = (p, h)
    by Equal g = (p, h.1)
    by Greater g = (h.0, g)

pub all_in_order : (P : Uid → Type 0) (us : List Uid) → AllByRecursion P us → AllByRecursion P (in_order uid_cmp us)
all_in_order P [] h = tt
all_in_order P (u ∷ us) h = all_put P u (in_order uid_cmp us) h.0 (all_in_order P us h.1)

each_is_there : (us : List Uid) → AllByRecursion (λ u. list_any (uid_eq u) us ≡ true) us
each_is_there [] = tt
each_is_there (w ∷ us) = (
  ap (λ o. is_eq o || list_any (uid_eq w) us) (tied_itself uid_total w),
  all_mono (λ u. list_any (uid_eq u) us ≡ true) (λ u. list_any (uid_eq u) (w ∷ us) ≡ true) (λ u h. or_right (uid_eq u w) (list_any (uid_eq u) us) h) us (each_is_there us),
)

-- what holds of the suffix entry's id and of each id that was added holds of all that are known
pub known_such : (P : Uid → Type 0) (xs : List Change) → ((u : Uid) → (uid_eq u suffix_id ≡ true) ⊎ (list_any (uid_eq u) (added_ids xs) ≡ true) → P u) → AllByRecursion P (ids_known xs)
known_such P xs f =
    all_in_order P (suffix_id ∷ added_ids xs)
    (f suffix_id (inl refl), all_mono (λ u. list_any (uid_eq u) (added_ids xs) ≡ true) P (λ u h. f u (inr h)) (added_ids xs) (each_is_there (added_ids xs)))

-- ---- what the changes of an entry give

-- the names that a change gives are such
abbrev pub Names : (Rdn → Type 0) → Change → Type 0
Names P c = AllByRecursion (λ (p : Csn × Rdn). P p.1) (names_given c.csn c.body)

own_names-such : (P : Rdn → Type 0) (xs : List Change) (u : Uid) → AllByRecursion (Names P) xs → AllByRecursion (λ (p : Csn × Rdn). P p.1) (own_names xs u)
own_names-such P [] u h = tt
own_names-such P (x ∷ xs) u h = by (uid_eq x.target u) (own_names-such P xs u h.1)
  where
    by : (b : Bool) → AllByRecursion (λ (p : Csn × Rdn). P p.1) (own_names xs u) → AllByRecursion (λ (p : Csn × Rdn). P p.1) (names_with b x xs u)
    by true g = all_append (λ (p : Csn × Rdn). P p.1) (names_given x.csn x.body) (own_names xs u) h.0 g
    by false g = g

-- ---- the entries

abbrev Such : (Rdn → Type 0) → Uid → Rdn → Type 0
Such P u rdn = (uid_eq u suffix_id ≡ true) ⊎ P rdn

abbrev FactsSuch : (Rdn → Type 0) → EntryFacts → Type 0
FactsSuch P e = Such P e.id e.rdn

module _ (P : Rdn → Type 0) (suffix : Suffix) (xs : List Change) (given : AllByRecursion (Names P) xs) where
  facts_such : (u : Uid) → (uid_eq u suffix_id ≡ true) ⊎ (list_any (uid_eq u) (added_ids xs) ≡ true) → FactsSuch P (entry_facts suffix xs u)
  facts_such u (inl s) = inl s
  facts_such u (inr a) = inr (picked_some (λ (p : Csn × Rdn). P p.1) suffix.rdn (own_names xs u) (added_named xs u a) (own_names-such P xs u given))

  all_such : AllByRecursion (FactsSuch P) (all_facts suffix xs)
  all_such = all_map (FactsSuch P) (entry_facts suffix xs) (ids_known xs) (known_such (λ u. FactsSuch P (entry_facts suffix xs u)) xs facts_such)

-- ---- the view

found_such : {X : Type 0} (id : X → Uid) (name : X → Rdn) (P : Rdn → Type 0) (u : Uid) (es : List X) (e : X) → uid_eq u suffix_id ≡ false → AllByRecursion (λ x. Such P (id x) (name x)) es → find (λ x. uid_eq (id x) u) es ≡ Some e → P (name e)
found_such id name P u [] e c h g = let n : ⊥ = cc in absurd n
found_such {X} id name P u (x ∷ es) e c h g = by (uid_eq (id x) u) refl g (found_such id name P u es e c h.1)
  where
    own : uid_eq (id x) u ≡ true → Such P (id x) (name x) → P (name x)
    own s (inl t) = absurd (not_both (uid_eq u suffix_id) (ap (λ w. uid_eq w suffix_id) (sym (uid_exact (id x) u (is_equal _ s))) ∙ t) c)
    own s (inr p) = p

    by : (b : Bool) → uid_eq (id x) u ≡ b → cond b (Some x) (find (λ y. uid_eq (id y) u) es) ≡ Some e → (find (λ y. uid_eq (id y) u) es ≡ Some e → P (name e)) → P (name e)
    by true s k more = let at : x ≡ e = cc in subst (λ y. P (name y)) at (own s h.0)
    by false s k more = more k

abbrev PresentSuch : (Rdn → Type 0) → PresentEntry → Type 0
PresentSuch P e = Such P e.id e.name

abbrev GoneSuch : (Rdn → Type 0) → Tombstone → Type 0
GoneSuch P e = Such P e.id e.name

name_such : (P : Rdn → Type 0) (v : DirectoryView) (u : Uid) (rdn : Rdn) → AllByRecursion (PresentSuch P) v.present → AllByRecursion (GoneSuch P) v.gone → uid_eq u suffix_id ≡ false → name_of v u ≡ Some rdn → P rdn
name_such P v u rdn p g c h = by (present_at v u) refl (gone_at v u) refl h
  where
    by : (o : Option PresentEntry) → present_at v u ≡ o → (t : Option Tombstone) → gone_at v u ≡ t → first_of_two (option_map (λ (e : PresentEntry). e.name) o) (option_map (λ (e : Tombstone). e.name) t) ≡ Some rdn → P rdn
    by (Some e) s t k m = let at : e.name ≡ rdn = cc in subst P at (found_such (λ (x : PresentEntry). x.id) (λ (x : PresentEntry). x.name) P u v.present e c p s)
    by None s (Some e) k m = let at : e.name ≡ rdn = cc in subst P at (found_such (λ (x : Tombstone). x.id) (λ (x : Tombstone). x.name) P u v.gone e c g k)
    by None s None k m = let n : ⊥ = cc in absurd n

-- WHAT HOLDS OF EVERY NAME THAT A CHANGE GIVES HOLDS OF THE OWN NAME OF EACH ENTRY BUT THE SUFFIX ENTRY
pub own_name : (P : Rdn → Type 0) (suffix : Suffix) (xs : List Change) (u : Uid) (rdn : Rdn) → AllByRecursion (Names P) xs → uid_eq u suffix_id ≡ false → name_of (view_of suffix xs) u ≡ Some rdn → P rdn
own_name P suffix xs u rdn given c h =
    let es : List EntryFacts = all_facts suffix xs in
    let such : AllByRecursion (FactsSuch P) es = all_such P suffix xs given in
    name_such P (view_of suffix xs) u rdn
    (all_map (PresentSuch P) _ (present_of es) (all_present (FactsSuch P) es such))
    (all_map (GoneSuch P) _ (gone_of es) (all_filter (FactsSuch P) _ es such))
    c h

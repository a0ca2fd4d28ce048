-- One entry more among entries that are live and bear the CSNs of their ids.
use Rattle.std.proofs.Common.{◌≡◌, ℕ, ◌≤◌, Bool, true, false, cond, List, [], ◌∷◌, map, length, get_or, arith, refl, sym, ap, ◌∙◌}
use Rattle.std.specs.Prelude.{◌&&◌, ◌||◌, not, filter, insert}
use Rattle.std.specs.List.{list_any, AllByRecursion}
use Rattle.std.specs.List.Sorted.{IsPartitionPoint}
use Rattle.std.specs.Ordering.{is_eq, is_lt}
use Rattle.std.specs.declared.cmp.Ordering.{Ordering}
use Rattle.std.specs.declared.cmp.Ordering.TheVariants.{Less, Equal, Greater}
use Rattle.std.proofs.lemmas.Cmp.{tied_itself}
use Rattle.repl_data.specs.declared.csn.Uid.{Uid}
use Rattle.repl_data.specs.declared.change.Rdn.{Rdn}
use Rattle.repl_data.specs.Order.{uid_cmp, uid_eq, csn_lt, put_by, by_order, same_rdn, rdn_key}
use Rattle.repl_data.specs.Facts.{EntryFacts, attrs_shown}
use Rattle.repl_data.specs.Presence.{is_live, is_child, present_of, gone_of, is_among_entries}
use Rattle.repl_data.specs.Names.{contends_with, is_before, with_id}
use Rattle.repl_data.specs.View.{DirectoryView, PresentEntry, view_of_facts, lost_name}
use Rattle.repl_data.proofs.Orders.{uid_total, rdn_key_total}
use Rattle.repl_data.proofs.Sound.{neither, not_both}
use Rattle.plain_view.specs.Seen.{present_entry, tombstone}
use Rattle.plain_view.specs.Growth.{gives_way, stands_before, yields, joined, renamed, fresh, placed, id_of, grown, HasRisingIds, is_among_present}
use Rattle.plain_view.proofs.Places.{insert_is}
use Rattle.repl_data.proofs.Known.{any_map, eq_turned}
use Rattle.repl_data.proofs.Bools.{and_false, either_second, either_turned}

abbrev pub facts_id : EntryFacts → Uid
facts_id e = e.id

abbrev pub put_facts : EntryFacts → List EntryFacts → List EntryFacts
put_facts = put_by facts_id uid_cmp

-- it is live, and the change that added it gave it its name
abbrev pub IsPlain : EntryFacts → Type 0
IsPlain e = (is_live e ≡ true) × (e.named ≡ e.id.csn)

lt_self : (u : Uid) → is_lt (uid_cmp u u) ≡ false
lt_self u = ap is_lt (tied_itself uid_total u)

-- ALL ARE PRESENT
present_all : (es : List EntryFacts) → AllByRecursion IsPlain es → present_of es ≡ es
present_all [] h = refl
present_all (e ∷ es) h =
    ap (λ b. cond (b || list_any (is_child e.id) (present_of es)) (e ∷ present_of es) (present_of es)) h.0.0
    ∙ ap (λ r. e ∷ r) (present_all es h.1)

covered : (ps ds : List EntryFacts) → ((u : Uid) → is_among_entries ds u ≡ true → is_among_entries ps u ≡ true) → filter (λ (e : EntryFacts). not (is_among_entries ps e.id)) ds ≡ []
covered ps [] h = refl
covered ps (d ∷ ds) h =
    ap (λ b. cond (not b) (d ∷ filter (λ (e : EntryFacts). not (is_among_entries ps e.id)) ds) (filter (λ (e : EntryFacts). not (is_among_entries ps e.id)) ds)) (h d.id (ap (λ o. is_eq o || is_among_entries ds d.id) (tied_itself uid_total d.id)))
    ∙ covered ps ds (λ u g. h u (either_second (uid_eq d.id u) (is_among_entries ds u) g))

none_gone : (es : List EntryFacts) → AllByRecursion IsPlain es → gone_of es ≡ []
none_gone es h = ap (λ ps. filter (λ (e : EntryFacts). not (is_among_entries ps e.id)) es) (present_all es h) ∙ covered es es (λ u g. g)

abbrev pub plain_view : List ℕ → List EntryFacts → DirectoryView
plain_view name es = record { suffix = name; present = map (present_entry es) es; gone = [] }

pub view_plain : (name : List ℕ) (es : List EntryFacts) → AllByRecursion IsPlain es → view_of_facts name es ≡ plain_view name es
unfolding present_entry tombstone
view_plain name es h = λ i. record { suffix = name; present = map (present_entry (present_all es h i)) (present_all es h i); gone = map tombstone (none_gone es h i) }

pub entry_id : (es : List EntryFacts) (d : EntryFacts) → (present_entry es d).id ≡ d.id
unfolding present_entry
entry_id es d = refl

-- ONE MORE
pub all_put : (P : EntryFacts → Type 0) (f : EntryFacts) (es : List EntryFacts) → P f → AllByRecursion P es → AllByRecursion P (put_facts f es)
all_put P f [] p h = (p, tt)
all_put P f (d ∷ ds) p h = by (uid_cmp f.id d.id) (all_put P f ds p h.1)
  where
    by : (o : Ordering) → AllByRecursion P (put_facts f ds) → AllByRecursion P (by_order o (f ∷ d ∷ ds) (f ∷ ds) (d ∷ put_facts f ds))
    by Less m = (p, h)
    by Equal m = (p, h.1)
    by Greater m = (h.0, m)

any_put : (q : EntryFacts → Bool) (f : EntryFacts) (es : List EntryFacts) → is_among_entries es f.id ≡ false → list_any q (put_facts f es) ≡ (q f || list_any q es)
any_put q f [] h = refl
any_put q f (d ∷ ds) h =
    let h' = neither (uid_eq d.id f.id) (is_among_entries ds f.id) h in
    by (uid_cmp f.id d.id) (eq_turned f.id d.id ∙ h'.0) (any_put q f ds h'.1)
  where
    by : (o : Ordering) → is_eq o ≡ false → list_any q (put_facts f ds) ≡ (q f || list_any q ds) → list_any q (by_order o (f ∷ d ∷ ds) (f ∷ ds) (d ∷ put_facts f ds)) ≡ (q f || (q d || list_any q ds))
    by Less e m = refl
    by Equal e m = absurd (not_both true refl e)
    by Greater e m = ap (λ b. q d || b) m ∙ either_turned (q f) (q d) (list_any q ds)

any_same : (q r : EntryFacts → Bool) (es : List EntryFacts) → AllByRecursion (λ e. q e ≡ r e) es → list_any q es ≡ list_any r es
any_same q r [] h = refl
any_same q r (e ∷ es) h = λ i. h.0 i || any_same q r es h.1 i

-- of two such entries the one of the lower id is before the other
before_is : (e f : EntryFacts) → IsPlain e → IsPlain f → is_before f e ≡ is_lt (uid_cmp f.id e.id)
before_is e f pe pf = λ i. (pf.0 i && not (pe.0 i)) || ((pf.0 i || not (pe.0 i)) && csn_lt (pf.1 i) (pe.1 i))

module _ (f : EntryFacts) where
  pub placed_id : (ps : List PresentEntry) → (placed f ps).id ≡ f.id
  unfolding placed fresh
  placed_id ps = by (list_any (stands_before f) ps)
    where
      by : (b : Bool) → (cond b (joined (fresh f)) (fresh f)).id ≡ f.id
      by true = refl
      by false = refl

  -- the new entry does not lose its name to itself
  pub self_yields : (ps : List PresentEntry) → yields f (placed f ps) ≡ false
  unfolding yields gives_way
  self_yields ps =
      let n : PresentEntry = placed f ps in
      ap (λ u. (is_child n.parent f && same_rdn n.name f.rdn && is_lt (uid_cmp f.id u)) && not (lost_name n)) (placed_id ps)
      ∙ ap (λ b. (is_child n.parent f && same_rdn n.name f.rdn && b) && not (lost_name n)) (lt_self f.id)
      ∙ ap (λ b. b && not (lost_name n)) (and_false (is_child n.parent f && same_rdn n.name f.rdn))

  self_stays : (ps : List PresentEntry) → renamed f (placed f ps) ≡ placed f ps
  unfolding renamed
  self_stays ps = ap (λ b. cond b (joined (placed f ps)) (placed f ps)) (self_yields ps)

  -- where its place by id is
  pub placed_is : (ps : List PresentEntry) (n : ℕ) (e : PresentEntry) (u : Uid) → e ≡ placed f ps → u ≡ f.id → HasRisingIds ps → n ≤ length ps
      → IsPartitionPoint (λ (d : PresentEntry). is_lt (uid_cmp d.id u) ≡ true) (λ (d : PresentEntry). is_lt (uid_cmp d.id u) ≡ false) ps n
      → is_among_present ps f.id ≡ false → insert ps n e ≡ put_by id_of uid_cmp (placed f ps) ps
  placed_is ps n e u is id r le parted out =
      let same : (placed f ps).id ≡ u = placed_id ps ∙ sym id in
      ap (insert ps n) is
      ∙ insert_is (placed f ps) ps n
      (λ i d m. ap (λ v. is_lt (uid_cmp (get_or ps i d).id v)) same ∙ parted.0 i d (omega arith) m)
      le
      (λ d l. ap (λ v. is_lt (uid_cmp (get_or ps n d).id v)) same ∙ parted.1 n d (omega arith) l)
      (ap (is_among_present ps) (placed_id ps) ∙ out)

module _ (f : EntryFacts) (pf : IsPlain f) where
  before_all : (es ds : List EntryFacts) → AllByRecursion IsPlain ds → AllByRecursion (λ d. (contends_with f d && is_before d f) ≡ stands_before f (present_entry es d)) ds
  unfolding stands_before present_entry
  before_all es [] h = tt
  before_all es (d ∷ ds) h = (ap (λ b. contends_with f d && b) (before_is f d pf h.0), before_all es ds h.1)

  abbrev new_as : Rdn → PresentEntry
  new_as rdn = record { id = f.id; parent = f.parent; name = f.rdn; shown = rdn; is_glue = not (is_live f); attrs = attrs_shown f }

  new_by : (b : Bool) → new_as (cond (not b) f.rdn (with_id f.id f.rdn)) ≡ cond b (new_as (with_id f.id f.rdn)) (new_as f.rdn)
  new_by true = refl
  new_by false = refl

  -- how the new entry shows
  new_shown : (es : List EntryFacts) → AllByRecursion IsPlain es → is_among_entries es f.id ≡ false → present_entry (put_facts f es) f ≡ placed f (map (present_entry es) es)
  unfolding present_entry placed fresh
  new_shown es h out =
      ap (λ b. new_as (cond (not b) f.rdn (with_id f.id f.rdn)))
      (any_put (λ g. contends_with f g && is_before g f) f es out
      ∙ ap (λ b. (contends_with f f && b) || list_any (λ g. contends_with f g && is_before g f) es) (before_is f f pf pf ∙ lt_self f.id)
      ∙ ap (λ b. b || list_any (λ g. contends_with f g && is_before g f) es) (and_false (contends_with f f))
      ∙ any_same (λ g. contends_with f g && is_before g f) (λ g. stands_before f (present_entry es g)) es (before_all es es h)
      ∙ sym (any_map (stands_before f) (present_entry es) es))
      ∙ new_by (list_any (stands_before f) (map (present_entry es) es))

  module _ (e : EntryFacts) where
    abbrev old_as : Rdn → PresentEntry
    old_as rdn = record { id = e.id; parent = e.parent; name = e.rdn; shown = rdn; is_glue = not (is_live e); attrs = attrs_shown e }

    abbrev old_by_name : Bool → PresentEntry
    old_by_name b = old_as (cond (not b) e.rdn (with_id e.id e.rdn))

    either_way : (b : Bool) (r : PresentEntry) → r ≡ cond b r r
    either_way true r = refl
    either_way false r = refl

    old_by : (l old : Bool) → old_by_name (l || old) ≡ cond (l && not (not (same_rdn e.rdn (cond (not old) e.rdn (with_id e.id e.rdn))))) (old_as (with_id e.id e.rdn)) (old_by_name old)
    old_by true true = either_way (not (not (same_rdn e.rdn (with_id e.id e.rdn)))) (old_as (with_id e.id e.rdn))
    old_by true false = ap (λ o. cond (not (not (is_eq o))) (old_as (with_id e.id e.rdn)) (old_by_name false)) (sym (tied_itself rdn_key_total (rdn_key e.rdn)))
    old_by false old = refl

    -- how another shows beside it
    old_shown : (es : List EntryFacts) → IsPlain e → is_among_entries es f.id ≡ false → present_entry (put_facts f es) e ≡ renamed f (present_entry es e)
    unfolding present_entry renamed yields gives_way
    old_shown es pe out =
        ap (λ b. old_by_name b)
        (any_put (λ g. contends_with e g && is_before g e) f es out
        ∙ ap (λ b. (contends_with e f && b) || list_any (λ g. contends_with e g && is_before g e) es) (before_is e f pe pf))
        ∙ old_by (contends_with e f && is_lt (uid_cmp f.id e.id)) (list_any (λ g. contends_with e g && is_before g e) es)

  old_all : (es ds : List EntryFacts) → AllByRecursion IsPlain ds → is_among_entries es f.id ≡ false → AllByRecursion (λ d. present_entry (put_facts f es) d ≡ renamed f (present_entry es d)) ds
  old_all es [] h out = tt
  old_all es (d ∷ ds) h out = (old_shown d es h.0 out, old_all es ds h.1 out)

  module _ (g h : EntryFacts → PresentEntry) (r : PresentEntry → PresentEntry) (n : PresentEntry) (ids : n.id ≡ f.id) (new : g f ≡ r n) (kept : (d : EntryFacts) → (h d).id ≡ d.id) where
    same_map : (ds : List EntryFacts) → AllByRecursion (λ d. g d ≡ r (h d)) ds → map g ds ≡ map r (map h ds)
    same_map [] e = refl
    same_map (d ∷ ds) e = λ i. e.0 i ∷ same_map ds e.1 i

    map_grown : (ds : List EntryFacts) → AllByRecursion (λ d. g d ≡ r (h d)) ds → map g (put_facts f ds) ≡ map r (put_by id_of uid_cmp n (map h ds))
    map_grown [] e = λ i. new i ∷ []
    map_grown (d ∷ ds) e =
        by (uid_cmp f.id d.id) (map_grown ds e.1)
        ∙ ap (λ o. map r (by_order o (n ∷ h d ∷ map h ds) (n ∷ map h ds) (h d ∷ put_by id_of uid_cmp n (map h ds)))) (λ i. uid_cmp (sym ids i) (sym (kept d) i))
      where
        by : (o : Ordering) → map g (put_facts f ds) ≡ map r (put_by id_of uid_cmp n (map h ds))
            → map g (by_order o (f ∷ d ∷ ds) (f ∷ ds) (d ∷ put_facts f ds)) ≡ map r (by_order o (n ∷ h d ∷ map h ds) (n ∷ map h ds) (h d ∷ put_by id_of uid_cmp n (map h ds)))
        by Less m = λ i. new i ∷ e.0 i ∷ same_map ds e.1 i
        by Equal m = λ i. new i ∷ same_map ds e.1 i
        by Greater m = λ i. e.0 i ∷ m i

  present_grown : (es : List EntryFacts) → AllByRecursion IsPlain es → is_among_entries es f.id ≡ false
      → map (present_entry (put_facts f es)) (put_facts f es) ≡ map (renamed f) (put_by id_of uid_cmp (placed f (map (present_entry es) es)) (map (present_entry es) es))
  present_grown es h out =
      let ps : List PresentEntry = map (present_entry es) es in
      map_grown (present_entry (put_facts f es)) (present_entry es) (renamed f) (placed f ps) (placed_id f ps) (new_shown es h out ∙ sym (self_stays f ps)) (entry_id es) es (old_all es es h out)

  -- THE VIEW OF ONE ENTRY MORE
  pub view_grown : (name : List ℕ) (es : List EntryFacts) → AllByRecursion IsPlain es → is_among_entries es f.id ≡ false → grown f (view_of_facts name es) ≡ view_of_facts name (put_facts f es)
  view_grown name es h out =
      ap (grown f) (view_plain name es h)
      ∙ (λ i. record { suffix = name; present = sym (present_grown es h out) i; gone = [] })
      ∙ sym (view_plain name (put_facts f es) (all_put IsPlain f es pf h))

-- Where no child of an entry shows an RDN, no child contends for it: of those that contend one has the name, and it
-- shows it.
use Rattle.std.proofs.Common.{◌≡◌, Bool, true, false, cond, ◌||◌, List, [], ◌∷◌, map, refl, sym, ap, subst, ◌∙◌, inl, inr, Option, Some, None}
use Rattle.std.specs.Prelude.{not, ◌&&◌, filter, find, option_map, if◌then◌else◌}
use Rattle.std.specs.List.{AllByRecursion, list_any}
use Rattle.std.specs.Ordering.{is_eq}
use Rattle.std.proofs.lemmas.Cmp.{tied_itself}
use Rattle.repl_data.specs.declared.csn.Uid.{Uid}
use Rattle.repl_data.specs.declared.change.Rdn.{Rdn}
use Rattle.repl_data.specs.Order.{csn_lt, uid_eq, suffix_id, same_rdn, rdn_key, rdn_key_cmp}
use Rattle.repl_data.specs.Facts.{EntryFacts, attrs_shown}
use Rattle.repl_data.specs.Presence.{is_live, is_child, StandsIn}
use Rattle.repl_data.specs.Names.{contends_with, is_before, has_name, with_id, shown_rdn}
use Rattle.repl_data.specs.View.{PresentEntry, is_shown_below}
use Rattle.repl_data.proofs.Orders.{uid_exact, rdn_key_exact, rdn_key_total}
use Rattle.repl_data.proofs.InOrder.{is_equal}
use Rattle.repl_data.proofs.CsnTests.{csn_lt-irreflexive, csn_lt-trans}
use Rattle.repl_data.proofs.Sound.{not_both, both_true, neither}

-- ---- who is before whom

pub none_before_itself : (a : EntryFacts) → is_before a a ≡ false
none_before_itself a = by (is_live a)
  where
    by : (l : Bool) → ((l && not l) || ((l || not l) && csn_lt a.named a.named)) ≡ false
    by true = csn_lt-irreflexive a.named
    by false = csn_lt-irreflexive a.named

before_on : (a b c : EntryFacts) → is_before a b ≡ true → is_before b c ≡ true → is_before a c ≡ true
before_on a b c h g = by (is_live a) (is_live b) (is_live c) h g
  where
    by : (l m n : Bool) → ((l && not m) || ((l || not m) && csn_lt a.named b.named)) ≡ true → ((m && not n) || ((m || not n) && csn_lt b.named c.named)) ≡ true → ((l && not n) || ((l || not n) && csn_lt a.named c.named)) ≡ true
    by true true true h g = csn_lt-trans a.named b.named c.named h g
    by true true false h g = refl
    by true false true h g = absurd (not_both false g refl)
    by true false false h g = refl
    by false true true h g = absurd (not_both false h refl)
    by false true false h g = absurd (not_both false h refl)
    by false false true h g = absurd (not_both false g refl)
    by false false false h g = csn_lt-trans a.named b.named c.named h g

-- ---- one of them is before all others

record IsFirst (q : EntryFacts → Bool) (es : List EntryFacts) (m : EntryFacts) : Type 0 where
  stands : StandsIn m es
  passes : q m ≡ true
  first : AllByRecursion (λ g. q g ≡ true → is_before g m ≡ false) es

record HasFirst (q : EntryFacts → Bool) (es : List EntryFacts) : Type 0 where
  least : EntryFacts
  is : IsFirst q es least

nobody_passes : (q : EntryFacts → Bool) (m : EntryFacts) (es : List EntryFacts) → list_any q es ≡ false → AllByRecursion (λ g. q g ≡ true → is_before g m ≡ false) es
nobody_passes q m [] h = tt
nobody_passes q m (e ∷ es) h = let h' = neither (q e) (list_any q es) h in (λ p. absurd (not_both (q e) p h'.0), nobody_passes q m es h'.1)

further : (q : EntryFacts → Bool) (e m : EntryFacts) (es : List EntryFacts) → is_before e m ≡ true → AllByRecursion (λ g. q g ≡ true → is_before g m ≡ false) es → AllByRecursion (λ g. q g ≡ true → is_before g e ≡ false) es
further q e m [] b h = tt
further q e m (g ∷ es) b h = (λ p. by (is_before g e) refl (h.0 p), further q e m es b h.1)
  where
    by : (o : Bool) → is_before g e ≡ o → is_before g m ≡ false → is_before g e ≡ false
    by true k n = absurd (not_both (is_before g m) (before_on g e m k b) n)
    by false k n = k

first_with : (q : EntryFacts → Bool) (e : EntryFacts) (es : List EntryFacts) → q e ≡ true → (r : HasFirst q es) → (b : Bool) → is_before e r.least ≡ b → HasFirst q (e ∷ es)
first_with q e es p r true k = record { least = e; is = record { stands = inl refl; passes = p; first = (λ _. none_before_itself e, further q e r.least es k r.is.first) } }
first_with q e es p r false k = record { least = r.least; is = record { stands = inr r.is.stands; passes = r.is.passes; first = (λ _. k, r.is.first) } }

first_of : (q : EntryFacts → Bool) (e : EntryFacts) (es : List EntryFacts) (b : Bool) → q e ≡ b → (c : Bool) → list_any q es ≡ c → (b || c) ≡ true → (list_any q es ≡ true → HasFirst q es) → HasFirst q (e ∷ es)
first_of q e es true p true k g rest = let r = rest k in first_with q e es p r (is_before e r.least) refl
first_of q e es true p false k g rest = record { least = e; is = record { stands = inl refl; passes = p; first = (λ _. none_before_itself e, nobody_passes q e es k) } }
first_of q e es false p true k g rest =
    let r = rest k in
    record { least = r.least; is = record { stands = inr r.is.stands; passes = r.is.passes; first = (λ t. absurd (not_both (q e) t p), r.is.first) } }
first_of q e es false p false k g rest = absurd (not_both false g refl)

has_first : (q : EntryFacts → Bool) (es : List EntryFacts) → list_any q es ≡ true → HasFirst q es
has_first q [] h = absurd (not_both false h refl)
has_first q (e ∷ es) h = first_of q e es (q e) refl (list_any q es) refl h (has_first q es)

-- ---- contenders for one name below one entry

abbrev pub contends_for : Uid → Rdn → EntryFacts → Bool
contends_for p rdn e = is_child p e && same_rdn e.rdn rdn

same_key : (a b : Rdn) → same_rdn a b ≡ true → rdn_key a ≡ rdn_key b
same_key a b h = rdn_key_exact (rdn_key a) (rdn_key b) (is_equal (rdn_key_cmp (rdn_key a) (rdn_key b)) h)

key_same : (a b : Rdn) → rdn_key a ≡ rdn_key b → same_rdn a b ≡ true
key_same a b h = subst (λ k. is_eq (rdn_key_cmp (rdn_key a) k) ≡ true) h (ap is_eq (tied_itself rdn_key_total (rdn_key a)))

-- one that contends with a contender is a contender
pub contender_too : (p : Uid) (rdn : Rdn) (m g : EntryFacts) → contends_for p rdn m ≡ true → contends_with m g ≡ true → contends_for p rdn g ≡ true
contender_too p rdn m g h k =
    let h' = both_true (is_child p m) (same_rdn m.rdn rdn) h in
    let k' = both_true (is_child m.parent g) (same_rdn m.rdn g.rdn) k in
    let parent : m.parent ≡ p = uid_exact m.parent p (is_equal _ (both_true (uid_eq m.parent p) (not (uid_eq m.id suffix_id)) h'.0).0) in
    let child : is_child p g ≡ true = subst (λ w. is_child w g ≡ true) parent k'.0 in
    let same : same_rdn g.rdn rdn ≡ true = key_same g.rdn rdn (sym (same_key m.rdn g.rdn k'.1) ∙ same_key m.rdn rdn h'.1) in
    (λ i. child i && same_rdn g.rdn rdn) ∙ same

first_has_name : (p : Uid) (rdn : Rdn) (present : List EntryFacts) (m : EntryFacts) (es : List EntryFacts) → contends_for p rdn m ≡ true → AllByRecursion (λ g. contends_for p rdn g ≡ true → is_before g m ≡ false) es → list_any (λ g. contends_with m g && is_before g m) es ≡ false
first_has_name p rdn present m [] c h = refl
first_has_name p rdn present m (g ∷ es) c h = by (contends_with m g) refl ∙ first_has_name p rdn present m es c h.1
  where
    by : (b : Bool) → contends_with m g ≡ b → ((contends_with m g && is_before g m) || list_any (λ x. contends_with m x && is_before x m) es) ≡ list_any (λ x. contends_with m x && is_before x m) es
    by true k = (λ i. (contends_with m g && h.0 (contender_too p rdn m g c k) i) || list_any (λ x. contends_with m x && is_before x m) es) ∙ ap (λ o. (o && false) || list_any (λ x. contends_with m x && is_before x m) es) k
    by false k = ap (λ o. (o && is_before g m) || list_any (λ x. contends_with m x && is_before x m) es) k

-- ---- what is shown

abbrev pub entry_of_facts : List EntryFacts → EntryFacts → PresentEntry
entry_of_facts present e = record { id = e.id; parent = e.parent; name = e.rdn; shown = shown_rdn present e; is_glue = not (is_live e); attrs = attrs_shown e }

abbrev seek : Rdn → List PresentEntry → Option Uid
seek rdn xs = option_map (λ (x : PresentEntry). x.id) (find (λ (x : PresentEntry). same_rdn x.shown rdn) xs)

abbrev below_of : Uid → List EntryFacts → List EntryFacts → List PresentEntry
below_of p present es = filter (is_shown_below p) (map (entry_of_facts present) es)

abbrev ShowsOther : Uid → Rdn → List EntryFacts → EntryFacts → Type 0
ShowsOther p rdn present e = is_child p e ≡ true → same_rdn (shown_rdn present e) rdn ≡ false

seek_more : (p : Uid) (rdn : Rdn) (present es : List EntryFacts) (e : EntryFacts) (rest : List PresentEntry) (o : Bool) → same_rdn (shown_rdn present e) rdn ≡ o
    → option_map (λ (x : PresentEntry). x.id) (cond o (Some (entry_of_facts present e)) (find (λ (x : PresentEntry). same_rdn x.shown rdn) rest)) ≡ None
    → (seek rdn rest ≡ None → AllByRecursion (ShowsOther p rdn present) es) → AllByRecursion (ShowsOther p rdn present) (e ∷ es)
seek_more p rdn present es e rest true t h more = let n : ⊥ = cc in absurd n
seek_more p rdn present es e rest false t h more = (λ _. t, more h)

seek_on : (p : Uid) (rdn : Rdn) (present es : List EntryFacts) (e : EntryFacts) (rest : List PresentEntry) (b : Bool) → is_child p e ≡ b → seek rdn (cond b (entry_of_facts present e ∷ rest) rest) ≡ None
    → (seek rdn rest ≡ None → AllByRecursion (ShowsOther p rdn present) es) → AllByRecursion (ShowsOther p rdn present) (e ∷ es)
seek_on p rdn present es e rest true s h more = seek_more p rdn present es e rest (same_rdn (shown_rdn present e) rdn) refl h more
seek_on p rdn present es e rest false s h more = (λ q. absurd (not_both (is_child p e) q s), more h)

not_shown : (p : Uid) (rdn : Rdn) (present es : List EntryFacts) → seek rdn (below_of p present es) ≡ None → AllByRecursion (ShowsOther p rdn present) es
not_shown p rdn present [] h = tt
not_shown p rdn present (e ∷ es) h = seek_on p rdn present es e (below_of p present es) (is_child p e) refl h (not_shown p rdn present es)

at_stands : (P : EntryFacts → Type 0) (m : EntryFacts) (es : List EntryFacts) → AllByRecursion P es → StandsIn m es → P m
at_stands P m [] h s = elim s [ ]
at_stands P m (e ∷ es) h (inl s) = subst P (sym s) h.0
at_stands P m (e ∷ es) h (inr s) = at_stands P m es h.1 s

-- WHERE NO CHILD SHOWS THE RDN, NONE CONTENDS FOR IT
pub nobody_contends : (p : Uid) (rdn : Rdn) (present : List EntryFacts) → option_map (λ (e : PresentEntry). e.id) (find (λ (e : PresentEntry). same_rdn e.shown rdn) (filter (is_shown_below p) (map (entry_of_facts present) present))) ≡ None
    → list_any (contends_for p rdn) present ≡ false
nobody_contends p rdn present h = by (list_any (contends_for p rdn) present) refl
  where
    clash : HasFirst (contends_for p rdn) present → ⊥
    clash f =
        let m : EntryFacts = f.least in
        let c = both_true (is_child p m) (same_rdn m.rdn rdn) f.is.passes in
        let named : has_name present m ≡ true = ap not (first_has_name p rdn present m present f.is.passes f.is.first) in
        let shown : same_rdn (shown_rdn present m) rdn ≡ true = ap (λ b. same_rdn (if b then m.rdn else with_id m.id m.rdn) rdn) named ∙ c.1 in
        not_both (same_rdn (shown_rdn present m) rdn) shown (at_stands (ShowsOther p rdn present) m present (not_shown p rdn present present h) f.is.stands c.0)

    by : (b : Bool) → list_any (contends_for p rdn) present ≡ b → list_any (contends_for p rdn) present ≡ false
    by true k = absurd (clash (has_first (contends_for p rdn) present k))
    by false k = k

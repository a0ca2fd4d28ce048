-- One entry more, which is live, above all others, and below a present parent.
use Rattle.std.proofs.Common.{◌≡◌, Bool, true, false, cond, ◌||◌, List, [], ◌∷◌, ◌++◌, map, refl, ap, ◌∙◌, append-nil}
use Rattle.std.specs.Prelude.{not, ◌&&◌, filter, if◌then◌else◌}
use Rattle.std.specs.List.{AllByRecursion, list_any}
use Rattle.std.specs.declared.cmp.Ordering.TheVariants.{Less, Greater}
use Rattle.std.specs.Ordering.{is_eq}
use Rattle.std.proofs.lemmas.Cmp.{tied_itself}
use Rattle.std.proofs.lemmas.Bool.{or_right}
use Rattle.repl_data.specs.declared.csn.Uid.{Uid}
use Rattle.repl_data.specs.Order.{uid_cmp, uid_eq, suffix_id, put_by, by_order}
use Rattle.repl_data.specs.Facts.{EntryFacts}
use Rattle.repl_data.specs.Presence.{is_live, is_child, present_of, is_among_entries}
use Rattle.repl_data.specs.Names.{contends_with, is_before, with_id, shown_rdn}
use Rattle.repl_data.proofs.Orders.{uid_total, uid_exact}
use Rattle.repl_data.proofs.InOrder.{is_equal, Rises}
use Rattle.repl_data.proofs.Known.{eq_turned}
use Rattle.repl_data.proofs.Sound.{not_both}
use Rattle.repl_data.proofs.Steps.{filter-append}
use Rattle.repl_data.proofs.Bools.{either_true, or_false}
use Rattle.repl_data.proofs.Loops.{all_mono}
use Rattle.repl_data.proofs.Paths.{all_present}

abbrev pub id_of : EntryFacts → Uid
id_of e = e.id

-- ---- lists with one item more

pub any_last : {X : Type 0} (q : X → Bool) (xs : List X) (x : X) → list_any q (xs ++ x ∷ []) ≡ (list_any q xs || q x)
any_last q [] x = by (q x)
  where
    by : (b : Bool) → (b || false) ≡ b
    by true = refl
    by false = refl
any_last q (y ∷ xs) x = ap (λ b. q y || b) (any_last q xs x) ∙ by (q y)
  where
    by : (b : Bool) → (b || (list_any q xs || q x)) ≡ ((b || list_any q xs) || q x)
    by true = refl
    by false = refl

pub put_last : {X : Type 0} (key : X → Uid) (x : X) (xs : List X) → AllByRecursion (λ y. uid_cmp (key x) (key y) ≡ Greater) xs → put_by key uid_cmp x xs ≡ xs ++ x ∷ []
put_last key x [] h = refl
put_last key x (y ∷ xs) h = ap (λ o. by_order o (x ∷ y ∷ xs) (x ∷ xs) (y ∷ put_by key uid_cmp x xs)) h.0 ∙ ap (λ zs. y ∷ zs) (put_last key x xs h.1)

pub map_all : {X Y : Type 0} (g h : X → Y) (xs : List X) → AllByRecursion (λ x. g x ≡ h x) xs → map g xs ≡ map h xs
map_all g h [] e = refl
map_all g h (x ∷ xs) e = λ i. e.0 i ∷ map_all g h xs e.1 i

none_any : {X : Type 0} (q : X → Bool) (xs : List X) → AllByRecursion (λ x. q x ≡ false) xs → list_any q xs ≡ false
none_any q [] h = refl
none_any q (x ∷ xs) h = ap (λ b. b || list_any q xs) h.0 ∙ none_any q xs h.1

-- ---- presence

-- the entry p, where it is among these, is there without the new one
abbrev Keeps : Uid → List EntryFacts → Type 0
Keeps p [] = Unit {0}
Keeps p (e ∷ above) = (uid_eq p e.id ≡ true → (is_live e || list_any (is_child e.id) (present_of above)) ≡ true) × Keeps p above

absent_keeps : (p : Uid) (es : List EntryFacts) → AllByRecursion (λ e. uid_eq p e.id ≡ false) es → Keeps p es
absent_keeps p [] h = tt
absent_keeps p (e ∷ es) h = (λ s. absurd (not_both (uid_eq p e.id) s h.0), absent_keeps p es h.1)

above_differ : (p : Uid) (e : EntryFacts) (es : List EntryFacts) → uid_eq p e.id ≡ true → AllByRecursion (λ x. uid_cmp e.id x.id ≡ Less) es → AllByRecursion (λ x. uid_eq p x.id ≡ false) es
above_differ p e es s h =
    let at : p ≡ e.id = uid_exact p e.id (is_equal _ s) in
    all_mono (λ x. uid_cmp e.id x.id ≡ Less) (λ x. uid_eq p x.id ≡ false) (λ x l. ap (λ w. uid_eq w x.id) at ∙ ap is_eq l) es h

keeps_more : (p : Uid) (e : EntryFacts) (above : List EntryFacts) (b : Bool) → AllByRecursion (λ x. uid_cmp e.id x.id ≡ Less) above → (is_live e || list_any (is_child e.id) (present_of above)) ≡ b
    → is_among_entries (if b then e ∷ present_of above else present_of above) p ≡ true → (is_among_entries (present_of above) p ≡ true → Keeps p above) → Keeps p (e ∷ above)
keeps_more p e above true r k g rest =
    (λ _. k, either_true (uid_eq e.id p) (is_among_entries (present_of above) p) g (λ s. absent_keeps p above (above_differ p e above (eq_turned p e.id ∙ s) r)) rest)
keeps_more p e above false r k g rest = (
  λ s. absurd (not_both (is_among_entries (present_of above) p) g
      (none_any (λ (x : EntryFacts). uid_eq x.id p) (present_of above)
      (all_present (λ (x : EntryFacts). uid_eq x.id p ≡ false) above
      (all_mono (λ (x : EntryFacts). uid_eq p x.id ≡ false) (λ (x : EntryFacts). uid_eq x.id p ≡ false) (λ x n. eq_turned x.id p ∙ n) above (above_differ p e above s r))))),
  rest g,
)

pub present_keeps : (p : Uid) (es : List EntryFacts) → Rises uid_cmp uid_total id_of es → is_among_entries (present_of es) p ≡ true → Keeps p es
present_keeps p [] r h = tt
present_keeps p (e ∷ above) r h = keeps_more p e above (is_live e || list_any (is_child e.id) (present_of above)) r.0 refl h (present_keeps p above r.1)

pub present_more : (es : List EntryFacts) (f : EntryFacts) → is_live f ≡ true → Keeps f.parent es → present_of (es ++ f ∷ []) ≡ present_of es ++ f ∷ []
present_more [] f live k = ap (λ b. if b || false then f ∷ [] else []) live
present_more (e ∷ above) f live k =
    ap (λ rest. if is_live e || list_any (is_child e.id) rest then e ∷ rest else rest) (present_more above f live k.1)
    ∙ ap (λ b. if is_live e || b then e ∷ (present_of above ++ f ∷ []) else present_of above ++ f ∷ []) (any_last (is_child e.id) (present_of above) f)
    ∙ by (is_live e || list_any (is_child e.id) (present_of above)) refl
  where
    assoc : (a b c : Bool) → (a || (b || c)) ≡ ((a || b) || c)
    assoc true b c = refl
    assoc false b c = refl

    not_its_child : (is_live e || list_any (is_child e.id) (present_of above)) ≡ false → is_child e.id f ≡ false
    not_its_child n = parent (uid_eq f.parent e.id) refl
      where
        parent : (b : Bool) → uid_eq f.parent e.id ≡ b → (b && not (uid_eq f.id suffix_id)) ≡ false
        parent true s = absurd (not_both (is_live e || list_any (is_child e.id) (present_of above)) (k.0 s) n)
        parent false s = refl

    by : (b : Bool) → (is_live e || list_any (is_child e.id) (present_of above)) ≡ b
        → (if is_live e || (list_any (is_child e.id) (present_of above) || is_child e.id f) then e ∷ (present_of above ++ f ∷ []) else present_of above ++ f ∷ []) ≡ (if b then e ∷ present_of above else present_of above) ++ f ∷ []
    by true n = ap (λ b. if b then e ∷ (present_of above ++ f ∷ []) else present_of above ++ f ∷ []) (assoc (is_live e) (list_any (is_child e.id) (present_of above)) (is_child e.id f) ∙ ap (λ b. b || is_child e.id f) n)
    by false n = ap (λ b. if b then e ∷ (present_of above ++ f ∷ []) else present_of above ++ f ∷ []) (assoc (is_live e) (list_any (is_child e.id) (present_of above)) (is_child e.id f) ∙ (λ i. n i || not_its_child n i))

-- ---- tombstones

pub gone_more : (present es : List EntryFacts) (f : EntryFacts) → AllByRecursion (λ e. uid_eq f.id e.id ≡ false) es
    → filter (λ (e : EntryFacts). not (is_among_entries (present ++ f ∷ []) e.id)) (es ++ f ∷ []) ≡ filter (λ (e : EntryFacts). not (is_among_entries present e.id)) es
gone_more present es f h =
    filter-append (λ (e : EntryFacts). not (is_among_entries (present ++ f ∷ []) e.id)) es (f ∷ [])
    ∙ (λ i. others es h i ++ own i)
    ∙ append-nil (filter (λ (e : EntryFacts). not (is_among_entries present e.id)) es)
  where
    own : filter (λ (e : EntryFacts). not (is_among_entries (present ++ f ∷ []) e.id)) (f ∷ []) ≡ []
    own =
        let there : is_among_entries (present ++ f ∷ []) f.id ≡ true =
        any_last (λ (e : EntryFacts). uid_eq e.id f.id) present f ∙ or_right (is_among_entries present f.id) (uid_eq f.id f.id) (ap is_eq (tied_itself uid_total f.id)) in
        ap (λ b. cond (not b) (f ∷ []) []) there

    others : (xs : List EntryFacts) → AllByRecursion (λ e. uid_eq f.id e.id ≡ false) xs → filter (λ (e : EntryFacts). not (is_among_entries (present ++ f ∷ []) e.id)) xs ≡ filter (λ (e : EntryFacts). not (is_among_entries present e.id)) xs
    others [] n = refl
    others (x ∷ xs) n =
        let same : is_among_entries (present ++ f ∷ []) x.id ≡ is_among_entries present x.id =
        any_last (λ (e : EntryFacts). uid_eq e.id x.id) present f ∙ ap (λ b. is_among_entries present x.id || b) n.0 ∙ or_false (is_among_entries present x.id) in
        λ i. cond (not (same i)) (x ∷ others xs n.1 i) (others xs n.1 i)

-- ---- names

-- an entry keeps its shown name where the new one does not come before it
pub name_stays : (present : List EntryFacts) (f e : EntryFacts) → (contends_with e f && is_before f e) ≡ false → shown_rdn (present ++ f ∷ []) e ≡ shown_rdn present e
name_stays present f e h =
    ap (λ b. if not b then e.rdn else with_id e.id e.rdn)
    (any_last (λ g. contends_with e g && is_before g e) present f
    ∙ ap (λ b. list_any (λ g. contends_with e g && is_before g e) present || b) h
    ∙ or_false (list_any (λ g. contends_with e g && is_before g e) present))

-- and the new one has its name where none contends with it
pub name_new : (present : List EntryFacts) (f : EntryFacts) → list_any (λ g. contends_with f g && is_before g f) present ≡ false → (contends_with f f && is_before f f) ≡ false → shown_rdn (present ++ f ∷ []) f ≡ f.rdn
name_new present f h g =
    ap (λ b. if not b then f.rdn else with_id f.id f.rdn)
    (any_last (λ x. contends_with f x && is_before x f) present f ∙ (λ i. h i || g i))

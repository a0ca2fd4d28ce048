-- An entry stands in the view, present or as a tombstone, exactly if it was ever added.
use Rattle.std.proofs.Common.{◌≡◌, Bool, true, false, cond, List, [], ◌∷◌, map, refl, sym, ap, ◌∙◌}
use Rattle.std.specs.Prelude.{◌||◌, not, filter}
use Rattle.std.specs.List.{list_any}
use Rattle.std.specs.Ordering.{is_eq, ordering_reverse}
use Rattle.std.proofs.lemmas.Cmp.{tied_itself}
use Rattle.std.specs.declared.cmp.Ordering.{Ordering}
use Rattle.std.specs.declared.cmp.Ordering.TheVariants.{Less, Equal, Greater}
use Rattle.repl_data.specs.declared.csn.Uid.{Uid}
use Rattle.repl_data.specs.declared.change.Change.{Change}
use Rattle.repl_data.specs.declared.change.Suffix.{Suffix}
use Rattle.repl_data.specs.Order.{uid_cmp, uid_eq, suffix_id}
use Rattle.repl_data.specs.Facts.{EntryFacts, entry_facts, all_facts, added_ids, ids_known, attrs_shown}
use Rattle.repl_data.specs.Presence.{is_live, is_child, present_of, gone_of, is_among_entries}
use Rattle.repl_data.specs.Names.{shown_rdn}
use Rattle.repl_data.specs.View.{PresentEntry, Tombstone, view_of, is_known_in}
use Rattle.repl_data.specs.Closed.{is_known}
use Rattle.repl_data.proofs.Orders.{uid_total, uid_exact}
use Rattle.repl_data.proofs.InOrder.{is_equal, any-in_order_by}
use Rattle.repl_data.proofs.Bools.{either_second}

pub any_map : {X Y : Type 0} (q : Y → Bool) (f : X → Y) (xs : List X) → list_any q (map f xs) ≡ list_any (λ x. q (f x)) xs
any_map q f [] = refl
any_map q f (x ∷ xs) = ap (λ r. q (f x) || r) (any_map q f xs)

pub own_id : (u : Uid) → uid_eq u u ≡ true
own_id u = ap is_eq (tied_itself uid_total u)

pub same_id : (u v : Uid) → uid_eq u v ≡ true → u ≡ v
same_id u v h = uid_exact u v (is_equal (uid_cmp u v) h)

pub above_id : (u v : Uid) → uid_cmp u v ≡ Less → uid_cmp v u ≡ Greater
above_id u v h = uid_total.antisymm v u ∙ ap ordering_reverse h

pub eq_turned : (u v : Uid) → uid_eq u v ≡ uid_eq v u
eq_turned u v = ap is_eq (uid_total.antisymm u v) ∙ by (uid_cmp v u)
  where
    by : (o : Ordering) → is_eq (ordering_reverse o) ≡ is_eq o
    by Less = refl
    by Equal = refl
    by Greater = refl

-- a present entry is one of the entries
among_present : (es : List EntryFacts) (u : Uid) → is_among_entries (present_of es) u ≡ true → is_among_entries es u ≡ true
among_present [] u h = h
among_present (e ∷ above) u h = by (is_live e || list_any (is_child e.id) (present_of above)) (uid_eq e.id u) h (among_present above u)
  where
    by : (chosen same : Bool) → is_among_entries (cond chosen (e ∷ present_of above) (present_of above)) u ≡ true → (is_among_entries (present_of above) u ≡ true → is_among_entries above u ≡ true) → (uid_eq e.id u || is_among_entries above u) ≡ true
    by true same g more = other (uid_eq e.id u) g more
      where
        other : (b : Bool) → (b || is_among_entries (present_of above) u) ≡ true → (is_among_entries (present_of above) u ≡ true → is_among_entries above u ≡ true) → (b || is_among_entries above u) ≡ true
        other true g more = refl
        other false g more = more g
    by false same g more = either_second (uid_eq e.id u) (is_among_entries above u) (more g)

-- where u is not present, the entries of its id are those that are gone
among_gone : (present es : List EntryFacts) (u : Uid) → is_among_entries present u ≡ false → is_among_entries (filter (λ (e : EntryFacts). not (is_among_entries present e.id)) es) u ≡ is_among_entries es u
among_gone present [] u h = refl
among_gone present (e ∷ es) u h = by (uid_eq e.id u) refl (not (is_among_entries present e.id)) refl (among_gone present es u h)
  where
    by : (same : Bool) → uid_eq e.id u ≡ same → (kept : Bool) → not (is_among_entries present e.id) ≡ kept →
        is_among_entries (filter (λ (e : EntryFacts). not (is_among_entries present e.id)) es) u ≡ is_among_entries es u →
        is_among_entries (cond kept (e ∷ filter (λ (e : EntryFacts). not (is_among_entries present e.id)) es) (filter (λ (e : EntryFacts). not (is_among_entries present e.id)) es)) u ≡ (uid_eq e.id u || is_among_entries es u)
    by same s true k more = ap (λ r. uid_eq e.id u || r) more
    by false s false k more = more ∙ sym (ap (λ b. b || is_among_entries es u) s)
    by true s false k more =
        let at : e.id ≡ u = uid_exact e.id u (is_equal (uid_cmp e.id u) s) in
        let none : not (is_among_entries present e.id) ≡ true = ap (λ v. not (is_among_entries present v)) at ∙ ap not h in
        let clash : false ≡ true = sym k ∙ none in
        cc

among_both : (es : List EntryFacts) (u : Uid) → (is_among_entries (present_of es) u || is_among_entries (gone_of es) u) ≡ is_among_entries es u
among_both es u = by (is_among_entries (present_of es) u) refl
  where
    by : (b : Bool) → is_among_entries (present_of es) u ≡ b → (is_among_entries (present_of es) u || is_among_entries (gone_of es) u) ≡ is_among_entries es u
    by true h = ap (λ b. b || is_among_entries (gone_of es) u) h ∙ sym (among_present es u h)
    by false h = ap (λ b. b || is_among_entries (gone_of es) u) h ∙ among_gone (present_of es) es u h

pub known_ids : (suffix : Suffix) (changes : List Change) (u : Uid) → is_among_entries (all_facts suffix changes) u ≡ is_known changes u
known_ids suffix changes u =
    any_map (λ (e : EntryFacts). uid_eq e.id u) (entry_facts suffix changes) (ids_known changes)
    ∙ any-in_order_by uid_cmp uid_total (λ (v : Uid). v) uid_exact (λ (v : Uid). uid_eq v u) (suffix_id ∷ added_ids changes)
    ∙ (λ i. eq_turned suffix_id u i || list_any (λ (v : Uid). eq_turned v u i) (added_ids changes))

-- an entry of the view, by what is known of it
abbrev pub present_entry : List EntryFacts → EntryFacts → PresentEntry
present_entry present e = record { id = e.id; parent = e.parent; name = e.rdn; shown = shown_rdn present e; is_glue = not (is_live e); attrs = attrs_shown e }

abbrev pub tombstone : EntryFacts → Tombstone
tombstone e = record { id = e.id; parent = e.parent; name = e.rdn; attrs = attrs_shown e }

pub known_by_view : (suffix : Suffix) (changes : List Change) (u : Uid) → is_known_in (view_of suffix changes) u ≡ is_known changes u
known_by_view suffix changes u =
    (λ i. any_map (λ (e : PresentEntry). uid_eq e.id u) (present_entry (present_of (all_facts suffix changes))) (present_of (all_facts suffix changes)) i
    || any_map (λ (e : Tombstone). uid_eq e.id u) tombstone (gone_of (all_facts suffix changes)) i)
    ∙ among_both (all_facts suffix changes) u
    ∙ known_ids suffix changes u

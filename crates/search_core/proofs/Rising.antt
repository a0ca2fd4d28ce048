-- The attributes of each entry stand in order of name, in the view of any changes.
use Rattle.std.proofs.Common.{◌≡◌, ℕ, ◌||◌, List, [], ◌∷◌, ◌++◌, map}
use Rattle.std.specs.Prelude.{flat_map, not}
use Rattle.std.specs.List.{AllByRecursion}
use Rattle.std.specs.declared.cmp.Ordering.TheVariants.{Less}
use Rattle.repl_data.specs.declared.csn.Uid.{Uid}
use Rattle.repl_data.specs.declared.change.AttrKey.{AttrKey}
use Rattle.repl_data.specs.declared.change.Attr.{Attr}
use Rattle.repl_data.specs.declared.change.Val.{Val}
use Rattle.repl_data.specs.declared.change.Rdn.{Rdn}
use Rattle.repl_data.specs.declared.change.Change.{Change}
use Rattle.repl_data.specs.declared.change.Suffix.{Suffix}
use Rattle.repl_data.specs.Order.{bytes_cmp, in_order_by}
use Rattle.repl_data.specs.Ordered.{Rises}
use Rattle.repl_data.specs.Stamps.{Act, acts_on, of_entry}
use Rattle.repl_data.specs.Facts.{AttrFacts, EntryFacts, attr_of, attr_facts, attrs_facts, entry_facts, ids_known, all_facts, vals_shown, with_values, attrs_shown}
use Rattle.repl_data.specs.Presence.{present_of, gone_of, is_among_entries}
use Rattle.repl_data.specs.View.{PresentEntry, view_of}
use Rattle.repl_data.proofs.Orders.{bytes_total}
use Rattle.repl_data.proofs.InOrder.{in_order_by-Rises}
use Rattle.repl_data.proofs.Known.{present_entry, tombstone}
use Rattle.repl_data.proofs.Loops.{all_map, all_filter}
use Rattle.repl_data.proofs.Paths.{all_present}
use Rattle.search_core.specs.Tree.{attr_name, HasRisingAttrs, HadRisingAttrs}

abbrev facts_name : AttrFacts → List ℕ
facts_name a = a.attr.name

abbrev type_name : AttrKey → List ℕ
type_name t = t.name

abbrev shown_in : Rdn → AttrFacts → List Attr
shown_in rdn a = with_values a.attr (vals_shown rdn a)

all_shown : (rdn : Rdn) (k : List ℕ) (as' : List AttrFacts) → AllByRecursion (λ (b : AttrFacts). bytes_cmp k b.attr.name ≡ Less) as' → AllByRecursion (λ (y : Attr). bytes_cmp k y.attr.name ≡ Less) (flat_map (shown_in rdn) as')
all_shown rdn k [] h = tt
all_shown rdn k (a ∷ as') h = by (vals_shown rdn a) (all_shown rdn k as' h.1)
  where
    by : (vals : List Val) → AllByRecursion (λ (y : Attr). bytes_cmp k y.attr.name ≡ Less) (flat_map (shown_in rdn) as') → AllByRecursion (λ (y : Attr). bytes_cmp k y.attr.name ≡ Less) (with_values a.attr vals ++ flat_map (shown_in rdn) as')
    by [] more = more
    by (v ∷ vals) more = (h.0, more)

shown_rise : (rdn : Rdn) (as' : List AttrFacts) → Rises facts_name as' → Rises attr_name (flat_map (shown_in rdn) as')
shown_rise rdn [] h = tt
shown_rise rdn (a ∷ as') h = by (vals_shown rdn a) (shown_rise rdn as' h.1) (all_shown rdn a.attr.name as' h.0)
  where
    by : (vals : List Val) → Rises attr_name (flat_map (shown_in rdn) as') → AllByRecursion (λ (y : Attr). bytes_cmp a.attr.name y.attr.name ≡ Less) (flat_map (shown_in rdn) as') → Rises attr_name (with_values a.attr vals ++ flat_map (shown_in rdn) as')
    by [] more above = more
    by (v ∷ vals) more above = (above, more)

facts_rise : (acts : List Act) (ts : List AttrKey) → Rises type_name ts → Rises facts_name (map (attr_facts acts) ts)
facts_rise acts [] h = tt
facts_rise acts (t ∷ ts) h = (all_map (λ (a : AttrFacts). bytes_cmp t.name a.attr.name ≡ Less) (attr_facts acts) ts h.0, facts_rise acts ts h.1)

attrs_rise : (acts : List Act) → Rises facts_name (attrs_facts acts)
attrs_rise acts = facts_rise acts (in_order_by type_name bytes_cmp (map attr_of acts)) (in_order_by-Rises bytes_cmp bytes_total type_name (map attr_of acts))

abbrev ShowsRising : EntryFacts → Type 0
ShowsRising e = Rises attr_name (attrs_shown e)

each_rises : (suffix : Suffix) (xs : List Change) (us : List Uid) → AllByRecursion ShowsRising (map (entry_facts suffix xs) us)
each_rises suffix xs [] = tt
each_rises suffix xs (u ∷ us) = (shown_rise (entry_facts suffix xs u).rdn (attrs_facts (acts_on suffix u (of_entry xs u))) (attrs_rise (acts_on suffix u (of_entry xs u))), each_rises suffix xs us)

pub view_rises : (suffix : Suffix) (xs : List Change) → AllByRecursion HasRisingAttrs (view_of suffix xs).present
view_rises suffix xs =
    all_map HasRisingAttrs (present_entry (present_of (all_facts suffix xs))) (present_of (all_facts suffix xs))
    (all_present ShowsRising (all_facts suffix xs) (each_rises suffix xs (ids_known xs)))

pub gone_rises : (suffix : Suffix) (xs : List Change) → AllByRecursion HadRisingAttrs (view_of suffix xs).gone
gone_rises suffix xs =
    all_map HadRisingAttrs tombstone (gone_of (all_facts suffix xs))
    (all_filter ShowsRising (λ (e : EntryFacts). not (is_among_entries (present_of (all_facts suffix xs)) e.id)) (all_facts suffix xs) (each_rises suffix xs (ids_known xs)))

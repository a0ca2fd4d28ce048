-- TOMBSTONES, one seat after the other.
use Rattle.std.proofs.Common.{◌≡◌, ℕ, List, [], ◌∷◌, ◌++◌, map, filter, Bool, true, false, cond, not, Option, Some, None, refl, sym, ap, ◌∙◌}
use Rattle.std.specs.BTreeMap.{BTreeMap, IsOrdered as HasOrderedKeys}
use Rattle.repl_data.specs.declared.csn.Uid.{Uid}
use Rattle.repl_data.specs.Order.{uid_cmp}
use Rattle.repl_data.specs.Facts.{EntryFacts}
use Rattle.repl_data.specs.Presence.{gone_of, present_of, is_among_entries}
use Rattle.repl_data.specs.View.{Tombstone, view_of_facts, tombstones_of}
use Rattle.urp_tree.specs.declared.row.Row.{Row}
use Rattle.urp_tree.specs.Rows.{row_at, fact_of, facts_in}
use Rattle.urp_tree.specs.Known.{IsTree}
use Rattle.urp_tree.specs.Climb.{Shows, Hides}
use Rattle.urp_tree.specs.Seen.{tombstone, gone_ids}
use Rattle.urp_tree.proofs.Seen.{gone_is, shows_among, hides_among}
use Rattle.urp_tree.proofs.Fits.{row_id}

-- one seat more
pub gone_more : (es : List EntryFacts) (o : Option Row) (more : List EntryFacts) → gone_ids es (fact_of o ++ more) ≡ gone_ids es (fact_of o) ++ gone_ids es more
gone_more es None more = refl
gone_more es (Some r) more = by (not (is_among_entries (present_of es) r.entry.id))
  where
    rest : List EntryFacts
    rest = filter (λ (e : EntryFacts). not (is_among_entries (present_of es) e.id)) more

    by : (b : Bool) → map (λ (e : EntryFacts). e.id) (cond b (r.entry ∷ rest) rest) ≡ map (λ (e : EntryFacts). e.id) (cond b (r.entry ∷ []) []) ++ map (λ (e : EntryFacts). e.id) rest
    by true = refl
    by false = refl

names : (gs : List EntryFacts) → map (λ (e : Tombstone). e.id) (map tombstone gs) ≡ map (λ (e : EntryFacts). e.id) gs
names [] = refl
names (g ∷ gs) = ap (λ us. g.id ∷ us) (names gs)

pub gone_all : (suffix : List ℕ) (es : List EntryFacts) → gone_ids es es ≡ tombstones_of (view_of_facts suffix es)
gone_all suffix es = sym (names (gone_of es))

module _ (rows : BTreeMap Uid (Option Row)) (tree : IsTree rows None []) (ordered : HasOrderedKeys uid_cmp rows) (u : Uid) (r : Row) (there : row_at rows u ≡ Some r) where
  abbrev facts : List EntryFacts
  facts = facts_in rows.entries

  abbrev taken_if : Bool → List Uid
  taken_if b = map (λ (e : EntryFacts). e.id) (cond b (r.entry ∷ []) [])

  pub gone_one : Hides r.entry r.children → gone_ids facts (r.entry ∷ []) ≡ u ∷ []
  gone_one h = ap taken_if (gone_is rows tree ordered u r there false (hides_among rows tree ordered u r there h)) ∙ ap (λ v. v ∷ []) (row_id rows tree ordered u r there)

  pub gone_not : Shows r.entry r.children → gone_ids facts (r.entry ∷ []) ≡ []
  gone_not s = ap taken_if (gone_is rows tree ordered u r there true (shows_among rows tree ordered u r there s))

-- What is lent of a tombstone.
use Rattle.std.proofs.Common.{◌≡◌, ℕ, List, Option, Some, None, map, sym, ap, ◌∙◌}
use Rattle.std.specs.Prelude.{option_map}
use Rattle.repl_data.specs.declared.csn.Uid.{Uid}
use Rattle.repl_data.specs.Facts.{EntryFacts}
use Rattle.repl_data.specs.View.{Tombstone, view_of_facts, user}
use Rattle.repl_data.specs.Lent.{tombstone_own_of, tombstone_parent_of}
use Rattle.urp_tree.specs.declared.row.Row.{Row}
use Rattle.urp_tree.specs.Seen.{IsGoneRow, IsKept}

pub gone_own_kept : (es : List EntryFacts) (u : Uid) (r : Row) → IsGoneRow es u (Some r) → IsKept es r → (suffix : List ℕ) → Some r.shown ≡ tombstone_own_of (view_of_facts suffix es) u
gone_own_kept es u r h k suffix = ap Some k.shown ∙ ap (option_map (λ (e : Tombstone). map user e.attrs)) (sym (h suffix))

pub gone_own_none : (es : List EntryFacts) (u : Uid) → IsGoneRow es u None → (suffix : List ℕ) → None ≡ tombstone_own_of (view_of_facts suffix es) u
gone_own_none es u h suffix = ap (option_map (λ (e : Tombstone). map user e.attrs)) (sym (h suffix))

pub gone_parent_kept : (es : List EntryFacts) (u : Uid) (r : Row) → IsGoneRow es u (Some r) → (suffix : List ℕ) → Some r.entry.parent ≡ tombstone_parent_of (view_of_facts suffix es) u
gone_parent_kept es u r h suffix = ap (option_map (λ (e : Tombstone). e.parent)) (sym (h suffix))

pub gone_parent_none : (es : List EntryFacts) (u : Uid) → IsGoneRow es u None → (suffix : List ℕ) → None ≡ tombstone_parent_of (view_of_facts suffix es) u
gone_parent_none es u h suffix = ap (option_map (λ (e : Tombstone). e.parent)) (sym (h suffix))

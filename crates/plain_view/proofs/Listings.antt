-- Sorting what is listed sorts the entries.
use Rattle.std.proofs.Common.{◌≡◌, List, map, ap, sym, ◌∙◌}
use Rattle.std.specs.Prelude.{reverse}
use Rattle.std.specs.Cmp.Lexicographic.{slice_cmp}
use Rattle.std.specs.Ordering.{ordering_then}
use Rattle.std.specs.declared.cmp.Ordering.{Ordering}
use Rattle.repl_data.specs.declared.change.Rdn.{Rdn}
use Rattle.repl_data.specs.Order.{uid_cmp, rdn_key, rdn_key_cmp, in_order, in_order_by}
use Rattle.repl_data.specs.View.{DirectoryView, PresentEntry, shown_key, shown_key_cmp, path_of, path_key, path_key_cmp, present_shown, dump_of}
use Rattle.plain_view.specs.declared.view.Child.{Child}
use Rattle.plain_view.specs.declared.view.Listed.{Listed}
use Rattle.plain_view.specs.Listing.{child, listed}
use Rattle.repl_data.proofs.Loops.{map_map, in_order_by_order, in_order_map, slice_cmp_map}
use Rattle.plain_view.proofs.Views.{in_order_same, reverse_map}

abbrev pub child_order : Child → Child → Ordering
child_order a b = ordering_then (rdn_key_cmp (rdn_key a.shown) (rdn_key b.shown)) (uid_cmp a.id b.id)

pub children_sorted : (es : List PresentEntry) → map (λ (c : Child). c.id) (in_order child_order (map child es)) ≡ map (λ (e : PresentEntry). e.id) (in_order_by shown_key shown_key_cmp es)
children_sorted es =
    ap (map (λ (c : Child). c.id)) (sym (in_order_map (λ (c : Child). c) child_order child es))
    ∙ map_map (λ (c : Child). c.id) child (in_order_by child child_order es)
    ∙ ap (map (λ (e : PresentEntry). e.id)) (in_order_by_order child child_order es ∙ sym (in_order_by_order shown_key shown_key_cmp es))

abbrev pub listed_order : Listed → Listed → Ordering
listed_order a b = ordering_then (slice_cmp (λ (x : Rdn) (y : Rdn). rdn_key_cmp (rdn_key x) (rdn_key y)) a.path b.path) (uid_cmp a.shown.id b.shown.id)

same_order : (v : DirectoryView) (a b : PresentEntry) → listed_order (listed v a) (listed v b) ≡ path_key_cmp (path_key v a) (path_key v b)
unfolding listed
same_order v a b =
    ap (λ o. ordering_then o (uid_cmp a.id b.id))
    (sym (slice_cmp_map rdn_key rdn_key_cmp (reverse (path_of v a.id)) (reverse (path_of v b.id)))
    ∙ (λ i. slice_cmp rdn_key_cmp (sym (reverse_map rdn_key (path_of v a.id)) i) (sym (reverse_map rdn_key (path_of v b.id)) i)))

shown_of_listed : (v : DirectoryView) (es : List PresentEntry) → map (λ (l : Listed). l.shown) (map (listed v) es) ≡ map (present_shown v) es
unfolding listed
shown_of_listed v es = map_map (λ (l : Listed). l.shown) (listed v) es

pub dump_sorted : (v : DirectoryView) → map (λ (l : Listed). l.shown) (in_order listed_order (map (listed v) v.present)) ≡ dump_of v
dump_sorted v =
    ap (map (λ (l : Listed). l.shown)) (sym (in_order_map (λ (l : Listed). l) listed_order (listed v) v.present))
    ∙ shown_of_listed v (in_order_by (listed v) listed_order v.present)
    ∙ ap (map (present_shown v))
    (in_order_by_order (listed v) listed_order v.present
    ∙ in_order_same (λ a b. listed_order (listed v a) (listed v b)) (λ a b. path_key_cmp (path_key v a) (path_key v b)) (same_order v) v.present
    ∙ sym (in_order_by_order (path_key v) path_key_cmp v.present))

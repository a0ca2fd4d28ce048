-- The attributes of an entry as it shows stand in order of name.
use Rattle.std.proofs.Common.{◌≡◌, List, [], ◌∷◌, ◌++◌, Option, Some, None, cond, map, subst}
use Rattle.std.specs.Prelude.{option_map, codes}
use Rattle.repl_data.specs.declared.csn.Uid.{Uid}
use Rattle.repl_data.specs.declared.change.Attr.{Attr}
use Rattle.repl_data.specs.declared.change.Shown.{Shown}
use Rattle.repl_data.specs.declared.change.ShownEntry.{ShownEntry}
use Rattle.repl_data.specs.Order.{bytes_cmp}
use Rattle.repl_data.specs.Ordered.{Rises}
use Rattle.repl_data.specs.View.{DirectoryView, PresentEntry, Tombstone, user, with_operational, operational, id_val, conflicts, lost_dn, with_class, glue_class, tombstone_class, present_at, gone_at, present_shown, tombstone_shown, entry_of, tombstone_of}
use Rattle.repl_data.proofs.Orders.{bytes_total}
use Rattle.repl_data.proofs.InOrder.{in_order_by-Rises}
use Rattle.filter_truth.specs.Truth.{name_of}

from_map : {X Y : Type 0} (f : X → Y) (o : Option X) (y : Y) → option_map f o ≡ Some y → (x : X) × (f x ≡ y)
from_map {Y = Y} f None y h = let e : ◌≡◌ {A = Option Y} None (Some y) = h in absurd cc
from_map f (Some x) y h = let e : f x ≡ y = cc in (x, e)

shown_rises : (own : List Shown) (attrs : List Attr) → Rises name_of (with_operational own attrs)
shown_rises own attrs = in_order_by-Rises bytes_cmp bytes_total name_of (own ++ map user attrs)

present_rises : (v : DirectoryView) (e : PresentEntry) → Rises name_of (present_shown v e).attrs
present_rises v e =
    shown_rises (operational (codes "nsuniqueid") (id_val e.id ∷ []) ++ operational (codes "nsds5replconflict") (conflicts e.is_glue (lost_dn v e))) (cond e.is_glue (with_class glue_class e.attrs) e.attrs)

gone_rises : (v : DirectoryView) (e : Tombstone) → Rises name_of (tombstone_shown v e).attrs
gone_rises v e =
    shown_rises (operational (codes "nsuniqueid") (id_val e.id ∷ []) ++ operational (codes "nsparentuniqueid") (id_val e.parent ∷ [])) (with_class tombstone_class e.attrs)

pub entry_rises : (v : DirectoryView) (u : Uid) (e : ShownEntry) → entry_of v u ≡ Some e → Rises name_of e.attrs
entry_rises v u e h =
    let r = from_map (present_shown v) (present_at v u) e h in
    subst (λ (s : ShownEntry). Rises name_of s.attrs) r.1 (present_rises v r.0)

pub tombstone_rises : (v : DirectoryView) (u : Uid) (e : ShownEntry) → tombstone_of v u ≡ Some e → Rises name_of e.attrs
tombstone_rises v u e h =
    let r = from_map (tombstone_shown v) (gone_at v u) e h in
    subst (λ (s : ShownEntry). Rises name_of s.attrs) r.1 (gone_rises v r.0)

use Rattle.std.proofs.Common.{◌≡◌, ℕ, List, [], ◌∷◌, ◌++◌, Bool, true, false, cond, map, filter, Option, Some, None, refl, sym, ap, subst, ◌∙◌, append-nil, append_assoc}
use Rattle.std.specs.Prelude.{option_map}
use Rattle.std.specs.Option.{option_copied}
use Rattle.repl_data.specs.declared.csn.Uid.{Uid}
use Rattle.repl_data.specs.declared.change.Rdn.{Rdn}
use Rattle.view_snap.specs.Told.{Told, view_of_rows, standing_with, gone_ids}
use Rattle.view_snap.specs.Maps.{told_at}
use Rattle.repl_data.specs.View.{DirectoryView, path_of, dn_of, dn_below, shown_present, shown_gone, tombstone_rdn}
use Rattle.urp_tree.proofs.Fits.{on_each}
use Rattle.view_snap.specs.Shown.{IsPresentChild, lost_with, shown_with, gone_with}
use Rattle.view_snap.proofs.shown.dn.Goals as goal

pub returns : goal.returns
returns c =
    c.in_ok-dn.ensures
    ∙ ap (λ (rdns : List Rdn). dn_below (view_of_rows c.args.suffix.now c.args.entries.now) rdns) (c.as_slice.ensures ∙ c.in_ok-path.ensures c.args.suffix.now)

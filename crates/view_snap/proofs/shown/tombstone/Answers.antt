use Rattle.std.proofs.Common.{◌≡◌, ℕ, List, [], ◌∷◌, ◌++◌, Bool, true, false, cond, map, filter, Option, Some, None, refl, sym, ap, subst, ◌∙◌, append-nil, append_assoc}
use Rattle.std.specs.Prelude.{option_map}
use Rattle.std.specs.Option.{option_copied}
use Rattle.repl_data.specs.declared.csn.Uid.{Uid}
use Rattle.repl_data.specs.declared.change.Rdn.{Rdn}
use Rattle.view_snap.specs.Told.{Told, view_of_rows, standing_with, gone_ids}
use Rattle.view_snap.specs.Maps.{told_at}
use Rattle.repl_data.specs.View.{DirectoryView, path_of, dn_of, dn_below, shown_present, shown_gone, tombstone_rdn}
use Rattle.urp_tree.proofs.Fits.{on_each}
use Rattle.view_snap.specs.Shown.{IsPresentChild, lost_with, shown_with, gone_with}
use Rattle.view_snap.proofs.Entries.{tombstone_is}
use Rattle.view_snap.proofs.shown.tombstone.Goals as goal

pub returns-in_ok-gone_shown-in-Some : goal.returns-in_ok-gone_shown-in-Some
returns-in_ok-gone_shown-in-Some c =
    ap Some (c.in_ok-gone_shown-in-Some.ensures c.args.entries.now)
    ∙ ap (option_map (gone_with (view_of_rows c.args.suffix.now c.args.entries.now) c.args.id)) (sym (ap option_copied c.in-Some.is) ∙ c.gone.ensures)
    ∙ tombstone_is c.args.suffix.now c.args.entries.now c.requires c.args.id

pub returns-in-None : goal.returns-in-None
returns-in-None c =
    ap (option_map (gone_with (view_of_rows c.args.suffix.now c.args.entries.now) c.args.id)) (sym (ap option_copied c.in-None.is) ∙ c.gone.ensures)
    ∙ tombstone_is c.args.suffix.now c.args.entries.now c.requires c.args.id

use Rattle.std.proofs.Common.{◌≡◌, ℕ, List, [], ◌∷◌, ◌++◌, Bool, true, false, cond, map, filter, Option, Some, None, refl, sym, ap, subst, ◌∙◌, append-nil, append_assoc}
use Rattle.std.specs.Prelude.{option_map}
use Rattle.std.specs.Option.{option_copied}
use Rattle.repl_data.specs.declared.csn.Uid.{Uid}
use Rattle.repl_data.specs.declared.change.Rdn.{Rdn}
use Rattle.view_snap.specs.Told.{Told, view_of_rows, standing_with, gone_ids}
use Rattle.view_snap.specs.Maps.{told_at}
use Rattle.repl_data.specs.View.{DirectoryView, path_of, dn_of, dn_below, shown_present, shown_gone, tombstone_rdn}
use Rattle.urp_tree.proofs.Fits.{on_each}
use Rattle.view_snap.specs.Shown.{IsPresentChild, lost_with, shown_with, gone_with}
use Rattle.view_snap.specs.Maps.{spot_in}
use Rattle.view_snap.proofs.Spots.{root_nowhere, gone_nowhere}
use Rattle.view_snap.proofs.shown.child_at.Goals as goal

pub returns-then-is_root : goal.returns-then-is_root
returns-then-is_root c = root_nowhere c.args.id (sym c.is_root.ensures ∙ c.if-is_root.true) (told_at c.args.entries.now c.args.id)

pub returns-in_default : goal.returns-in_default
returns-in_default c = ap (spot_in c.args.id) (sym c.found.ensures ∙ ap option_copied c.in_default.is)

pub returns-then-is_present : goal.returns-then-is_present
returns-then-is_present c = record {
  there = sym c.found.ensures ∙ ap option_copied c.in-Some.is;
  present = sym c.is_present.ensures ∙ c.if-is_present.true;
  child = sym c.is_root.ensures ∙ c.if-is_root.false;
}

pub returns : goal.returns
returns c = ap (spot_in c.args.id) (sym c.found.ensures ∙ ap option_copied c.in-Some.is) ∙ gone_nowhere c.args.id c.in-Some.seen.now (sym c.is_present.ensures ∙ c.if-is_present.false)

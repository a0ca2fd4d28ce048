use Rattle.std.proofs.Common.{◌≡◌, ℕ, List, [], ◌∷◌, ◌++◌, Bool, true, false, cond, map, filter, Option, Some, None, refl, sym, ap, subst, ◌∙◌, append-nil, append_assoc}
use Rattle.std.specs.Prelude.{option_map}
use Rattle.std.specs.Option.{option_copied}
use Rattle.repl_data.specs.declared.csn.Uid.{Uid}
use Rattle.repl_data.specs.declared.change.Rdn.{Rdn}
use Rattle.view_snap.specs.Told.{Told, view_of_rows, standing_with, gone_ids}
use Rattle.view_snap.specs.Maps.{told_at}
use Rattle.urp_tree.proofs.Fits.{on_each}
use Rattle.view_snap.proofs.Listed.{ids_are}
use Rattle.view_snap.proofs.listing.children.Goals as goal

pub ids_below-requires : goal.ids_below-requires
ids_below-requires c = c.requires.below

pub returns : goal.returns
returns c = on_each c.ids_below.result (λ ids h. λ suffix. h ∙ ids_are suffix c.args.maps.now c.requires c.args.parent) c.ids_below.ensures

use Rattle.std.proofs.Common.{◌≡◌, ℕ, List, [], ◌∷◌, ◌++◌, Bool, true, false, cond, map, filter, Option, Some, None, refl, sym, ap, subst, ◌∙◌, append-nil, append_assoc}
use Rattle.std.specs.Prelude.{option_map}
use Rattle.std.specs.Option.{option_copied}
use Rattle.repl_data.specs.declared.csn.Uid.{Uid}
use Rattle.repl_data.specs.declared.change.Rdn.{Rdn}
use Rattle.view_snap.specs.Told.{Told, view_of_rows, standing_with, gone_ids}
use Rattle.view_snap.specs.Maps.{told_at}
use Rattle.view_snap.proofs.Listed.{child_is}
use Rattle.view_snap.proofs.listing.child.Goals as goal

pub first_named-requires : goal.first_named-requires
first_named-requires c = c.requires.below

pub returns : goal.returns
returns c = λ suffix. c.first_named.ensures ∙ child_is suffix c.args.maps.now c.requires c.args.parent c.args.rdn.now

use Rattle.std.proofs.Common.{◌≡◌, map, take}
use Rattle.std.specs.Prelude.{flat_map}
use Rattle.repl_data.specs.Order.{in_order}
use Rattle.repl_data.specs.View.{shown_key_cmp}
use Rattle.urp_tree.specs.Listed.{kid_key, kids_at}
use Rattle.urp_tree.proofs.listing.sorted.Given as goal

abbrev pub invariant-loop-id : goal.invariant-loop-id
invariant-loop-id l = map kid_key l.kids.keys ≡ in_order shown_key_cmp (flat_map (kids_at l.rows) (take l.id-index l.ids))

use Rattle.std.proofs.Common.{Some, sym, ap, ◌∙◌}
use Rattle.cow_map.proofs.Entries.{lookup_at_place, lookup_at_gap}
use Rattle.cow_map.proofs.rows.value_in.Goals as goal

pub returns-in-Ok : goal.returns-in-Ok
returns-in-Ok g c =
    ap Some c.value.ensures ∙ sym (lookup_at_place g.K.Ord.cmp c.args.key.now c.args.rows.now c.in-Ok.at c.index-rows-at.result c.in-Ok.ensures c.index-rows-at.is)

pub returns-in-Err : goal.returns-in-Err
returns-in-Err g c = sym (lookup_at_gap g.K.Ord.cmp c.args.key.now c.args.rows.now _ c.in-Err.ensures)

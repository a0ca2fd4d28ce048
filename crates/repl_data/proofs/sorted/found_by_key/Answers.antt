use Rattle.std.proofs.Common.{ap, ◌∙◌, Some}
use Rattle.repl_data.proofs.KeyPlaces.{find_at, find_gap}
use Rattle.repl_data.proofs.sorted.found_by_key.Goals as goal

pub returns-in-Ok : goal.returns-in-Ok
returns-in-Ok g c =
    ap Some c.index-items-at.is ∙ find_at g.T.Keyed.key_of c.args.key.now c.args.items.now c.in-Ok.at c.index-items-at.result c.in-Ok.ensures.place

pub returns-in-Err : goal.returns-in-Err
returns-in-Err g c = find_gap g.T.Keyed.key_of c.args.key.now c.args.items.now c.in-Err.field-0 c.requires c.in-Err.ensures.place

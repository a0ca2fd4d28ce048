use Rattle.std.proofs.Common.{sym}
use Rattle.vector_core.proofs.Entries.{entry_here, entry_none, none_at_gap}
use Rattle.vector_core.proofs.vector.entry_in.Goals as goal

pub returns-in-Some : goal.returns-in-Some
returns-in-Some c =
    let h = c.in-Some.ensures in
    sym (entry_here c.args.list.now c.args.rid c.in-Some.entry c.requires (c.place_of.result, h.0, sym h.1) h.2)

pub returns-in-None : goal.returns-in-None
returns-in-None c =
    let p = c.place_of.ensures in
    sym (entry_none c.args.list.now c.args.rid (none_at_gap c.args.list.now c.args.rid c.place_of.result c.requires p.within p.below p.above c.in-None.ensures))

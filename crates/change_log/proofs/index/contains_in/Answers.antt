use Rattle.change_log.proofs.Places.{stands_from, stands_where}
use Rattle.change_log.proofs.index.contains_in.Goals as goal

pub returns : goal.returns
returns c =
    let p = c.place_of-at.ensures in (
      λ t. let h = c.stands_at.ensures.0 t in stands_from c.args.index.now c.args.csn c.place_of-at.result h.0 h.1,
      λ h. c.stands_at.ensures.1 (stands_where c.args.index.now c.args.csn c.place_of-at.result c.requires h p.below p.above),
    )

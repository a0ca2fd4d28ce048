use Rattle.std.proofs.Common.{Some, sym, ap, ◌∙◌}
use Rattle.std.specs.Prelude.{option_map}
use Rattle.std.specs.Option.{option_copied}
use Rattle.view_snap.specs.Told.{Told}
use Rattle.view_snap.proofs.Entries.{gone_parent_is}
use Rattle.view_snap.proofs.asked.tombstone_parent.Goals as goal

pub returns-in-Some : goal.returns-in-Some
returns-in-Some c = λ suffix.
    ap Some (c.parent.ensures)
    ∙ ap (option_map (λ (t : Told). t.parent)) (sym (ap option_copied c.in-Some.is) ∙ c.gone.ensures)
    ∙ gone_parent_is suffix c.args.entries.now c.requires c.args.id

pub returns-in-None : goal.returns-in-None
returns-in-None c = λ suffix.
    ap (option_map (λ (t : Told). t.parent)) (sym (ap option_copied c.in-None.is) ∙ c.gone.ensures)
    ∙ gone_parent_is suffix c.args.entries.now c.requires c.args.id

use Rattle.std.proofs.Common.{Some, sym, ap, ◌∙◌}
use Rattle.std.specs.Prelude.{option_map, map}
use Rattle.std.specs.Option.{option_copied}
use Rattle.repl_data.specs.View.{user}
use Rattle.view_snap.specs.Told.{Told}
use Rattle.view_snap.proofs.Entries.{gone_own_is}
use Rattle.view_snap.proofs.asked.tombstone_own.Goals as goal

pub returns-in-Some : goal.returns-in-Some
returns-in-Some c = λ suffix.
    ap Some (c.as_slice.ensures ∙ c.users.ensures)
    ∙ ap (option_map (λ (t : Told). map user t.attrs)) (sym (ap option_copied c.in-Some.is) ∙ c.gone.ensures)
    ∙ gone_own_is suffix c.args.entries.now c.requires c.args.id

pub returns-in-None : goal.returns-in-None
returns-in-None c = λ suffix.
    ap (option_map (λ (t : Told). map user t.attrs)) (sym (ap option_copied c.in-None.is) ∙ c.gone.ensures)
    ∙ gone_own_is suffix c.args.entries.now c.requires c.args.id

use Rattle.std.proofs.Common.{◌≡◌, ℕ, List, [], ◌∷◌, ◌++◌, Bool, true, false, cond, map, filter, Option, Some, None, refl, sym, ap, subst, ◌∙◌, append-nil, append_assoc}
use Rattle.std.specs.Prelude.{option_map}
use Rattle.std.specs.Option.{option_copied}
use Rattle.repl_data.specs.declared.csn.Uid.{Uid}
use Rattle.repl_data.specs.declared.change.Rdn.{Rdn}
use Rattle.view_snap.specs.Told.{Told, view_of_rows, standing_with, gone_ids}
use Rattle.view_snap.specs.Maps.{told_at}
use Rattle.repl_data.specs.View.{user}
use Rattle.view_snap.proofs.Entries.{own_is}
use Rattle.view_snap.proofs.asked.own.Goals as goal

pub returns-in-Some : goal.returns-in-Some
returns-in-Some c = λ suffix.
    ap Some (c.as_slice.ensures ∙ c.users.ensures)
    ∙ ap (option_map (λ (t : Told). map user t.attrs)) (sym (ap option_copied c.in-Some.is) ∙ c.present.ensures)
    ∙ own_is suffix c.args.entries.now c.requires c.args.id

pub returns-in-None : goal.returns-in-None
returns-in-None c = λ suffix. ap (option_map (λ (t : Told). map user t.attrs)) (sym (ap option_copied c.in-None.is) ∙ c.present.ensures) ∙ own_is suffix c.args.entries.now c.requires c.args.id

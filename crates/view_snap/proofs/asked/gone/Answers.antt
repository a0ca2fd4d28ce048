use Rattle.std.proofs.Common.{◌≡◌, ℕ, List, [], ◌∷◌, ◌++◌, Bool, true, false, cond, map, filter, Option, Some, None, refl, sym, ap, subst, ◌∙◌, append-nil, append_assoc}
use Rattle.std.specs.Prelude.{option_map}
use Rattle.std.specs.Option.{option_copied}
use Rattle.repl_data.specs.declared.csn.Uid.{Uid}
use Rattle.repl_data.specs.declared.change.Rdn.{Rdn}
use Rattle.view_snap.specs.Told.{Told, view_of_rows, standing_with, gone_ids}
use Rattle.view_snap.specs.Maps.{told_at}
use Rattle.view_snap.proofs.Entries.{gone_yes, gone_no, gone_none}
use Rattle.view_snap.proofs.asked.gone.Goals as goal

pub returns-in_default : goal.returns-in_default
returns-in_default c = gone_none (told_at c.args.entries.now c.args.id) (sym c.found.ensures ∙ ap option_copied c.in_default.is)

pub returns-then-is_present : goal.returns-then-is_present
returns-then-is_present c = gone_no (told_at c.args.entries.now c.args.id) c.in-Some.seen.now (sym c.found.ensures ∙ ap option_copied c.in-Some.is) (sym c.is_present.ensures ∙ c.if-is_present.true)

pub returns : goal.returns
returns c = gone_yes (told_at c.args.entries.now c.args.id) c.in-Some.seen.now (sym c.found.ensures ∙ ap option_copied c.in-Some.is) (sym c.is_present.ensures ∙ c.if-is_present.false)

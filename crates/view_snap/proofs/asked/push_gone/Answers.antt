use Rattle.std.proofs.Common.{◌≡◌, ℕ, List, [], ◌∷◌, ◌++◌, Bool, true, false, cond, map, filter, Option, Some, None, refl, sym, ap, subst, ◌∙◌, append-nil, append_assoc}
use Rattle.std.specs.Prelude.{option_map}
use Rattle.std.specs.Option.{option_copied}
use Rattle.repl_data.specs.declared.csn.Uid.{Uid}
use Rattle.repl_data.specs.declared.change.Rdn.{Rdn}
use Rattle.view_snap.specs.Told.{Told, view_of_rows, standing_with, gone_ids}
use Rattle.view_snap.specs.Maps.{told_at}
use Rattle.view_snap.proofs.asked.push_gone.Goals as goal

pub returns-then-is_present : goal.returns-then-is_present
returns-then-is_present c = sym (append-nil c.args.ids.now) ∙ ap (λ (us : List Uid). c.args.ids.now ++ us) (sym (ap (λ b. cond b [] (c.args.id ∷ [])) (sym c.is_present.ensures ∙ c.if-is_present.true)))

pub returns : goal.returns
returns c = c.in_ok-push.ensures.ok ∙ ap (λ (us : List Uid). c.args.ids.now ++ us) (sym (ap (λ b. cond b [] (c.args.id ∷ [])) (sym c.is_present.ensures ∙ c.if-is_present.false)))

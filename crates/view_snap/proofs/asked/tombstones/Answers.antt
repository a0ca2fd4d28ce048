use Rattle.std.proofs.Common.{◌≡◌, ℕ, List, [], ◌∷◌, ◌++◌, Bool, true, false, cond, map, filter, Option, Some, None, refl, sym, ap, subst, ◌∙◌, append-nil, append_assoc}
use Rattle.std.specs.Prelude.{option_map}
use Rattle.std.specs.Option.{option_copied}
use Rattle.repl_data.specs.declared.csn.Uid.{Uid}
use Rattle.repl_data.specs.declared.change.Rdn.{Rdn}
use Rattle.view_snap.specs.Told.{Told, view_of_rows, standing_with, gone_ids}
use Rattle.view_snap.specs.Maps.{told_at}
use Rattle.std.specs.Prelude.{flat_map}
use Rattle.view_snap.proofs.Entries.{gone_ids_are}
use Rattle.view_snap.proofs.asked.tombstones.Goals as goal

pub loop-id-preserved : goal.loop-id-preserved
loop-id-preserved c =
    ap (λ (us : List Uid). us ++ flat_map gone_ids c.next.new.self) c.in_ok-push_gone.ensures
    ∙ append_assoc c.loop-id.ids (gone_ids (c.in-Some.id.now, c.in-Some.seen.now)) (flat_map gone_ids c.next.new.self)
    ∙ ap (λ (xs : List (Uid × Told)). c.loop-id.ids ++ flat_map gone_ids xs) (sym c.in-Some.ensures.steps)
    ∙ c.loop-id.invariant

pub returns : goal.returns
returns c = λ suffix.
    sym (append-nil c.loop-id.ids)
    ∙ ap (λ (xs : List (Uid × Told)). c.loop-id.ids ++ flat_map gone_ids xs) (sym c.in-None.ensures.steps.0)
    ∙ c.loop-id.invariant
    ∙ gone_ids_are suffix c.args.entries.now

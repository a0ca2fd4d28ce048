use Rattle.std.proofs.Common.{◌≡◌, ℕ, List, [], ◌∷◌, ◌++◌, Bool, true, false, cond, map, filter, Option, Some, None, refl, sym, ap, subst, ◌∙◌, append-nil, append_assoc}
use Rattle.std.specs.Prelude.{option_map}
use Rattle.std.specs.Option.{option_copied}
use Rattle.repl_data.specs.declared.csn.Uid.{Uid}
use Rattle.repl_data.specs.declared.change.Rdn.{Rdn}
use Rattle.view_snap.specs.Told.{Told, view_of_rows, standing_with, gone_ids}
use Rattle.view_snap.specs.Maps.{told_at}
use Rattle.repl_data.specs.View.{DirectoryView, path_of, dn_of, dn_below, shown_present, shown_gone, tombstone_rdn}
use Rattle.urp_tree.proofs.Fits.{on_each}
use Rattle.view_snap.specs.Shown.{IsPresentChild, lost_with, shown_with, gone_with}
use Rattle.std.specs.Prelude.{◌<◌}
use Rattle.view_snap.proofs.Paths.{low_count, path_more, path_end, path_less}
use Rattle.view_snap.proofs.shown.path.Goals as goal

pub loop-seen-preserved : goal.loop-seen-preserved
loop-seen-preserved c = λ suffix.
    ap (λ (p : List Rdn). p ++ path_of (view_of_rows suffix c.args.entries.now) c.above-at.result) c.in_ok-push.ensures.ok
    ∙ append_assoc c.loop-seen.path (c.in_ok-name.name ∷ []) (path_of (view_of_rows suffix c.args.entries.now) c.above-at.result)
    ∙ ap (λ (w : Uid). c.loop-seen.path ++ (c.in_ok-name.name ∷ path_of (view_of_rows suffix c.args.entries.now) w)) c.above-at.ensures
    ∙ ap (λ (p : List Rdn). c.loop-seen.path ++ p) (sym (path_more suffix c.args.entries.now c.requires c.loop-seen.at c.in-Some.seen.now c.in-Some.ensures c.in_ok-name.name c.in_ok-name.ensures))
    ∙ c.loop-seen.invariant suffix

pub loop-seen-smaller : goal.loop-seen-smaller
loop-seen-smaller c = subst (λ (w : Uid). low_count w c.args.entries.now < low_count c.loop-seen.at c.args.entries.now) (sym c.above-at.ensures) (path_less c.args.entries.now c.loop-seen.at c.in-Some.seen.now c.in-Some.ensures)

pub returns : goal.returns
returns c = λ suffix.
    sym (append-nil c.loop-seen.path)
    ∙ ap (λ (p : List Rdn). c.loop-seen.path ++ p) (sym (path_end suffix c.args.entries.now c.requires c.loop-seen.at c.in_default.ensures))
    ∙ c.loop-seen.invariant suffix

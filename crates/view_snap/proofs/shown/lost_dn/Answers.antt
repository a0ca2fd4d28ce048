use Rattle.std.proofs.Common.{◌≡◌, ℕ, List, [], ◌∷◌, ◌++◌, Bool, true, false, cond, map, filter, Option, Some, None, refl, sym, ap, subst, ◌∙◌, append-nil, append_assoc}
use Rattle.std.specs.Prelude.{option_map}
use Rattle.std.specs.Option.{option_copied}
use Rattle.repl_data.specs.declared.csn.Uid.{Uid}
use Rattle.repl_data.specs.declared.change.Rdn.{Rdn}
use Rattle.view_snap.specs.Told.{Told, view_of_rows, standing_with, gone_ids}
use Rattle.view_snap.specs.Maps.{told_at}
use Rattle.repl_data.specs.View.{DirectoryView, path_of, dn_of, dn_below, shown_present, shown_gone, tombstone_rdn}
use Rattle.urp_tree.proofs.Fits.{on_each}
use Rattle.view_snap.specs.Shown.{IsPresentChild, lost_with, shown_with, gone_with}
use Rattle.view_snap.proofs.shown.lost_dn.Goals as goal

pub returns-then-lost : goal.returns-then-lost
returns-then-lost c =
    let v : DirectoryView = view_of_rows c.args.suffix.now c.args.entries.now in
    let t : Told = c.args.seen.now in
    ap Some
    (c.in_ok-dn.ensures
    ∙ ap (λ (rdns : List Rdn). dn_below v rdns) (c.as_slice.ensures ∙ c.in_ok-names.ensures c.args.suffix.now ∙ (λ i. c.name.ensures i ∷ path_of v (c.parent.ensures i))))
    ∙ sym (ap (λ b. cond b (Some (dn_below v (t.name ∷ path_of v t.parent))) None) (sym c.lost.ensures ∙ c.if-lost.true))

pub returns : goal.returns
returns c =
    let v : DirectoryView = view_of_rows c.args.suffix.now c.args.entries.now in
    let t : Told = c.args.seen.now in
    sym (ap (λ b. cond b (Some (dn_below v (t.name ∷ path_of v t.parent))) None) (sym c.lost.ensures ∙ c.if-lost.false))

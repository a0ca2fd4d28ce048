use Rattle.std.proofs.Common.{◌∙◌, map, ap}
use Rattle.std.specs.Prelude.{filter}
use Rattle.stamp_entry.specs.Shown.{shows_among, val_of}
use Rattle.stamp_entry.proofs.Shows.{shown_of}
use Rattle.stamp_entry.proofs.held.vals_shown.Goals as goal

pub returns : goal.returns
returns g c =
    λ whole. c.in_ok-shown.ensures
    ∙ ap (λ single. map (λ v. val_of (g.T.HeldVal.facts v)) (filter (shows_among g.T.HeldVal.facts c.args.rdn.now c.args.attr.now single c.args.vals.now) c.args.vals.now)) c.is_single-single.ensures
    ∙ shown_of g.T.HeldVal.facts c.args.rdn.now c.args.attr.now whole c.args.vals.now

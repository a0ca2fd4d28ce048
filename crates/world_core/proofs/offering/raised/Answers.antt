use Rattle.std.proofs.Common.{◌∙◌, ap, ◌==◌}
use Rattle.std.specs.Prelude.{if◌then◌else◌}
use Rattle.vector_core.specs.Vector.{entry_of}
use Rattle.vector_core.specs.Greatest.{later_of}
use Rattle.vector_core.proofs.Greatests.{zero_later}
use Rattle.world_core.proofs.RaisedVectors.{empty-entry}
use Rattle.world_core.proofs.offering.raised.Goals as goal

pub returns : goal.returns
returns c =
    let v = c.args.vector.now in (
      λ o.
          c.in_ok-raise.ensures.ok o
          ∙ ap (λ z. if o == c.args.csn.rid then later_of z c.args.csn else z)
          (c.in_ok-merge.ensures.ok o ∙ ap (λ e. later_of (entry_of e o) (entry_of v o)) c.in_ok-new.ensures ∙ ap (λ z. later_of z (entry_of v o)) (empty-entry o) ∙ zero_later (entry_of v o)),
      c.entries-entries.ensures.vector,
      c.raise.ensures.vector,
    )

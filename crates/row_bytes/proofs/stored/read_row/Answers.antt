use Rattle.std.proofs.Common.{◌∙◌, ap}
use Rattle.row_bytes.specs.Stored.{change_of}
use Rattle.row_bytes.proofs.Kept.{kept_again, kept_by}
use Rattle.row_bytes.proofs.stored.read_row.Goals as goal

pub returns-clause-only : goal.returns-clause-only
returns-clause-only c change i is = kept_by c.args.row.now c.find_stored.result _ c.find_stored.ensures.exact (ap change_of is ∙ kept_again change i)

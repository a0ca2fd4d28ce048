use Rattle.filter_truth.proofs.Entries.{entry_rises, tombstone_rises}
use Rattle.filter_truth.proofs.laws.entry_laws.Goals as goal

pub returns : goal.returns
returns c = record {
  present = entry_rises;
  tombstone = tombstone_rises;
}

use Rattle.stamp_entry.proofs.Next.{own_facts-next}
use Rattle.stamp_entry.proofs.laws.stamped_laws.Goals as goal

pub returns : goal.returns
returns c = record { next = own_facts-next }

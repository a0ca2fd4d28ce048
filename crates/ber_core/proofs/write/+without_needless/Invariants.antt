use Rattle.std.proofs.Common.{length}
use Rattle.ber_core.proofs.write.+without_needless.Given as goal

abbrev pub decreases-without_needless : goal.decreases-without_needless
decreases-without_needless l = length l.bytes.now

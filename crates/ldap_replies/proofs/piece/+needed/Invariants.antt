use Rattle.std.proofs.Common.{length}
use Rattle.ldap_replies.proofs.piece.+needed.Given as goal

abbrev pub decreases-needed : goal.decreases-needed
decreases-needed l = length l.bytes.now

use Rattle.std.proofs.Common.{◌≡◌, [], drop}
use Rattle.dn_text.specs.Print.{put_all}
use Rattle.dn_text.proofs.print.in_order.Given as goal

abbrev pub invariant-loop-ava : goal.invariant-loop-ava
invariant-loop-ava l = put_all [] l.avas ≡ put_all l.sorted (drop l.ava-index l.avas)

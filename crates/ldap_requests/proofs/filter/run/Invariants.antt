use Rattle.std.proofs.Common.{◌≡◌, ◌-◌}
use Rattle.ber_core.specs.Cursor.{window}
use Rattle.ber_core.specs.Window.{octets, run_from}
use Rattle.ber_core.proofs.Loops.{with_front_pair}
use Rattle.ldap_requests.proofs.filter.run.Given as goal

abbrev pub invariant-loop : goal.invariant-loop
invariant-loop l = with_front_pair l.all (run_from l.tag octets (l.w.left - l.counter) (window l.here)) ≡ run_from l.tag octets l.w.left (window l.w)

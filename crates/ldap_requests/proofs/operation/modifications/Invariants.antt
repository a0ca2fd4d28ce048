use Rattle.std.proofs.Common.{◌≡◌, ◌-◌}
use Rattle.ber_core.specs.Cursor.{window}
use Rattle.ldap_requests.specs.Grammar.{modification}
use Rattle.ber_core.specs.Window.{many_from}
use Rattle.ber_core.proofs.Loops.{with_front}
use Rattle.ldap_requests.proofs.operation.modifications.Given as goal

abbrev pub invariant-loop : goal.invariant-loop
invariant-loop l = with_front l.all (many_from modification (l.w.left - l.counter) (window l.here)) ≡ many_from modification l.w.left (window l.w)

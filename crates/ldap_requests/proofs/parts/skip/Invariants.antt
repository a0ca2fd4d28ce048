use Rattle.std.proofs.Common.{◌≡◌, ◌-◌}
use Rattle.ber_core.specs.Cursor.{window}
use Rattle.ber_core.specs.Window.{skip_from}
use Rattle.ldap_requests.proofs.parts.skip.Given as goal

abbrev pub invariant-loop : goal.invariant-loop
invariant-loop l = skip_from (l.w.left - l.counter) (window l.here) ≡ skip_from l.w.left (window l.w)

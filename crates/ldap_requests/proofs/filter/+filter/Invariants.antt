use Rattle.std.proofs.Common.{◌≡◌, ◌-◌, ◌+◌, ◌*◌}
use Rattle.ber_core.specs.Cursor.{window}
use Rattle.ldap_requests.specs.Grammar.{filter_at}
use Rattle.ber_core.specs.Window.{many_from}
use Rattle.ber_core.proofs.Loops.{with_front}
use Rattle.ldap_requests.proofs.filter.+filter.Given as goal

abbrev pub decreases-filter : goal.decreases-filter
decreases-filter l = 3 * l.levels

abbrev pub decreases-filter_inside : goal.decreases-filter_inside
decreases-filter_inside l = 3 * l.levels + 2

abbrev pub decreases-filters : goal.decreases-filters
decreases-filters l = 3 * l.levels + 1

abbrev pub invariant-filters-loop : goal.invariant-filters-loop
invariant-filters-loop l = with_front l.all (many_from (filter_at l.levels) (l.w.left - l.counter) (window l.here)) ≡ many_from (filter_at l.levels) l.w.left (window l.w)

use Rattle.std.proofs.Common.{◌+◌, ◌*◌}
use Rattle.search_cases.proofs.filters.+filter.Given as goal

abbrev pub decreases-filter_within : goal.decreases-filter_within
decreases-filter_within l = 2 * l.levels

abbrev pub decreases-next_filters : goal.decreases-next_filters
decreases-next_filters l = 2 * l.levels + 1

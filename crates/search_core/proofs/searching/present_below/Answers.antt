use Rattle.search_core.proofs.Bases.{base_there}
use Rattle.search_core.proofs.searching.present_below.Goals as goal

pub present_hits-requires-clause-present : goal.present_hits-requires-clause-present
present_hits-requires-clause-present g c = base_there (g.V.View.view c.args.view.now) c.requires.names c.args.rdns.now c.in_ok-base.base c.in_ok-base.ensures

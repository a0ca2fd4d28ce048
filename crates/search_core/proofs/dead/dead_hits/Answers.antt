use Rattle.std.proofs.Common.{List, ◌++◌, ap, ◌∙◌}
use Rattle.std.specs.Prelude.{flat_map}
use Rattle.repl_data.specs.declared.change.ShownEntry.{ShownEntry}
use Rattle.search_core.specs.Tombstones.{is_wanted}
use Rattle.search_core.specs.Search.{told}
use Rattle.search_core.specs.Dead.{gives_dead, gives_vector}
use Rattle.search_core.proofs.Lists.{found_dead}
use Rattle.search_core.proofs.dead.dead_hits.Goals as goal

pub returns : goal.returns
returns g c = λ r asks.
    let wanted = is_wanted c.args.everything c.args.rdns.now in
    let all : List ShownEntry = flat_map (gives_dead (g.V.View.view c.args.view.now) r.filter wanted) c.as_slice.result.now in
    c.in_ok-visit_vector.ensures r all asks (c.in_ok-hits.ensures r asks)
    ∙ ap (told r)
    ((λ i. flat_map (gives_dead (g.V.View.view c.args.view.now) r.filter wanted) ((c.as_slice.ensures ∙ c.in_ok-ids.ensures) i) ++ gives_vector (c.suffix_name.ensures i) c.args.vector.now r.filter ((c.is_wanted-wanted.ensures ∙ ap wanted c.as_slice-2.ensures) i))
    ∙ found_dead (g.V.View.view c.args.view.now) c.args.vector.now r.filter c.args.everything c.args.rdns.now)

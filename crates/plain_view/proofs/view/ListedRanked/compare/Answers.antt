use Rattle.std.proofs.Common.{◌∙◌}
use Rattle.std.specs.Cmp.Lexicographic.{slice_cmp}
use Rattle.std.specs.Ordering.{ordering_then}
use Rattle.repl_data.specs.declared.change.Rdn.{Rdn}
use Rattle.repl_data.specs.Order.{rdn_key, rdn_key_cmp}
use Rattle.plain_view.proofs.view.ListedRanked.compare.Goals as goal

pub returns : goal.returns
returns c =
    let paths = c.compare_paths-paths.ensures ∙ (λ i. slice_cmp (λ (x : Rdn) (y : Rdn). rdn_key_cmp (rdn_key x) (rdn_key y)) (c.as_slice.ensures i) (c.as_slice-2.ensures i)) in
    c.then.ensures ∙ (λ i. ordering_then (paths i) (c.compare.ensures i))

use Rattle.std.proofs.Common.{◌≡◌, ℕ, ◌+◌, ◌∷◌, List, map, drop, get_or, set, true, false, sym, ap, ◌∙◌}
use Rattle.std.specs.Prelude.{filter, slice_get}
use Rattle.repl_data.specs.View.{PresentEntry}
use Rattle.plain_view.specs.Growth.{joined_name, yields, renamed}
use Rattle.plain_view.proofs.Places.{changed_get, changed_set, taken_name, kept_name, lost_here, kept_here, first_is}
use Rattle.plain_view.proofs.grow.rename_each.Goals.{then-yields, else-yields}
use Rattle.plain_view.proofs.grow.rename_each.Goals as goal

pub loop-e-preserved : goal.loop-e-preserved
loop-e-preserved c =
    let f = c.args.new.now in
    let xs : List PresentEntry = c.args.entries.now in
    let i : ℕ = c.loop-e.e-index in
    let d = c.e-item.result in
    let l = c.loop-e-test.true in
    let so = c.loop-e.invariant in
    let here : get_or c.loop-e.entries i d ≡ get_or xs i d = ap (λ es. get_or es i d) so.0 ∙ changed_get (renamed f) xs i d in
    elim c.if-yields.branch [
      | then-yields w ↦
          let test : yields f (get_or xs i d) ≡ true = ap (yields f) (sym here) ∙ sym c.yields.ensures ∙ w.if-yields.true in
          let names : c.loop-e.names ≡ joined_name (get_or xs i d) ∷ map joined_name (filter (yields f) (drop (i + 1) xs)) = so.1 ∙ ap (map joined_name) (lost_here f xs i d l test) in
          let first : joined_name (get_or xs i d) ≡ w.remove.result = first_is _ _ (ap (λ ns. slice_get ns 0) (sym names) ∙ w.remove.ensures.item) in
          let item = ap (λ (y : PresentEntry). record y { shown = w.remove.result }) (c.e.view_is ∙ here) ∙ sym (taken_name f (get_or xs i d) w.remove.result test (sym first)) in
          (w.entries-is ∙ (λ k. set (so.0 k) i (item k)) ∙ changed_set (renamed f) xs i d l, w.names-is ∙ w.remove.ensures.rest ∙ ap (drop 1) names)
      | else-yields w ↦
          let test : yields f (get_or xs i d) ≡ false = ap (yields f) (sym here) ∙ sym c.yields.ensures ∙ w.if-yields.false in
          let item = here ∙ sym (kept_name f (get_or xs i d) test) in
          (w.entries-is ∙ (λ k. set (so.0 k) i (item k)) ∙ changed_set (renamed f) xs i d l, w.names-is ∙ so.1 ∙ ap (map joined_name) (kept_here f xs i d l test))
    ]

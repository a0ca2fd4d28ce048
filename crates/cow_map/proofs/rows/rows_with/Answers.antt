use Rattle.std.proofs.Common.{rules, ◌≡◌, ◌+◌, ◌++◌, ◌∷◌, take, drop, sym, ap, ◌∙◌, add-one, suc}
use Rattle.std.specs.Arc.{arc_value}
use Rattle.std.specs.BTreeMap.{insert_entry}
use Rattle.std.proofs.lemmas.Result.{IfOk-weaker}
use Rattle.cow_map.proofs.Entries.{insert_at_place, insert_at_gap}
use Rattle.cow_map.proofs.rows.rows_with.Goals as goal

pub returns-in_ok-clone-in-Ok-clause-rows : goal.returns-in_ok-clone-in-Ok-clause-rows
returns-in_ok-clone-in-Ok-clause-rows g c =
    let at = insert_at_place g.K.Ord.cmp c.args.key (arc_value c.args.value) c.args.rows.now c.in-Ok.at c.index-rows-at.result c.in-Ok.ensures c.index-rows-at.is in
    let row : c.new-row.result ≡ (c.index-rows-at.result.0, arc_value c.args.value) = search rules in
    let joined : take c.in-Ok.at c.args.rows.now ++ (c.new-row.result ∷ drop (c.in-Ok.at + 1) c.args.rows.now) ≡ insert_entry g.K.Ord.cmp c.args.rows.now c.args.key (arc_value c.args.value) =
    rw add-one (ap (λ r. take c.in-Ok.at c.args.rows.now ++ (r ∷ drop (suc c.in-Ok.at) c.args.rows.now)) row ∙ sym at) in
    IfOk-weaker c.copied.result _ _ (λ all h. h ∙ joined) c.copied.ensures.rows

pub returns-in-Err-clause-rows : goal.returns-in-Err-clause-rows
returns-in-Err-clause-rows g c =
    let at = insert_at_gap g.K.Ord.cmp c.args.key (arc_value c.args.value) c.args.rows.now c.in-Err.at c.in-Err.ensures in
    let joined : take c.in-Err.at c.args.rows.now ++ (c.new.result ∷ drop c.in-Err.at c.args.rows.now) ≡ insert_entry g.K.Ord.cmp c.args.rows.now c.args.key (arc_value c.args.value) =
    ap (λ r. take c.in-Err.at c.args.rows.now ++ (r ∷ drop c.in-Err.at c.args.rows.now)) c.new.ensures ∙ sym at in
    IfOk-weaker c.copied-in-Err.result _ _ (λ all h. h ∙ joined) c.copied-in-Err.ensures.rows

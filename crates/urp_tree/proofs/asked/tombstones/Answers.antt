use Rattle.std.proofs.Common.{List, ◌++◌, Option, sym, ap, ◌∙◌, append-nil, append_assoc}
use Rattle.std.specs.Map.Iter.{deref_pair}
use Rattle.std.proofs.lemmas.Map.Iter.{btree_map_turn}
use Rattle.repl_data.specs.declared.csn.Uid.{Uid}
use Rattle.repl_data.proofs.Orders.{uid_total}
use Rattle.urp_tree.specs.declared.row.Row.{Row}
use Rattle.urp_tree.specs.Rows.{fact_of, facts_in}
use Rattle.urp_tree.specs.Seen.{gone_ids}
use Rattle.urp_tree.proofs.Gone.{gone_more, gone_all}
use Rattle.urp_tree.proofs.asked.tombstones.Goals as goal

pub push_gone-requires-clause-there : goal.push_gone-requires-clause-there
push_gone-requires-clause-there c =
    (btree_map_turn deref_pair c.loop-id.yielded c.into_iter-id-iterator.result c.loop-id.id-iterator c.next.new.self c.next.result (c.in-Some.id, c.in-Some.seat) c.loop-id.yielded_by c.in-Some.is c.next.ensures.steps uid_total c.args.rows.now c.into_iter-id-iterator.ensures.into_iter_gives.0 c.seat_count-seats.ensures.ordered).1

pub loop-id-preserved : goal.loop-id-preserved
loop-id-preserved c =
    let es = facts_in c.args.rows.now.entries in
    ap (λ (us : List Uid). us ++ gone_ids es (facts_in c.next.new.self)) c.in_ok-push_gone.ensures
    ∙ append_assoc c.loop-id.ids (gone_ids es (fact_of c.in-Some.seat.now)) (gone_ids es (facts_in c.next.new.self))
    ∙ ap (λ (us : List Uid). c.loop-id.ids ++ us) (sym (gone_more es c.in-Some.seat.now (facts_in c.next.new.self)))
    ∙ ap (λ (xs : List (Uid × Option Row)). c.loop-id.ids ++ gone_ids es (facts_in xs)) (sym c.in-Some.ensures.steps)
    ∙ c.loop-id.invariant

pub returns : goal.returns
returns c = λ suffix.
    let es = facts_in c.args.rows.now.entries in
    sym (append-nil c.loop-id.ids)
    ∙ ap (λ (xs : List (Uid × Option Row)). c.loop-id.ids ++ gone_ids es (facts_in xs)) (sym c.in-None.ensures.steps.0)
    ∙ c.loop-id.invariant
    ∙ gone_all suffix es

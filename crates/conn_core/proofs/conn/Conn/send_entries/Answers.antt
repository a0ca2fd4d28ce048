use Rattle.std.proofs.Common.{◌≡◌, ◌∷◌, [], ◌++◌, refl, sym, ap, ◌∙◌, length, append_assoc, arith, rules}
use Rattle.std.proofs.lemmas.List.{nil_from_length}
use Rattle.std.specs.Vec.Iter.{into_iter_items, into_iter_len}
use Rattle.conn_core.specs.Serving.{entry_bytes}
use Rattle.conn_core.proofs.Joined.{nothing_joined, one_joined, some_joined, all_joined}
use Rattle.conn_core.proofs.conn.Conn.send_entries.Goals as goal

pub loop-entry-init : goal.loop-entry-init
loop-entry-init c =
    let it = c.into_iter-entry-iterator.result in
    let vec = c.into_vec-entry-items.result in
    let items : into_iter_items it ≡ vec.items = search rules in
    let len : into_iter_len it ≡ length vec.items = search rules in
    record { joined = nothing_joined c.args.self.now; all = refl; count = len ∙ ap length (sym items) }

pub loop-entry-preserved : goal.loop-entry-preserved
loop-entry-preserved c =
    let at = c.loop-entry in
    let one = c.in-Some.entry in
    let step : into_iter_items at.entry-iterator ≡ one ∷ into_iter_items c.next.new.self = c.in-Some.ensures.steps.0 in
    record {
      joined = one_joined (entry_bytes c.args.id) c.args.self.now at.self c.send_entry.new.self at.yielded one at.invariant.joined c.in_default.ensures.ok;
      all = append_assoc at.yielded (one ∷ []) (into_iter_items c.next.new.self) ∙ ap (λ xs. at.yielded ++ xs) (sym step) ∙ at.invariant.all;
      count = (let was = at.invariant.count in let gone = c.in-Some.ensures.steps.1 in let short = ap length step in omega arith);
    }

pub returns-in-Err-clause-err : goal.returns-in-Err-clause-err
returns-in-Err-clause-err c =
    let at = c.loop-entry in
    some_joined (entry_bytes c.args.id) c.args.self.now at.self c.send_entry.new.self c.args.entries at.yielded (into_iter_items at.entry-iterator)
    (at.invariant.all ∙ c.into_iter-entry-iterator.ensures.into_iter_gives.0 ∙ c.into_vec-entry-items.ensures) at.invariant.joined c.in-Err.ensures.err

pub returns-clause-ok : goal.returns-clause-ok
returns-clause-ok c =
    let at = c.loop-entry in
    all_joined (entry_bytes c.args.id) c.args.self.now at.self c.args.entries at.yielded (into_iter_items at.entry-iterator)
    (nil_from_length (into_iter_items at.entry-iterator) (sym at.invariant.count ∙ c.in-None.ensures.steps.0))
    (at.invariant.all ∙ c.into_iter-entry-iterator.ensures.into_iter_gives.0 ∙ c.into_vec-entry-items.ensures) at.invariant.joined

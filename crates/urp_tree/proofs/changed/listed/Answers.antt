use Rattle.std.proofs.Common.{List, ◌++◌, flat_map, Option, Bool, sym, ap, ◌∙◌, append-nil, append_assoc}
use Rattle.repl_data.specs.declared.csn.Uid.{Uid}
use Rattle.urp_tree.specs.declared.changed.Changed.{Changed}
use Rattle.urp_tree.specs.Changes.{changes_of}
use Rattle.urp_tree.proofs.changed.listed.Goals as goal

pub loop-id-preserved : goal.loop-id-preserved
loop-id-preserved c =
    ap (λ (cs : List Changed). cs ++ flat_map (changes_of c.args.rows.now c.args.new.now) c.next.new.self) c.in_ok-push_changed.ensures
    ∙ append_assoc c.loop-id.list (changes_of c.args.rows.now c.args.new.now (c.in-Some.id.now, c.in-Some.after.now)) (flat_map (changes_of c.args.rows.now c.args.new.now) c.next.new.self)
    ∙ ap (λ (xs : List (Uid × Option Bool)). c.loop-id.list ++ flat_map (changes_of c.args.rows.now c.args.new.now) xs) (sym c.in-Some.ensures.steps)
    ∙ c.loop-id.invariant

pub returns : goal.returns
returns c =
    sym (append-nil c.loop-id.list)
    ∙ ap (λ (xs : List (Uid × Option Bool)). c.loop-id.list ++ flat_map (changes_of c.args.rows.now c.args.new.now) xs) (sym c.in-None.ensures.steps.0)
    ∙ c.loop-id.invariant

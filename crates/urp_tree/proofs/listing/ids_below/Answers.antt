use Rattle.std.proofs.Common.{List, ◌++◌, map, sym, ap, ◌∙◌, append-nil, append_assoc}
use Rattle.repl_data.specs.declared.csn.Uid.{Uid}
use Rattle.repl_data.specs.declared.change.Rdn.{Rdn}
use Rattle.urp_names.specs.declared.contenders.Contender.{Contender}
use Rattle.urp_names.specs.Contending.{Contending, id_of}
use Rattle.urp_tree.specs.Listed.{ids_in}
use Rattle.urp_tree.proofs.listing.ids_below.Goals as goal

pub loop-who-preserved : goal.loop-who-preserved
loop-who-preserved c =
    ap (λ (us : List Uid). us ++ ids_in c.next.new.self) (c.in_ok-push_ids.ensures ∙ ap (λ (who : List Contender). c.loop-who.ids ++ map id_of who) c.as_slice.ensures)
    ∙ append_assoc c.loop-who.ids (map id_of c.in-Some.who.now.who) (ids_in c.next.new.self)
    ∙ ap (λ (es : List (Rdn × Contending)). c.loop-who.ids ++ ids_in es) (sym c.in-Some.ensures.steps)
    ∙ c.loop-who.invariant

pub returns : goal.returns
returns c =
    sym (append-nil c.loop-who.ids)
    ∙ ap (λ (es : List (Rdn × Contending)). c.loop-who.ids ++ ids_in es) (sym c.in-None.ensures.steps.0)
    ∙ c.loop-who.invariant

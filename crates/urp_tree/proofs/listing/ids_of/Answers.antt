use Rattle.std.proofs.Common.{◌≡◌, List, [], ◌∷◌, ◌++◌, map, sym, ap, ◌∙◌, append-nil, append_assoc}
use Rattle.repl_data.specs.declared.csn.Uid.{Uid}
use Rattle.repl_data.specs.declared.change.Rdn.{Rdn}
use Rattle.urp_tree.proofs.listing.ids_of.Goals as goal

pub loop-kid-preserved : goal.loop-kid-preserved
loop-kid-preserved c =
    ap (λ (us : List Uid). us ++ map (λ (k : Rdn × Uid). k.1) c.next.new.self) c.in_ok-push.ensures.ok
    ∙ append_assoc c.loop-kid.ids (c.in-Some.kid.now.1 ∷ []) (map (λ (k : Rdn × Uid). k.1) c.next.new.self)
    ∙ ap (λ (ks : List (Rdn × Uid)). c.loop-kid.ids ++ map (λ (k : Rdn × Uid). k.1) ks) (sym c.in-Some.ensures.steps)
    ∙ c.loop-kid.invariant

pub returns : goal.returns
returns c =
    sym (append-nil c.loop-kid.ids)
    ∙ ap (λ (ks : List (Rdn × Uid)). c.loop-kid.ids ++ map (λ (k : Rdn × Uid). k.1) ks) (sym c.in-None.ensures.steps.0)
    ∙ c.loop-kid.invariant

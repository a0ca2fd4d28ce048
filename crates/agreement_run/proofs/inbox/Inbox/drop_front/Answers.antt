use Rattle.std.proofs.Common.{rules, sym, ap, ◌∙◌, ◌-◌, take}
use Rattle.std.proofs.lemmas.List.{with_items_is, places}
use Rattle.agreement_run.proofs.Pieces.{front_gone}
use Rattle.agreement_run.proofs.inbox.Inbox.drop_front.Goals as goal

pub returns : goal.returns
returns c =
    ap (take (c.self.inside.count - c.args.size)) (with_items_is c.self.inside.buf c.copy_within.new.self (search (rules, places)))
    ∙ front_gone _ _ _ _ _ _ (sym c.self.view_is) c.as_mut_slice.ensures.value c.requires c.self.invariant c.copy_within.ensures.after

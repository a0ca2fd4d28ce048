use Rattle.std.proofs.Common.{rules, sym, ap, ◌∙◌, take}
use Rattle.std.proofs.lemmas.List.{with_items_is, places}
use Rattle.agreement_run.proofs.Pieces.{some_came}
use Rattle.agreement_run.proofs.inbox.Inbox.receive.Goals as goal

pub returns-clause-comes : goal.returns-clause-comes
returns-clause-comes g c =
    some_came _ c.self.inside.buf.items c.read_behind.new.buf _ c.self.inside.count c.in-Ok.count _ _ (sym c.self.view_is)
    (c.read_behind.ensures.kept ∙ ap (take c.self.inside.count) c.as_mut_slice.ensures.value ∙ c.make_room.ensures.kept)
    (with_items_is c.make_room.new.buf c.read_behind.new.buf (search (rules, places))) c.in-Ok.ensures.bytes.0

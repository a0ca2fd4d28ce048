use Rattle.std.proofs.Common.{ap, sym, ◌∙◌, option_map}
use Rattle.repl_data.specs.Order.{same_rdn}
use Rattle.repl_data.specs.View.{PresentEntry, is_shown_below}
use Rattle.plain_view.proofs.Views.{find_filter}
use Rattle.plain_view.proofs.view.child_id.Goals as goal

pub returns : goal.returns
returns c =
    c.id_of.ensures
    ∙ ap (option_map (λ (e : PresentEntry). e.id))
    (c.child_named.ensures ∙ sym (find_filter (is_shown_below c.args.parent) (λ (e : PresentEntry). same_rdn e.shown c.args.rdn.now) c.args.present.now))

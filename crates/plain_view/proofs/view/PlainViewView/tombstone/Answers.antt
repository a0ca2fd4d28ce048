use Rattle.std.proofs.Common.{Some, ap, ◌∙◌, option_map}
use Rattle.std.specs.Prelude.{find}
use Rattle.repl_data.specs.Order.{uid_eq}
use Rattle.repl_data.specs.View.{Tombstone, tombstone_shown}
use Rattle.plain_view.proofs.view.PlainViewView.tombstone.Goals as goal

pub returns-in_ok-tombstone_shown-in-Some : goal.returns-in_ok-tombstone_shown-in-Some
returns-in_ok-tombstone_shown-in-Some c =
    ap Some c.in_ok-tombstone_shown-in-Some.ensures
    ∙ ap (option_map (tombstone_shown c.args.self.now))
    (c.in-Some.ensures ∙ ap (find (λ (e : Tombstone). uid_eq e.id c.args.id)) (c.as_slice.ensures ∙ (λ i. (c.self.view_is i).gone)))

use Rattle.std.proofs.Common.{map, ap, ◌∙◌}
use Rattle.repl_data.specs.Facts.{attrs_shown}
use Rattle.plain_view.specs.Seen.{kept}
use Rattle.plain_view.proofs.Views.{kept_users, users_kept}
use Rattle.plain_view.proofs.facts.EntryFacts.attrs_shown.Goals as goal

pub of-requires : goal.of-requires
of-requires c = users_kept c.in_ok-users.users (attrs_shown c.args.self.now) c.in_ok-users.ensures

pub returns : goal.returns
returns c = c.of.ensures ∙ ap (map kept) c.in_ok-users.ensures ∙ kept_users (attrs_shown c.args.self.now)

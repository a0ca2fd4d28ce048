use Rattle.std.proofs.Common.{map, ap, sym, ◌∙◌}
use Rattle.view_snap.proofs.Users.{as_users, users_again, users_same}
use Rattle.view_snap.proofs.seen.Seen.of.Goals as goal

pub invariant_of-result : goal.invariant_of-result
invariant_of-result c = (c.is_lost-lost.ensures, users_again c.args.told.now.attrs c.in_ok-users.users (c.in_ok-users.ensures ∙ ap as_users c.as_slice.ensures))

pub returns : goal.returns
returns c = λ i. record {
  parent = c.args.told.now.parent;
  name = c.in_ok-name.ensures i;
  shown = c.in_ok-shown.ensures i;
  glue = c.args.told.now.glue;
  attrs = users_same c.args.told.now.attrs c.in_ok-users.users (c.in_ok-users.ensures ∙ ap as_users c.as_slice.ensures) i;
}

use Rattle.std.proofs.Common.{◌≡◌, Bool, false, not, sym, ap, subst, ◌∙◌}
use Rattle.std.specs.Prelude.{◌&&◌}
use Rattle.repl_data.specs.declared.csn.Uid.{Uid}
use Rattle.repl_data.specs.Order.{same_rdn}
use Rattle.repl_data.specs.Presence.{present_of}
use Rattle.repl_data.specs.Names.{has_id, with_id}
use Rattle.urp_tree.specs.declared.row.Row.{Row}
use Rattle.urp_tree.specs.Rows.{facts_in}
use Rattle.urp_tree.proofs.ByName.{sought_is}
use Rattle.urp_tree.proofs.named.is_lost_child.Goals as goal

pub lost-lost-requires-clause-parent : goal.lost-lost-requires-clause-parent
lost-lost-requires-clause-parent c = c.requires.keeps.parent

pub returns : goal.returns
returns c =
    let id : Uid = c.args.row.now.entry.id in
    c.and-2.ensures
    ∙ ap (λ (b : Bool). c.stands_below-child.result && b) c.and.ensures
    ∙ sought_is (present_of (facts_in c.args.rows.now.entries)) c.args.parent c.args.rdn.now c.args.row.now.entry c.requires.keeps.plain c.requires.joined c.stands_below-child.result c.lost-lost.result c.is_joined-joined.result
    c.stands_below-child.ensures c.lost-lost.ensures
    (subst (λ (r : Row). has_id r.entry.rdn ≡ false → c.is_joined-joined.result ≡ same_rdn (with_id id r.entry.rdn) c.args.rdn.now) c.row.view_is (λ none. c.is_joined-joined.ensures id none c.requires.text))

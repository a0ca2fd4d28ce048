use Rattle.std.proofs.Common.{◌≡◌, List, Option, Some, map, refl, sym, ap, ◌∙◌}
use Rattle.std.specs.Option.{option_copied}
use Rattle.repl_data.specs.declared.change.Rdn.{Rdn}
use Rattle.repl_data.specs.Order.{foldr, put_by, rdn_key}
use Rattle.repl_data.specs.Presence.{present_of}
use Rattle.repl_data.specs.View.{shown_key_cmp}
use Rattle.urp_tree.specs.declared.row.Row.{Row}
use Rattle.urp_tree.specs.Rows.{row_at, facts_in}
use Rattle.urp_tree.specs.Listed.{Kid, kid_key, kids_of}
use Rattle.urp_tree.proofs.Seen.{kept}
use Rattle.urp_tree.proofs.Listed.{kids_insert}
use Rattle.urp_tree.proofs.listing.put_kid.Goals as goal

pub shown_name-requires-clause-parent : goal.shown_name-requires-clause-parent
shown_name-requires-clause-parent c = (kept c.args.rows.now c.requires c.seat_count-seats.ensures.ordered c.args.id c.in-Some.row.now (sym c.row_of.ensures ∙ ap option_copied c.in-Some.is)).parent

pub returns-in_default : goal.returns-in_default
returns-in_default c = ap (λ (o : Option Row). foldr (put_by (λ (k : Kid). k) shown_key_cmp) (map kid_key c.args.kids.now.keys) (kids_of (present_of (facts_in c.args.rows.now.entries)) c.args.id o)) (sym (sym c.row_of.ensures ∙ ap option_copied c.in_default.is))

pub returns : goal.returns
returns c =
    ap (map kid_key) c.in_ok-insert.ensures.keys
    ∙ kids_insert (c.in_ok-name.name, c.args.id) c.args.kids.now.keys
    ∙ ap (λ (n : Rdn). put_by (λ (k : Kid). k) shown_key_cmp (rdn_key n, c.args.id) (map kid_key c.args.kids.now.keys)) c.in_ok-name.ensures
    ∙ ap (λ (o : Option Row). foldr (put_by (λ (k : Kid). k) shown_key_cmp) (map kid_key c.args.kids.now.keys) (kids_of (present_of (facts_in c.args.rows.now.entries)) c.args.id o)) (sym (sym c.row_of.ensures ∙ ap option_copied c.in-Some.is))

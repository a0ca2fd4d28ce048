use Rattle.std.proofs.Common.{◌≡◌, [], Some, None, true, refl, sym, ap, subst, ◌∙◌}
use Rattle.std.specs.Prelude.{find}
use Rattle.std.specs.Option.{option_copied}
use Rattle.repl_data.specs.declared.csn.Uid.{Uid}
use Rattle.repl_data.specs.Text.{uid_text}
use Rattle.repl_data.specs.Presence.{present_of, is_among_entries}
use Rattle.urp_tree.specs.Rows.{facts_in}
use Rattle.urp_tree.proofs.Fits.{row_id}
use Rattle.urp_tree.proofs.IdNames.{is_id, any_part, none_found}
use Rattle.urp_tree.proofs.ByName.{joined, none_read, none_other, none_sought, the_sought}
use Rattle.urp_tree.proofs.named.child.Goals as goal

pub returns-in_default : goal.returns-in_default
returns-in_default c = λ suffix.
    c.holder.ensures suffix (any_part c.args.rdn.now.avas ∙ none_found c.args.rdn.now.avas (ap (find is_id) (sym c.as_slice.ensures) ∙ sym c.id_part.ensures ∙ ap option_copied c.in_default.is))

pub returns-in_default-read : goal.returns-in_default-read
returns-in_default-read c = λ suffix.
    none_read c.args.rows.now c.requires c.seat_count-seats.ensures.ordered suffix c.args.parent c.args.rdn.now c.in-Some.part.now
    (ap (find is_id) (sym c.as_slice.ensures) ∙ sym c.id_part.ensures ∙ ap option_copied c.in-Some.is)
    (λ v r s. sym c.in_default-read.is ∙ c.read.ensures.again v r (c.as_slice-2.ensures ∙ s))

pub returns-in_default-present_row : goal.returns-in_default-present_row
returns-in_default-present_row c = λ suffix.
    none_other c.args.rows.now c.requires c.seat_count-seats.ensures.ordered suffix c.args.parent c.args.rdn.now c.in-Some.part.now
    (ap (find is_id) (sym c.as_slice.ensures) ∙ sym c.id_part.ensures ∙ ap option_copied c.in-Some.is)
    c.in-Some-read.id
    (λ v r s. sym c.in-Some-read.is ∙ c.read.ensures.again v r (c.as_slice-2.ensures ∙ s))
    c.in_default-present_row.ensures.row

pub is_lost_child-requires-clause-keeps : goal.is_lost_child-requires-clause-keeps
is_lost_child-requires-clause-keeps c = c.in-Some-present_row.ensures.keeps

pub is_lost_child-requires-clause-text : goal.is_lost_child-requires-clause-text
is_lost_child-requires-clause-text c =
    c.as_slice-3.ensures ∙ sym c.as_slice-2.ensures ∙ c.in-Some-read.ensures.found
    ∙ ap uid_text (sym (row_id c.args.rows.now c.requires c.seat_count-seats.ensures.ordered c.in-Some-read.id c.in-Some-present_row.row.now c.in-Some-present_row.ensures.at))

pub is_lost_child-requires-clause-joined : goal.is_lost_child-requires-clause-joined
is_lost_child-requires-clause-joined c =
    joined c.args.rows.now c.requires c.seat_count-seats.ensures.ordered [] c.args.parent c.args.rdn.now c.in-Some.part.now
    (ap (find is_id) (sym c.as_slice.ensures) ∙ sym c.id_part.ensures ∙ ap option_copied c.in-Some.is)

pub returns-then-is_lost_child : goal.returns-then-is_lost_child
returns-then-is_lost_child c = λ suffix.
    let id : c.in-Some-present_row.row.now.entry.id ≡ c.in-Some-read.id = row_id c.args.rows.now c.requires c.seat_count-seats.ensures.ordered c.in-Some-read.id c.in-Some-present_row.row.now c.in-Some-present_row.ensures.at in
    the_sought c.args.rows.now c.requires c.seat_count-seats.ensures.ordered suffix c.args.parent c.args.rdn.now c.in-Some.part.now
    (ap (find is_id) (sym c.as_slice.ensures) ∙ sym c.id_part.ensures ∙ ap option_copied c.in-Some.is)
    c.in-Some-read.id
    (λ v r s. sym c.in-Some-read.is ∙ c.read.ensures.again v r (c.as_slice-2.ensures ∙ s))
    c.in-Some-present_row.row.now c.in-Some-present_row.ensures.at
    (subst (λ (u : Uid). is_among_entries (present_of (facts_in c.args.rows.now.entries)) u ≡ true) id c.in-Some-present_row.ensures.here.own)
    id
    (sym c.is_lost_child.ensures ∙ c.if-is_lost_child.true)

pub returns : goal.returns
returns c = λ suffix.
    none_sought c.args.rows.now c.requires c.seat_count-seats.ensures.ordered suffix c.args.parent c.args.rdn.now c.in-Some.part.now
    (ap (find is_id) (sym c.as_slice.ensures) ∙ sym c.id_part.ensures ∙ ap option_copied c.in-Some.is)
    c.in-Some-read.id
    (λ v r s. sym c.in-Some-read.is ∙ c.read.ensures.again v r (c.as_slice-2.ensures ∙ s))
    c.in-Some-present_row.row.now c.in-Some-present_row.ensures.at
    (sym c.is_lost_child.ensures ∙ c.if-is_lost_child.false)

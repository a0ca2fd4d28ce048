use Rattle.std.proofs.Common.{◌≡◌, Bool, not, List, Some, sym, ap, ◌∙◌}
use Rattle.std.specs.Option.{option_copied}
use Rattle.std.specs.List.{list_any}
use Rattle.repl_data.specs.Facts.{EntryFacts}
use Rattle.repl_data.specs.Presence.{present_of}
use Rattle.urp_names.specs.declared.contenders.Contender.{Contender}
use Rattle.urp_names.specs.Contending.{comes_before}
use Rattle.urp_tree.specs.Index.{contender, who_at}
use Rattle.urp_tree.specs.Rows.{row_at, facts_in}
use Rattle.urp_tree.specs.Walk.{child_of}
use Rattle.urp_tree.proofs.Fits.{no_row}
use Rattle.urp_tree.proofs.Lost.{lost_same}
use Rattle.urp_tree.proofs.asked.lost.Goals as goal
use Rattle.repl_data.proofs.Bools.{never}

pub returns-in-Some : goal.returns-in-Some
returns-in-Some c =
    let e : EntryFacts = c.args.entry.now in
    let beaten : Bool → EntryFacts → Bool = λ b x. list_any (λ (d : Contender). comes_before d (record { id = x.id; glue = not b; named = x.named })) (who_at c.in-Some.row.now.names x.rdn) in
    let there : row_at c.args.rows.now e.parent ≡ Some c.in-Some.row.now = ap (λ (x : EntryFacts). row_at c.args.rows.now x.parent) (sym c.entry.view_is) ∙ sym c.row_of.ensures ∙ ap option_copied c.in-Some.is in
    c.loses.ensures c.entry.inside.id
    ∙ (λ i. beaten (c.is_live.ensures i) (c.entry.view_is i))
    ∙ ap (λ (who : List Contender). list_any (λ (d : Contender). comes_before d (contender (child_of e))) who) ((c.requires.tree.indexed e.parent c.in-Some.row.now there).who e.rdn)
    ∙ lost_same e (present_of (facts_in c.args.rows.now.entries))

pub returns-in-None : goal.returns-in-None
returns-in-None c =
    never _ c.requires.parent (no_row c.args.rows.now c.requires.tree c.seat_count-seats.ensures.ordered c.args.entry.now.parent (ap (λ (e : EntryFacts). row_at c.args.rows.now e.parent) (sym c.entry.view_is) ∙ sym c.row_of.ensures ∙ ap option_copied c.in-None.is))

use Rattle.std.proofs.Common.{◌≡◌, ◌⊎◌, List, [], true, false, None, Some, suc, length, refl, sym, ap, subst, ◌∙◌}
use Rattle.std.specs.List.{AllByRecursion}
use Rattle.repl_data.specs.declared.csn.Uid.{Uid}
use Rattle.repl_data.specs.Order.{uid_eq, suffix_id}
use Rattle.repl_data.specs.Text.{IsInRange}
use Rattle.repl_data.specs.Closed.{needed}
use Rattle.repl_data.specs.Facts.{EntryFacts}
use Rattle.repl_data.specs.Presence.{is_among_entries}
use Rattle.repl_data.specs.View.{view_of_facts}
use Rattle.stamp_entry.specs.Raised.{is_add}
use Rattle.urp_tree.specs.declared.step.Step.{Step}
use Rattle.urp_tree.specs.Rows.{facts_in}
use Rattle.urp_tree.specs.Known.{Known, IsTree, IsReadyFor, known_view, put_fact}
use Rattle.urp_tree.specs.Climb.{RoomFor, IsWay}
use Rattle.urp_tree.specs.Planned.{Planned}
use Rattle.urp_tree.specs.Changes.{AreChanges}
use Rattle.urp_tree.specs.Moves.{IsViewMove}
use Rattle.urp_tree.proofs.Plans.{idle, small_enough, planned_tree, planned_ready}
use Rattle.urp_tree.proofs.Fits.{own_below, own_rooted, own_root}
use Rattle.urp_tree.proofs.Plain.{own_plain}
use Rattle.urp_tree.proofs.tree.UrpTree.plan.Goals as goal

pub forget-requires : goal.forget-requires
forget-requires c = idle c.self.inside.rows c.self.inside.target c.self.inside.steps c.self.invariant

pub invariant_of-self-2 : goal.invariant_of-self-2
invariant_of-self-2 c =
    let e : EntryFacts = c.in_ok-row.row.entry in
    let fs : List EntryFacts = facts_in c.forget.new.rows.entries in
    planned_tree c.prepare.new.rows fs e c.in_ok-steps.steps c.id_of-target.result c.prepare.ensures.tree c.prepare.ensures.facts
    (small_enough (length fs) c.seat_count-seats.result c.seat_count-seats.ensures.facts c.seat_count-seats.ensures.small)
    c.in_ok-steps.ensures.leads c.in_ok-prepare.ensures.seat
    (subst (λ (ss : List Step). AllByRecursion (RoomFor c.prepare.new.rows) ss) c.as_slice-3.ensures c.in_ok-prepare.ensures.rooms)

pub returns-clause-ready : goal.returns-clause-ready
returns-clause-ready c =
    let e : EntryFacts = c.in_ok-row.row.entry in
    let fs : List EntryFacts = facts_in c.forget.new.rows.entries in
    let tree : IsTree c.forget.new.rows None [] = c.forget.ensures.tree in
    let facts : fs ≡ c.args.self.now.facts = c.forget.ensures.facts ∙ ap (λ (k : Known). k.facts) c.self.view_is in
    let known : is_among_entries fs (needed c.args.change.now.target c.args.change.now.body) ≡ true = ap (λ (es : List EntryFacts). is_among_entries es (needed c.args.change.now.target c.args.change.now.body)) facts ∙ c.requires.known in
    let fresh : is_add c.args.change.now.body ≡ true → is_among_entries fs c.args.change.now.target ≡ false = (λ a. ap (λ (es : List EntryFacts). is_among_entries es c.args.change.now.target) facts ∙ c.requires.fresh a) in
    let k : Known = record { suffix = c.self.inside.suffix; facts = facts_in c.prepare.new.rows.entries; target = Some c.id_of-target.result; steps = c.in_ok-steps.steps } in
    subst (λ (p : Planned). IsReadyFor k p.entry) (sym c.of.ensures)
    (planned_ready k fs e c.in_ok-steps.steps c.prepare.ensures.facts (ap Some c.id_of-target.ensures.id) refl c.in_ok-steps.ensures.leads
    (own_below c.forget.new.rows tree c.seat_count-seats.ensures.ordered c.args.change.now c.requires.sound known fresh e c.in_ok-row.ensures.facts)
    (own_rooted c.forget.new.rows tree c.seat_count-seats.ensures.ordered c.args.change.now c.requires.sound known fresh e c.in_ok-row.ensures.facts)
    (own_root c.forget.new.rows tree c.seat_count-seats.ensures.ordered c.args.change.now c.requires.sound known fresh e c.in_ok-row.ensures.facts)
    (own_plain c.forget.new.rows tree c.seat_count-seats.ensures.ordered c.args.change.now c.requires.sound known fresh e c.in_ok-row.ensures.facts (subst (λ (u : Uid). IsInRange u.csn) c.id_of-target.ensures.id c.id_of-target.ensures.range)))

pub returns-clause-changed : goal.returns-clause-changed
returns-clause-changed c =
    let e : EntryFacts = c.in_ok-row.row.entry in
    let k : Known = c.args.self.now in
    let facts : facts_in c.forget.new.rows.entries ≡ k.facts = c.forget.ensures.facts ∙ ap (λ (k : Known). k.facts) c.self.view_is in
    subst (λ (p : Planned). AreChanges (known_view k) (view_of_facts k.suffix (put_fact p.entry k.facts)) p.entry.id p.changed) (sym c.of.ensures)
    (subst (λ (es : List EntryFacts). AreChanges (view_of_facts k.suffix es) (view_of_facts k.suffix (put_fact e es)) e.id c.in_ok-changed.changed) facts (c.in_ok-changed.ensures.changed k.suffix))

pub returns-clause-moves : goal.returns-clause-moves
returns-clause-moves c =
    let e : EntryFacts = c.in_ok-row.row.entry in
    let k : Known = c.args.self.now in
    let facts : facts_in c.forget.new.rows.entries ≡ k.facts = c.forget.ensures.facts ∙ ap (λ (k : Known). k.facts) c.self.view_is in
    subst (λ (p : Planned). IsViewMove (known_view k) (view_of_facts k.suffix (put_fact p.entry k.facts)) p.changed) (sym c.of.ensures)
    (subst (λ (es : List EntryFacts). IsViewMove (view_of_facts k.suffix es) (view_of_facts k.suffix (put_fact e es)) c.in_ok-changed.changed) facts (c.in_ok-changed.ensures.moves k.suffix))

pub changes-requires-clause-below : goal.changes-requires-clause-below
changes-requires-clause-below c =
    let e : EntryFacts = c.in_ok-row.row.entry in
    let fs : List EntryFacts = facts_in c.forget.new.rows.entries in
    let facts : fs ≡ c.args.self.now.facts = c.forget.ensures.facts ∙ ap (λ (k : Known). k.facts) c.self.view_is in
    let known : is_among_entries fs (needed c.args.change.now.target c.args.change.now.body) ≡ true = ap (λ (es : List EntryFacts). is_among_entries es (needed c.args.change.now.target c.args.change.now.body)) facts ∙ c.requires.known in
    let fresh : is_add c.args.change.now.body ≡ true → is_among_entries fs c.args.change.now.target ≡ false = (λ a. ap (λ (es : List EntryFacts). is_among_entries es c.args.change.now.target) facts ∙ c.requires.fresh a) in
    own_below c.forget.new.rows c.forget.ensures.tree c.seat_count-seats.ensures.ordered c.args.change.now c.requires.sound known fresh e c.in_ok-row.ensures.facts

pub changes-requires-clause-rooted : goal.changes-requires-clause-rooted
changes-requires-clause-rooted c =
    let e : EntryFacts = c.in_ok-row.row.entry in
    let fs : List EntryFacts = facts_in c.forget.new.rows.entries in
    let facts : fs ≡ c.args.self.now.facts = c.forget.ensures.facts ∙ ap (λ (k : Known). k.facts) c.self.view_is in
    let known : is_among_entries fs (needed c.args.change.now.target c.args.change.now.body) ≡ true = ap (λ (es : List EntryFacts). is_among_entries es (needed c.args.change.now.target c.args.change.now.body)) facts ∙ c.requires.known in
    let fresh : is_add c.args.change.now.body ≡ true → is_among_entries fs c.args.change.now.target ≡ false = (λ a. ap (λ (es : List EntryFacts). is_among_entries es c.args.change.now.target) facts ∙ c.requires.fresh a) in
    own_rooted c.forget.new.rows c.forget.ensures.tree c.seat_count-seats.ensures.ordered c.args.change.now c.requires.sound known fresh e c.in_ok-row.ensures.facts

pub changes-requires-clause-root : goal.changes-requires-clause-root
changes-requires-clause-root c =
    let e : EntryFacts = c.in_ok-row.row.entry in
    let fs : List EntryFacts = facts_in c.forget.new.rows.entries in
    let facts : fs ≡ c.args.self.now.facts = c.forget.ensures.facts ∙ ap (λ (k : Known). k.facts) c.self.view_is in
    let known : is_among_entries fs (needed c.args.change.now.target c.args.change.now.body) ≡ true = ap (λ (es : List EntryFacts). is_among_entries es (needed c.args.change.now.target c.args.change.now.body)) facts ∙ c.requires.known in
    let fresh : is_add c.args.change.now.body ≡ true → is_among_entries fs c.args.change.now.target ≡ false = (λ a. ap (λ (es : List EntryFacts). is_among_entries es c.args.change.now.target) facts ∙ c.requires.fresh a) in
    own_root c.forget.new.rows c.forget.ensures.tree c.seat_count-seats.ensures.ordered c.args.change.now c.requires.sound known fresh e c.in_ok-row.ensures.facts

pub changes-requires-clause-plain : goal.changes-requires-clause-plain
changes-requires-clause-plain c =
    let e : EntryFacts = c.in_ok-row.row.entry in
    let fs : List EntryFacts = facts_in c.forget.new.rows.entries in
    let facts : fs ≡ c.args.self.now.facts = c.forget.ensures.facts ∙ ap (λ (k : Known). k.facts) c.self.view_is in
    let known : is_among_entries fs (needed c.args.change.now.target c.args.change.now.body) ≡ true = ap (λ (es : List EntryFacts). is_among_entries es (needed c.args.change.now.target c.args.change.now.body)) facts ∙ c.requires.known in
    let fresh : is_add c.args.change.now.body ≡ true → is_among_entries fs c.args.change.now.target ≡ false = (λ a. ap (λ (es : List EntryFacts). is_among_entries es c.args.change.now.target) facts ∙ c.requires.fresh a) in
    own_plain c.forget.new.rows c.forget.ensures.tree c.seat_count-seats.ensures.ordered c.args.change.now c.requires.sound known fresh e c.in_ok-row.ensures.facts (subst (λ (u : Uid). IsInRange u.csn) c.id_of-target.ensures.id c.id_of-target.ensures.range)

pub changes-requires-clause-way : goal.changes-requires-clause-way
changes-requires-clause-way c =
    let fs : List EntryFacts = facts_in c.forget.new.rows.entries in
    subst (IsWay (suc (length fs)) fs c.in_ok-row.row.entry) (sym c.as_slice-2.ensures) c.in_ok-steps.ensures.leads

pub changes-requires-clause-child : goal.changes-requires-clause-child
changes-requires-clause-child c =
    subst (λ (ss : List Step). (ss ≡ []) ⊎ (uid_eq c.in_ok-row.row.entry.id suffix_id ≡ false)) (sym c.as_slice-2.ensures) c.in_ok-steps.ensures.child

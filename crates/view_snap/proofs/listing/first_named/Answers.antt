use Rattle.std.proofs.Common.{◌≡◌, List, ◌∷◌, Bool, true, false, cond, Option, Some, None, refl, sym, ap, ◌∙◌}
use Rattle.repl_data.specs.declared.csn.Uid.{Uid}
use Rattle.view_snap.proofs.Walks.{Row, named_upward, named_none, named_first}
use Rattle.view_snap.proofs.listing.first_named.Goals as goal

pub walk_from-requires : goal.walk_from-requires
walk_from-requires c = named_upward c.args.parent c.args.rdn.now

pub returns-in_err-spot : goal.returns-in_err-spot
returns-in_err-spot c = c.from_residual.ensures ∙ named_none c.args.parent c.args.rdn.now c.args.below.now (sym c.in_err-spot.ensures.steps.0 ∙ c.walk_from.ensures)

pub returns-then-is_named : goal.returns-then-is_named
returns-then-is_named c =
    let here : Option Uid = Some c.in_ok-spot.spot.now.id in
    sym (named_first c.args.parent c.args.rdn.now c.args.below.now (c.in_ok-spot.spot.now, c.in_ok-spot.field-0-1.now) c.next.new.self c.requires (sym c.in_ok-spot.ensures.steps ∙ c.walk_from.ensures)
    ∙ ap (λ (b : Bool). cond b here None) (sym c.is_named.ensures ∙ c.if-is_named.true))

pub returns : goal.returns
returns c =
    let here : Option Uid = Some c.in_ok-spot.spot.now.id in
    sym (named_first c.args.parent c.args.rdn.now c.args.below.now (c.in_ok-spot.spot.now, c.in_ok-spot.field-0-1.now) c.next.new.self c.requires (sym c.in_ok-spot.ensures.steps ∙ c.walk_from.ensures)
    ∙ ap (λ (b : Bool). cond b here None) (sym c.is_named.ensures ∙ c.if-is_named.false))

use Rattle.std.proofs.Common.{◌≡◌, List, [], ◌∷◌, ◌++◌, Bool, true, false, not, cond, map, filter, refl, sym, ap, subst, ◌∙◌, append-nil, append_assoc}
use Rattle.std.specs.List.{AllByRecursion}
use Rattle.std.specs.Map.{keys_of}
use Rattle.std.proofs.lemmas.Map.Keys.{sorted_tail}
use Rattle.repl_data.specs.declared.csn.Uid.{Uid}
use Rattle.cow_map.specs.Rows.{IsRising}
use Rattle.view_snap.specs.declared.spot.Spot.{Spot}
use Rattle.view_snap.specs.Maps.{spot_cmp}
use Rattle.view_snap.specs.Listed.{is_below}
use Rattle.view_snap.proofs.Walks.{Row, below_upward, below_first, below_last, is_from_below, from_rising, from_all}
use Rattle.view_snap.proofs.listing.ids_below.Goals as goal

pub walk_from-spot-items-requires : goal.walk_from-spot-items-requires
walk_from-spot-items-requires c = below_upward c.args.parent

pub loop-spot-init : goal.loop-spot-init
loop-spot-init c =
    let is = c.into_iter-spot-iterator.ensures.into_iter_gives ∙ c.walk_from-spot-items.ensures in
    record {
      more =
          (λ i. c.new-ids.ensures i ++ map (λ (k : Spot). k.id) (filter (is_below c.args.parent) (keys_of (is i))))
          ∙ ap (map (λ (k : Spot). k.id)) (below_first c.args.parent c.args.below.now);
      rises = subst (λ (rows : List Row). IsRising spot_cmp rows) (sym is) (from_rising (is_from_below c.args.parent) c.args.below.now c.requires);
      from = subst (λ (rows : List Row). AllByRecursion (λ (k : Spot). is_from_below c.args.parent k ≡ true) (keys_of rows)) (sym is) (from_all (is_from_below c.args.parent) c.args.below.now);
    }

pub returns-then-not-is_below : goal.returns-then-not-is_below
returns-then-not-is_below c =
    let steps = c.in-Some.ensures.steps in
    let rises = subst (λ (rows : List Row). IsRising spot_cmp rows) steps c.loop-spot.invariant.rises in
    let from = subst (λ (rows : List Row). AllByRecursion (λ (k : Spot). is_from_below c.args.parent k ≡ true) (keys_of rows)) steps c.loop-spot.invariant.from in
    sym (append-nil c.loop-spot.ids)
    ∙ ap (λ (ks : List Spot). c.loop-spot.ids ++ map (λ (k : Spot). k.id) ks)
    (sym (ap (λ (rows : List Row). filter (is_below c.args.parent) (keys_of rows)) steps
    ∙ below_last c.args.parent (c.in-Some.spot.now, c.in-Some.field-0-1.now) c.next.new.self rises from.0 (sym c.is_below.ensures ∙ c.if-not-is_below.true)))
    ∙ c.loop-spot.invariant.more

pub loop-spot-preserved : goal.loop-spot-preserved
loop-spot-preserved c =
    let steps = c.in-Some.ensures.steps in
    let rises = subst (λ (rows : List Row). IsRising spot_cmp rows) steps c.loop-spot.invariant.rises in
    let from = subst (λ (rows : List Row). AllByRecursion (λ (k : Spot). is_from_below c.args.parent k ≡ true) (keys_of rows)) steps c.loop-spot.invariant.from in
    let rest : List Spot = filter (is_below c.args.parent) (keys_of c.next.new.self) in
    record {
      more =
          ap (λ (us : List Uid). us ++ map (λ (k : Spot). k.id) rest) c.in_ok-push.ensures.ok
          ∙ append_assoc c.loop-spot.ids (c.in-Some.spot.now.id ∷ []) (map (λ (k : Spot). k.id) rest)
          ∙ ap (λ (us : List Uid). c.loop-spot.ids ++ us)
          (sym (ap (λ (rows : List Row). map (λ (k : Spot). k.id) (filter (is_below c.args.parent) (keys_of rows))) steps
          ∙ ap (λ (b : Bool). map (λ (k : Spot). k.id) (cond b (c.in-Some.spot.now ∷ rest) rest)) (sym c.is_below.ensures ∙ c.if-not-is_below.false)))
          ∙ c.loop-spot.invariant.more;
      rises = sorted_tail spot_cmp c.in-Some.spot.now (keys_of c.next.new.self) rises;
      from = from.1;
    }

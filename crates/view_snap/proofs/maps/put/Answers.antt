use Rattle.std.proofs.Common.{◌≡◌, Bool, Option, Some, cond, sym, ap, subst, ◌∙◌}
use Rattle.std.specs.Prelude.{◌&&◌, ◌||◌, not}
use Rattle.repl_data.specs.declared.csn.Uid.{Uid}
use Rattle.repl_data.specs.Order.{uid_eq}
use Rattle.view_snap.specs.declared.spot.Spot.{Spot}
use Rattle.view_snap.specs.Told.{Told, told_of}
use Rattle.view_snap.specs.Maps.{told_at, spot_in, spot_of, is_spot, has_spot}
use Rattle.view_snap.proofs.Spots.{spot_there, put_spots}
use Rattle.view_snap.proofs.maps.put.Goals as goal

pub respotted-requires-clause-rising : goal.respotted-requires-clause-rising
respotted-requires-clause-rising g c = c.requires.below

pub respotted-requires-clause-there : goal.respotted-requires-clause-there
respotted-requires-clause-there g c = λ q h.
    spot_there c.args.maps.now c.requires c.args.told.now.id q (sym (ap (λ (o : Option Spot). is_spot o q) (c.in_ok-old.ensures ∙ ap (spot_in c.args.told.now.id) c.get.ensures.value)) ∙ h)

pub returns-clause-maps : goal.returns-clause-maps
returns-clause-maps g c = record {
  entries = c.in_ok-entries.ensures.rising;
  below = c.in_ok-below.ensures.rising;
  spots =
      put_spots c.args.maps.now c.requires c.args.told.now.id (told_of c.args.told.now) c.in_ok-below.below c.in_ok-entries.entries
      (λ q. c.in_ok-below.ensures.spots q
      ∙ (λ i. is_spot ((c.in_ok-new.ensures ∙ ap (spot_of c.args.told.now.id) c.in_ok-seen.ensures) i) q || (not (is_spot ((c.in_ok-old.ensures ∙ ap (spot_in c.args.told.now.id) c.get.ensures.value) i) q) && has_spot c.args.maps.now.below q)))
      (λ w. c.in_ok-entries.ensures.entries w ∙ ap (λ (t : Told). cond (uid_eq c.args.told.now.id w) (Some t) (told_at c.args.maps.now.entries w)) c.in_ok-seen.ensures);
}

pub returns-clause-entries : goal.returns-clause-entries
returns-clause-entries g c = λ w. c.in_ok-entries.ensures.entries w ∙ ap (λ (t : Told). cond (uid_eq c.args.told.now.id w) (Some t) (told_at c.args.maps.now.entries w)) c.in_ok-seen.ensures

-- A tree that is ready for a plan.
use Rattle.std.proofs.Common.{◌≡◌, ℕ, suc, ◌<◌, ◌≤◌, ◌^◌, List, [], length, true, Option, Some, None, sym, ap, subst, ◌∙◌, arith}
use Rattle.std.specs.List.{AllByRecursion}
use Rattle.std.specs.BTreeMap.{BTreeMap}
use Rattle.repl_data.specs.declared.csn.Uid.{Uid}
use Rattle.repl_data.specs.Facts.{EntryFacts}
use Rattle.repl_data.specs.Presence.{HasParentBelow, is_among_entries}
use Rattle.urp_tree.specs.declared.row.Row.{Row}
use Rattle.urp_tree.specs.declared.step.Step.{Step}
use Rattle.urp_tree.specs.Rows.{facts_in}
use Rattle.urp_tree.specs.Walk.{children_in, children_of_facts, stepped}
use Rattle.urp_tree.specs.Known.{Known, put_fact, IsTree, IsReadyFor, IsLiveRoot, IsPlain, HasSeat}
use Rattle.urp_tree.specs.Climb.{AreTrue, IsWay, RoomFor}
use Rattle.urp_tree.proofs.Settled.{rising_children}
use Rattle.urp_tree.proofs.CanWalk.{can_walk}

pub idle : (rows : BTreeMap Uid (Option Row)) (target : Option Uid) (steps : List Step) → IsTree rows target steps → IsTree rows None []
idle rows target steps tree = record {
  sound = tree.sound;
  keyed = tree.keyed;
  rises = tree.rises;
  below = tree.below;
  rooted = tree.rooted;
  roots = tree.roots;
  plain = tree.plain;
  indexed = tree.indexed;
  seat = tt;
  can = tt;
}

pub small_enough : (a b : ℕ) → a ≤ b → b < 2 ^ 63 → suc a ≤ 2 ^ 63
small_enough a b h g = omega arith

pub planned_tree : (rows : BTreeMap Uid (Option Row)) (fs : List EntryFacts) (e : EntryFacts) (ss : List Step) (target : Uid) → IsTree rows None [] → facts_in rows.entries ≡ fs → suc (length fs) ≤ 2 ^ 63
    → IsWay (suc (length fs)) fs e ss → HasSeat rows (Some target) → AllByRecursion (RoomFor rows) ss → IsTree rows (Some target) ss
planned_tree rows fs e ss target tree same small way seat rooms = record {
  sound = tree.sound;
  keyed = tree.keyed;
  rises = tree.rises;
  below = tree.below;
  rooted = tree.rooted;
  roots = tree.roots;
  plain = tree.plain;
  indexed = tree.indexed;
  seat = seat;
  can =
      can_walk (suc (length fs)) ss (children_in rows) rows small (rising_children (facts_in rows.entries) tree.rises)
      (subst (λ es. AreTrue (suc (length fs)) (children_of_facts es) ss) (sym same) way.trues) way.apart rooms tree.indexed;
}

pub planned_ready : (k : Known) (fs : List EntryFacts) (e : EntryFacts) (ss : List Step) → k.facts ≡ fs → k.target ≡ Some e.id → k.steps ≡ ss
    → IsWay (suc (length fs)) fs e ss → HasParentBelow e → is_among_entries fs e.parent ≡ true → IsLiveRoot e → IsPlain e → IsReadyFor k e
planned_ready k fs e ss same target steps way below rooted root plain = record {
  target = target;
  leads = (λ i. stepped (steps i) (children_of_facts (same i))) ∙ way.leads ∙ ap (λ es. children_of_facts (put_fact e es)) (sym same);
  below = below;
  rooted = ap (λ es. is_among_entries es e.parent) same ∙ rooted;
  root = root;
  plain = plain;
}

use Rattle.std.proofs.Common.{◌≡◌, ℕ, ◌+◌, ◌*◌, ◌≤◌, ◌<◌, List, length, drop, Bool, Option, Some, cond, sym, ap, subst, ◌∙◌, arith}
use Rattle.std.proofs.lemmas.List.{at_drop_more, at_drop_all}
use Rattle.repl_data.specs.declared.csn.Uid.{Uid}
use Rattle.repl_data.specs.Order.{uid_eq}
use Rattle.urp_tree.specs.declared.changed.Changed.{Changed}
use Rattle.view_snap.specs.declared.maps.Maps.{Maps}
use Rattle.view_snap.specs.Told.{Told, told_of}
use Rattle.view_snap.specs.Maps.{AreMaps, told_at, told_after}
use Rattle.view_snap.proofs.Moves.{drop_none}
use Rattle.view_snap.proofs.maps.put_all.Goals as goal

pub loop-one-init : goal.loop-one-init
loop-one-init g c = record {
  maps = subst AreMaps (sym c.in_ok-after.ensures) c.requires;
  entries = λ u. λ i. told_after (drop_none c.args.told.now i) (told_at (c.in_ok-after.ensures i).entries u) u;
  steps = omega arith;
}

pub loop-one-preserved : goal.loop-one-preserved
loop-one-preserved g c =
    let cs : List Changed = c.args.told.now in
    let i : ℕ = c.loop-one.one-index in
    let one : Changed = c.one-item.result in
    record {
      maps = c.in_ok-after-2.ensures.maps;
      entries = λ u.
          ap (λ (o : Option Told). told_after (drop (i + 1) cs) o u) (c.in_ok-after-2.ensures.entries u)
          ∙ ap (λ (x : Changed). told_after (drop (i + 1) cs) (cond (uid_eq x.id u) (Some (told_of x)) (told_at c.loop-one.after.entries u)) u) c.one-item.is
          ∙ sym (at_drop_more (λ (z : List Changed). told_after z (told_at c.loop-one.after.entries u) u) cs i one c.loop-one-test.true)
          ∙ c.loop-one.invariant.entries u;
      steps = omega (arith, c.in_ok-after-2.ensures.steps, c.loop-one.invariant.steps);
    }

pub returns-clause-entries : goal.returns-clause-entries
returns-clause-entries g c = λ u.
    sym (at_drop_all (λ (z : List Changed). told_after z (told_at c.loop-one.after.entries u) u) c.args.told.now c.loop-one.one-index (omega arith))
    ∙ c.loop-one.invariant.entries u

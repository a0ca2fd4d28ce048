use Rattle.std.proofs.Common.{◌≡◌, ◌+◌, ap, arith}
use Rattle.std.specs.Prelude.{sum_by}
use Rattle.repl_data.specs.declared.change.Attr.{Attr}
use Rattle.repl_data.specs.declared.change.Mod.{Mod}
use Rattle.repl_data.specs.Check.{weight, part_weight, attr_weight}
use Rattle.repl_data.proofs.faults.weight.Goals as goal

pub returns-in-Add : goal.returns-in-Add
returns-in-Add c =
    let w : weight c.args.body.now ≡ 512 + sum_by part_weight c.in-Add.rdn.avas + sum_by (λ (a : Attr). attr_weight a.attr a.vals) c.in-Add.attrs = ap weight c.in-Add.is in
    let p : sum_by part_weight c.as_slice.result.now ≡ sum_by part_weight c.in-Add.rdn.avas = ap (sum_by part_weight) c.as_slice.ensures in
    let a : sum_by (λ (a : Attr). attr_weight a.attr a.vals) c.as_slice-in-Add.result.now ≡ sum_by (λ (a : Attr). attr_weight a.attr a.vals) c.in-Add.attrs =
    ap (sum_by (λ (a : Attr). attr_weight a.attr a.vals)) c.as_slice-in-Add.ensures in
    omega (arith, w, p, a)

pub returns-in-Mod : goal.returns-in-Mod
returns-in-Mod c =
    let w : weight c.args.body.now ≡ 512 + sum_by (λ (m : Mod). attr_weight m.attr m.vals) c.in-Mod.mods = ap weight c.in-Mod.is in
    let m : sum_by (λ (m : Mod). attr_weight m.attr m.vals) c.as_slice-in-Mod.result.now ≡ sum_by (λ (m : Mod). attr_weight m.attr m.vals) c.in-Mod.mods =
    ap (sum_by (λ (m : Mod). attr_weight m.attr m.vals)) c.as_slice-in-Mod.ensures in
    omega (arith, w, m)

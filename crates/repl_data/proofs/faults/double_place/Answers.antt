use Rattle.std.proofs.Common.{◌≡◌, ◌≤◌, List, ◌++◌, length, sym, ap, subst, ◌∙◌, arith}
use Rattle.std.specs.Prelude.{ℕ, Option, map, not}
use Rattle.std.specs.List.{position_from}
use Rattle.repl_data.specs.declared.change.Attr.{Attr}
use Rattle.repl_data.specs.declared.change.Ava.{Ava}
use Rattle.repl_data.specs.declared.change.Mod.{Mod}
use Rattle.repl_data.specs.Check.{weight, vals_rise, falls, part_falls, either_place, double_places}
use Rattle.repl_data.proofs.CheckLaws.{position_from-map, add_fits, ren_fits}
use Rattle.repl_data.proofs.faults.double_place.Goals as goal

pub double_in_add-requires : goal.double_in_add-requires
double_in_add-requires c =
    let f = add_fits c.in-Add.parent c.in-Add.rdn c.in-Add.attrs (subst (λ b. weight b ≤ 2097152) c.in-Add.is c.requires) in
    let p : length c.as_slice.result.now ≡ length c.in-Add.rdn.avas = ap length c.as_slice.ensures in
    let a : length c.as_slice-in-Add.result.now ≡ length c.in-Add.attrs = ap length c.as_slice-in-Add.ensures in
    omega (arith, f, p, a)

pub double_in_ren-requires : goal.double_in_ren-requires
double_in_ren-requires c =
    let f = ren_fits c.in-Ren.rdn c.in-Ren.dropped (subst (λ b. weight b ≤ 2097152) c.in-Ren.is c.requires) in
    let p : length c.as_slice-in-Ren.result.now ≡ length c.in-Ren.rdn.avas = ap length c.as_slice-in-Ren.ensures in
    let a : length c.as_slice-in-Ren-2.result.now ≡ length c.in-Ren.dropped = ap length c.as_slice-in-Ren-2.ensures in
    omega (arith, f, p, a)

pub returns-in-Add : goal.returns-in-Add
returns-in-Add c =
    let places : List Ava → List Attr → Option ℕ = λ parts attrs. position_from (λ b. b) 0 (part_falls parts ++ either_place (falls (λ (a : Attr). a.attr.name) attrs) (map (λ (a : Attr). not (vals_rise a.vals)) attrs)) in
    c.double_in_add.ensures ∙ (λ i. places (c.as_slice.ensures i) (c.as_slice-in-Add.ensures i))
    ∙ ap (λ b. position_from (λ b. b) 0 (double_places b)) (sym c.in-Add.is)

pub returns-in-Mod : goal.returns-in-Mod
returns-in-Mod c =
    c.unsorted_mod.ensures
    ∙ ap (λ (mods : List Mod). position_from (λ (m : Mod). not (vals_rise m.vals)) 0 mods) c.as_slice-in-Mod.ensures
    ∙ sym (position_from-map (λ (m : Mod). not (vals_rise m.vals)) 0 c.in-Mod.mods)
    ∙ ap (λ b. position_from (λ b. b) 0 (double_places b)) (sym c.in-Mod.is)

pub returns-in-Ren : goal.returns-in-Ren
returns-in-Ren c =
    let places : List Ava → List Ava → Option ℕ = λ parts dropped. position_from (λ b. b) 0 (part_falls parts ++ part_falls dropped) in
    c.double_in_ren.ensures ∙ (λ i. places (c.as_slice-in-Ren.ensures i) (c.as_slice-in-Ren-2.ensures i))
    ∙ ap (λ b. position_from (λ b. b) 0 (double_places b)) (sym c.in-Ren.is)

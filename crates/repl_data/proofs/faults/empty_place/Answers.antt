use Rattle.std.proofs.Common.{◌+◌, ◌<◌, ◌≤◌, ◌^◌, List, [], ◌∷◌, ◌++◌, length, sym, ap, subst, ◌∙◌}
use Rattle.std.specs.Prelude.{true, map, if◌then◌else◌}
use Rattle.std.specs.List.{position_from}
use Rattle.repl_data.specs.declared.change.Attr.{Attr}
use Rattle.repl_data.specs.declared.change.Mod.{Mod}
use Rattle.repl_data.specs.Check.{weight, is_empty, parts_of, adds_nothing, empty_places}
use Rattle.repl_data.proofs.CheckLaws.{add_fits}
use Rattle.repl_data.proofs.faults.empty_place.Goals as goal

pub empty_in_add-requires : goal.empty_in_add-requires
empty_in_add-requires c =
    let f = add_fits c.in-Add.parent c.in-Add.rdn c.in-Add.attrs (subst (λ b. weight b ≤ 2097152) c.in-Add.is c.requires) in
    subst (λ (attrs : List Attr). length c.in-Add.rdn.avas + length attrs < 2 ^ 64) (sym c.as_slice.ensures) f

pub returns-in-Add : goal.returns-in-Add
returns-in-Add c =
    c.empty_in_add.ensures
    ∙ ap (λ (attrs : List Attr). position_from (λ b. b) 0 (parts_of c.in-Add.rdn ++ map (λ (a : Attr). is_empty a.vals) attrs)) c.as_slice.ensures
    ∙ ap (λ b. position_from (λ b. b) 0 (empty_places b)) (sym c.in-Add.is)

pub returns-in-Mod : goal.returns-in-Mod
returns-in-Mod c =
    c.empty_in_mods.ensures
    ∙ ap (λ (mods : List Mod). position_from (λ b. b) 0 (if is_empty mods then true ∷ [] else map adds_nothing mods)) c.as_slice-in-Mod.ensures
    ∙ ap (λ b. position_from (λ b. b) 0 (empty_places b)) (sym c.in-Mod.is)

pub returns-in-Ren : goal.returns-in-Ren
returns-in-Ren c = c.no_part.ensures ∙ ap (λ b. position_from (λ b. b) 0 (empty_places b)) (sym c.in-Ren.is)

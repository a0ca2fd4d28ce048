use Rattle.std.proofs.Common.{◌≤◌, length, sym, subst}
use Rattle.stamp_entry.proofs.Raising.{few_mods}
use Rattle.stamp_entry.proofs.raise.raise_body.Goals as goal

pub raise_mods-requires-clause-few : goal.raise_mods-requires-clause-few
raise_mods-requires-clause-few c = subst (λ xs. length xs ≤ 1000) (sym c.as_slice-in-Mod.ensures) (few_mods c.args.change.now c.in-Mod.mods c.requires.sound c.in-Mod.is)

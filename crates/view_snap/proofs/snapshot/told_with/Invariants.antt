use Rattle.view_snap.proofs.snapshot.told_with.Given as goal

abbrev pub ghosts-told : goal.ghosts-told
ghosts-told a = record { name = a.blank.name; parts = a.blank.parts }

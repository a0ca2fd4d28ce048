use Rattle.snap_cases.proofs.run.moved_with.Given as goal

abbrev pub ghosts-moved_over : goal.ghosts-moved_over
ghosts-moved_over a = record { name = a.blank.name; parts = a.blank.parts }

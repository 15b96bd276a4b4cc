use Rattle.cml_guide.proofs.lanes.collected.Given as goal

abbrev pub ghosts-collect : goal.ghosts-collect
ghosts-collect g a = record { name = a.blank.name; parts = a.blank.parts }

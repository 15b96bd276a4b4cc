use Rattle.cml_bench.proofs.hall.time.Given as goal

abbrev pub ghosts-performed : goal.ghosts-performed
ghosts-performed g a = record { name = a.blank.name; parts = a.blank.parts }

use Rattle.cml_script.proofs.running.run_read.Given as goal

abbrev pub ghosts-settle_script : goal.ghosts-settle_script
ghosts-settle_script g a = record { name = a.blank.name; parts = a.blank.parts }

use Rattle.cml_script.proofs.workers.perform_in_threads.Given as goal

abbrev pub ghosts-perform_by : goal.ghosts-perform_by
ghosts-perform_by g a = record { opens = g.G.Gate.opens a.gate.now }

use Rattle.cml_tests.proofs.threads.scene.performed.Given as goal

-- which ledger the switchboard has: the blank's
abbrev pub ghosts-perform_in : goal.ghosts-perform_in
ghosts-perform_in g a = record { name = a.blank.name; parts = a.blank.parts }

use Rattle.cml_tests.proofs.threads.restoring.told.Given as goal

-- which ledger the switchboard has: the blank's
abbrev pub ghosts-go_on : goal.ghosts-go_on
ghosts-go_on g a = record { name = a.blank.name; parts = a.blank.parts }

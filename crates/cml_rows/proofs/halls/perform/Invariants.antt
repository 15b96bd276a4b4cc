use Rattle.cml_rows.proofs.halls.perform.Given as goal

-- which ledger the hall has: the blank's
abbrev pub ghosts-perform_by : goal.ghosts-perform_by
ghosts-perform_by g a = record { name = a.blank.name; parts = a.blank.parts }

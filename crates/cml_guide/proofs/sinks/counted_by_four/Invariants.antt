use Rattle.cml_guide.proofs.sinks.counted_by_four.Given as goal

abbrev pub ghosts-count_in_pieces-Led-Ledger : goal.ghosts-count_in_pieces-Led-Ledger
ghosts-count_in_pieces-Led-Ledger g a = record { name = a.blank.name; parts = a.blank.parts }

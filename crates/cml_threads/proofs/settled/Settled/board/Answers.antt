use Rattle.cml_threads.proofs.settled.Settled.board.Goals as goal

pub returns-clause-sound : goal.returns-clause-sound
returns-clause-sound g c = rw (← c.self.view_is) c.facts.ensures.sound

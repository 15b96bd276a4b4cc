use Rattle.std.proofs.Common.{rules}
use Rattle.cml_tests.proofs.AnswerLemmas.{floor_suits, floor_call}
use Rattle.cml_tests.proofs.scripts.caller.rings.Rings.apply.Goals as goal
use Rattle.cml_tests.proofs.scripts.caller.rings.Rings.apply.Goals.{in-Answered, in-WouldWait, in-Refused}

pub returns-clause-refused : goal.returns-clause-refused
returns-clause-refused c =
    elim c.match-apply.branch [
      | in-Answered w ↦ rw w.result-is tt
      | in-WouldWait w ↦ rw w.result-is (search rules)
      | in-Refused w ↦ rw w.result-is (search rules)
    ]

pub returns-clause-call : goal.returns-clause-call
returns-clause-call c =
    elim c.match-apply.branch [
      | in-Answered w ↦
          let told = w.in-Answered.ensures in
          rw w.result-is
          (floor_call c.self.inside.floor c.apply.new.self c.args.call w.in-Answered.answer told.barred (λ isnt. (told.applied isnt).3))
      | in-WouldWait w ↦ rw w.result-is tt
      | in-Refused w ↦ rw w.result-is tt
    ]

pub returns-clause-reply : goal.returns-clause-reply
returns-clause-reply c =
    elim c.match-apply.branch [
      | in-Answered w ↦
          let told = w.in-Answered.ensures in
          rw w.result-is
          (floor_suits c.self.inside.floor c.apply.new.self c.args.call w.in-Answered.answer told.barred (λ isnt. (told.applied isnt).2))
      | in-WouldWait w ↦ rw w.result-is tt
      | in-Refused w ↦ rw w.result-is tt
    ]

use Rattle.std.proofs.Common.{ap, ◌∙◌, ℕ, List}
use Rattle.cml_board.specs.declared.entry.Who.TheVariants.{Seat}
use Rattle.cml_board.specs.{Entry}
use Rattle.cml_replay.specs.{Executed, with_entry}
use Rattle.cml_report.proofs.WholeLemmas.{whole_below}
use Rattle.cml_replay.proofs.StandLemmas.{new_play, stands_declared}
use Rattle.cml_replay.proofs.execution.Execution.make.Goals as goal

pub returns-in-Answered-clause-made : goal.returns-in-Answered-clause-made
returns-in-Answered-clause-made c =
    let adds = c.in-Answered.ensures.5 in
    let entry : Entry (List ℕ) = record { who = Seat 0; call = c.args.call; reply = c.in-Answered.field-0.reply } in (
      c.in-Answered.field-0.reply,
      new_play c.self.inside.plan c.self.inside.board.history _ c.self.inside.board.limit _ entry adds.history adds.limit
          ∙ ap (λ (p : Executed). with_entry p entry) c.self.view_is,
    )

pub invariant_of-self : goal.invariant_of-self
invariant_of-self c =
    let adds = c.in-Answered.ensures.5 in
    let room = whole_below c.self.inside.board c.self.invariant.1 c.in-Answered.ensures.1 in (
      stands_declared _ c.args.self.now _ _ c.apply.new.self.history c.apply.new.self.limit c.args.call c.in-Answered.field-0.reply
          c.self.view_is c.self.invariant.0 c.requires.next
          adds.history adds.limit c.in-Answered.ensures.0 room c.in-Answered.ensures.2,
      adds.past ∙ c.self.invariant.1,
    )

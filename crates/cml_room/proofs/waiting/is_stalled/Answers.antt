use Rattle.std.proofs.Common.{rules, sym, subst}
use Rattle.cml_board.specs.Shown.{Shown}
use Rattle.cml_room.specs.{states_in, AreIdle, NoneForgotten}
use Rattle.cml_room.proofs.waiting.is_stalled.Goals as goal

pub returns-then-open_lanes-eq0-clause-all : goal.returns-then-open_lanes-eq0-clause-all
returns-then-open_lanes-eq0-clause-all g c = λ is rests. (
  search rules,
  subst (λ (b : Shown g.row.M.Denot). AreIdle b.history (states_in c.args.seats.now.places)) c.board.ensures.board
      (c.are_idle.ensures.all is
      (λ none. subst (λ (b : Shown g.row.M.Denot). NoneForgotten b c.args.seats.now.places) (sym c.board.ensures.board) (rests none))),
)

use Rattle.cml_c.proofs.NeedingLemmas.{given_there, there_given}
use Rattle.cml_c.proofs.blocks.would_give.Goals as goal

pub returns-then-takes : goal.returns-then-takes
returns-then-takes c =
    let taken = c.takes.ensures.0 c.if-takes.true in (
      λ is. record {
        fits = taken.0;
        space = taken.1;
        given = there_given c.args.board.now.history c.args.call.now (c.is_there.ensures.0 is);
      },
      λ gives. c.is_there.ensures.1 (given_there c.args.board.now.history c.args.call.now taken.0 gives.given),
    )

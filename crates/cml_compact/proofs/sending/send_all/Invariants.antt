use Rattle.std.proofs.Common.{length}
use Rattle.cml_board.specs.{made}
use Rattle.cml_compact.specs.{AllBy, begun_anew, stocked}
use Rattle.cml_compact.specs.Stepping.{Halfway}
use Rattle.cml_compact.proofs.sending.send_all.Given as goal

abbrev pub invariant-loop-name : goal.invariant-loop-name
invariant-loop-name g l =
    let h = l.fn.board.history in
    record {
      half : Halfway l.fn.new.limit l.new (length (made h)) l.name (begun_anew h) (stocked h);
      whose : AllBy l.who l.fn.new.history → AllBy l.who l.new.history;
    }

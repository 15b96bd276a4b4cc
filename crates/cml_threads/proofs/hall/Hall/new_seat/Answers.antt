use Rattle.std.proofs.Common.{rules}
use Rattle.cml_threads.proofs.hall.Hall.new_seat.Goals as goal

pub returns-clause-seat : goal.returns-clause-seat
returns-clause-seat g c = search rules

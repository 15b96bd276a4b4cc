use Rattle.std.proofs.Common.{rules}
use Rattle.cml_c.proofs.TakingLemmas.{stops_in}
use Rattle.cml_c.proofs.read_journals.take_part.Goals as goal

pub returns-in-Err : goal.returns-in-Err
returns-in-Err g c =
    stops_in g.M.Written.VERSION g.M.Written.meaning c.args.text.now _ c.args.reading.now c.advance.new.self c.in-Err.halt (search rules)
    c.in-Err.ensures.spent c.in-Err.ensures.halted (λ before is. (c.advance.ensures.again before is).0)

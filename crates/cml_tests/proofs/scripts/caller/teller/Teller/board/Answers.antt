use Rattle.std.proofs.Common.{rules}
use Rattle.cml_tests.proofs.TellingLemmas.{ends_with}
use Rattle.cml_tests.proofs.scripts.caller.teller.Teller.board.Goals as goal

pub returns : goal.returns
returns c =
    let ends = ends_with c.self.inside.told c.self.inside.rings.asked in
    (ends.0, search (rules, ends.1))

use Rattle.std.specs.Prelude.{option_copied}
use Rattle.cml_report.proofs.CountLemmas.{some_held, kind_there}
use Rattle.cml_report.proofs.report.write_held.Goals as goal

pub unwrap-requires : goal.unwrap-requires
unwrap-requires c =
    some_held _ c.requires.0 _ option_copied c.held.result c.held.ensures
    (kind_there _ _ c.args.variable.0 c.requires.0 c.board.ensures.history c.requires.1) c.requires.2

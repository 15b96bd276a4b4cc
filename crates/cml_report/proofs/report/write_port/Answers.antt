use Rattle.std.proofs.Common.{refl}
use Rattle.cml_calls.specs.declared.kind.Kind.TheVariants as kind
use Rattle.cml_calls.specs.{is_receiver}
use Rattle.cml_report.proofs.CountLemmas.{some_count, some_start, kind_there}
use Rattle.cml_report.proofs.report.write_port.Goals as goal

pub unwrap-start-requires : goal.unwrap-start-requires
unwrap-start-requires c =
    some_start _ c.start_of.result c.start_of.ensures (kind_there _ _ c.args.port.0 kind.Port c.board-board.ensures.history c.requires)

pub unwrap-got-requires : goal.unwrap-got-requires
unwrap-got-requires c = some_count is_receiver _ kind.Port _ c.got_count.result c.got_count.ensures
    (kind_there _ _ c.args.port.0 kind.Port c.board-board.ensures.history c.requires) refl

use Rattle.std.proofs.Common.{refl}
use Rattle.cml_calls.specs.declared.kind.Kind.TheVariants as kind
use Rattle.cml_calls.specs.{is_source}
use Rattle.cml_report.proofs.CountLemmas.{some_count, kind_there}
use Rattle.cml_report.proofs.report.write_channel.Goals as goal

pub unwrap-sent-requires : goal.unwrap-sent-requires
unwrap-sent-requires c = some_count is_source _ kind.Channel _ c.sent_count.result c.sent_count.ensures
    (kind_there _ _ c.args.channel.0 kind.Channel c.board-board.ensures.history c.requires) refl

pub unwrap-kept-requires : goal.unwrap-kept-requires
unwrap-kept-requires c = some_count is_source _ kind.Channel _ c.kept_count.result c.kept_count.ensures
    (kind_there _ _ c.args.channel.0 kind.Channel c.board-board.ensures.history c.requires) refl

pub unwrap-first-requires : goal.unwrap-first-requires
unwrap-first-requires c = some_count is_source _ kind.Channel _ c.first_of.result c.first_of.ensures
    (kind_there _ _ c.args.channel.0 kind.Channel c.board-board.ensures.history c.requires) refl

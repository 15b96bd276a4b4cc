use Rattle.std.proofs.Common.{refl}
use Rattle.cml_calls.specs.declared.kind.Kind.TheVariants as kind
use Rattle.cml_calls.specs.{is_source, is_receiver}
use Rattle.cml_report.proofs.CountLemmas.{some_count, some_owed, kind_there, open_there}
use Rattle.cml_report.proofs.report.write_mailbox.Goals as goal

pub unwrap-sent-requires : goal.unwrap-sent-requires
unwrap-sent-requires c = some_count is_source _ kind.Mailbox _ c.sent_count.result c.sent_count.ensures
    (kind_there _ _ c.args.mailbox.0 kind.Mailbox c.board-board.ensures.history c.requires) refl

pub unwrap-got-requires : goal.unwrap-got-requires
unwrap-got-requires c = some_count is_receiver _ kind.Mailbox _ c.got_count.result c.got_count.ensures
    (kind_there _ _ c.args.mailbox.0 kind.Mailbox c.board-board.ensures.history c.requires) refl

pub unwrap-waits-requires : goal.unwrap-waits-requires
unwrap-waits-requires c =
    some_owed is_receiver _ kind.Mailbox _ _ c.owed_count.result c.owed_count.ensures
    (kind_there _ _ c.args.mailbox.0 kind.Mailbox c.board-board.ensures.history c.requires) refl
    (open_there _ _ c.args.mailbox.0 c.board-board.ensures.history c.board-board.ensures.lawful c.requires)

use Rattle.std.proofs.Common.{◌+◌, ◌∙◌, sym}
use Rattle.std.proofs.lemmas.Bool.{false≢true}
use Rattle.cml_replay.proofs.ReadyLemmas.{none_queued, queued_within, waits_there, ready_there}
use Rattle.cml_replay.proofs.execution.Execution.candidate.Goals as goal

pub returns-in_err-i : goal.returns-in_err-i
returns-in_err-i c =
    rw c.from_residual.ensures (none_queued c.args.self.now.script c.args.self.now.history (c.args.thread + 1) (sym c.in_err-i.ensures))

pub waits-requires-clause-next : goal.waits-requires-clause-next
waits-requires-clause-next c = (c.args.thread + 1, sym c.in_ok-i.ensures)

pub waits-requires-clause-within : goal.waits-requires-clause-within
waits-requires-clause-within c =
    queued_within c.args.self.now.script c.args.self.now.history (c.args.thread + 1) _ (sym c.in_ok-i.ensures)

pub returns-then-waits : goal.returns-then-waits
returns-then-waits c =
    let told = c.waits.ensures in
    waits_there c.args.self.now.script c.args.self.now.history (c.args.thread + 1) _ told.0
    (sym c.in_ok-i.ensures) told.1 (told.3.0 c.if-waits.true)

pub returns : goal.returns
returns c =
    let told = c.waits.ensures in
    ready_there c.args.self.now.script c.args.self.now.history (c.args.thread + 1) _ told.0 (sym c.in_ok-i.ensures) told.1
    (λ none. false≢true (sym c.if-waits.false ∙ told.3.1 none))

use Rattle.std.proofs.Common.{◌≡◌, option_copied, Some, None, refl, sym, ap, ◌∙◌, arith}
use Rattle.std.specs.Option.{option_map}
use Rattle.std.proofs.lemmas.Option.{slice_get_read}
use Rattle.cml_board.specs.{held_by}
use Rattle.cml_compact.proofs.MeasuringLemmas.{mailbox_weighs, channel_weighs, holding_weighs, kind_made}
use Rattle.cml_compact.proofs.measuring.calls_of_other.Goals as goal

pub returns-in-Some-held : goal.returns-in-Some-held
returns-in-Some-held g c =
    let holds : held_by c.args.board.now.history c.args.name.0 ≡ Some (Some c.in-Some-held.field-0.now) =
    sym c.held.ensures ∙ ap (option_map (option_copied {T = g.row.M.Denot})) (c.in-Some.is ∙ ap Some c.in-Some-held.is) in
    holding_weighs c.args.board.now.history c.args.name.0 (Some c.in-Some-held.field-0.now) c.requires.lawful holds

pub returns-in-None : goal.returns-in-None
returns-in-None g c =
    let holds : held_by c.args.board.now.history c.args.name.0 ≡ Some None =
    sym c.held.ensures ∙ ap (option_map (option_copied {T = g.row.M.Denot})) (c.in-Some.is ∙ ap Some c.in-None.is) in
    holding_weighs c.args.board.now.history c.args.name.0 None c.requires.lawful holds

pub returns-in-Some-Mailbox : goal.returns-in-Some-Mailbox
returns-in-Some-Mailbox g c =
    let is = sym c.kind.ensures ∙ c.in-Some-Mailbox.is ∙ ap Some c.in-Some-Mailbox.field-0-is in
    c.owed.ensures ∙ mailbox_weighs c.args.board.now.history c.args.name.0 c.requires.lawful is

pub returns-in-Some-Channel : goal.returns-in-Some-Channel
returns-in-Some-Channel g c =
    let h = c.args.board.now.history in
    let is = sym c.kind.ensures ∙ c.in-Some-Channel.is ∙ ap Some c.in-Some-Channel.field-0-is in
    c.owed-in-Some-Channel.ensures
    ∙ channel_weighs h c.args.name.0 c.index.result.now c.args.slowest.now.items c.requires.lawful c.requires.slowest is
    (slice_get_read c.args.slowest.now.items _ c.args.name.0 c.index.result.now refl
    (omega (arith, c.requires.slowest.all, c.requires.within))
    c.index.ensures)

pub returns-in-None-kind : goal.returns-in-None-kind
returns-in-None-kind g c =
    absurd (kind_made c.args.board.now.history c.args.name.0 c.requires.within (sym c.kind.ensures ∙ c.in-None-kind.is))

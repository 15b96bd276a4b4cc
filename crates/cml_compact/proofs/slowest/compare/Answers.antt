use Rattle.std.proofs.Common.{refl, sym, ◌∙◌, arith}
use Rattle.std.proofs.lemmas.Option.{slice_get_read}
use Rattle.cml_compact.proofs.StockLemmas.{channel_within, slowest_stays, slowest_set}
use Rattle.cml_compact.proofs.slowest.compare.Goals as goal

pub index-requires : goal.index-requires
index-requires g c =
    let within =
    channel_within c.args.board.now.history c.args.port.0 c.args.port.0 c.in-Some.channel c.args.found.now.items c.requires.lawful
    c.requires.within c.requires.before (sym c.channel_of.ensures ∙ c.in-Some.is) in
    omega (arith, within, c.args.found.now.ok)

pub index_mut-requires : goal.index_mut-requires
index_mut-requires g c =
    let within =
    channel_within c.args.board.now.history c.args.port.0 c.args.port.0 c.in-Some.channel c.args.found.now.items c.requires.lawful
    c.requires.within c.requires.before (sym c.channel_of.ensures ∙ c.in-Some.is) in
    omega (arith, within, c.args.found.now.ok)

pub returns-then-owed : goal.returns-then-owed
returns-then-owed g c =
    let is = sym c.channel_of.ensures ∙ c.in-Some.is in
    let within =
    channel_within c.args.board.now.history c.args.port.0 c.args.port.0 c.in-Some.channel c.args.found.now.items c.requires.lawful
    c.requires.within c.requires.before is in
    slowest_set c.args.board.now.history c.args.port.0 c.in-Some.channel c.index.result.now c.args.found.now.items c.requires.before is
    (slice_get_read c.args.found.now.items _ c.in-Some.channel.0 c.index.result.now refl within c.index.ensures)
    (omega (arith, c.if-owed.true, c.owed.ensures, c.owed-2.ensures))

pub returns-else-owed : goal.returns-else-owed
returns-else-owed g c =
    let is = sym c.channel_of.ensures ∙ c.in-Some.is in
    let within =
    channel_within c.args.board.now.history c.args.port.0 c.args.port.0 c.in-Some.channel c.args.found.now.items c.requires.lawful
    c.requires.within c.requires.before is in
    slowest_stays c.args.board.now.history c.args.port.0 c.in-Some.channel c.index.result.now c.args.found.now.items c.requires.before is
    (slice_get_read c.args.found.now.items _ c.in-Some.channel.0 c.index.result.now refl within c.index.ensures)
    (omega (arith, c.if-owed.false, c.owed.ensures, c.owed-2.ensures))

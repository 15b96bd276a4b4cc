use Rattle.std.proofs.Common.{◌<◌, length, refl, sym, ◌∙◌, arith}
use Rattle.std.proofs.lemmas.Option.{slice_get_read}
use Rattle.cml_compact.proofs.StockLemmas.{channel_within}
use Rattle.cml_compact.proofs.MeasuringLemmas.{open_weighs}
use Rattle.cml_compact.proofs.PlanLemmas.{owed_less}
use Rattle.cml_compact.proofs.measuring.calls_of_open.Goals as goal

pub index-requires : goal.index-requires
index-requires g c =
    let h = c.args.board.now.history in
    let within = channel_within h c.args.name.0 _ c.in-Some.channel c.args.slowest.now.items c.requires.lawful c.requires.within
    c.requires.slowest (sym c.channel_of.ensures ∙ c.in-Some.is) in
    omega (arith, within, c.args.slowest.now.ok)

pub overflow_sub-passed : goal.overflow_sub-passed
overflow_sub-passed g c =
    let h = c.args.board.now.history in
    let is = sym c.channel_of.ensures ∙ c.in-Some.is in
    let within = channel_within h c.args.name.0 _ c.in-Some.channel c.args.slowest.now.items c.requires.lawful c.requires.within
    c.requires.slowest is in
    let less = owed_less h c.args.name.0 c.in-Some.channel c.index.result.now c.args.slowest.now.items c.requires.lawful
    c.requires.slowest c.requires.within is
    (slice_get_read c.args.slowest.now.items _ c.in-Some.channel.0 c.index.result.now refl within c.index.ensures) in
    omega (arith, less.0, c.owed.ensures, c.owed-in-Some.ensures)

pub overflow_sub-result : goal.overflow_sub-result
overflow_sub-result g c =
    let h = c.args.board.now.history in
    let is = sym c.channel_of.ensures ∙ c.in-Some.is in
    let within = channel_within h c.args.name.0 _ c.in-Some.channel c.args.slowest.now.items c.requires.lawful c.requires.within
    c.requires.slowest is in
    let there : c.args.name.0 < length c.args.begins.now.items = omega (arith, c.requires.within, c.requires.begins.all) in
    let weighs = open_weighs h c.args.name.0 c.in-Some.channel c.index.result.now c.args.slowest.now.items c.args.begins.now.items
    c.index-in-Some.result.now c.requires.lawful c.requires.slowest c.requires.begins c.requires.port c.requires.opened is
    (slice_get_read c.args.slowest.now.items _ c.in-Some.channel.0 c.index.result.now refl within c.index.ensures)
    (slice_get_read c.args.begins.now.items _ c.args.name.0 c.index-in-Some.result.now refl there c.index-in-Some.ensures) in
    omega (arith, weighs.0, weighs.1, c.owed.ensures, c.owed-in-Some.ensures)

pub returns : goal.returns
returns g c =
    let h = c.args.board.now.history in
    let is = sym c.channel_of.ensures ∙ c.in-Some.is in
    let within = channel_within h c.args.name.0 _ c.in-Some.channel c.args.slowest.now.items c.requires.lawful c.requires.within
    c.requires.slowest is in
    let there : c.args.name.0 < length c.args.begins.now.items = omega (arith, c.requires.within, c.requires.begins.all) in
    let weighs = open_weighs h c.args.name.0 c.in-Some.channel c.index.result.now c.args.slowest.now.items c.args.begins.now.items
    c.index-in-Some.result.now c.requires.lawful c.requires.slowest c.requires.begins c.requires.port c.requires.opened is
    (slice_get_read c.args.slowest.now.items _ c.in-Some.channel.0 c.index.result.now refl within c.index.ensures)
    (slice_get_read c.args.begins.now.items _ c.args.name.0 c.index-in-Some.result.now refl there c.index-in-Some.ensures) in
    omega (arith, weighs.2, c.owed.ensures, c.owed-in-Some.ensures)

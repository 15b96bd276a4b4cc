use Rattle.std.proofs.Common.{◌≡◌, ◌<◌, min, length, refl, sym, ◌∙◌, arith}
use Rattle.std.proofs.lemmas.Option.{slice_get_read}
use Rattle.cml_compact.specs.Stages.{passed_of}
use Rattle.cml_compact.proofs.StockLemmas.{channel_within, port_of}
use Rattle.cml_compact.proofs.PlanLemmas.{fewest_set, fewest_stays, owed_less, passed_inside}
use Rattle.cml_compact.proofs.planning.look.Goals as goal

pub returns-in_default : goal.returns-in_default
returns-in_default g c =
    fewest_stays c.args.board.now.history c.args.name.0 c.args.found.now.items c.requires.within
    (sym c.channel_of.ensures ∙ c.in_default.is) c.requires.after

pub index-requires : goal.index-requires
index-requires g c =
    let within = channel_within c.args.board.now.history c.args.name.0 _ c.in-Some.channel c.args.slowest.now.items c.requires.lawful
    c.requires.within c.requires.slowest (sym c.channel_of.ensures ∙ c.in-Some.is) in
    omega (arith, within, c.args.slowest.now.ok)

pub overflow_sub-passed : goal.overflow_sub-passed
overflow_sub-passed g c =
    let h = c.args.board.now.history in
    let is = sym c.channel_of.ensures ∙ c.in-Some.is in
    let within = channel_within h c.args.name.0 _ c.in-Some.channel c.args.slowest.now.items c.requires.lawful c.requires.within
    c.requires.slowest is in
    let less = owed_less h c.args.name.0 c.in-Some.channel c.index.result.now c.args.slowest.now.items c.requires.lawful
    c.requires.slowest c.requires.within is
    (slice_get_read c.args.slowest.now.items _ c.in-Some.channel.0 c.index.result.now refl within c.index.ensures) in
    omega (arith, less.0, c.owed.ensures, c.owed-2.ensures)

pub index-requires-2 : goal.index-requires-2
index-requires-2 g c =
    let within = channel_within c.args.board.now.history c.args.name.0 _ c.in-Some.channel c.args.slowest.now.items c.requires.lawful
    c.requires.within c.requires.slowest (sym c.channel_of.ensures ∙ c.in-Some.is) in
    omega (arith, within, c.requires.slowest.all, c.requires.after.all, c.args.found.now.ok)

pub index_mut-requires : goal.index_mut-requires
index_mut-requires g c =
    let within = channel_within c.args.board.now.history c.args.name.0 _ c.in-Some.channel c.args.slowest.now.items c.requires.lawful
    c.requires.within c.requires.slowest (sym c.channel_of.ensures ∙ c.in-Some.is) in
    omega (arith, within, c.requires.slowest.all, c.requires.after.all, c.args.found.now.ok)

pub returns : goal.returns
returns g c =
    let h = c.args.board.now.history in
    let from = c.in-Some.channel in
    let is = sym c.channel_of.ensures ∙ c.in-Some.is in
    let own = port_of h c.args.name.0 from is in
    let within = channel_within h c.args.name.0 _ from c.args.slowest.now.items c.requires.lawful c.requires.within c.requires.slowest is in
    let inside : from.0 < length c.args.found.now.items = omega (arith, within, c.requires.slowest.all, c.requires.after.all) in
    let less = owed_less h c.args.name.0 from c.index.result.now c.args.slowest.now.items c.requires.lawful
    c.requires.slowest c.requires.within is
    (slice_get_read c.args.slowest.now.items _ from.0 c.index.result.now refl within c.index.ensures) in
    let passed = passed_inside h c.args.name.0 from.0 own.0 own.1 in
    let fewest : c.min-fewest.result ≡ min (passed_of h from.0 c.args.name.0) c.index-2.result.now =
    omega (arith, passed, less.1, c.owed.ensures, c.owed-2.ensures, c.min-fewest.ensures) in
    fewest_set h c.args.name.0 from c.args.found.now.items c.index-2.result.now c.min-fewest.result c.requires.lawful c.requires.within is
    (slice_get_read c.args.found.now.items _ from.0 c.index-2.result.now refl inside c.index-2.ensures) fewest c.requires.after

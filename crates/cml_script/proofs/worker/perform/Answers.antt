use Rattle.std.proofs.Common.{◌+◌, refl, ap, sym}
use Rattle.cml_report.specs.declared.route.Route.TheVariants as route
use Rattle.cml_script.specs.{by_feed}
use Rattle.cml_report.specs.{is_by_ring}
use Rattle.cml_script.proofs.SendLemmas.{feed_acts}
use Rattle.cml_script.proofs.WorkLemmas.{on_ok, turn_goes, more_gone}
use Rattle.cml_script.proofs.worker.perform.Goals as goal

pub returns-in-Feed-clause-way : goal.returns-in-Feed-clause-way
returns-in-Feed-clause-way g c =
    let step = c.args.turn.now.step in
    let script = c.args.turn.now.plan.now in
    let seat = c.args.turn.now.thread + 1 in
    let turn = c.requires.at.own in
    let feed = c.in-Feed.feed in
    let later = g.C.Caller.made c.poll_apart.new.self in
    let goes = turn_goes script seat step turn (route.Feed feed) (sym c.in-Feed.ensures.route) in
    let acts = feed_acts script turn.line feed goes in
    on_ok c.poll_apart.result
    (λ made. more_gone script seat step c.requires.at.way turn (by_feed feed) c.args.course.now later
    (ap is_by_ring goes) acts made refl refl refl)
    c.poll_apart.ensures.made

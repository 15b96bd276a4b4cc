use Rattle.std.proofs.Common.{rules, sym, refl}
use Rattle.cml_lanes.proofs.FeedEntriesLemmas.{still_owed}
use Rattle.cml_lanes.proofs.MovesLemmas.{on_none}
use Rattle.cml_lanes.proofs.PumpsLemmas.{none_pumped, keeps_pumped, pumps_more}
use Rattle.cml_lanes.proofs.pumping.pump_free.Goals as goal

pub pump_next-refusal-requires-clause-kept : goal.pump_next-refusal-requires-clause-kept
pump_next-refusal-requires-clause-kept g c =
    keeps_pumped c.args.number c.loop-pumped.pumped c.args.board.now c.loop-pumped.board c.args.feed.now c.loop-pumped.feed
    c.requires c.loop-pumped.invariant

pub pump_next-refusal-requires-clause-owed : goal.pump_next-refusal-requires-clause-owed
pump_next-refusal-requires-clause-owed g c =
    still_owed c.loop-pumped.board.history c.loop-pumped.feed.port c.port.result c.would_wait.result
    (keeps_pumped c.args.number c.loop-pumped.pumped c.args.board.now c.loop-pumped.board c.args.feed.now c.loop-pumped.feed
    c.requires c.loop-pumped.invariant).kind
    c.port.ensures c.would_wait.ensures c.if-would_wait.false

pub loop-pumped-init : goal.loop-pumped-init
loop-pumped-init g c = none_pumped c.args.number c.args.board.now c.args.feed.now

pub loop-pumped-preserved : goal.loop-pumped-preserved
loop-pumped-preserved g c =
    pumps_more c.args.number c.loop-pumped.pumped 1 _ c.args.board.now c.loop-pumped.board c.pump_next-refusal.new.board
    c.args.feed.now c.loop-pumped.feed c.pump_next-refusal.new.feed refl c.loop-pumped.invariant
    (on_none c.pump_next-refusal.result (sym c.if-is_some.ensures) c.pump_next-refusal.ensures.pumped)

pub returns-then-would_wait-clause-pumped : goal.returns-then-would_wait-clause-pumped
returns-then-would_wait-clause-pumped g c = search rules

pub returns-then-would_wait-clause-balked : goal.returns-then-would_wait-clause-balked
returns-then-would_wait-clause-balked g c = search rules

pub returns-then-is_some-clause-pumped : goal.returns-then-is_some-clause-pumped
returns-then-is_some-clause-pumped g c = search rules

use Rattle.cml_lanes.specs.{PumpsIn}
use Rattle.cml_lanes.proofs.pumping.pump_free.Given as goal

abbrev pub invariant-loop-pumped : goal.invariant-loop-pumped
invariant-loop-pumped g l = PumpsIn l.number l.pumped l.initial.board l.board l.initial.feed l.feed

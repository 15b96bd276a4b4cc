use Rattle.std.proofs.Common.{string_bytes}
use Rattle.cml_report.proofs.ReadLemmas.{kept}
use Rattle.cml_replay.proofs.ReplayLemmas.{writes_played, keeps_unplayed}
use Rattle.cml_replay.proofs.replaying.replay_as.Goals as goal

pub returns-in-Ok : goal.returns-in-Ok
returns-in-Ok g c = writes_played c.args.form c.args.limit _ _ _ _ c.in-Ok.played.stop
    (string_bytes c.in-Ok.played.report) c.write_played.result c.write_played.ensures c.in-Ok.ensures.played

pub returns-in-Err : goal.returns-in-Err
returns-in-Err g c = keeps_unplayed c.args.form c.args.limit _ _ _ _ c.in-Err.ending (kept _) c.in-Err.ensures.unplayed

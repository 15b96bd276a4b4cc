use Rattle.cml_replay.proofs.ReplayLemmas.{read_played, read_unplayed}
use Rattle.cml_replay.proofs.replaying.play_read.Goals as goal

pub returns-clause-played : goal.returns-clause-played
returns-clause-played g c =
    read_played c.args.form c.args.limit _ _ _ c.in_ok-text.text.items c.play_text.result c.deref.ensures.value
    c.in_ok-text.ensures c.play_text.ensures.played

pub returns-clause-unplayed : goal.returns-clause-unplayed
returns-clause-unplayed g c =
    read_unplayed _ _ _ c.in_ok-text.text.items c.play_text.result c.deref.ensures.value c.in_ok-text.ensures c.play_text.ensures.unplayed

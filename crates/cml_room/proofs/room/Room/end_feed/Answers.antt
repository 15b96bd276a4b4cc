use Rattle.cml_room.proofs.UnmovedLemmas.{ended_watched}
use Rattle.cml_room.proofs.FramesLemmas.{keeps}
use Rattle.cml_room.proofs.room.Room.end_feed.Goals as goal

pub invariant_of-self : goal.invariant_of-self
invariant_of-self g c =
    ended_watched c.self.inside.floor c.end_feed.new.self c.self.inside.seats.places c.self.inside.seats.all_due
    c.args.feed c.end_feed.result c.end_feed.ensures.ends c.self.invariant

pub returns-clause-kept : goal.returns-clause-kept
returns-clause-kept g c = keeps c.self.inside.floor c.end_feed.new.self c.self.inside.seats c.self.view_is

use Rattle.std.proofs.Common.{None, refl, rules}
use Rattle.cml_room.proofs.RingNewsLemmas.{same_follows}
use Rattle.cml_room.proofs.FramesLemmas.{turns}
use Rattle.cml_room.proofs.room.Room.withdraw.Goals as goal

pub end_turn-requires : goal.end_turn-requires
end_turn-requires g c = record {
  may = search rules;
  placed = c.self.invariant.placed;
  of = tt;
  brings = λ on parked. refl;
}

pub invariant_of-self : goal.invariant_of-self
invariant_of-self g c =
    c.end_turn.ensures.kept c.self.inside.floor c.self.invariant
    (same_follows None c.self.inside.floor.board c.self.inside.floor.board refl) (λ room. room)

pub returns-clause-turns : goal.returns-clause-turns
returns-clause-turns g c =
    turns c.args.self.now c.self.inside.floor c.self.inside.floor c.self.inside.seats c.end_turn.new.seats c.args.seat None c.self.view_is
    c.end_turn.ensures.ends.asked c.end_turn.ensures.ends.few (λ has. c.end_turn.ensures.due)

use Rattle.std.proofs.Common.{rules, ◌≡◌, ◌++◌, [], ◌∷◌, Bool, List, sym, subst}
use Rattle.cml_room.specs.{Place, IsWatched, HasRisen, notices_in, RoomShown, KeepsWoken}
use Rattle.cml_room.specs.declared.place.Place.TheVariants.{Free}
use Rattle.cml_room.proofs.SleepersLemmas.{added_watched}
use Rattle.cml_room.proofs.RisingLemmas.{added_none, none_due}
use Rattle.cml_room.proofs.WokenLemmas.{added_keeps}
use Rattle.cml_room.proofs.room.Room.new_seat.Goals as goal

pub invariant_of-self-2 : goal.invariant_of-self-2
invariant_of-self-2 g c =
    let added : c.add.new.self.places ≡ c.self.inside.seats.places ++ Free ∷ [] = search rules in
    subst (λ (l : List Place). IsWatched c.self.inside.floor l c.add.new.self.all_due) (sym added)
    (subst (λ (all : Bool). IsWatched c.self.inside.floor (c.self.inside.seats.places ++ Free ∷ []) all) (sym c.add.ensures.due)
    (added_watched c.self.inside.floor c.self.inside.seats.places c.self.inside.seats.all_due c.self.invariant))

pub returns-clause-none : goal.returns-clause-none
returns-clause-none g c =
    let added : c.add.new.self.places ≡ c.self.inside.seats.places ++ Free ∷ [] = search rules in
    none_due c.args.self.now c.self.inside.floor c.self.inside.floor c.self.inside.seats.places c.add.new.self.places
    c.self.inside.seats.all_due c.add.new.self.all_due
    c.self.view_is
    (λ k on. subst (λ (l : List Place). ¬ (HasRisen c.self.inside.seats.places l k on)) (sym added)
    (added_none c.self.inside.seats.places Free k on))

pub returns-clause-step : goal.returns-clause-step
returns-clause-step g c =
    let added : c.add.new.self.places ≡ c.self.inside.seats.places ++ Free ∷ [] = search rules in
    subst (λ (r : RoomShown g.row.M.Denot). KeepsWoken r.notices (notices_in c.add.new.self.places)) c.self.view_is
    (added_keeps c.self.inside.seats.places c.add.new.self.places added)

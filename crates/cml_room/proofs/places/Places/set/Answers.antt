use Rattle.std.proofs.Common.{◌-◌, List, slice_set, sym, ap, ◌∙◌, arith}
use Rattle.cml_lanes.proofs.BehindLemmas.{copies_set}
use Rattle.cml_room.specs.{Place}
use Rattle.cml_room.specs.declared.place.Place.TheVariants as place
use Rattle.cml_room.proofs.RestoringLemmas.{here_behind}
use Rattle.cml_room.proofs.places.Places.set.Goals as goal

pub returns : goal.returns
returns c =
    let from = here_behind c.self.inside.gone c.args.number c.self.inside.places.items c.args.self.now c.self.view_is c.requires in
    sym (copies_set place.Left c.self.inside.gone c.args.number (c.args.number - c.self.inside.gone) c.self.inside.places.items c.args.new
    (omega (arith, from)))
    ∙ ap (λ (l : List Place). slice_set l c.args.number c.args.new) c.self.view_is

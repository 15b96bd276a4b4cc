use Rattle.std.proofs.Common.{◌≡◌, ◌+◌, slice_get, Some, sym, subst}
use Rattle.cml_room.specs.Queues.{queue_of}
use Rattle.cml_room.specs.{SeatsShown}
use Rattle.cml_room.proofs.ListingLemmas.{behind}
use Rattle.cml_room.proofs.seats.Seats.after.Goals as goal

pub returns : goal.returns
returns c = λ row i found.
    let now : slice_get (queue_of c.self.inside.rows row) i ≡ Some c.args.number =
    subst (λ (v : SeatsShown). slice_get (queue_of v.rows row) i ≡ Some c.args.number) (sym c.self.view_is) found in
    subst (λ (v : SeatsShown). c.after.result ≡ slice_get (queue_of v.rows row) (i + 1)) c.self.view_is
    (behind (queue_of c.self.inside.rows row) i c.args.number c.after.result now (c.after.ensures.next row))

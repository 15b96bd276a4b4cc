use Rattle.std.proofs.Common.{rules, ◌≡◌, [], refl, subst, sym}
use Rattle.cml_board.specs.declared.call.Call.TheVariants.{Recv}
use Rattle.cml_c.specs.{CallsBytes, GivesBytes, MakesBytes, Owned}
use Rattle.cml_c.specs.declared.owned.Owned.TheVariants.{Bytes}
use Rattle.cml_c.specs.declared.owned.Resource.TheVariants.{Room}
use Rattle.std_alloc.specs.Box.{with_value}
use Rattle.cml_c.proofs.common_calls.receive.Goals as goal

pub returns-in-Bytes-Room : goal.returns-in-Bytes-Room
returns-in-Bytes-Room c = let is : c.args.room.now.owned ≡ Bytes (Room c.in-Bytes-Room.room) = search rules in
    let makes : MakesBytes c.args.is_again c.args.seat [] (Recv c.args.source) c.receive_in.result
    (GivesBytes c.args.name.now c.receive_in.new.name c.args.message.now c.receive_in.new.message)
    ((c.receive_in.new.name ≡ c.args.name.now) × (c.receive_in.new.message ≡ c.args.message.now))
    c.in-Bytes-Room.room.value.room c.receive_in.new.room.room = search rules in
    subst (λ (owned : Owned). CallsBytes c.args.is_again c.args.seat (Recv c.args.source) owned
    (Bytes (Room (with_value c.in-Bytes-Room.room c.receive_in.new.room))) c.receive_in.result c.args.name.now c.receive_in.new.name
    c.args.message.now c.receive_in.new.message) (sym is) (
      Room (with_value c.in-Bytes-Room.room c.receive_in.new.room),
      refl,
      (with_value c.in-Bytes-Room.room c.receive_in.new.room, refl, makes),
    )

-- What becomes of a seat's call in a hall, by what became of it in the room.
use Rattle.std.proofs.Common.{◌≡◌, ℕ, Bool, ap, subst}
use Rattle.cml_board.specs.{Call, Response, entries_in, outcome_of}
use Rattle.cml_board.specs.declared.outcome.Outcome.{Outcome}
use Rattle.cml_room.specs.{RoomShown, Asks, Turns, news_by, asked_by}
use Rattle.cml_threads.specs.{Sitting, Tallies, Hosted, room_of}
use Rattle.cml_threads.specs.Asking as hosted

module _ {M : Type 0} where
  -- a hall of a room and a book
  abbrev hall_of : RoomShown M → ℕ → Hosted M
  hall_of room book = record {
    board = room.board;
    lanes = room.lanes;
    feeds = room.feeds;
    seats = room.seats;
    notices = room.notices;
    all_due = room.all_due;
    book = book;
  }

  -- what became of the call in the room, seen in the hall
  pub told_asks : (chunk : ℕ) (sure : Bool) (may : RoomShown M → ℕ → Type 0) (hall : Hosted M) (room new : RoomShown M) (book book' : ℕ)
      (before after : Sitting) (number : ℕ)
      (call : Call M) (outcome : Outcome M) → hall_of room book ≡ hall → number ≡ before.number
      → Asks chunk sure (may room number) room new number call outcome → Tallies book book' before after outcome
      → hosted.Asks chunk sure (may (room_of hall) before.number) hall (hall_of new book') before after call outcome
  told_asks chunk sure may hall room new book book' before after number call outcome view same asks tallies =
      let moved : Asks chunk sure (may room before.number) room new before.number call outcome =
      subst (λ n. Asks chunk sure (may room n) room new n call outcome) same asks in
      let here : hosted.Asks chunk sure (may room before.number) (hall_of room book) (hall_of new book') before after call outcome =
      (moved, tallies) in
      subst (λ (h : Hosted M). hosted.Asks chunk sure (may (room_of h) before.number) h (hall_of new book') before after call outcome)
      view here

  -- what the call left of the room's seats, seen in the hall
  pub told_turns : (hall : Hosted M) (room new : RoomShown M) (book book' : ℕ) (before number : ℕ) (outcome : Outcome M)
      → hall_of room book ≡ hall → number ≡ before
      → Turns number (asked_by number outcome) (news_by outcome) room new
      → Turns before (asked_by before outcome) (news_by outcome) (room_of hall) (room_of (hall_of new book'))
  told_turns hall room new book book' before number outcome view same turns =
      let here : Turns before (asked_by before outcome) (news_by outcome) room new =
      subst (λ n. Turns n (asked_by n outcome) (news_by outcome) room new) same turns in
      subst (λ (h : Hosted M). Turns before (asked_by before outcome) (news_by outcome) (room_of h) new) view here

  -- the same of a response, which is an outcome by the entries that there were before
  pub responded_asks : (chunk : ℕ) (sure : Bool) (may : RoomShown M → ℕ → Type 0) (hall : Hosted M) (room new : RoomShown M)
      (book book' : ℕ) (before after : Sitting) (number : ℕ) (call : Call M) (response : Response M)
      → hall_of room book ≡ hall → number ≡ before.number
      → Asks chunk sure (may room number) room new number call (outcome_of (entries_in room.board.history) call response)
      → ((entries : ℕ) → Tallies book book' before after (outcome_of entries call response))
      → hosted.Asks chunk sure (may (room_of hall) before.number) hall (hall_of new book') before after call
      (outcome_of (entries_in hall.board.history) call response)
  responded_asks chunk sure may hall room new book book' before after number call response view same asks tallies =
      let entries = entries_in room.board.history in
      subst (λ n. hosted.Asks chunk sure (may (room_of hall) before.number) hall (hall_of new book') before after call
      (outcome_of n call response))
      (ap (λ (h : Hosted M). entries_in h.board.history) view)
      (told_asks chunk sure may hall room new book book' before after number call (outcome_of entries call response) view same asks
      (tallies entries))

  pub responded_turns : (hall : Hosted M) (room new : RoomShown M) (book book' : ℕ) (before number : ℕ) (call : Call M)
      (response : Response M) → hall_of room book ≡ hall → number ≡ before
      → Turns number (asked_by number (outcome_of (entries_in room.board.history) call response))
      (news_by (outcome_of (entries_in room.board.history) call response)) room new
      → Turns before (asked_by before (outcome_of (entries_in hall.board.history) call response))
      (news_by (outcome_of (entries_in hall.board.history) call response)) (room_of hall) (room_of (hall_of new book'))
  responded_turns hall room new book book' before number call response view same turns =
      let entries = entries_in room.board.history in
      subst (λ n. Turns before (asked_by before (outcome_of n call response)) (news_by (outcome_of n call response)) (room_of hall)
      (room_of (hall_of new book')))
      (ap (λ (h : Hosted M). entries_in h.board.history) view)
      (told_turns hall room new book book' before number (outcome_of entries call response) view same turns)

-- How many entries a call on lanes or feeds adds, and that all of them are of lanes and feeds.
use Rattle.std.proofs.Common.{◌≡◌, ℕ, ◌+◌, ◌≤◌, List, length, ap, ◌∙◌, arith, refl}
use Rattle.cml_board.specs.{Entry, entries_in, ring_by, rings_in}
use Rattle.cml_board.specs.Shown.{Shown}
use Rattle.cml_lanes.specs.{lane_entry, feed_entry, with_entries, FloorShown, Deed, as_it_was, lane_drained, lane_gone, lane_opened}
use Rattle.cml_lanes.specs.{feed_pumped, feed_gone, feed_opened}
use Rattle.cml_lanes.proofs.EnteredLemmas.{counted}
use Rattle.cml_lanes.proofs.ReservedLemmas.{entries_more}
use Rattle.cml_room.specs.{State, RoomShown, floor_of}
use Rattle.cml_threads.specs.{IsCounted, WasCounted}

-- some entries were added, each of a lane or a feed
record AddsRings {M : Type 0} (old new : Shown M) : Type 0 where
  pub grown : entries_in old.history ≤ entries_in new.history
  pub rings : rings_in new.history + entries_in old.history ≡ rings_in old.history + entries_in new.history

module _ {M : Type 0} where
  -- each entry of a lane or a feed is counted as one of them
  rings_more : (entry : M → Entry M) → ((message : M) → ring_by (entry message).who ≡ 1) → (messages : List M) (history : List (Entry M))
      → rings_in (with_entries entry messages history) ≡ rings_in history + length messages
  rings_more entry is = counted entry rings_in (λ message h. ap (λ n. rings_in h + n) (is message))

  same_adds : (old new : Shown M) → new.history ≡ old.history → AddsRings old new
  same_adds old new history = record {
    grown = omega (arith, ap entries_in history);
    rings = omega (arith, ap entries_in history, ap rings_in history);
  }

  -- whatever was done
  adds : (old new : FloorShown M) → Deed old new → AddsRings old.board new.board
  adds old new (as_it_was after lanes feeds) = same_adds old.board new.board after.history
  adds old new (lane_drained left number count on) =
      let m = on.place.does.moves in
      let side = on.place.does.looked in
      let entries : entries_in new.board.history ≡ entries_in old.board.history + length m.moved =
      ap entries_in m.history ∙ entries_more (lane_entry number side.way side.target) m.moved old.board.history in
      let rings : rings_in new.board.history ≡ rings_in old.board.history + length m.moved =
      ap rings_in m.history ∙ rings_more (lane_entry number side.way side.target) (λ message. refl) m.moved old.board.history in
      record { grown = omega (arith, entries); rings = omega (arith, entries, rings) }
  adds old new (lane_gone number same) =
      same_adds old.board new.board (ap (λ (f : FloorShown M). f.board.history) same)
  adds old new (lane_opened side board lanes feeds) = same_adds old.board new.board (ap (λ (b : Shown M). b.history) board)
  adds old new (feed_pumped number count on) =
      let p = on.place.does.pumps in
      let port = on.place.does.looked.port in
      let entries : entries_in new.board.history ≡ entries_in old.board.history + length p.pumped =
      ap entries_in p.history ∙ entries_more (feed_entry number port) p.pumped old.board.history in
      let rings : rings_in new.board.history ≡ rings_in old.board.history + length p.pumped =
      ap rings_in p.history ∙ rings_more (feed_entry number port) (λ message. refl) p.pumped old.board.history in
      record { grown = omega (arith, entries); rings = omega (arith, entries, rings) }
  adds old new (feed_gone number same) =
      same_adds old.board new.board (ap (λ (f : FloorShown M). f.board.history) same)
  adds old new (feed_opened number channel port side makes lanes feeds) = record {
    grown = omega (arith, ap entries_in makes.entry.history);
    rings = omega (arith, ap entries_in makes.entry.history, ap rings_in makes.entry.history);
  }

  -- there are as many entries as were counted, or more
  pub grown_since : (entries : ℕ) (new : RoomShown M) (book own parts whole : ℕ) → WasCounted entries new book own parts whole
      → entries ≤ entries_in new.board.history
  grown_since entries new book own parts whole was = omega (arith, was.had, (adds (floor_of was.before) (floor_of new) was.deed).grown)

  -- those beyond them are counted too
  pub counted_since : (entries : ℕ) (new : RoomShown M) (book own parts whole book' own' parts' : ℕ)
      → WasCounted entries new book own parts whole
      → book' + entries ≡ book + entries_in new.board.history → own' + entries ≡ own + entries_in new.board.history → parts' ≡ parts
      → IsCounted new.board (length new.seats) book' own' parts' whole
  counted_since entries new book own parts whole book' own' parts' was total amount same =
      let counted = was.counted in
      let added = adds (floor_of was.before) (floor_of new) was.deed in
      record {
        entries = omega (arith, was.had, total, counted.entries, added.grown);
        rings = omega (arith, was.had, amount, counted.rings, added.rings, added.grown);
        shared = omega (arith, same, counted.shared, ap (length {A = State}) was.seats);
        enough = counted.enough;
        own_parts = omega (arith, same, counted.own_parts);
      }

  -- what a call on a lane or a feed leaves to be counted
  pub was_counted : {entries book own parts whole : ℕ} {new : RoomShown M} (before : RoomShown M)
      → entries ≡ entries_in before.board.history
      → IsCounted before.board (length before.seats) book own parts whole → new.seats ≡ before.seats → Deed (floor_of before) (floor_of new)
      → WasCounted entries new book own parts whole
  was_counted before had counted seats deed = record { before = before; had = had; counted = counted; seats = seats; deed = deed }

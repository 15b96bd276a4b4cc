-- What lanes and feeds move, no seat asks for.
use Rattle.std.proofs.Common.{◌≡◌, ℕ, List, [], ◌∷◌, length, Some, refl, ap, ◌∙◌, arith}
use Rattle.std.proofs.lemmas.List.{length_push}
use Rattle.cml_board.specs.{Name}
use Rattle.cml_board.specs.Shown.{Shown}
use Rattle.cml_lanes.specs.{Way, with_lane, lane_entry, with_feed, feed_entry, FloorShown, Deed, as_it_was, lane_drained, lane_gone}
use Rattle.cml_lanes.specs.{lane_opened, feed_pumped, feed_gone, feed_opened}
use Rattle.cml_script.specs.{History}
use Rattle.cml_tests.specs.{asked, IsUnasked}

lane_moves : (number : ℕ) (way : Way) (target : Name) (moved : List (List ℕ)) (history : History)
    → asked (with_lane number way target moved history) ≡ asked history
lane_moves number way target [] history = refl
lane_moves number way target (message ∷ moved) history = lane_moves number way target moved (lane_entry number way target message ∷ history)

feed_moves : (number : ℕ) (port : Name) (pumped : List (List ℕ)) (history : History)
    → asked (with_feed number port pumped history) ≡ asked history
feed_moves number port [] history = refl
feed_moves number port (message ∷ pumped) history = feed_moves number port pumped (feed_entry number port message ∷ history)

-- where no feed was opened nothing was asked
same_asked : (old new : FloorShown (List ℕ)) → length new.feeds ≡ length old.feeds → Deed old new
    → asked new.board.history ≡ asked old.board.history
same_asked old new many (as_it_was after lanes feeds) = ap asked after.history
same_asked old new many (lane_drained left number count on) =
    ap asked on.place.does.moves.history
    ∙ lane_moves number on.place.does.looked.way on.place.does.looked.target on.place.does.moves.moved old.board.history
same_asked old new many (lane_gone number same) = ap (λ (f : FloorShown (List ℕ)). asked f.board.history) same
same_asked old new many (lane_opened side board lanes feeds) = ap (λ (b : Shown (List ℕ)). asked b.history) board
same_asked old new many (feed_pumped number count on) =
    ap asked on.place.does.pumps.history ∙ feed_moves number on.place.does.looked.port on.place.does.pumps.pumped old.board.history
same_asked old new many (feed_gone number same) = ap (λ (f : FloorShown (List ℕ)). asked f.board.history) same
same_asked old new many (feed_opened number channel port side makes lanes feeds) =
    absurd (omega (arith, many, ap length feeds, length_push old.feeds (Some side)))

pub unasked : (old new : FloorShown (List ℕ)) → length new.feeds ≡ length old.feeds → Deed old new → IsUnasked old new
unasked old new many deed = record { asked = same_asked old new many deed; feeds = many }

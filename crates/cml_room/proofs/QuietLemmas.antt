-- What feeds add brings no news.
use Rattle.std.proofs.Common.{ℕ, inl, inr, Bool, ◌∷◌, None, Result, Ok, Err, ap, ◌∙◌}
use Rattle.cml_board.specs.{Name, Entry, Refusal}
use Rattle.cml_board.specs.declared.call.Call.TheVariants.{NewPort}
use Rattle.cml_board.specs.declared.entry.Who.TheVariants.{Feed}
use Rattle.cml_board.specs.declared.entry.Reply.TheVariants.{Made}
use Rattle.cml_lanes.specs.{FeedShown, with_feed, FloorShown, FindsNoFeed, OpensAFeed, FillsFeed, Starves, Pumps}
use Rattle.cml_room.specs.{Follows}
use Rattle.cml_room.proofs.RingNewsLemmas.{one_leads, feeds_lead, follows, same_follows}
use Rattle.cml_room.proofs.UnmovedLemmas.{by_reason}

module _ {M : Type 0} where
  pub opened_follows : (chunk : ℕ) (sure : Bool) (old new : FloorShown M) (channel : Name) (capacity : ℕ)
      (result : Result (FeedShown M × ℕ) Refusal)
      → OpensAFeed chunk sure old new channel capacity result → Follows None old.board new.board
  opened_follows chunk sure old new channel capacity (Ok feed) opens =
      let entry : Entry M = record { who = Feed feed.1; call = NewPort channel; reply = Made feed.0.port } in
      follows None old.board new.board (entry ∷ old.board.history) opens.port.entry.history
      (one_leads entry old.board.history opens.port.made)
  opened_follows chunk sure old new channel capacity (Err refusal) not = same_follows None old.board new.board not.board.history

  filled_follows : (number count : ℕ) (old new : FloorShown M) → FillsFeed number count old new → Follows None old.board new.board
  filled_follows number count old new on =
      let fills = on.place.does in
      follows None old.board new.board (with_feed number fills.looked.port fills.pumps.pumped old.board.history) fills.pumps.history
      (feeds_lead number fills.looked.port fills.pumps.pumped old.board.history)

  starved_follows : (chunk : ℕ) (sure : Bool) (number count : ℕ) (old new : FloorShown M) (refusal : Refusal)
      → Starves chunk sure number count old new refusal
      → Follows None old.board new.board
  starved_follows chunk sure number count old new refusal on =
      let starved = on.place.does in
      follows None old.board new.board (with_feed number starved.looked.port starved.balks.pumps.pumped old.board.history)
      (starved.balks.after.history ∙ starved.balks.pumps.history)
      (feeds_lead number starved.looked.port starved.balks.pumps.pumped old.board.history)

  pub pumped_follows : (chunk : ℕ) (sure : Bool) (number : ℕ) (old new : FloorShown M) (result : Result ℕ Refusal)
      → Pumps chunk sure number old new result
      → Follows None old.board new.board
  pumped_follows chunk sure number old new (Ok count) (inl fills) = filled_follows number count old new fills
  pumped_follows chunk sure number old new (Ok count) (inr late) = starved_follows chunk sure number count old new late.1 late.2
  pumped_follows chunk sure number old new (Err refusal) why =
      by_reason (FindsNoFeed number old new) (Starves chunk sure number 0 old new) refusal
      (λ none. same_follows None old.board new.board (ap (λ (f : FloorShown M). f.board.history) none.1))
      (starved_follows chunk sure number 0 old new refusal) why

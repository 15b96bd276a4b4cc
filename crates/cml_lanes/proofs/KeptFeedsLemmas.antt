-- What a floor keeps of its feeds, while something is done to the board, to a lane or to one of them.
use Rattle.std.proofs.Common.{◌≡◌, ◌≢◌, ℕ, zero, suc, ◌≤◌, inl, inr, Bool, true, false, cond, ◌||◌, eqb, List, [], ◌∷◌, length}
use Rattle.std.proofs.Common.{slice_get, slice_set, Option, Some, None, subst, refl, sym, ap, ◌∙◌, arith}
use Rattle.std.proofs.lemmas.Option.{same_Some, none-some}
use Rattle.std.proofs.lemmas.Bool.{eq-eqb, ne_eqb, false≢true}
use Rattle.cml_board.specs.{Name, Call, Reply, Entry, message_in, got_by, is_done, closes, kind_of, is_open, got, Applies}
use Rattle.cml_board.specs.declared.outcome.Outcome.{Outcome}
use Rattle.cml_board.specs.Shown.{Shown}
use Rattle.cml_calls.specs.declared.kind.Kind.TheVariants.{Port}
use Rattle.cml_board.specs.declared.call.Call.TheVariants.{ClosePort, Recv, Poll}
use Rattle.cml_board.specs.declared.entry.Who.TheVariants.{Seat}
use Rattle.cml_board.specs.declared.outcome.Outcome.TheVariants.{Answered, WouldWait, Refused}
use Rattle.cml_board.proofs.ClosingLemmas.{kind_kept}
use Rattle.cml_board.proofs.TellingLemmas.{stays_open, none_got}
use Rattle.cml_board.proofs.ListLemmas.{slice_get-set_same, slice_get-set_other}
use Rattle.cml_lanes.specs.{Way, LaneSide, FeedSide, with_lane, fed, DrainsRing, KeepsFeed, LearnsFree, PumpsIn, is_taken, KeepsLanes}
use Rattle.cml_lanes.specs.{KeepsFeeds, has_port, is_feeds_port, is_barred}
use Rattle.cml_lanes.proofs.FeedEntriesLemmas.{fed_other, fed_laned, fed_apart, keeps_laned, keeps_fed}
use Rattle.cml_lanes.proofs.PumpsLemmas.{keeps_pumped}
use Rattle.cml_lanes.proofs.SlotsLemmas.{this_or_other, taken_within, same_length, emptied, set_places}

or_true : (b c : Bool) → c ≡ true → (b || c) ≡ true
or_true true c is = refl
or_true false c is = is

module _ {M : Type 0} where
  -- an open feed's port is found
  pub found_port : (feeds : List (Option (FeedSide M))) (number : ℕ) (side : FeedSide M) → slice_get feeds number ≡ Some (Some side)
      → is_feeds_port feeds side.port.0 ≡ true
  found_port [] number side found = absurd (none-some (Some side) found)
  found_port (slot ∷ feeds) zero side found =
      ap (λ s. has_port side.port.0 s || is_feeds_port feeds side.port.0) (same_Some _ _ found)
      ∙ ap (λ b. b || is_feeds_port feeds side.port.0) (eq-eqb side.port.0 side.port.0 refl)
  found_port (slot ∷ feeds) (suc number) side found =
      or_true (has_port side.port.0 slot) (is_feeds_port feeds side.port.0) (found_port feeds number side found)

  -- and no port is that none has
  pub no_port : (feeds : List (Option (FeedSide M))) (object : ℕ)
      → ((number : ℕ) (side : FeedSide M) → slice_get feeds number ≡ Some (Some side) → side.port.0 ≢ object)
      → is_feeds_port feeds object ≡ false
  no_port [] object none = refl
  no_port (None ∷ feeds) object none = no_port feeds object (λ number. none (suc number))
  no_port (Some side ∷ feeds) object none =
      ap (λ b. b || is_feeds_port feeds object) (ne_eqb side.port.0 object (none zero side refl))
      ∙ no_port feeds object (λ number. none (suc number))

  -- nothing is kept at the beginning
  pub begins : (history : List (Entry M)) (lanes : List (Option (LaneSide M))) (feeds : List (Option (FeedSide M)))
      → history ≡ [] → lanes ≡ [] → feeds ≡ []
      → KeepsLanes history lanes × KeepsFeeds history feeds
  begins history lanes feeds none no_lanes no_feeds =
      let lanes_begin : KeepsLanes {M = M} [] [] =
      record { lane = λ number side found. absurd (none-some (Some side) found); no_lane = λ number past. refl } in
      let feeds_begin : KeepsFeeds {M = M} [] [] = record {
        feed = λ number side found. absurd (none-some (Some side) found);
        no_feed = λ number past. refl;
        apart = λ one two a b first second ports. absurd (none-some (Some a) first);
      } in (
        subst (λ h. KeepsLanes h lanes) (sym none) (subst (λ ls. KeepsLanes [] ls) (sym no_lanes) lanes_begin),
        subst (λ h. KeepsFeeds h feeds) (sym none) (subst (λ fs. KeepsFeeds [] fs) (sym no_feeds) feeds_begin),
      )

  -- entries of a lane leave all feeds
  laned_keeps_feeds : (number : ℕ) (way : Way) (target : Name) (messages : List M) (history : List (Entry M))
      (feeds : List (Option (FeedSide M)))
      → KeepsFeeds history feeds → KeepsFeeds (with_lane number way target messages history) feeds
  laned_keeps_feeds number way target messages history feeds keeps = record {
    feed = λ k side found. keeps_laned number way target messages history k side (keeps.feed k side found);
    no_feed = λ k past. fed_laned number way target messages history k ∙ keeps.no_feed k past;
    apart = keeps.apart;
  }

  pub drained_keeps_feeds : (number count : ℕ) (old new : Shown M) (feeds : List (Option (FeedSide M))) (from to : LaneSide M)
      → DrainsRing number count old new from to → KeepsFeeds old.history feeds → KeepsFeeds new.history feeds
  drained_keeps_feeds number count old new feeds from to d keeps =
      subst (λ h. KeepsFeeds h feeds) (sym d.moves.history)
      (laned_keeps_feeds number d.looked.way d.looked.target d.moves.moved old.history feeds keeps)

  -- a call that isn't barred leaves the port of an open feed
  other_port : (feeds : List (Option (FeedSide M))) (name object : ℕ) → is_feeds_port feeds object ≡ true
      → is_feeds_port feeds name ≡ false → eqb name object ≡ false
  other_port feeds name object here free = ne_eqb name object (λ same. false≢true (sym free ∙ ap (is_feeds_port feeds) same ∙ here))

  untouched : (feeds : List (Option (FeedSide M))) (call : Call M) (reply : Reply M) (object : ℕ)
      → is_feeds_port feeds object ≡ true → is_barred feeds call ≡ false
      → (got_by call reply object ≡ []) × (closes call reply object ≡ false)
  untouched feeds (Recv name) reply object here free =
      (ap (λ t. cond t (message_in reply) []) (other_port feeds name.0 object here free), refl)
  untouched feeds (Poll name) reply object here free =
      (ap (λ t. cond t (message_in reply) []) (other_port feeds name.0 object here free), refl)
  untouched feeds (ClosePort name) reply object here free =
      (refl, ap (λ t. cond t (is_done reply) false) (other_port feeds name.0 object here free))
  untouched feeds call reply object here free = (refl, refl)

  -- what an entry of a seat leaves
  seat_keeps_feeds : (history : List (Entry M)) (feeds : List (Option (FeedSide M))) (seat : ℕ) (call : Call M) (reply : Reply M)
      → is_barred feeds call ≡ false
      → KeepsFeeds history feeds → KeepsFeeds (record { who = Seat seat; call = call; reply = reply } ∷ history) feeds
  seat_keeps_feeds history feeds seat call reply free keeps = record { feed = each; no_feed = none; apart = keeps.apart }
    where
      each : (k : ℕ) (side : FeedSide M) → slice_get feeds k ≡ Some (Some side)
          → KeepsFeed (record { who = Seat seat; call = call; reply = reply } ∷ history) k side
      each k side found =
          let kept = keeps.feed k side found in
          let apart = untouched feeds call reply side.port.0 (found_port feeds k side found) free in
          let now : Entry M = record { who = Seat seat; call = call; reply = reply } in
          record {
            fed = fed_other now history k refl ∙ kept.fed;
            got = none_got history now side.port.0 apart.0 ∙ kept.got;
            kind = kind_kept now history side.port.0 Port kept.kind;
            opened = stays_open history now side.port.0 apart.1 ∙ kept.opened;
          }

      none : (k : ℕ) → length feeds ≤ k → fed (record { who = Seat seat; call = call; reply = reply } ∷ history) k ≡ []
      none k past = fed_other (record { who = Seat seat; call = call; reply = reply }) history k refl ∙ keeps.no_feed k past

  -- what a seat's call leaves
  pub applied_keeps_feeds : (chunk : ℕ) (sure : Bool) (old new : Shown M) (feeds : List (Option (FeedSide M))) (seat : ℕ)
      (call : Call M) (outcome : Outcome M)
      → is_barred feeds call ≡ false → Applies chunk sure old new (Seat seat) call outcome
      → KeepsFeeds old.history feeds → KeepsFeeds new.history feeds
  applied_keeps_feeds chunk sure old new feeds seat call (Refused refusal back) free applies keeps =
      subst (λ h. KeepsFeeds h feeds) (sym applies.2.history) keeps
  applied_keeps_feeds chunk sure old new feeds seat call (WouldWait back) free applies keeps =
      subst (λ h. KeepsFeeds h feeds) (sym applies.4.history) keeps
  applied_keeps_feeds chunk sure old new feeds seat call (Answered answer) free applies keeps =
      subst (λ h. KeepsFeeds h feeds) (sym applies.5.history) (seat_keeps_feeds old.history feeds seat call answer.reply free keeps)

  -- no two feeds have one port, whatever is in the slot of one, if its port is the same
  still_apart : (number : ℕ) (history : List (Entry M)) (feeds : List (Option (FeedSide M))) (from : FeedSide M) (to : Option (FeedSide M))
      → slice_get feeds number ≡ Some (Some from) → ((side : FeedSide M) → to ≡ Some side → side.port ≡ from.port)
      → KeepsFeeds history feeds
      → (one two : ℕ) (a b : FeedSide M) → slice_get (slice_set feeds number to) one ≡ Some (Some a)
      → slice_get (slice_set feeds number to) two ≡ Some (Some b)
      → a.port ≡ b.port → one ≡ two
  still_apart number history feeds from to opened same keeps = λ one two a b first second ports.
      let was : (s : FeedSide M) × (slice_get feeds one ≡ Some (Some s)) × (a.port ≡ s.port) =
      set_places (λ (s : FeedSide M). s.port) number feeds (slice_set feeds number to) from to opened refl same one a first in
      let other : (s : FeedSide M) × (slice_get feeds two ≡ Some (Some s)) × (b.port ≡ s.port) =
      set_places (λ (s : FeedSide M). s.port) number feeds (slice_set feeds number to) from to opened refl same two b second in
      keeps.apart one two was.0 other.0 was.1 other.1 (sym was.2 ∙ ports ∙ other.2)

  -- a feed is ended
  pub ended_keeps_feeds : (number : ℕ) (history : List (Entry M)) (feeds : List (Option (FeedSide M))) (from : FeedSide M)
      → slice_get feeds number ≡ Some (Some from)
      → KeepsFeeds history feeds → KeepsFeeds history (slice_set feeds number None)
  ended_keeps_feeds number history feeds from opened keeps = record {
    feed = each;
    no_feed = λ k past. keeps.no_feed k (omega (arith, past, same_length feeds number None));
    apart = still_apart number history feeds from None opened (λ side is. absurd (none-some side is)) keeps;
  }
    where
      each : (k : ℕ) (side : FeedSide M) → slice_get (slice_set feeds number None) k ≡ Some (Some side) → KeepsFeed history k side
      each k side found = elim (this_or_other k number) [
        | inl same ↦ absurd (emptied feeds number side (ap (slice_get (slice_set feeds number None)) (sym same) ∙ found))
        | inr apart ↦ keeps.feed k side (sym (slice_get-set_other feeds number k None apart) ∙ found)
      ]

  -- its port is then no feed's
  pub own_port : (number : ℕ) (history : List (Entry M)) (feeds : List (Option (FeedSide M))) (from : FeedSide M)
      → slice_get feeds number ≡ Some (Some from)
      → KeepsFeeds history feeds → is_feeds_port (slice_set feeds number None) from.port.0 ≡ false
  own_port number history feeds from opened keeps = no_port (slice_set feeds number None) from.port.0 others
    where
      others : (k : ℕ) (side : FeedSide M) → slice_get (slice_set feeds number None) k ≡ Some (Some side) → side.port.0 ≢ from.port.0
      others k side found = λ same. elim (this_or_other k number) [
        | inl here ↦ absurd (emptied feeds number side (ap (slice_get (slice_set feeds number None)) (sym here) ∙ found))
        | inr apart ↦
            let was : slice_get feeds k ≡ Some (Some side) = sym (slice_get-set_other feeds number k None apart) ∙ found in
            let port : side.port ≡ from.port = ap (λ (n : ℕ). record { 0 = n }) same in
            absurd (apart (keeps.apart k number side from was opened port))
      ]

  -- a feed is pumped
  looked_keeps : (history : List (Entry M)) (number : ℕ) (from looked : FeedSide M) → LearnsFree from looked
      → KeepsFeed history number from → KeepsFeed history number looked
  looked_keeps history number from looked looks keeps = record {
    fed = keeps.fed ∙ sym (ap (λ (s : FeedSide M). s.pushed) looks.side);
    got = ap (λ (s : FeedSide M). got history s.port.0) looks.side ∙ keeps.got ∙ sym (ap (λ (s : FeedSide M). s.pushed) looks.side);
    kind = ap (λ (s : FeedSide M). kind_of history s.port.0) looks.side ∙ keeps.kind;
    opened = ap (λ (s : FeedSide M). is_open history s.port.0) looks.side ∙ keeps.opened;
  }

  pub pumped_keeps_feeds : (number count : ℕ) (old new : Shown M) (feeds : List (Option (FeedSide M))) (from looked to : FeedSide M)
      → slice_get feeds number ≡ Some (Some from)
      → LearnsFree from looked → PumpsIn number count old new looked to → KeepsFeeds old.history feeds
      → KeepsFeeds new.history (slice_set feeds number (Some to))
  pumped_keeps_feeds number count old new feeds from looked to opened looks p keeps = record {
    feed = each;
    no_feed = none;
    apart = still_apart number old.history feeds from (Some to) opened
        (λ side is. sym (ap (λ (s : FeedSide M). s.port) (same_Some _ _ is)) ∙ port ∙ before) keeps;
  }
    where
      port : to.port ≡ looked.port
      port = ap (λ (s : FeedSide M). s.port) p.side

      before : looked.port ≡ from.port
      before = ap (λ (s : FeedSide M). s.port) looks.side

      each : (k : ℕ) (side : FeedSide M) → slice_get (slice_set feeds number (Some to)) k ≡ Some (Some side) → KeepsFeed new.history k side
      each k side found = elim (this_or_other k number) [
        | inl same ↦
            let is : to ≡ side = same_Some _ _ (same_Some _ _ (sym (ap (slice_get (slice_set feeds number (Some to))) same
            ∙ slice_get-set_same feeds number (Some from) (Some to) opened) ∙ found)) in
            subst (λ (s : FeedSide M). KeepsFeed new.history k s) is
            (subst (λ n. KeepsFeed new.history n to) (sym same)
            (keeps_pumped number count old new looked to
            (looked_keeps old.history number from looked looks (keeps.feed number from opened)) p))
        | inr apart ↦
            let was : slice_get feeds k ≡ Some (Some side) = sym (slice_get-set_other feeds number k (Some to) apart) ∙ found in
            let away : side.port.0 ≢ looked.port.0 = λ same.
            let one_port : side.port ≡ from.port = ap (λ (n : ℕ). record { 0 = n }) same ∙ before in
            apart (keeps.apart k number side from was opened one_port) in
            subst (λ h. KeepsFeed h k side) (sym p.history)
            (keeps_fed number looked.port p.pumped old.history k side apart away (keeps.feed k side was))
      ]

      none : (k : ℕ) → length (slice_set feeds number (Some to)) ≤ k → fed new.history k ≡ []
      none k past =
          let within = taken_within feeds number (ap is_taken opened) in
          let past_old : length feeds ≤ k = omega (arith, past, same_length feeds number (Some to)) in
          ap (λ h. fed h k) p.history
          ∙ fed_apart number looked.port p.pumped old.history k (λ same. absurd (omega (arith, same, within, past_old)))
          ∙ keeps.no_feed k past_old

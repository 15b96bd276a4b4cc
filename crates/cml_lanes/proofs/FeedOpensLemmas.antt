-- What a floor keeps of its lanes and its feeds when a feed is opened.
use Rattle.std.proofs.Common.{◌≡◌, ◌≢◌, ℕ, ◌<◌, ◌≤◌, inl, inr, Bool, true, false, cond, List, [], ◌∷◌, ◌++◌, length, slice_get}
use Rattle.std.proofs.Common.{Option, Some, None, subst, refl, sym, ap, ◌∙◌, arith}
use Rattle.std.specs.Option.{option_map}
use Rattle.std.proofs.lemmas.Option.{same_Some, none-some, slice_get_past}
use Rattle.std.proofs.lemmas.List.{append-nil, length_push}
use Rattle.cml_board.specs.{Name, Entry, port, kind_by, Lawful, made, new_name, sent, kind_of, got, is_open}
use Rattle.cml_board.specs.Shown.{Shown}
use Rattle.cml_calls.specs.declared.kind.Kind.TheVariants.{Port}
use Rattle.cml_board.specs.declared.call.Call.TheVariants.{NewPort}
use Rattle.cml_board.specs.declared.entry.Who.TheVariants.{Feed}
use Rattle.cml_board.specs.declared.entry.Reply.TheVariants.{Made}
use Rattle.cml_board.proofs.ListLemmas.{pushed_cases}
use Rattle.cml_board.proofs.ClosingLemmas.{kind_kept}
use Rattle.cml_board.proofs.TellingLemmas.{stays_open, none_got, makes_here}
use Rattle.cml_board.proofs.BeginningLemmas.{port_makes}
use Rattle.cml_lanes.specs.{LaneSide, FeedSide, way_kind, is_feed, fed, KeepsFeed, FloorShown, KeepsLanes, KeepsFeeds, SameFeedRing}
use Rattle.cml_lanes.specs.{is_feeds_port, MakesPort}
use Rattle.cml_lanes.proofs.LaningLemmas.{laned_other}
use Rattle.cml_lanes.proofs.KeptFeedsLemmas.{no_port}

nothing_more : {X : Type 0} (xs : List X) (b : Bool) → xs ++ cond b [] [] ≡ xs
nothing_more xs true = append-nil xs
nothing_more xs false = append-nil xs

module _ {M : Type 0} where
  -- the port's name is the next
  next_port : (number : ℕ) (old new : Shown M) (channel name : Name) → MakesPort number old new channel name
      → name.0 ≡ length (made old.history)
  next_port number old new channel name makes =
      let told : new_name old.history ≡ Made name = same_Some _ _ makes.made in
      let next : Name = record { 0 = length (made old.history) } in
      let same : next ≡ name = cc in
      ap (λ (n : Name). n.0) (sym same)

  -- so no open feed has it
  feeds_no_next : (history : List (Entry M)) (feeds : List (Option (FeedSide M))) → KeepsFeeds history feeds
      → (number : ℕ) (side : FeedSide M) → slice_get feeds number ≡ Some (Some side) → side.port.0 ≢ length (made history)
  feeds_no_next history feeds keeps number side found = λ same.
      let none : kind_of history side.port.0 ≡ None =
      ap (kind_of history) same ∙ ap (option_map kind_by) (slice_get_past (made history) (length (made history)) (omega arith)) in
      none-some Port (sym none ∙ (keeps.feed number side found).kind)

  pub own_new_port : (number : ℕ) (old new : Shown M) (channel name : Name) (feeds news : List (Option (FeedSide M)))
      → MakesPort number old new channel name
      → KeepsFeeds old.history feeds → news ≡ feeds → is_feeds_port news name.0 ≡ false
  own_new_port number old new channel name feeds news makes keeps same =
      let next = next_port number old new channel name makes in
      ap (λ fs. is_feeds_port fs name.0) same
      ∙ no_port feeds name.0 (λ k side found here. feeds_no_next old.history feeds keeps k side found (here ∙ next))

  -- what the entry that makes the port leaves, and what it begins
  abbrev made_entry : ℕ → Name → Name → Entry M
  made_entry number channel name = record { who = Feed number; call = NewPort channel; reply = Made name }

  pub none_fed : (number : ℕ) (channel name : Name) (history : List (Entry M)) (k : ℕ)
      → fed (made_entry number channel name ∷ history) k ≡ fed history k
  none_fed number channel name history k = nothing_more (fed history k) (is_feed (Feed number) k)

  still_keeps : (number : ℕ) (channel name : Name) (history : List (Entry M)) (k : ℕ) (side : FeedSide M) → KeepsFeed history k side
      → KeepsFeed (made_entry number channel name ∷ history) k side
  still_keeps number channel name history k side keeps = record {
    fed = none_fed number channel name history k ∙ keeps.fed;
    got = none_got history (made_entry number channel name) side.port.0 refl ∙ keeps.got;
    kind = kind_kept (made_entry number channel name) history side.port.0 Port keeps.kind;
    opened = stays_open history (made_entry number channel name) side.port.0 refl ∙ keeps.opened;
  }

  begins_feed : (number : ℕ) (channel name : Name) (history : List (Entry M)) (side : FeedSide M)
      → Lawful history → name.0 ≡ length (made history)
      → side.port ≡ name → side.pushed ≡ [] → fed history number ≡ [] → KeepsFeed (made_entry number channel name ∷ history) number side
  begins_feed number channel name history side lawful next same none never =
      let begun = makes_here history (Feed number) (NewPort channel) name (port channel.0 (length (sent history channel.0))) None lawful
      (port_makes history channel name) in
      let at : side.port.0 ≡ length (made history) = ap (λ (n : Name). n.0) same ∙ next in
      let all : List (Entry M) = made_entry number channel name ∷ history in
      record {
        fed = none_fed number channel name history number ∙ never ∙ sym none;
        got = ap (got all) at ∙ ap (λ f. f.got) begun ∙ sym none;
        kind = ap (kind_of all) at ∙ ap (λ f. option_map kind_by f.origin) begun;
        opened = ap (is_open all) at ∙ ap (λ f. f.opened) begun;
      }

  -- the feeds, one more
  keeps_one_more : (number : ℕ) (channel name : Name) (history : List (Entry M)) (feeds : List (Option (FeedSide M)))
      (side : FeedSide M) → Lawful history
      → name.0 ≡ length (made history) → number ≡ length feeds → side.port ≡ name → side.pushed ≡ [] → KeepsFeeds history feeds
      → KeepsFeeds (made_entry number channel name ∷ history) (feeds ++ Some side ∷ [])
  keeps_one_more number channel name history feeds side lawful next last same none keeps =
      record { feed = each; no_feed = past_all; apart = still_apart }
    where
      at : side.port.0 ≡ length (made history)
      at = ap (λ (n : Name). n.0) same ∙ next

      each : (k : ℕ) (s : FeedSide M) → slice_get (feeds ++ Some side ∷ []) k ≡ Some (Some s)
          → KeepsFeed (made_entry number channel name ∷ history) k s
      each k s found = elim (pushed_cases feeds (Some side) (Some s) k found) [
        | inl was ↦ still_keeps number channel name history k s (keeps.feed k s was)
        | inr new ↦
            let begun = begins_feed number channel name history side lawful next same none (keeps.no_feed number (omega (arith, last))) in
            let here : number ≡ k = last ∙ sym new.0 in
            subst (λ (x : FeedSide M). KeepsFeed (made_entry number channel name ∷ history) k x) (same_Some _ _ new.1)
            (subst (λ n. KeepsFeed (made_entry number channel name ∷ history) n side) here begun)
      ]

      past_all : (k : ℕ) → length (feeds ++ Some side ∷ []) ≤ k → fed (made_entry number channel name ∷ history) k ≡ []
      past_all k past = none_fed number channel name history k ∙ keeps.no_feed k (omega (arith, past, length_push feeds (Some side)))

      still_apart : (one two : ℕ) (a b : FeedSide M) → slice_get (feeds ++ Some side ∷ []) one ≡ Some (Some a)
          → slice_get (feeds ++ Some side ∷ []) two ≡ Some (Some b)
          → a.port ≡ b.port → one ≡ two
      still_apart one two a b first second ports = elim (pushed_cases feeds (Some side) (Some a) one first) [
        | inl was ↦ elim (pushed_cases feeds (Some side) (Some b) two second) [
          | inl is ↦ keeps.apart one two a b was is ports
          | inr new ↦
              let new_side : side ≡ b = same_Some _ _ new.1 in
              absurd (feeds_no_next history feeds keeps one a was
              (ap (λ (n : Name). n.0) ports ∙ sym (ap (λ (s : FeedSide M). s.port.0) new_side) ∙ at))
        ]
        | inr new ↦ elim (pushed_cases feeds (Some side) (Some b) two second) [
          | inl is ↦
              let new_side : side ≡ a = same_Some _ _ new.1 in
              absurd (feeds_no_next history feeds keeps two b is
              (sym (ap (λ (n : Name). n.0) ports) ∙ sym (ap (λ (s : FeedSide M). s.port.0) new_side) ∙ at))
          | inr other ↦ new.0 ∙ sym other.0
        ]
      ]

  -- the lanes
  lanes_still : (number : ℕ) (channel name : Name) (history : List (Entry M)) (lanes : List (Option (LaneSide M)))
      → KeepsLanes history lanes
      → KeepsLanes (made_entry number channel name ∷ history) lanes
  lanes_still number channel name history lanes keeps = record {
    lane = λ k side found. record {
      laned = laned_other (made_entry number channel name) history k refl ∙ (keeps.lane k side found).laned;
      kind = kind_kept (made_entry number channel name) history side.target.0 (way_kind side.way) (keeps.lane k side found).kind;
    };
    no_lane = λ k past. laned_other (made_entry number channel name) history k refl ∙ keeps.no_lane k past;
  }

  -- what the floor keeps of both
  pub feed_opened_keeps : (number : ℕ) (old new : Shown M) (channel name : Name) (lanes : List (Option (LaneSide M)))
      (feeds via news : List (Option (FeedSide M)))
      (side : FeedSide M) → MakesPort number old new channel name → Lawful old.history → number ≡ length via
      → via ≡ feeds → news ≡ via ++ Some side ∷ []
      → side.port ≡ name → side.pushed ≡ []
      → KeepsLanes old.history lanes × KeepsFeeds old.history feeds → KeepsLanes new.history lanes × KeepsFeeds new.history news
  feed_opened_keeps number old new channel name lanes feeds via news side makes lawful last same pushed own none keeps =
      let next = next_port number old new channel name makes in
      let more = keeps_one_more number channel name old.history feeds side lawful next (last ∙ ap length same) own none keeps.1 in (
        subst (λ h. KeepsLanes h lanes) (sym makes.entry.history) (lanes_still number channel name old.history lanes keeps.0),
        subst (λ fs. KeepsFeeds new.history fs) (sym (pushed ∙ ap (λ fs. fs ++ Some side ∷ []) same))
            (subst (λ h. KeepsFeeds h (feeds ++ Some side ∷ [])) (sym makes.entry.history) more),
      )

  pub feed_opened_rings : {lanes : List (Option (LaneSide M))} (board after : Shown M) (feeds via news : List (Option (FeedSide M)))
      (side : FeedSide M) (old : FloorShown M)
      → record { board = board; lanes = lanes; feeds = feeds } ≡ old → via ≡ feeds → news ≡ via ++ Some side ∷ []
      → (number : ℕ) → number < length old.feeds → SameFeedRing number old (record { board = after; lanes = lanes; feeds = news })
  feed_opened_rings board after feeds via news side old view same pushed number within s found =
      elim (pushed_cases feeds (Some side) (Some s) number
      (sym (ap (λ fs. slice_get fs number) (pushed ∙ ap (λ fs. fs ++ Some side ∷ []) same)) ∙ found)) [
        | inl was ↦ (s, ap (λ (f : FloorShown M). slice_get f.feeds number) (sym view) ∙ was, refl)
        | inr next ↦ absurd (omega (arith, next.0, within, ap (λ (f : FloorShown M). length f.feeds) view))
      ]
